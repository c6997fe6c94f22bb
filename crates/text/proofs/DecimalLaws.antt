-- Reading and writing decimal fields undo each other. A field's digits are taken from the front with the number so far;
-- the last digit of that number is the one just taken.
use mathlib.Core.Path.{◌≡◌, refl, sym, ap, ◌∙◌}
use mathlib.Core.Bool.{Bool, true, false, not, cond, ◌&&◌, false≢true}
use mathlib.Core.List.{List, [], ◌∷◌, ◌++◌, append_assoc, append-nil}
use Rattle.std.proofs.Common.{Option, Some, None}
use Rattle.std.specs.Option.{option_and_then}
use Rattle.std.proofs.lemmas.Option.{none-some}
use Prim.Native.Nat.{ℕ, zero, suc, ◌+◌, ◌-◌, ◌*◌, ◌/◌, ◌%◌, ◌^◌, ◌≤◌, ◌<◌}
use native.Mathlib.Nat.{not-suc-le-zero, pow-suc}
use native.Mathlib.Numerals.{add-one}
use native.Mathlib.Omega.{arith}
use borrow.Author.Tests.{lt-ltb, le-ltb, ltb-true, ltb-false, le-leb, lt-leb, leb-true, leb-false, eq-eqb, ne_eqb, eqb-false}
use lib.Dec.{eqb, leb, ltb}
use lib.ListN.{length, get_or, drop, length-append, get_or-append, drop_of_length-le}
use lib.Seq.{drop-cons}
use Rattle.tree.specs.Tree.{is_in}
use Rattle.text.specs.Decimal.{nought, spell, digits, is_digit, all_digits, value, leading_zero, decimal}
use Rattle.text.specs.Inner.{most_number, capped, digit_after}

-- ---- one digit less
spell_enough : (j k n : ℕ) → n < j → n < k → spell j n ≡ spell k n
unfolding spell
spell_enough zero k n p q = absurd (not-suc-le-zero p)
spell_enough (suc j) zero n p q = absurd (not-suc-le-zero q)
spell_enough (suc j) (suc k) n p q = go (ltb n 10) refl (spell_enough j k (n / 10))
  where
    go : (b : Bool) → ltb n 10 ≡ b → (n / 10 < j → n / 10 < k → spell j (n / 10) ≡ spell k (n / 10))
        → cond b ((nought + n) ∷ []) (spell j (n / 10) ++ ((nought + n % 10) ∷ [])) ≡ cond b ((nought + n) ∷ []) (spell k (n / 10) ++ ((nought + n % 10) ∷ []))
    go true e ih = refl
    go false e ih = let large = ltb-false n 10 e in rw (ih (omega arith) (omega arith))

pub digits_small : (n : ℕ) → n < 10 → digits n ≡ (nought + n) ∷ []
unfolding digits spell
digits_small n h = rw (lt-ltb n 10 h)

pub digits_large : (n : ℕ) → 10 ≤ n → digits n ≡ digits (n / 10) ++ ((nought + n % 10) ∷ [])
unfolding digits spell
digits_large n h = rw (le-ltb n 10 h, spell_enough n (suc (n / 10)) (n / 10) (omega arith) (omega arith))

pub length_small : (n : ℕ) → n < 10 → length (digits n) ≡ 1
length_small n h = ap length (digits_small n h)

pub length_large : (n : ℕ) → 10 ≤ n → length (digits n) ≡ length (digits (n / 10)) + 1
length_large n h = ap length (digits_large n h) ∙ simp length-append

pub ruleset lengths = (length_small, length_large)

-- a number below ten to the k has at most k digits
pub digits_length : (k n : ℕ) → n < 10 ^ suc k → length (digits n) ≤ suc k
digits_length zero n h = omega (arith, length_small n (omega arith))
digits_length (suc k) n h = go (ltb n 10) refl (digits_length k (n / 10))
  where
    go : (b : Bool) → ltb n 10 ≡ b → (n / 10 < 10 ^ suc k → length (digits (n / 10)) ≤ suc k) → length (digits n) ≤ suc (suc k)
    go true e ih = omega (arith, length_small n (ltb-true n 10 e))
    go false e ih =
        let p : 10 ^ suc (suc k) ≡ 10 ^ suc k * 10 = pow-suc 10 (suc k) in
        omega (arith, length_large n (ltb-false n 10 e), ih (omega (arith, p)))

-- ---- what a digit is
digit_true : (d : ℕ) → d < 10 → is_digit (nought + d) ≡ true
digit_true d h = rw (le-leb nought (nought + d) (omega arith), le-leb (nought + d) (nought + 9) (omega arith))

record Digit (d : ℕ) : Type 0 where
  low : nought ≤ d
  high : d ≤ nought + 9

pub and_both : (a b : Bool) → (a && b) ≡ true → (a ≡ true) × (b ≡ true)
and_both true b e = (refl, e)
and_both false b e = absurd (false≢true e)

digit_of : (d : ℕ) → is_digit d ≡ true → Digit d
digit_of d e = let z = and_both (leb nought d) (leb d (nought + 9)) e in record { low = leb-true nought d z.0; high = leb-true d (nought + 9) z.1 }

and_false : (a : Bool) → (a && false) ≡ false
and_false true = refl
and_false false = refl

value_append : (v : ℕ) (a b : List ℕ) → value v (a ++ b) ≡ value (value v a) b
unfolding value
value_append v [] b = refl
value_append v (d ∷ a) b = value_append (v * 10 + (d - nought)) a b

all_append : (a b : List ℕ) → all_digits a ≡ true → all_digits b ≡ true → all_digits (a ++ b) ≡ true
unfolding all_digits
all_append [] b p q = q
all_append (d ∷ a) b p q = let z = and_both (is_digit d) (all_digits a) p in rw (z.0, all_append a b z.1 q)

-- ---- the digits of a number are read as that number
record Back (n : ℕ) : Type 0 where
  is : value 0 (digits n) ≡ n
  all : all_digits (digits n) ≡ true
  some_digit : 0 < length (digits n)
  lead : 1 ≤ n → get_or (digits n) 0 0 ≡ nought → ⊥

back : (b n : ℕ) → n < b → Back n
unfolding value all_digits
back zero n h = absurd (not-suc-le-zero h)
back (suc b) n h = go (ltb n 10) refl (back b (n / 10))
  where
    go : (t : Bool) → ltb n 10 ≡ t → (n / 10 < b → Back (n / 10)) → Back n
    go true e ih =
        let s = ltb-true n 10 e in
        let q = digits_small n s in
        record { is = rw q (omega arith); all = rw (q, digit_true n s); some_digit = rw q (omega arith); lead = rw q (λ o r. omega arith) }
    go false e ih =
        let s = ltb-false n 10 e in
        let q = digits_large n s in
        let i = ih (omega arith) in
        record {
          is = rw (q, value_append, i.is) (omega arith);
          all = rw q (all_append (digits (n / 10)) ((nought + n % 10) ∷ []) i.all (rw (digit_true (n % 10) (omega arith))));
          some_digit = omega (arith, length_large n s);
          lead = λ o r. i.lead (omega arith) (sym (get_or-append (digits (n / 10)) _ 0 0 i.some_digit) ∙ ap (λ (l : List ℕ). get_or l 0 0) (sym q) ∙ r);
        }

the_back : (n : ℕ) → Back n
the_back n = back (suc n) n (omega arith)

-- a first byte other than `0`, or no second byte
pub lead_other : (f : List ℕ) → (get_or f 0 0 ≡ nought → ⊥) → leading_zero f ≡ false
lead_other f h = rw (ne_eqb (get_or f 0 0) nought h) (and_false (ltb 1 (length f)))

pub lead_short : (f : List ℕ) → length f ≤ 1 → leading_zero f ≡ false
lead_short f h = rw (le-ltb 1 (length f) h)

no_leading : (n : ℕ) → leading_zero (digits n) ≡ false
no_leading n = go (ltb n 10) refl
  where
    go : (t : Bool) → ltb n 10 ≡ t → leading_zero (digits n) ≡ false
    go true e = lead_short (digits n) (omega (arith, length_small n (ltb-true n 10 e)))
    go false e = lead_other (digits n) ((the_back n).lead (omega (arith, ltb-false n 10 e)))

pub decimal_digits : (n : ℕ) → decimal (digits n) ≡ Some n
unfolding decimal
decimal_digits n = let k = the_back n in rw (lt-ltb 0 (length (digits n)) k.some_digit, no_leading n, k.all, k.is)

-- two numbers with the same digits are the same
pub digits_injective : (m n : ℕ) → digits m ≡ digits n → m ≡ n
digits_injective m n e = let z : Some m ≡ Some n = sym (decimal_digits m) ∙ ap decimal e ∙ decimal_digits n in cc

-- a byte that is no digit is not among them
free : (b : ℕ) → is_digit b ≡ false → (ds : List ℕ) → all_digits ds ≡ true → is_in ds b ≡ false
unfolding all_digits is_in
free b h [] e = refl
free b h (d ∷ ds) e =
    let z = and_both (is_digit d) (all_digits ds) e in
    rw (ne_eqb b d (λ q. false≢true (sym h ∙ ap is_digit q ∙ z.0)), free b h ds z.1)

pub digits_free : (n b : ℕ) → is_digit b ≡ false → is_in (digits n) b ≡ false
digits_free n b h = free b h (digits n) (the_back n).all

-- ---- what is read as a number is that number's digits
follow : (ds t : List ℕ) (v : ℕ) → t ≡ digits v → 1 ≤ v → all_digits ds ≡ true → t ++ ds ≡ digits (value v ds)
unfolding value all_digits
follow [] t v e o a = append-nil t ∙ e
follow (d ∷ ds) t v e o a =
    let z = and_both (is_digit d) (all_digits ds) a in
    let k = digit_of d z.0 in
    let low = k.low in
    let high = k.high in
    let w = v * 10 + (d - nought) in
    let x : w / 10 ≡ v = omega arith in
    let y : nought + w % 10 ≡ d = omega arith in
    let p : t ++ (d ∷ []) ≡ digits w = rw (digits_large w (omega arith), x, y, e) in
    sym (append_assoc t (d ∷ []) ds) ∙ follow ds (t ++ (d ∷ [])) w p (omega arith) z.1

one_digit : (d : ℕ) → Digit d → d ∷ [] ≡ digits (0 * 10 + (d - nought))
one_digit d k =
    let low = k.low in
    let high = k.high in
    ap (λ (c : ℕ). c ∷ []) (omega arith) ∙ sym (digits_small (0 * 10 + (d - nought)) (omega arith))

numeral : (f : List ℕ) → (ltb 0 (length f) && not (leading_zero f) && all_digits f) ≡ true → f ≡ digits (value 0 f)
unfolding value all_digits
numeral [] e = absurd (false≢true e)
numeral (d ∷ []) e = let z = and_both (is_digit d) true e in one_digit d (digit_of d z.0)
numeral (d ∷ (c ∷ ds)) e =
    let a = and_both (ltb 0 (length (d ∷ (c ∷ ds))) && not (leading_zero (d ∷ (c ∷ ds)))) (all_digits (d ∷ (c ∷ ds))) e in
    let z = and_both (is_digit d) (all_digits (c ∷ ds)) a.1 in
    let k = digit_of d z.0 in
    let low = k.low in
    let n = not_nought (ltb 0 (length (d ∷ (c ∷ ds)))) (ltb 1 (length (d ∷ (c ∷ ds)))) (eqb d nought) refl (lt-ltb 1 (suc (suc (length ds))) (omega arith)) a.0 in
    follow (c ∷ ds) (d ∷ []) (0 * 10 + (d - nought)) (one_digit d k) (omega arith) z.1
  where
    not_nought : (a b t : Bool) → eqb d nought ≡ t → b ≡ true → (a && not (b && t)) ≡ true → d ≡ nought → ⊥
    not_nought a true true q p e = absurd (false≢true (and_both a false e).1)
    not_nought a true false q p e = eqb-false d nought q
    not_nought a false t q p e = absurd (false≢true p)

pub digits_decimal : (f : List ℕ) (n : ℕ) → decimal f ≡ Some n → f ≡ digits n
unfolding decimal
digits_decimal f n e = go (ltb 0 (length f) && not (leading_zero f) && all_digits f) refl e
  where
    go : (b : Bool) → (ltb 0 (length f) && not (leading_zero f) && all_digits f) ≡ b → cond b (Some (value 0 f)) None ≡ Some n → f ≡ digits n
    go true q e = let z : value 0 f ≡ n = cc in numeral f q ∙ ap digits z
    go false q e = absurd (let z : ◌≡◌ {A = ℕ} 0 1 = cc in omega arith)

-- ---- the loop of `number`
unfoldable pub after : Option ℕ → List ℕ → Option ℕ
after v [] = v
after v (d ∷ ds) = after (option_and_then (λ w. digit_after w d) v) ds

pub after_none : (ds : List ℕ) → after None ds ≡ None
unfolding after
after_none [] = refl
after_none (d ∷ ds) = after_none ds

after_value : (ds : List ℕ) (w : ℕ) → after (capped (Some w)) ds ≡ cond (all_digits ds) (capped (Some (value w ds))) None
unfolding after all_digits value
after_value [] w = refl
after_value (d ∷ ds) w = go (leb w most_number) refl (is_digit d) refl (after_value ds (w * 10 + (d - nought)))
  where
    next : ℕ
    next = w * 10 + (d - nought)

    go : (b : Bool) → leb w most_number ≡ b → (t : Bool) → is_digit d ≡ t → after (capped (Some next)) ds ≡ cond (all_digits ds) (capped (Some (value next ds))) None
        → after (option_and_then (λ w. digit_after w d) (cond b (Some w) None)) ds ≡ cond (t && all_digits ds) (capped (Some (value next ds))) None
    go true q true r ih = rw r ih
    go true q false r ih = rw r (after_none ds)
    go false q true r ih = let e = lt-leb next most_number (omega (arith, leb-false w most_number q)) in rw e at ih
    go false q false r ih = after_none ds

pub number_start : (f : List ℕ) → (length f ≡ 0 → ⊥) → leading_zero f ≡ false → capped (decimal f) ≡ after (Some 0) f
unfolding decimal
number_start f h e = rw (lt-ltb 0 (length f) (omega arith), e) (go (all_digits f)) ∙ sym (after_value f 0)
  where
    go : (b : Bool) → capped (cond b (Some (value 0 f)) None) ≡ cond b (capped (Some (value 0 f))) None
    go true = refl
    go false = refl

pub number_empty : (f : List ℕ) → length f ≡ 0 → capped (decimal f) ≡ None
unfolding decimal
number_empty f e = rw e

pub number_leading : (f : List ℕ) → 1 < length f → get_or f 0 0 ≡ nought → capped (decimal f) ≡ None
unfolding decimal
number_leading f h e = rw (lt-ltb 0 (length f) (omega arith), lt-ltb 1 (length f) h, eq-eqb (get_or f 0 0) nought e)

pub after_next : (v : ℕ) (f : List ℕ) (i : ℕ) → i < length f → after (Some v) (drop i f) ≡ after (digit_after v (get_or f i 0)) (drop (i + 1) f)
unfolding after
after_next v f i h = rw (drop-cons f i 0 h, add-one)

pub after_end : (v : ℕ) (f : List ℕ) (i : ℕ) → length f ≤ i → after (Some v) (drop i f) ≡ Some v
unfolding after
after_end v f i h = rw (drop_of_length-le f h)

-- what `capped` tells of the number
pub capped_some : (o : Option ℕ) (n : ℕ) → Some n ≡ capped o → o ≡ Some n
capped_some None n e = absurd (none-some n (sym e))
capped_some (Some m) n e = go (leb m most_number) e
  where
    go : (b : Bool) → Some n ≡ cond b (Some m) None → Some m ≡ Some n
    go true q = let z : n ≡ m = cc in ap Some (sym z)
    go false q = absurd (none-some n (sym q))

-- a number that is as none in code is none, or large
pub capped_none : (o : Option ℕ) (n : ℕ) → None ≡ capped o → o ≡ Some n → most_number < n
capped_none None n e q = absurd (let z : ◌≡◌ {A = ℕ} 0 1 = cc in omega arith)
capped_none (Some m) n e q = go (leb m most_number) refl e
  where
    go : (b : Bool) → leb m most_number ≡ b → None ≡ cond b (Some m) None → most_number < n
    go true r z = absurd (none-some m z)
    go false r z = let k : m ≡ n = cc in omega (arith, leb-false m most_number r)
