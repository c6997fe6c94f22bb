-- The lines of a table: the signs, the places in their order, and that the bytes that begin with a line of good form are that line and more.
use mathlib.Core.Path.{◌≡◌, refl, sym, ap, ap₂, ◌∙◌}
use mathlib.Core.Bool.{Bool, true, false, cond, ◌&&◌, ◌||◌, false≢true}
use mathlib.Core.List.{List, [], ◌∷◌, ◌++◌, append-nil}
use Prim.Native.Nat.{ℕ, zero, suc, ◌+◌, ◌-◌, ◌/◌, ◌%◌, ◌≤◌, ◌<◌}
use native.Mathlib.Nat.{lt_of_lt_of_le}
use native.Mathlib.Omega.{arith}
use native.Mathlib.Numerals.{add-one}
use borrow.Author.Tests.{eqb-true, eq-eqb, leb-true, le-leb}
use lib.Dec.{T, eqb, leb, leb→le, eqb→eq}
use Rattle.std.proofs.lemmas.Bool.Decides.{nat_tests}
use lib.Pointwise.{pointwise}
use lib.ListN.{length-drop, length, get_or, take, drop, length-append}
use lib.Seq.{drop-cons, drop-drop, take_at, drop_at, drop-append-add}
use Rattle.std.specs.Prelude.{Option, Some, None}
use Rattle.std.proofs.lemmas.Option.{cond_some, none-some}
use Rattle.std.specs.Option.{MatchOption, unwrap_or}
use Rattle.std.specs.List.{EachIndex, prefix_len}
use Rattle.std.proofs.lemmas.List.Sums.{prefix_len_is}
use Rattle.tree.specs.Tree.{Basic, plus, minus, is_up_to}
use Rattle.tree.proofs.TreeLaws.{and_left, and_right}
use Rattle.tree.proofs.PassLaws.{here}
use Rattle.text.specs.Decimal.{nought}
use Rattle.text.specs.Line.{line_feed}
use Rattle.text.proofs.PartsLaws.{rest_all}
use Rattle.words.specs.Formula.{Formula, A, B, C, D, join}
use Rattle.words.specs.Word.{Sign, operator, neither, sign_of, allowed, operator_sign, word, most_signs}
use Rattle.words.proofs.Cases.{first_true, second_true}
use Rattle.words.proofs.WordLaws.{word_join}
use Rattle.moves.specs.Moves.{State, state1, Input, input_a, input_b, input_c, input_d, state_number, input_number, place_number}
use Rattle.moves.proofs.TableLaws.{state_range, input_range, same_entry}
use Rattle.move_table.specs.Loading.{Place, places, letter, front, front_bytes, signs_in, word_in, line_bytes, starts_with, begins}
use Rattle.move_table.specs.InnerLoading.{place_at, line_signs}

pub both_true : {x y : Bool} → x ≡ true → y ≡ true → (x && y) ≡ true
both_true {x} {y} e f = ap₂ ◌&&◌ e f

-- ---- the signs
-- a sign's byte, or as the others say
pub allowed_either : (b : Bool) (g r : Sign) → allowed g ≡ true → allowed (cond b g r) ≡ (b || allowed r)
allowed_either true g r e = e
allowed_either false g r e = refl

pub allowed_last : (b : Bool) → allowed (cond b (operator minus) neither) ≡ b
allowed_last true = refl
allowed_last false = refl

pub signs_here : (bytes : List ℕ) (i : ℕ) → i < length bytes → allowed (sign_of (get_or bytes i 0)) ≡ true → length (signs_in (drop i bytes)) ≡ length (signs_in (drop (i + 1) bytes)) + 1
signs_here bytes i h e = rw (here bytes i h) (unfold signs_in in rw e (sym (add-one (length (signs_in (drop (i + 1) bytes))))))

pub signs_end : (bytes : List ℕ) (i : ℕ) → i < length bytes → allowed (sign_of (get_or bytes i 0)) ≡ false → length (signs_in (drop i bytes)) ≡ 0
signs_end bytes i h e = rw (here bytes i h) (unfold signs_in in rw e)

pub signs_none : length (signs_in []) ≡ 0
unfolding signs_in
signs_none = refl

signs_prefix : (bytes : List ℕ) → prefix_len (λ b. allowed (sign_of b)) bytes ≡ length (signs_in bytes)
unfolding signs_in
signs_prefix [] = refl
signs_prefix (b ∷ bytes) = go (allowed (sign_of b)) (signs_prefix bytes)
  where
    go : (x : Bool) → prefix_len (λ b. allowed (sign_of b)) bytes ≡ length (signs_in bytes)
        → cond x (1 + prefix_len (λ b. allowed (sign_of b)) bytes) 0 ≡ length (cond x (b ∷ signs_in bytes) [])
    go true e = omega (arith, e)
    go false e = refl

-- the index of the first byte that is no sign, or the length where there is none
pub signs_found : (bytes : List ℕ) (r : Option ℕ)
    → MatchOption r (EachIndex bytes (λ k. allowed (sign_of (get_or bytes k 0)) ≡ true))
    (λ i. (i < length bytes) × ((k : ℕ) → k < i → allowed (sign_of (get_or bytes k 0)) ≡ true) × (allowed (sign_of (get_or bytes i 0)) ≡ false))
    → (unwrap_or r (length bytes) ≡ length (signs_in bytes)) × (unwrap_or r (length bytes) ≤ length bytes)
signs_found bytes None h = (sym (prefix_len_is (λ b. allowed (sign_of b)) bytes (length bytes) 0 (omega arith) h (λ k. absurd (omega arith))) ∙ signs_prefix bytes, omega arith)
signs_found bytes (Some i) h = (sym (prefix_len_is (λ b. allowed (sign_of b)) bytes i 0 (omega (arith, h.0)) h.1 (λ k. h.2)) ∙ signs_prefix bytes, omega (arith, h.0))

-- the signs and what follows them make up the bytes
signs_front : (bytes : List ℕ) → signs_in bytes ++ drop (length (signs_in bytes)) bytes ≡ bytes
unfolding signs_in
signs_front [] = refl
signs_front (b ∷ bytes) = go (allowed (sign_of b)) (signs_front bytes)
  where
    go : (x : Bool) → signs_in bytes ++ drop (length (signs_in bytes)) bytes ≡ bytes
        → cond x (b ∷ signs_in bytes) [] ++ drop (length (cond x (b ∷ signs_in bytes) [])) (b ∷ bytes) ≡ b ∷ bytes
    go true e = ap (λ (l : List ℕ). b ∷ l) e
    go false e = refl

-- a formula's word is made of signs
operator_allowed : (o : Basic) (w : List ℕ) → signs_in (operator_sign o ∷ w) ≡ operator_sign o ∷ signs_in w
unfolding signs_in
operator_allowed plus w = refl
operator_allowed minus w = refl

word_signs : (p : Formula) (w : List ℕ) → signs_in (word p ++ w) ≡ word p ++ signs_in w
word_signs A w = unfold signs_in in refl
word_signs B w = unfold signs_in in refl
word_signs C w = unfold signs_in in refl
word_signs D w = unfold signs_in in refl
word_signs (join o p q) w =
    ap signs_in (word_join o p q w) ∙ word_signs p (word q ++ (operator_sign o ∷ w))
    ∙ ap (λ (x : List ℕ). word p ++ x) (word_signs q (operator_sign o ∷ w) ∙ ap (λ (x : List ℕ). word q ++ x) (operator_allowed o w))
    ∙ sym (word_join o p q (signs_in w))

line_feed_signs : (w : List ℕ) → signs_in (line_feed ∷ w) ≡ []
unfolding signs_in
line_feed_signs w = refl

-- a formula's word is not empty
pub word_positive : (p : Formula) → 1 ≤ length (word p)
word_positive A = omega arith
word_positive B = omega arith
word_positive C = omega arith
word_positive D = omega arith
word_positive (join o p q) = simp length-append (omega (arith, word_positive p))

-- ---- the places
-- whether places have the numbers from n on
unfoldable pub numbered : ℕ → List Place → Bool
numbered n [] = true
numbered n (at ∷ later) = eqb (place_number at.state at.input) n && numbered (suc n) later

numbered_at : (l : List Place) (d : Place) (n k : ℕ) → T (numbered n l) → k < length l → place_number (get_or l k d).state (get_or l k d).input ≡ n + k
unfolding numbered
numbered_at [] d n k t h = absurd (omega arith)
numbered_at (at ∷ later) d n zero t h = eqb→eq _ _ (and_left (eqb (place_number at.state at.input) n) (numbered (suc n) later) t) ∙ (let z : n ≡ n + 0 = omega arith in z)
numbered_at (at ∷ later) d n (suc k) t h =
    numbered_at later d (suc n) k (and_right (eqb (place_number at.state at.input) n) (numbered (suc n) later) t) (omega arith) ∙ (let z : suc n + k ≡ n + suc k = omega arith in z)

-- "states rising and a to d within each"
pub places_numbered : T (numbered 0 places)
unfolding numbered
places_numbered = tt

-- the place with a number has that number
pub place_number_lem : (n : ℕ) → n < 36 → place_number (place_at n).state (place_at n).input ≡ n
unfolding place_at
place_number_lem n h = numbered_at places _ 0 n places_numbered h ∙ (let z : 0 + n ≡ n = omega arith in z)

-- and a state and an input are the place with their number
pub place_of : (x : State) (i : Input) → place_at (place_number x i) ≡ record { state = x; input = i }
unfolding place_at
place_of = same_entry (λ x i. place_at (place_number x i)) (λ x i. record { state = x; input = i }) refl

-- a number below as many as there are, or fewer
pub within : {n m : ℕ} → n < m → T (leb m 36) → n < 36
within {n} {m} h t = lt_of_lt_of_le h (leb→le m 36 t)

pub place_below : (x : State) (i : Input) → place_number x i < 36
place_below x i = let s = state_range x in let n = input_range i in omega arith

-- the places from a number on
unfoldable pub remaining : ℕ → List Place
remaining n = drop n places

pub remaining_more : (n : ℕ) → n < 36 → remaining n ≡ place_at n ∷ remaining (n + 1)
unfolding remaining place_at
remaining_more n h = drop-cons places n (record { state = state1; input = input_a }) h ∙ ap (λ (k : ℕ). place_at n ∷ drop k places) (sym (add-one n))

pub remaining_none : (n : ℕ) → n ≡ 36 → remaining n ≡ []
unfolding remaining
remaining_none n e = rw e

letter_number : (i : Input) → letter i ≡ 97 + input_number i
letter_number input_a = refl
letter_number input_b = refl
letter_number input_c = refl
letter_number input_d = refl

-- the digit and the letter of the place with a number
pub place_digit : (n : ℕ) → n < 36 → nought + state_number (place_at n).state ≡ 49 + n / 4
place_digit n h =
    let e = place_number_lem n h in
    let s = state_range (place_at n).state in
    let i = input_range (place_at n).input in
    omega arith

pub place_letter : (n : ℕ) → n < 36 → letter (place_at n).input ≡ 97 + n % 4
place_letter n h =
    let e = place_number_lem n h in
    let s = state_range (place_at n).state in
    let i = input_range (place_at n).input in
    letter_number (place_at n).input ∙ (let z : 97 + input_number (place_at n).input ≡ 97 + n % 4 = omega arith in z)

-- ---- what some bytes begin with
starts_front : (xs bytes : List ℕ) → starts_with xs bytes ≡ true → bytes ≡ xs ++ drop (length xs) bytes
unfolding starts_with
starts_front [] bytes e = refl
starts_front (x ∷ xs) [] e = absurd (false≢true e)
starts_front (x ∷ xs) (b ∷ bytes) e =
    ap₂ (λ (y : ℕ) (ys : List ℕ). y ∷ ys) (eqb-true b x (first_true (eqb b x) (starts_with xs bytes) e)) (starts_front xs bytes (second_true (eqb b x) (starts_with xs bytes) e))

starts_with_lem : (xs bytes : List ℕ) → starts_with xs (xs ++ bytes) ≡ true
unfolding starts_with
starts_with_lem [] bytes = refl
starts_with_lem (x ∷ xs) bytes = both_true (eq-eqb x x refl) (starts_with_lem xs bytes)

-- as the code asks for the bytes before a word, and for the one after it
eqb_other : (x y : ℕ) → eqb x y ≡ eqb y x
eqb_other x y = grind (arith, nat_tests)

pub starts_pointwise : (xs bytes : List ℕ) → pointwise eqb xs (take (length xs) bytes) ≡ starts_with xs bytes
unfolding starts_with
starts_pointwise [] bytes = refl
starts_pointwise (x ∷ xs) [] = refl
starts_pointwise (x ∷ xs) (b ∷ bytes) = ap₂ ◌&&◌ (eqb_other x b) (starts_pointwise xs bytes)

pub starts_four : (x y z t : ℕ) (bytes : List ℕ) → 4 ≤ length bytes
    → (eqb (get_or bytes 0 0) x && (eqb (get_or bytes 1 0) y && (eqb (get_or bytes 2 0) z && eqb (get_or bytes 3 0) t))) ≡ starts_with (x ∷ y ∷ z ∷ t ∷ []) bytes
unfolding starts_with
starts_four x y z t [] h = absurd (omega arith)
starts_four x y z t (a ∷ []) h = absurd (omega arith)
starts_four x y z t (a ∷ b ∷ []) h = absurd (omega arith)
starts_four x y z t (a ∷ b ∷ c ∷ []) h = absurd (omega arith)
starts_four x y z t (a ∷ b ∷ c ∷ d ∷ bytes) h = ap (λ (u : Bool). eqb a x && (eqb b y && (eqb c z && u))) (sym (and_true (eqb d t)))
  where
    and_true : (u : Bool) → (u && true) ≡ u
    and_true true = refl
    and_true false = refl

pub starts_short : (x y z t : ℕ) (bytes : List ℕ) → length bytes < 4 → false ≡ starts_with (x ∷ y ∷ z ∷ t ∷ []) bytes
starts_short x y z t bytes h = go (starts_with (x ∷ y ∷ z ∷ t ∷ []) bytes) refl
  where
    go : (u : Bool) → starts_with (x ∷ y ∷ z ∷ t ∷ []) bytes ≡ u → false ≡ u
    go true e = absurd (let k = ap length (starts_front (x ∷ y ∷ z ∷ t ∷ []) bytes e) in omega arith)
    go false e = refl

pub starts_one : (x : ℕ) (bytes : List ℕ) (at : ℕ) → at < length bytes → eqb (get_or bytes at 0) x ≡ starts_with (x ∷ []) (drop at bytes)
starts_one x bytes at h = rw (here bytes at h) (unfold starts_with in go (eqb (get_or bytes at 0) x))
  where
    go : (u : Bool) → u ≡ (u && true)
    go true = refl
    go false = refl

pub starts_none : (x : ℕ) (bytes : List ℕ) → length bytes ≡ 0 → false ≡ starts_with (x ∷ []) bytes
unfolding starts_with
starts_none x [] h = refl
starts_none x (b ∷ bytes) h = absurd (omega arith)

pub starts_at : {X : Type 0} (bytes : List ℕ) (at : ℕ) (r : Option X) (b : Bool)
    → MatchOption r ((length bytes ≤ at) × (b ≡ false)) (λ _. (at < length bytes) × (b ≡ eqb (get_or bytes at 0) line_feed)) → b ≡ starts_with (line_feed ∷ []) (drop at bytes)
starts_at bytes at None b h = h.1 ∙ starts_none line_feed (drop at bytes) (simp length-drop (omega (arith, h.0)))
starts_at bytes at (Some x) b h = h.1 ∙ starts_one line_feed bytes at h.0

-- ---- lines
-- a line of good form, of a word and the bytes after it
abbrev pub line_of : Place → List ℕ → List ℕ → List ℕ
line_of at w rest = front at ++ (w ++ (line_feed ∷ rest))

-- the bytes that begin with a line of good form
pub record Line (at : Place) (bytes : List ℕ) : Type 0 where
  pub some_signs : 1 ≤ length (word_in bytes)
  pub few_signs : length (word_in bytes) ≤ most_signs
  pub text : bytes ≡ line_of at (word_in bytes) (drop (line_bytes bytes) bytes)

pub line_front : (at : Place) (bytes : List ℕ) → begins at bytes ≡ true → Line at bytes
line_front at bytes e =
    let w = word_in bytes in
    let n = length w in
    let first : starts_with (front at) bytes ≡ true = first_true _ _ e in
    let other : (is_up_to most_signs n && starts_with (line_feed ∷ []) (drop (front_bytes + n) bytes)) ≡ true = second_true (starts_with (front at) bytes) _ e in
    let size : is_up_to most_signs n ≡ true = first_true _ _ other in
    let last : starts_with (line_feed ∷ []) (drop (front_bytes + n) bytes) ≡ true = second_true (is_up_to most_signs n) _ other in
    record {
      some_signs = leb-true 1 n (first_true _ _ size);
      few_signs = leb-true n most_signs (second_true (leb 1 n) _ size);
      text = starts_front (front at) bytes first ∙ ap (λ (l : List ℕ). front at ++ l)
          (sym (signs_front (drop front_bytes bytes))
          ∙ ap (λ (l : List ℕ). w ++ l) (drop-drop n front_bytes bytes ∙ starts_front (line_feed ∷ []) (drop (front_bytes + n) bytes) last ∙ ap (λ (l : List ℕ). line_feed ∷ l) (drop-drop 1 (front_bytes + n) bytes)));
    }

-- ---- a line that is written
-- a word as it may stand in a line
pub record IsWord (w : List ℕ) : Type 0 where
  pub signs : (rest : List ℕ) → signs_in (w ++ (line_feed ∷ rest)) ≡ w
  pub some_signs : 1 ≤ length w
  pub few_signs : length w ≤ most_signs

-- a formula's is one, and so is that of a line of good form
pub formula_word : (p : Formula) → length (word p) ≤ most_signs → IsWord (word p)
formula_word p h = record {
  signs = λ rest. word_signs p (line_feed ∷ rest) ∙ ap (λ (l : List ℕ). word p ++ l) (line_feed_signs rest) ∙ append-nil (word p);
  some_signs = word_positive p;
  few_signs = h;
}

signs_again : (bytes rest : List ℕ) → signs_in (signs_in bytes ++ (line_feed ∷ rest)) ≡ signs_in bytes
unfolding signs_in
signs_again [] rest = refl
signs_again (b ∷ bytes) rest = go (allowed (sign_of b)) refl (signs_again bytes rest)
  where
    go : (x : Bool) → allowed (sign_of b) ≡ x → signs_in (signs_in bytes ++ (line_feed ∷ rest)) ≡ signs_in bytes
        → signs_in (cond x (b ∷ signs_in bytes) [] ++ (line_feed ∷ rest)) ≡ cond x (b ∷ signs_in bytes) []
    go true e h = rw e (ap (λ (l : List ℕ). b ∷ l) h)
    go false e h = refl

pub line_is_word : {at : Place} {bytes : List ℕ} → Line at bytes → IsWord (word_in bytes)
line_is_word {at} {bytes} L = record { signs = signs_again (drop front_bytes bytes); some_signs = L.some_signs; few_signs = L.few_signs }

module _ (at : Place) {w : List ℕ} (W : IsWord w) (rest : List ℕ) where
  -- its word
  pub line_word : word_in (line_of at w rest) ≡ w
  line_word = W.signs rest

  -- what follows the word
  after : drop (front_bytes + length w) (line_of at w rest) ≡ line_feed ∷ rest
  after = drop-append-add (front at) (w ++ (line_feed ∷ rest)) (length w) ∙ drop_at w (line_feed ∷ rest) (length w) refl

  pub line_rest : drop (line_bytes (line_of at w rest)) (line_of at w rest) ≡ rest
  line_rest =
      ap (λ (v : List ℕ). drop (front_bytes + length v + 1) (line_of at w rest)) line_word
      ∙ sym (drop-drop 1 (front_bytes + length w) (line_of at w rest)) ∙ ap (drop 1) after

  pub line_begins : begins at (line_of at w rest) ≡ true
  line_begins =
      both_true (starts_with_lem (front at) (w ++ (line_feed ∷ rest)))
      (rw line_word (both_true (both_true (le-leb 1 (length w) W.some_signs) (le-leb (length w) most_signs W.few_signs)) (rw after (starts_with_lem (line_feed ∷ []) rest))))

-- ---- as the code tests a line
pub front_room : (at : Place) (bytes : List ℕ) → starts_with (front at) bytes ≡ true → 4 ≤ length bytes
front_room at bytes e = let k = ap length (starts_front (front at) bytes e) in omega arith

pub line_tested : (at : Place) (bytes : List ℕ) (n : ℕ) (ends b : Bool) → n ≡ length (word_in bytes) → starts_with (front at) bytes ≡ true
    → ends ≡ starts_with (line_feed ∷ []) (drop (front_bytes + n) bytes) → (is_up_to most_signs n && ends) ≡ b → cond b (Some n) None ≡ line_signs at bytes
line_tested at bytes n ends b e f g h =
    let m : begins at bytes ≡ b =
    ap₂ ◌&&◌ f (ap₂ (λ (k : ℕ) (x : Bool). is_up_to most_signs k && x) (sym e) (ap (λ (k : ℕ). starts_with (line_feed ∷ []) (drop (front_bytes + k) bytes)) (sym e) ∙ sym g)) ∙ h in
    ap₂ (λ (x : Bool) (k : ℕ). cond x (Some k) None) (sym m) e

pub line_refused : (at : Place) (bytes : List ℕ) → starts_with (front at) bytes ≡ false → None ≡ line_signs at bytes
line_refused at bytes f =
    ap (λ (x : Bool). cond (x && (is_up_to most_signs (length (word_in bytes)) && starts_with (line_feed ∷ []) (drop (front_bytes + length (word_in bytes)) bytes))) (Some (length (word_in bytes))) None) (sym f)

-- what a count of signs says
pub record Counted (at : Place) (bytes : List ℕ) (n : ℕ) : Type 0 where
  pub is_line : begins at bytes ≡ true
  pub its_word : take n (drop front_bytes bytes) ≡ word_in bytes
  pub counted : n ≡ length (word_in bytes)
  pub few : n ≤ most_signs
  pub room : front_bytes + n + 1 ≤ length bytes

pub line_counted : (at : Place) (bytes : List ℕ) (n : ℕ) → line_signs at bytes ≡ Some n → Counted at bytes n
line_counted at bytes n e =
    let s = cond_some (begins at bytes) (length (word_in bytes)) n e in
    let L = line_front at bytes s.0 in
    let k = ap length L.text in
    record {
      is_line = s.0;
      its_word = ap (take n) (sym (signs_front (drop front_bytes bytes))) ∙ take_at (word_in bytes) (drop (length (word_in bytes)) (drop front_bytes bytes)) n s.1;
      counted = sym s.1;
      few = omega (arith, L.few_signs, s.1);
      room = omega (arith, k, length-append (word_in bytes) (line_feed ∷ drop (line_bytes bytes) bytes), s.1);
    }

pub not_counted : (at : Place) (bytes : List ℕ) → line_signs at bytes ≡ None → begins at bytes ≡ false
not_counted at bytes e = go (begins at bytes) refl e
  where
    go : (b : Bool) → begins at bytes ≡ b → cond b (Some (length (word_in bytes))) None ≡ None → begins at bytes ≡ false
    go false f e = f
    go true f e = absurd (none-some _ (sym e))

-- as the code takes a word, and that it is not too long
pub word_part : (at n : ℕ) (bytes : List ℕ) → take (front_bytes + n - front_bytes) (drop front_bytes (take (length bytes - at) (drop at bytes))) ≡ take n (drop front_bytes (drop at bytes))
word_part at n bytes = ap₂ (λ (k : ℕ) (l : List ℕ). take k (drop front_bytes l)) (let z : front_bytes + n - front_bytes ≡ n = omega arith in z) (rest_all at bytes)

pub word_few : (at : Place) (bytes : List ℕ) (n : ℕ) → Counted at bytes n → length (take n (drop front_bytes bytes)) ≤ most_signs
word_few at bytes n line = rw line.its_word (omega (arith, line.counted, line.few))
