-- The form of a line, by where its tabs stand, the ranges of its numbers, and one line by two rules.
use mathlib.Core.Path.{◌≡◌, refl, sym, ap, ◌∙◌}
use mathlib.Core.Bool.{Bool, true, false, cond, ◌&&◌, true≢false}
use mathlib.Core.List.{List, [], ◌∷◌}
use Rattle.std.proofs.Common.{Option, Some, None}
use Prim.Native.Nat.{ℕ, ◌+◌, ◌≤◌, ◌<◌}
use native.Mathlib.Omega.{arith}
use borrow.Author.Tests.{eq-eqb, ne_eqb, eqb-true, le-leb, lt-leb, leb-true, leb-false, ltb-true, ltb-false}
use lib.Dec.{eqb, leb, ltb}
use lib.ListN.{length, get_or, take, drop}
use lib.Seq.{length-take-le}
use Rattle.tree.specs.Tree.{Operator as TreeOperator, union, difference, intersection, sign, is_up_to, most_group, is_in}
use Rattle.text.specs.Decimal.{decimal}
use Rattle.text.specs.Inner.{most_number, capped, ahead}
use Rattle.text.specs.Parts.{Parts, last, part, onto, split, join}
use Rattle.text.specs.Line.{tab}
use Rattle.text.proofs.DecimalLaws.{and_both, digits_decimal, digits_free, capped_none}
use Rattle.text.proofs.PartsLaws.{split_last, split_all, split_first, join_split}
use Rattle.sheet.specs.Form.{letter_g, letter_k, letter_l, letter_e, letter_for, most_position, is_position, most_levels, is_levels, letter_of, ranged, bare, one_number, two_numbers, form_of, line_of}
use Rattle.sheet.specs.Rules.{Rules, sheet_rules}
use Rattle.sheet.specs.InnerHolding.{InRange}
use Rattle.sheet.specs.declared.Line.{Line}
use Rattle.sheet.specs.declared.Line.TheVariants.{Group, Operator, Lift, Mark, End}

-- ---- the numbers 1 to a last one
up_to_more : (few more n : ℕ) → few ≤ more → is_up_to few n ≡ true → is_up_to more n ≡ true
up_to_more few more n h e =
    let z = and_both (leb 1 n) (leb n few) e in
    rw (z.0, le-leb n more (omega (arith, leb-true n few z.1)))

up_to_between : (few more n : ℕ) → is_up_to few n ≡ false → is_up_to more n ≡ true → few < more
up_to_between few more n e f =
    let z = and_both (leb 1 n) (leb n more) f in
    let q : leb n few ≡ false = rw z.0 at e in
    omega (arith, leb-false n few q, leb-true n more z.1)

-- ---- what holds of both lines of a test holds of the one that it takes
pub either : (P : Option Line → Type 0) (b : Bool) (x y : Option Line) → (b ≡ true → P x) → P y → P (cond b x y)
either P true x y p q = p refl
either P false x y p q = q

both_none : (b : Bool) (x y : Option Line) → x ≡ None → y ≡ None → cond b x y ≡ None
both_none b x y p q = either (λ l. l ≡ None) b x y (λ _. p) q

ranged_none : (passes : ℕ → Bool) (form : ℕ → Option Line) (o : Option ℕ) → ((n : ℕ) → form n ≡ None) → ranged passes form o ≡ None
ranged_none passes form None f = refl
ranged_none passes form (Some n) f = both_none (passes n) (form n) None (f n) refl

-- ---- a number that is none in code is out of every range
ranged_large : (passes : ℕ → Bool) (form : ℕ → Option Line) (o : Option ℕ) → None ≡ capped o → ((n : ℕ) → most_number < n → passes n ≡ false) → ranged passes form o ≡ None
ranged_large passes form None e f = refl
ranged_large passes form (Some n) e f = rw (f n (capped_none (Some n) n e refl))

up_to_large : (most n : ℕ) → most ≤ most_number → most_number < n → is_up_to most n ≡ false
up_to_large most n l h = and_second (leb 1 n) (leb n most) (lt-leb n most (omega arith))
  where
    and_second : (a b : Bool) → b ≡ false → (a && b) ≡ false
    and_second true b e = e
    and_second false b e = refl

pub one_large : (kind : ℕ) (o : Option ℕ) → None ≡ capped o → one_number sheet_rules kind o ≡ None
one_large kind o e =
    let group = λ (n : ℕ) (h : most_number < n). up_to_large sheet_rules.last_group n (omega arith) h in
    both_none (eqb kind letter_g) _ _ (ranged_large (is_up_to sheet_rules.last_group) _ o e group)
    (both_none (eqb kind letter_k) _ _ (ranged_large (is_up_to sheet_rules.last_group) _ o e group) refl)

pub first_large : (kind : ℕ) (o u : Option ℕ) → None ≡ capped o → two_numbers kind o u ≡ None
first_large kind o u e = both_none (eqb kind letter_l) _ _ (ranged_large is_position _ o e (λ n h. lt-leb n most_position (omega arith))) refl

pub second_large : (kind : ℕ) (o u : Option ℕ) → None ≡ capped u → two_numbers kind o u ≡ None
second_large kind o u e =
    both_none (eqb kind letter_l) _ _ (ranged_none is_position _ o (λ p. ranged_large is_levels _ u e (λ n h. up_to_large most_levels n (omega arith) h))) refl

-- ---- a line whose kind is not one letter
form_none : (rules : Rules) (kind : List ℕ) (ps : Parts) → letter_of kind ≡ 0 → form_of rules (part kind ps) ≡ None
unfolding form_of
form_none rules kind (last f) e = rw e
form_none rules kind (part f (last g)) e = rw e
form_none rules kind (part f (part g ps)) e = refl

form_tab : (rules : Rules) (ps : Parts) → form_of rules (part (tab ∷ []) ps) ≡ None
unfolding form_of
form_tab rules (last f) = refl
form_tab rules (part f (last g)) = refl
form_tab rules (part f (part g ps)) = refl

-- ---- a kind alone, and a kind with fields
pub line_bare : (rules : Rules) (l : List ℕ) → length l ≡ 1 → line_of rules l ≡ bare rules (get_or l 0 0)
unfolding line_of split form_of
line_bare rules [] e = absurd (omega arith)
line_bare rules (kind ∷ []) e = go (eqb tab kind) refl
  where
    go : (b : Bool) → eqb tab kind ≡ b → form_of rules (cond b (part [] (last [])) (last (kind ∷ []))) ≡ bare rules kind
    go true q = rw (sym (eqb-true tab kind q))
    go false q = refl
line_bare rules (kind ∷ (b ∷ l)) e = absurd (omega arith)

pub line_fields : (rules : Rules) (l : List ℕ) → 2 ≤ length l → get_or l 1 0 ≡ tab → line_of rules l ≡ form_of rules (part (get_or l 0 0 ∷ []) (split tab (drop 2 l)))
unfolding line_of split
line_fields rules [] h e = absurd (omega arith)
line_fields rules (kind ∷ []) h e = absurd (omega arith)
line_fields rules (kind ∷ (b ∷ l)) h e = rw (eq-eqb tab b (sym e)) (go (eqb tab kind) refl)
  where
    go : (t : Bool) → eqb tab kind ≡ t → form_of rules (cond t (part [] (part [] (split tab l))) (part (kind ∷ []) (split tab l))) ≡ form_of rules (part (kind ∷ []) (split tab l))
    go true q = rw (sym (eqb-true tab kind q)) (form_none rules [] (part [] (split tab l)) refl ∙ sym (form_tab rules (split tab l)))
    go false q = refl

-- no kind, or one of more than a letter
pub line_empty : (rules : Rules) (l : List ℕ) → length l ≡ 0 → line_of rules l ≡ None
unfolding line_of split form_of
line_empty rules [] e = refl
line_empty rules (kind ∷ l) e = absurd (omega arith)

pub line_long : (rules : Rules) (l : List ℕ) → 2 ≤ length l → (get_or l 1 0 ≡ tab → ⊥) → line_of rules l ≡ None
unfolding line_of split form_of
line_long rules [] h n = absurd (omega arith)
line_long rules (kind ∷ []) h n = absurd (omega arith)
line_long rules (kind ∷ (b ∷ l)) h n = rw (ne_eqb tab b (λ e. n (sym e))) (go (eqb tab kind) (split tab l))
  where
    go : (t : Bool) (ps : Parts) → form_of rules (cond t (part [] (onto b ps)) (onto kind (onto b ps))) ≡ None
    go true ps = form_none rules [] (onto b ps) refl
    go false (last p) = refl
    go false (part p ps) = form_none rules (kind ∷ (b ∷ p)) ps refl

-- any line whose kind is not one letter
letter_none : (f : List ℕ) → (length f ≡ 1 → ⊥) → letter_of f ≡ 0
letter_none [] h = refl
letter_none (b ∷ []) h = absurd (h refl)
letter_none (b ∷ (c ∷ f)) h = refl

pub line_none : (rules : Rules) (l : List ℕ) → ahead tab l ≤ length l → (ahead tab l ≡ 1 → ⊥) → line_of rules l ≡ None
unfolding line_of form_of
line_none rules l m h = go (ltb (ahead tab l) (length l)) refl
  where
    go : (b : Bool) → ltb (ahead tab l) (length l) ≡ b → form_of rules (split tab l) ≡ None
    go true q =
        let k = ltb-true (ahead tab l) (length l) q in
        rw (split_first tab l k) (form_none rules (take (ahead tab l) l) (split tab (drop (ahead tab l + 1) l)) (letter_none (take (ahead tab l) l) (λ e. h (sym (length-take-le (ahead tab l) l m) ∙ e))))
    go false q =
        let e : ahead tab l ≡ length l = omega (arith, ltb-false (ahead tab l) (length l) q) in
        rw (split_all tab l e, letter_none l (λ z. h (e ∙ z)))

pub fields_one : (rules : Rules) (kind : ℕ) (f : List ℕ) → ahead tab f ≡ length f → form_of rules (part (kind ∷ []) (split tab f)) ≡ one_number rules kind (decimal f)
unfolding form_of
fields_one rules kind f e = rw (split_all tab f e)

-- a field with a tab in it is no number
decimal_free : (f : List ℕ) (n : ℕ) → decimal f ≡ Some n → split tab f ≡ last f
decimal_free f n e = split_last tab f (ap (λ (l : List ℕ). is_in l tab) (digits_decimal f n e) ∙ digits_free n tab refl)

decimal_parted : (f g : List ℕ) (ps : Parts) → split tab f ≡ part g ps → decimal f ≡ None
decimal_parted f g ps e = go (decimal f) refl
  where
    go : (o : Option ℕ) → decimal f ≡ o → decimal f ≡ None
    go None q = q
    go (Some n) q = absurd (let s = decimal_free f n q in let z : ◌≡◌ {A = ℕ} 0 1 = cc in omega arith)

join_last : (g : List ℕ) → join tab (last g) ≡ g
unfolding join
join_last g = refl

form_two : (rules : Rules) (kind : ℕ) (f g : List ℕ) → form_of rules (part (kind ∷ []) (part f (last g))) ≡ two_numbers kind (decimal f) (decimal g)
unfolding form_of
form_two rules kind f g = refl

form_three : (rules : Rules) (kind : ℕ) (f g : List ℕ) (ps : Parts) → form_of rules (part (kind ∷ []) (part f (part g ps))) ≡ None
unfolding form_of
form_three rules kind f g ps = refl

two_none : (kind : ℕ) (o : Option ℕ) → two_numbers kind o None ≡ None
two_none kind o = both_none (eqb kind letter_l) _ _ (ranged_none is_position _ o (λ p. refl)) refl

pub fields_two : (rules : Rules) (kind : ℕ) (f : List ℕ) (t : ℕ) → t ≡ ahead tab f → t < length f
    → form_of rules (part (kind ∷ []) (split tab f)) ≡ two_numbers kind (decimal (take t f)) (decimal (drop (t + 1) f))
fields_two rules kind f t q h = rw (split_first tab f (rw q at h), ← q) (go (split tab (drop (t + 1) f)) refl)
  where
    a : List ℕ
    a = take t f

    b : List ℕ
    b = drop (t + 1) f

    same : (g : List ℕ) → split tab b ≡ last g → g ≡ b
    same g e = sym (join_last g) ∙ sym (ap (join tab) e) ∙ join_split tab b

    go : (ps : Parts) → split tab b ≡ ps → form_of rules (part (kind ∷ []) (part a ps)) ≡ two_numbers kind (decimal a) (decimal b)
    go (last g) e = form_two rules kind a g ∙ ap (λ (x : List ℕ). two_numbers kind (decimal a) (decimal x)) (same g e)
    go (part g ps) e = form_three rules kind a g ps ∙ sym (ap (two_numbers kind (decimal a)) (decimal_parted b g ps e) ∙ two_none kind (decimal a))

-- ---- what holds of each line that the rules know, and of a bad one, holds of every line
pub record OfEach (rules : Rules) (P : Option Line → Type 0) : Type 0 where
  pub group : (n : ℕ) → is_up_to rules.last_group n ≡ true → P (Some (Group n))
  pub operator : (o : TreeOperator) → (sign o ≡ sign intersection → rules.intersections ≡ true) → P (Some (Operator (sign o)))
  pub lift : (p n : ℕ) → is_position p ≡ true → is_levels n ≡ true → P (Some (Lift p n))
  pub mark : (n : ℕ) → is_up_to rules.last_group n ≡ true → P (Some (Mark n))
  pub end : P (Some End)
  pub bad : P None

module _ (rules : Rules) (P : Option Line → Type 0) (E : OfEach rules P) where
  each_bare : (kind : ℕ) → P (bare rules kind)
  each_bare kind =
      either P (eqb kind (letter_for union)) _ _ (λ e. E.operator union (λ z. absurd (omega arith)))
      (either P (eqb kind (letter_for difference)) _ _ (λ e. E.operator difference (λ z. absurd (omega arith)))
      (either P (eqb kind (letter_for intersection) && rules.intersections) _ _ (λ e. E.operator intersection (λ z. (and_both (eqb kind (letter_for intersection)) rules.intersections e).1))
      (either P (eqb kind letter_e) _ _ (λ e. E.end) E.bad)))

  each_ranged : (passes : ℕ → Bool) (form : ℕ → Option Line) → ((n : ℕ) → passes n ≡ true → P (form n)) → (o : Option ℕ) → P (ranged passes form o)
  each_ranged passes form f None = E.bad
  each_ranged passes form f (Some n) = either P (passes n) _ _ (f n) E.bad

  each_form : (ps : Parts) → P (form_of rules ps)
  unfolding form_of
  each_form (last kind) = each_bare (letter_of kind)
  each_form (part kind (last f)) =
      either P (eqb (letter_of kind) letter_g) _ _ (λ e. each_ranged _ (λ g. Some (Group g)) E.group (decimal f))
      (either P (eqb (letter_of kind) letter_k) _ _ (λ e. each_ranged _ (λ g. Some (Mark g)) E.mark (decimal f)) E.bad)
  each_form (part kind (part f (last g))) =
      either P (eqb (letter_of kind) letter_l) _ _ (λ e. each_ranged is_position _ (λ p h. each_ranged is_levels (λ n. Some (Lift p n)) (λ n k. E.lift p n h k) (decimal g)) (decimal f)) E.bad
  each_form (part kind (part f (part g fs))) = E.bad

  pub each_line : (l : List ℕ) → P (line_of rules l)
  unfolding line_of
  each_line l = each_form (split tab l)

-- so the numbers of every line are in their ranges, where the rules have no group that trees do not have
pub line_range : (rules : Rules) → rules.last_group ≤ most_group → (l : List ℕ) → InRange (line_of rules l)
line_range rules most = each_line rules InRange (record {
  group = λ n e. up_to_more rules.last_group most_group n most e;
  operator = λ o _. (o, refl);
  lift = λ p n e f. let z = and_both (leb 1 n) (leb n most_levels) f in record { position_most = leb-true p most_position e; levels_least = leb-true 1 n z.0; levels_most = leb-true n most_levels z.1 };
  mark = λ n e. up_to_more rules.last_group most_group n most e;
  end = tt;
  bad = tt;
})

-- ---- one line by two rules
-- what they make of it: the same, or the stricter ones know no such group or no `I`
pub data Forms (few more : Rules) (k l : Option Line) : Type 0 where
  same_form : k ≡ l → Forms few more k l
  unknown_group : few.last_group < more.last_group → k ≡ None → Forms few more k l
  unknown_operator : few.intersections ≡ false → more.intersections ≡ true → k ≡ None → Forms few more k l

module _ (few more : Rules) (less : few.last_group ≤ more.last_group) (may : few.intersections ≡ true → more.intersections ≡ true) where
  forms_either : (b : Bool) {k l m n : Option Line} → Forms few more k l → Forms few more m n → Forms few more (cond b k m) (cond b l n)
  forms_either true p q = p
  forms_either false p q = q

  forms_bare : (kind : ℕ) → Forms few more (bare few kind) (bare more kind)
  forms_bare kind =
      forms_either (eqb kind (letter_for union)) (same_form refl)
      (forms_either (eqb kind (letter_for difference)) (same_form refl) (go (eqb kind (letter_for intersection)) refl few.intersections refl more.intersections refl))
    where
      go : (i : Bool) → eqb kind (letter_for intersection) ≡ i → (b : Bool) → few.intersections ≡ b → (c : Bool) → more.intersections ≡ c
          → Forms few more (cond (i && b) (Some (Operator (sign intersection))) (cond (eqb kind letter_e) (Some End) None)) (cond (i && c) (Some (Operator (sign intersection))) (cond (eqb kind letter_e) (Some End) None))
      go false e b p c q = same_form refl
      go true e true p true q = same_form refl
      go true e true p false q = absurd (true≢false (sym (may p) ∙ q))
      go true e false p true q = unknown_operator p q (rw (eqb-true kind (letter_for intersection) e))
      go true e false p false q = same_form refl

  forms_ranged : (form : ℕ → Option Line) (o : Option ℕ) → Forms few more (ranged (is_up_to few.last_group) form o) (ranged (is_up_to more.last_group) form o)
  forms_ranged form None = same_form refl
  forms_ranged form (Some n) = go (is_up_to few.last_group n) refl (is_up_to more.last_group n) refl
    where
      go : (b : Bool) → is_up_to few.last_group n ≡ b → (c : Bool) → is_up_to more.last_group n ≡ c → Forms few more (cond b (form n) None) (cond c (form n) None)
      go true p true q = same_form refl
      go true p false q = absurd (true≢false (sym (up_to_more few.last_group more.last_group n less p) ∙ q))
      go false p true q = unknown_group (up_to_between few.last_group more.last_group n p q) refl
      go false p false q = same_form refl

  forms_fields : (ps : Parts) → Forms few more (form_of few ps) (form_of more ps)
  unfolding form_of
  forms_fields (last kind) = forms_bare (letter_of kind)
  forms_fields (part kind (last f)) =
      forms_either (eqb (letter_of kind) letter_g) (forms_ranged (λ g. Some (Group g)) (decimal f)) (forms_either (eqb (letter_of kind) letter_k) (forms_ranged (λ g. Some (Mark g)) (decimal f)) (same_form refl))
  forms_fields (part kind (part f (last g))) = same_form refl
  forms_fields (part kind (part f (part g fs))) = same_form refl

  pub forms : (l : List ℕ) → Forms few more (line_of few l) (line_of more l)
  unfolding line_of
  forms l = forms_fields (split tab l)

-- a line's form depends on the last group and on whether `I` may stand only
pub forms_alike : (r s : Rules) → r.last_group ≡ s.last_group → r.intersections ≡ s.intersections → (l : List ℕ) → line_of r l ≡ line_of s l
forms_alike r s e f l = go (forms r s (omega arith) (λ z. sym f ∙ z) l)
  where
    go : Forms r s (line_of r l) (line_of s l) → line_of r l ≡ line_of s l
    go (same_form q) = q
    go (unknown_group h q) = absurd (omega (arith, h))
    go (unknown_operator a b q) = absurd (true≢false (sym b ∙ sym f ∙ a))
