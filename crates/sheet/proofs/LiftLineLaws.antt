-- A lift line of a sheet has at least 6 bytes, so a sheet has at most 10,000 lifts.
use mathlib.Core.Path.{◌≡◌, refl, sym, ap, ◌∙◌}
use mathlib.Core.Bool.{Bool, true, false, not, cond, ◌&&◌, true≢false}
use mathlib.Core.List.{List, [], ◌∷◌, ◌++◌}
use Rattle.std.proofs.Common.{Option, Some, None}
use Prim.Native.Nat.{ℕ, ◌+◌, ◌*◌, ◌≤◌}
use native.Mathlib.Omega.{arith}
use borrow.Author.Tests.{eqb-true, ltb-true}
use lib.Dec.{eqb, ltb}
use lib.ListN.{length, drop, length-append, length-drop}
use Rattle.tree.specs.Tree.{union, difference, intersection}
use Rattle.text.specs.Decimal.{decimal, value, leading_zero, all_digits}
use Rattle.text.specs.Parts.{Parts, last, part, split, join}
use Rattle.text.specs.Line.{tab, line_feed}
use Rattle.text.proofs.PartsLaws.{join_split}
use Rattle.sheet.specs.Form.{letter_g, letter_l, letter_k, letter_e, letter_for, is_position, is_levels, letter_of, ranged, bare, one_number, two_numbers, form_of, line_of}
use Rattle.sheet.specs.InnerLines.{first_line, line_at, LiftsTo}
use Rattle.sheet.specs.Rules.{Rules}
use Rattle.sheet.specs.Reading.{LiftLine}
use Rattle.sheet.specs.declared.Line.{Line}
use Rattle.sheet.specs.declared.Line.TheVariants.{Group, Operator, Lift, Mark, End}
use Rattle.sheet.proofs.FormLaws.{either}

differ : {X : Type 0} → ◌≡◌ {A = ℕ} 0 1 → X
differ e = absurd (omega arith)

-- a number that is read has at least one digit
decimal_some : (f : List ℕ) (n : ℕ) → decimal f ≡ Some n → 1 ≤ length f
unfolding decimal
decimal_some f n e = go (ltb 0 (length f)) refl e
  where
    go : (b : Bool) → ltb 0 (length f) ≡ b → cond (b && not (leading_zero f) && all_digits f) (Some (value 0 f)) None ≡ Some n → 1 ≤ length f
    go true q e = ltb-true 0 (length f) q
    go false q e = differ cc

-- only a line of two numbers has the form of a lift
abbrev is_lift : Option Line → Bool
is_lift (Some (Group g)) = false
is_lift (Some (Operator x)) = false
is_lift (Some (Lift p n)) = true
is_lift (Some (Mark g)) = false
is_lift (Some End) = false
is_lift None = false

no_lift : {X : Type 0} (l : Option Line) (p n : ℕ) → is_lift l ≡ false → l ≡ Some (Lift p n) → X
no_lift l p n e f = absurd (true≢false (sym (ap is_lift f) ∙ e))

other : (b : Bool) (x y : Option Line) → is_lift x ≡ false → is_lift y ≡ false → is_lift (cond b x y) ≡ false
other b x y p q = either (λ l. is_lift l ≡ false) b x y (λ _. p) q

bare_other : (rules : Rules) (k : ℕ) → is_lift (bare rules k) ≡ false
bare_other rules k =
    other (eqb k (letter_for union)) _ _ refl (other (eqb k (letter_for difference)) _ _ refl
    (other (eqb k (letter_for intersection) && rules.intersections) _ _ refl (other (eqb k letter_e) _ _ refl refl)))

ranged_other : (passes : ℕ → Bool) (form : ℕ → Option Line) (o : Option ℕ) → ((g : ℕ) → is_lift (form g) ≡ false) → is_lift (ranged passes form o) ≡ false
ranged_other passes form None f = refl
ranged_other passes form (Some g) f = other (passes g) _ _ (f g) refl

one_other : (rules : Rules) (k : ℕ) (o : Option ℕ) → is_lift (one_number rules k o) ≡ false
one_other rules k o = other (eqb k letter_g) _ _ (ranged_other _ (λ g. Some (Group g)) o (λ g. refl)) (other (eqb k letter_k) _ _ (ranged_other _ (λ g. Some (Mark g)) o (λ g. refl)) refl)

-- a letter is one byte
letter_one : (k : List ℕ) → letter_of k ≡ letter_l → length k ≡ 1
letter_one [] e = absurd (omega arith)
letter_one (b ∷ []) e = refl
letter_one (b ∷ (c ∷ k)) e = absurd (omega arith)

two_long : (k f g : List ℕ) (p n : ℕ) → two_numbers (letter_of k) (decimal f) (decimal g) ≡ Some (Lift p n) → (length k ≡ 1) × (1 ≤ length f) × (1 ≤ length g)
two_long k f g p n e = go (eqb (letter_of k) letter_l) refl (decimal f) refl (decimal g) refl e
  where
    go : (b : Bool) → eqb (letter_of k) letter_l ≡ b → (x : Option ℕ) → decimal f ≡ x → (y : Option ℕ) → decimal g ≡ y
        → cond b (ranged is_position (λ p. ranged is_levels (λ n. Some (Lift p n)) y) x) None ≡ Some (Lift p n) → (length k ≡ 1) × (1 ≤ length f) × (1 ≤ length g)
    go true q (Some x) r (Some y) s e = (letter_one k (eqb-true (letter_of k) letter_l q), decimal_some f x r, decimal_some g y s)
    go true q (Some x) r None s e = no_lift (cond (is_position x) None None) p n (other (is_position x) _ _ refl refl) e
    go true q None r y s e = no_lift None p n refl e
    go false q x r y s e = no_lift None p n refl e

long_enough : (rules : Rules) (ps : Parts) (p n : ℕ) → form_of rules ps ≡ Some (Lift p n) → 5 ≤ length (join tab ps)
unfolding form_of join
long_enough rules (last k) p n e = no_lift (bare rules (letter_of k)) p n (bare_other rules (letter_of k)) e
long_enough rules (part k (last f)) p n e = no_lift (one_number rules (letter_of k) (decimal f)) p n (one_other rules (letter_of k) (decimal f)) e
long_enough rules (part k (part f (last g))) p n e =
    let z = two_long k f g p n e in omega (arith, length-append k (tab ∷ (f ++ (tab ∷ g))), length-append f (tab ∷ g), z.0, z.1, z.2)
long_enough rules (part k (part f (part g fs))) p n e = no_lift None p n refl e

line_long : (rules : Rules) (l : List ℕ) (p n : ℕ) → line_of rules l ≡ Some (Lift p n) → 5 ≤ length l
unfolding line_of
line_long rules l p n e = rw (join_split tab l) at (long_enough rules (split tab l) p n e)

-- the line after a lift line begins at least 6 bytes on, within the sheet
pub lift_line_long : (rules : Rules) (sheet : List ℕ) (at p n : ℕ) → (line_at rules sheet at).line ≡ Some (Lift p n) → (at + 6 ≤ (line_at rules sheet at).next) × ((line_at rules sheet at).next ≤ length sheet)
unfolding line_at join
lift_line_long rules sheet at p n e = go (split line_feed (drop at sheet)) (join_split line_feed (drop at sheet)) e
  where
    go : (ps : Parts) → join line_feed ps ≡ drop at sheet → (first_line rules at ps).line ≡ Some (Lift p n) → (at + 6 ≤ (first_line rules at ps).next) × ((first_line rules at ps).next ≤ length sheet)
    go (last l) j e = no_lift None p n refl e
    go (part l ls) j e =
        let z = line_long rules l p n e in
        (omega arith, omega (arith, ap length j, length-append l (line_feed ∷ join line_feed ls), length-drop at sheet))

pub lifts_most : (rules : Rules) (sheet : List ℕ) (at : ℕ) (ms : List LiftLine) (to : ℕ) → at ≤ length sheet → LiftsTo rules sheet at ms to → at + 6 * length ms ≤ length sheet
unfolding LiftsTo
lifts_most rules sheet at [] to h z = omega arith
lifts_most rules sheet at (m ∷ ms) to h z =
    let w = lift_line_long rules sheet at m.position m.levels z.0 in
    omega (arith, w.0, w.1, lifts_most rules sheet (line_at rules sheet at).next ms to w.1 z.2)

pub lifts_few : (rules : Rules) (sheet : List ℕ) (at : ℕ) (ms : List LiftLine) (to : ℕ) → LiftsTo rules sheet at ms to → 6 * length ms ≤ length sheet
unfolding LiftsTo
lifts_few rules sheet at [] to z = omega arith
lifts_few rules sheet at (m ∷ ms) to z =
    let w = lift_line_long rules sheet at m.position m.levels z.0 in
    omega (arith, lifts_most rules sheet at (m ∷ ms) to (omega (arith, w.0, w.1)) z)
