-- The loop of `of_word`: an array's first values are what is known of the formulas that wait, and what is left of the word comes to the
-- formula that the word is.
use mathlib.Core.Path.{◌≡◌, refl, sym, ap, ◌∙◌}
use mathlib.Core.Bool.{Bool, true, false, not, ◌&&◌, true≢false}
use mathlib.Core.Option.{some, none}
use mathlib.Core.List.{List, [], ◌∷◌}
use Prim.Native.Nat.{ℕ, ◌+◌, ◌-◌, ◌≤◌, ◌<◌}
use native.Mathlib.Omega.{arith}
use borrow.Author.Tests.{eqb-true, ne_eqb, leb-true, not-true}
use lib.Dec.{eqb, leb}
use lib.ListN.{length, get_or, set, drop, drop_of_length-le}
use lib.Seq.{get_or-set_same, get_or-set_other}
use Rattle.tree.specs.Tree.{Basic, plus, minus}
use Rattle.tree.proofs.PassLaws.{here}
use Rattle.words.specs.Formula.{Formula, join}
use Rattle.words.specs.Word.{operator_sign, Sign, part, operator, neither, sign_of, pushed, and_then, waiting, alone, formula_of}
use Rattle.words.proofs.Cases.{first_true, second_true}
use Rattle.left_sides.specs.declared.Known.{Known}
use Rattle.left_sides.specs.InnerKnown.{known, IsKnown, PartIs}

-- the last of an array's first `top` values is what is known of p, and the others are as `below` says
pub record OnTop (z : Known) (a : List Known) (p : Formula) (top : ℕ) (below : Type 0) : Type 0 where
  pub there : 1 ≤ top
  pub is : get_or a (top - 1) z ≡ known p
  pub others : below

-- an array's first `top` values are what is known of these formulas, the latest first
abbrev pub Held : Known → List Known → List Formula → ℕ → Type 0
Held z a [] top = top ≡ 0
Held z a (p ∷ ps) top = OnTop z a p top (Held z a ps (top - 1))

held_set : (z : Known) (a : List Known) (k : ℕ) (v : Known) (ps : List Formula) (top : ℕ) → top ≤ k → Held z a ps top → Held z (set a k v) ps top
held_set z a k v [] top l h = h
held_set z a k v (p ∷ ps) top l h = record {
  there = h.there;
  is = get_or-set_other a k (top - 1) v z (omega (arith, h.there)) ∙ h.is;
  others = held_set z a k v ps (top - 1) (omega arith) h.others;
}

-- a value pushed
held_push : (z : Known) (a : List Known) (v : Known) (p : Formula) (ps : List Formula) (k top : ℕ) → top ≡ k + 1 → k < length a → v ≡ known p → Held z a ps k
    → Held z (set a k v) (p ∷ ps) top
held_push z a v p ps k top t l e h =
    let f : top - 1 ≡ k = omega arith in
    record { there = omega arith; is = rw f (get_or-set_same a k v z l ∙ e); others = rw f (held_set z a k v ps k (omega arith) h) }

-- ---- signs, by the code's tests
abbrev is_part : ℕ → Bool
is_part s = leb 65 s && leb s 68

abbrev no_operator : ℕ → Bool
no_operator s = not (eqb s 43) && not (eqb s 45)

pub part_sign : (s : ℕ) → is_part s ≡ true → (65 ≤ s) × (s ≤ 68)
part_sign s e = (leb-true 65 s (first_true (leb 65 s) (leb s 68) e), leb-true s 68 (second_true (leb 65 s) (leb s 68) e))

no_sign : (s : ℕ) → is_part s ≡ false → no_operator s ≡ true → sign_of s ≡ neither
no_sign s e f =
    simp (out 65 refl, out 66 refl, out 67 refl, out 68 refl, not-true (eqb s 43) (first_true _ (not (eqb s 45)) f), not-true (eqb s 45) (second_true (not (eqb s 43)) _ f))
  where
    out : (k : ℕ) → is_part k ≡ true → eqb s k ≡ false
    out k t = ne_eqb s k (λ q. true≢false (sym t ∙ (rw q at e)))

pub operator_sign_lem : (s : ℕ) → no_operator s ≡ false → (o : Basic) × (s ≡ operator_sign o)
operator_sign_lem s e = go (eqb s 43) (eqb s 45) refl refl e
  where
    go : (x y : Bool) → eqb s 43 ≡ x → eqb s 45 ≡ y → (not x && not y) ≡ false → (o : Basic) × (s ≡ operator_sign o)
    go true y g h e = (plus, eqb-true s 43 g)
    go false true g h e = (minus, eqb-true s 45 h)
    go false false g h e = absurd (true≢false e)

sign_of_operator : (s : ℕ) (o : Basic) → s ≡ operator_sign o → sign_of s ≡ operator o
sign_of_operator s plus e = rw e
sign_of_operator s minus e = rw e

-- ---- the loop
-- these formulas wait before the sign at i, and the array holds what is known of them
pub record Reading (z : Known) (w : List ℕ) (i : ℕ) (a : List Known) (top : ℕ) : Type 0 where
  pub formulas : List Formula
  pub left : alone (waiting (drop i w) formulas) ≡ formula_of w
  pub held : Held z a formulas top

pub reading_start : (z : Known) (w : List ℕ) (a : List Known) → Reading z w 0 a 0
unfolding formula_of
reading_start z w a = record { formulas = []; left = refl; held = refl }

-- one sign on
turn : (w : List ℕ) (i : ℕ) (t : Sign) (ps : List Formula) → i < length w → sign_of (get_or w i 0) ≡ t
    → waiting (drop i w) ps ≡ and_then (pushed t ps) (λ ps. waiting (drop (i + 1) w) ps)
unfolding waiting
turn w i t ps h e = rw (here w i h) (ap (λ (t : Sign). and_then (pushed t ps) (λ ps. waiting (drop (i + 1) w) ps)) e)

module _ {z : Known} {w : List ℕ} {i : ℕ} {a : List Known} {top : ℕ} (R : Reading z w i a top) where
  pub reading_part : (v : Known) → i < length w → top < length a → PartIs (get_or w i 0) v → Reading z w (i + 1) (set a top v) (top + 1)
  reading_part v h l p = record {
    formulas = p.0 ∷ R.formulas;
    left = ap alone (sym (turn w i (part p.0) R.formulas h p.1)) ∙ R.left;
    held = held_push z a v p.0 R.formulas top (top + 1) refl l p.2 R.held;
  }

  pub reading_operator : (v : Known) (o : Basic) → i < length w → get_or w i 0 ≡ operator_sign o → 2 ≤ top → top ≤ length a
      → ((p q : Formula) → get_or a (top - 1 - 1) z ≡ known p → get_or a (top - 1) z ≡ known q → v ≡ known (join o p q))
      → Reading z w (i + 1) (set a (top - 1 - 1) v) (top - 1)
  reading_operator v o h s t l f = go R.formulas R.left R.held
    where
      go : (ps : List Formula) → alone (waiting (drop i w) ps) ≡ formula_of w → Held z a ps top → Reading z w (i + 1) (set a (top - 1 - 1) v) (top - 1)
      go [] e k = absurd (omega arith)
      go (q ∷ []) e k = absurd (omega (arith, k.others))
      go (q ∷ (p ∷ ps)) e k = record {
        formulas = join o p q ∷ ps;
        left = ap alone (sym (turn w i (operator o) (q ∷ (p ∷ ps)) h (sign_of_operator (get_or w i 0) o s))) ∙ e;
        held = held_push z a v (join o p q) ps (top - 1 - 1) (top - 1) (omega arith) (omega arith) (f p q k.others.is k.is) k.others.others;
      }

  -- the word makes no tree: by a sign that is none, an operator without its operands, or other than one formula at the end
  pub reading_neither : i < length w → is_part (get_or w i 0) ≡ false → no_operator (get_or w i 0) ≡ true → formula_of w ≡ none
  reading_neither h e f = sym R.left ∙ ap alone (turn w i neither R.formulas h (no_sign (get_or w i 0) e f))

  pub reading_few : (o : Basic) → i < length w → get_or w i 0 ≡ operator_sign o → top < 2 → formula_of w ≡ none
  reading_few o h s t = sym R.left ∙ ap alone (turn w i (operator o) R.formulas h (sign_of_operator (get_or w i 0) o s)) ∙ go R.formulas R.held
    where
      go : (ps : List Formula) → Held z a ps top → alone (and_then (pushed (operator o) ps) (λ ps. waiting (drop (i + 1) w) ps)) ≡ none
      go [] k = refl
      go (q ∷ []) k = refl
      go (q ∷ (p ∷ ps)) k = absurd (omega (arith, k.others.there))

  all_read : length w ≤ i → alone (some R.formulas) ≡ formula_of w
  unfolding waiting
  all_read h = rw (drop_of_length-le w h) at R.left

  pub reading_several : length w ≤ i → (top ≡ 1 → ⊥) → formula_of w ≡ none
  reading_several h n = sym (all_read h) ∙ go R.formulas R.held
    where
      go : (ps : List Formula) → Held z a ps top → alone (some ps) ≡ none
      go [] k = refl
      go (p ∷ []) k = absurd (n (omega (arith, k.others, k.there)))
      go (p ∷ (q ∷ ps)) k = refl

  pub reading_end : length w ≤ i → top ≡ 1 → IsKnown (formula_of w) (get_or a 0 z)
  reading_end h t = go R.formulas R.held (all_read h)
    where
      go : (ps : List Formula) → Held z a ps top → alone (some ps) ≡ formula_of w → IsKnown (formula_of w) (get_or a 0 z)
      go [] k e = absurd (omega arith)
      go (p ∷ []) k e = let f : top - 1 ≡ 0 = omega arith in (p, sym e, rw f at k.is)
      go (p ∷ (q ∷ ps)) k e = absurd (omega (arith, k.others.there))
