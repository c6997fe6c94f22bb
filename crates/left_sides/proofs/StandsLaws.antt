-- What is known of a word and of a left side's word decides whether the word may stand for the left side.
use mathlib.Core.Path.{◌≡◌, refl, sym, ap, ◌∙◌}
use mathlib.Core.Bool.{Bool, true, false, cond, ◌&&◌, beq}
use mathlib.Core.Option.{some, none}
use mathlib.Core.List.{List}
use Prim.Native.Nat.{ℕ}
use native.Mathlib.Omega.{arith}
use lib.Dec.{eqb}
use lib.Pointwise.{pointwise}
use borrow.Author.Tests.{eq-eqb, ne_eqb, eqb-true, eqb-false}
use Rattle.tree.specs.Tree.{apply}
use Rattle.words.specs.Formula.{Formula, once, level_of_a, agree}
use Rattle.words.specs.Word.{word, formula_of}
use Rattle.words.proofs.ReadLaws.{formula_of_word}
use Rattle.moves.specs.Moves.{State, Input}
use Rattle.moves.specs.LeftSides.{left_side, entry_for}
use Rattle.left_sides.specs.declared.Known.{Known}
use Rattle.left_sides.specs.InnerKnown.{capped, IsKnown}
use Rattle.left_sides.specs.InnerStands.{is_formula}
use Rattle.left_sides.proofs.MeaningLaws.{agree_alike}

-- level 2 is not capped
level_two : (n : ℕ) → eqb (capped n) 2 ≡ eqb n 2
level_two n = go (eqb n 2) refl
  where
    go : (b : Bool) → eqb n 2 ≡ b → eqb (capped n) 2 ≡ b
    go true e = eq-eqb (capped n) 2 (omega (arith, eqb-true n 2 e))
    go false e = ne_eqb (capped n) 2 (λ h. eqb-false n 2 e (omega arith))

-- a word that is no formula stands nowhere, and a left side's is one
pub stands_not : (x : State) (i : Input) (w : List ℕ) → formula_of w ≡ none → false ≡ is_formula (entry_for x i w)
stands_not x i w e = rw e

pub side_formula : {A : Type 0} (x : State) (i : Input) (side : List ℕ) → side ≡ word (left_side x i) → formula_of side ≡ none → A
side_formula x i side e f = absurd (none_some (sym f ∙ ap formula_of e ∙ formula_of_word (left_side x i)))
  where
    none_some : {p : Formula} → none ≡ some p → ⊥
    none_some q = cc

-- the test of the code
pub stands_is : (x : State) (i : Input) (w side : List ℕ) (found wanted : Known) (second same : Bool) → side ≡ word (left_side x i)
    → IsKnown (formula_of w) found → IsKnown (formula_of side) wanted → second ≡ eqb found.level 2 → same ≡ pointwise beq found.meaning wanted.meaning
    → (found.once && (second && same)) ≡ is_formula (entry_for x i w)
stands_is x i w side found wanted second same e F W l s =
    let p = F.0 in
    let q : some W.0 ≡ some (left_side x i) = sym W.1 ∙ ap formula_of e ∙ formula_of_word (left_side x i) in
    let r : W.0 ≡ left_side x i = cc in
    rw (l, s, F.2, W.2, r, F.1, level_two (level_of_a p), ← agree_alike p (left_side x i)) (go p (once p && (eqb (level_of_a p) 2 && agree apply p (left_side x i))))
  where
    go : (p : Formula) (b : Bool) → b ≡ is_formula (cond b (some p) none)
    go p true = refl
    go p false = refl
