-- What an entry that may stand for its left side keeps of the whole tree, wherever it stands: what the tree selects in every rig, which groups
-- its leaves have, and that it is without `I`.
use mathlib.Core.Path.{◌≡◌, refl, sym, ap, ap₂, ◌∙◌}
use mathlib.Core.Bool.{Bool, true, false, ◌&&◌, false≢true}
use mathlib.Core.List.{List, [], ◌∷◌, ◌++◌}
use Prim.Native.Nat.{ℕ}
use lib.Dec.{T}
use Rattle.tree.specs.Tree.{Operator, union, difference, intersection, plus, minus, operator_of, Tree, leaf, node, selects, apply, Over, WithoutIntersection}
use Rattle.tree.specs.Context.{left, right, Frame, frame, plug}
use Rattle.tree.proofs.ContextLaws.{plug_append}
use Rattle.words.specs.Formula.{Formula, A, B, C, D, join, value, frames_of, once}
use Rattle.words.proofs.Cases.{first_true, second_true}
use Rattle.words.proofs.FormulaLaws.{both, plug_frames}

-- ---- what the tree comes to, for operators that mean f
module _ (f : Operator → Bool → Bool → Bool) (v : ℕ → Bool) where
  unfoldable pub evaluate : Tree → Bool
  evaluate (leaf g h) = v g
  evaluate (node o l r) = f o (evaluate l) (evaluate r)

  evaluate_value : (a b c d : Tree) (p : Formula) → evaluate (value node a b c d p) ≡ value f (evaluate a) (evaluate b) (evaluate c) (evaluate d) p
  unfolding evaluate
  evaluate_value a b c d A = refl
  evaluate_value a b c d B = refl
  evaluate_value a b c d C = refl
  evaluate_value a b c d D = refl
  evaluate_value a b c d (join o p q) = ap₂ (f (operator_of o)) (evaluate_value a b c d p) (evaluate_value a b c d q)

  evaluate_plug : (t u : Tree) (c : List Frame) → evaluate t ≡ evaluate u → evaluate (plug t c) ≡ evaluate (plug u c)
  unfolding evaluate plug
  evaluate_plug t u [] e = e
  evaluate_plug t u (frame left o b ∷ c) e = evaluate_plug (node o t b) (node o u b) c (ap (λ (x : Bool). f o x (evaluate b)) e)
  evaluate_plug t u (frame right o b ∷ c) e = evaluate_plug (node o b t) (node o b u) c (ap (f o (evaluate b)) e)

  in_place : (a b c d : Tree) (p : Formula) → T (once p) → (r : List Frame) → evaluate (plug a (frames_of b c d p ++ r)) ≡ evaluate (plug (value node a b c d p) r)
  in_place a b c d p t r = ap evaluate (plug_append a (frames_of b c d p) r ∙ ap (λ (x : Tree). plug x r) (plug_frames a b c d p t))

  pub entry_same : (p l : Formula) → T (once p) → T (once l) → ((a b c d : Bool) → value f a b c d p ≡ value f a b c d l) → (a b c d : Tree) (r : List Frame)
      → evaluate (plug a (frames_of b c d p ++ r)) ≡ evaluate (plug a (frames_of b c d l ++ r))
  entry_same p l t u k a b c d r =
      in_place a b c d p t r
      ∙ evaluate_plug (value node a b c d p) (value node a b c d l) r
      (evaluate_value a b c d p ∙ k (evaluate a) (evaluate b) (evaluate c) (evaluate d) ∙ sym (evaluate_value a b c d l))
      ∙ sym (in_place a b c d l u r)

-- ---- with the operators' own meaning it is what the tree selects
pub evaluate_selects : (v : ℕ → Bool) (t : Tree) → evaluate apply v t ≡ selects v t
unfolding evaluate selects
evaluate_selects v (leaf g h) = refl
evaluate_selects v (node o l r) = ap₂ (apply o) (evaluate_selects v l) (evaluate_selects v r)

-- ---- with operators that ask both operands, whether all leaves are among some groups
both_true : (x y : Bool) → x ≡ true → y ≡ true → (x && y) ≡ true
both_true true y e f = f
both_true false y e f = e

pub over_evaluate : (m : ℕ → Bool) (t : Tree) → Over m t → evaluate both m t ≡ true
unfolding evaluate Over
over_evaluate m (leaf g h) o = o
over_evaluate m (node k l r) o = both_true (evaluate both m l) (evaluate both m r) (over_evaluate m l o.0) (over_evaluate m r o.1)

pub evaluate_over : (m : ℕ → Bool) (t : Tree) → evaluate both m t ≡ true → Over m t
unfolding evaluate Over
evaluate_over m (leaf g h) e = e
evaluate_over m (node k l r) e =
    (evaluate_over m l (first_true (evaluate both m l) (evaluate both m r) e), evaluate_over m r (second_true (evaluate both m l) (evaluate both m r) e))

-- ---- with operators of which `I` is never true, whether a tree is without `I`
abbrev pub plain : Operator → Bool → Bool → Bool
plain union x y = x && y
plain difference x y = x && y
plain intersection x y = false

-- a formula has none
pub value_plain : (a b c d : Bool) (p : Formula) → value plain a b c d p ≡ value both a b c d p
value_plain a b c d A = refl
value_plain a b c d B = refl
value_plain a b c d C = refl
value_plain a b c d D = refl
value_plain a b c d (join plus p q) = ap₂ ◌&&◌ (value_plain a b c d p) (value_plain a b c d q)
value_plain a b c d (join minus p q) = ap₂ ◌&&◌ (value_plain a b c d p) (value_plain a b c d q)

module _ (v : ℕ → Bool) (all : (g : ℕ) → v g ≡ true) where
  pub without_evaluate : (t : Tree) → WithoutIntersection t → evaluate plain v t ≡ true
  unfolding evaluate WithoutIntersection
  without_evaluate (leaf g h) w = all g
  without_evaluate (node union l r) w = both_true (evaluate plain v l) (evaluate plain v r) (without_evaluate l w.0) (without_evaluate r w.1)
  without_evaluate (node difference l r) w = both_true (evaluate plain v l) (evaluate plain v r) (without_evaluate l w.0) (without_evaluate r w.1)
  without_evaluate (node intersection l r) w = absurd w

pub evaluate_without : (v : ℕ → Bool) (t : Tree) → evaluate plain v t ≡ true → WithoutIntersection t
unfolding evaluate WithoutIntersection
evaluate_without v (leaf g h) e = tt
evaluate_without v (node union l r) e =
    (evaluate_without v l (first_true (evaluate plain v l) (evaluate plain v r) e), evaluate_without v r (second_true (evaluate plain v l) (evaluate plain v r) e))
evaluate_without v (node difference l r) e =
    (evaluate_without v l (first_true (evaluate plain v l) (evaluate plain v r) e), evaluate_without v r (second_true (evaluate plain v l) (evaluate plain v r) e))
evaluate_without v (node intersection l r) e = absurd (false≢true e)
