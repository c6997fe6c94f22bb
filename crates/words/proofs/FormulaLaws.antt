-- What it says of trees that a formula may stand for another: it names A once and one level higher, names the parts that the other names, and
-- agrees with it under all sixteen fillings of A, B, C and D.
use mathlib.Core.Path.{◌≡◌, refl, sym, ap, subst, ◌∙◌}
use mathlib.Core.Bool.{Bool, true, false, not, cond, ◌&&◌, ◌||◌, beq}
use mathlib.Core.List.{[], ◌∷◌, ◌++◌, map, map-append}
use Prim.Native.Nat.{◌+◌}
use native.Mathlib.Omega.{arith}
use lib.Dec.{T, eqb, eqb→eq}
use lib.ListN.{length, length-append}
use Rattle.tree.specs.Tree.{Operator, Basic, operator_of, Tree, node, apply}
use Rattle.tree.specs.Context.{Side, left, right, frame, plug}
use Rattle.tree.proofs.TreeLaws.{and_left, and_right}
use Rattle.tree.proofs.ContextLaws.{plug_append}
use Rattle.words.specs.Formula.{Formula, A, B, C, D, join, names_a, value, frames_of, once, level_of_a, above, agree}
use Rattle.words.proofs.Cases.{equal_bools, at_filling}

-- ---- the test
-- an operator that asks both of its operands: with it a formula's value asks each part that the formula names
abbrev pub both : Operator → Bool → Bool → Bool
both o x y = x && y

-- p may stand for l
abbrev pub replaces : Formula → Formula → Bool
replaces p l = (once p && once l) && (eqb (level_of_a p + 1) (level_of_a l) && (agree apply p l && agree both p l))

-- ---- what it says
pub record Replaces (p l : Formula) : Type 0 where
  pub once_new : T (once p)
  pub once_old : T (once l)
  pub higher : level_of_a p + 1 ≡ level_of_a l
  pub selects_same : T (agree apply p l)
  pub parts_same : T (agree both p l)

pub may_replace : (p l : Formula) → T (replaces p l) → Replaces p l
may_replace p l t =
    let named = and_left (once p && once l) _ t in
    let other = and_right (once p && once l) _ t in
    let fillings = and_right (eqb (level_of_a p + 1) (level_of_a l)) _ other in
    record {
      once_new = and_left (once p) (once l) named;
      once_old = and_right (once p) (once l) named;
      higher = eqb→eq (level_of_a p + 1) (level_of_a l) (and_left (eqb (level_of_a p + 1) (level_of_a l)) _ other);
      selects_same = and_left (agree apply p l) (agree both p l) fillings;
      parts_same = and_right (agree apply p l) (agree both p l) fillings;
    }

pub agree_at : (f : Operator → Bool → Bool → Bool) (p q : Formula) → T (agree f p q) → (a b c d : Bool) → value f a b c d p ≡ value f a b c d q
agree_at f p q t a b c d = equal_bools _ _ (at_filling (λ a b c d. beq (value f a b c d p) (value f a b c d q)) t a b c d)

-- ---- A's context in a formula
neither_left : (m n : Bool) → T (not (m || n)) → T (not m)
neither_left true n t = t
neither_left false n t = tt

neither_right : (m n : Bool) → T (not (m || n)) → T (not n)
neither_right true n t = absurd t
neither_right false n t = t

-- a formula that does not name A has the same value whatever A is
pub without_a : (a a' b c d : Tree) (p : Formula) → T (not (names_a p)) → value node a b c d p ≡ value node a' b c d p
without_a a a' b c d A t = absurd t
without_a a a' b c d B t = refl
without_a a a' b c d C t = refl
without_a a a' b c d D t = refl
without_a a a' b c d (join o p q) t =
    cc (without_a a a' b c d p (neither_left (names_a p) (names_a q) t), without_a a a' b c d q (neither_right (names_a p) (names_a q) t))

-- A in its context in a formula is the formula
pub plug_frames : (a b c d : Tree) (p : Formula) → T (once p) → plug a (frames_of b c d p) ≡ value node a b c d p
unfolding plug
plug_frames a b c d A t = refl
plug_frames a b c d B t = absurd t
plug_frames a b c d C t = absurd t
plug_frames a b c d D t = absurd t
plug_frames a b c d (join o p q) t = go (plug_frames a b c d p) (plug_frames a b c d q) (names_a p) refl t
  where
    go : (T (once p) → plug a (frames_of b c d p) ≡ value node a b c d p) → (T (once q) → plug a (frames_of b c d q) ≡ value node a b c d q)
        → (m : Bool) → names_a p ≡ m → T (cond m (once p && not (names_a q)) (once q))
        → plug a (cond m (frames_of b c d p ++ (frame left (operator_of o) (value node b b c d q) ∷ [])) (frames_of b c d q ++ (frame right (operator_of o) (value node b b c d p) ∷ [])))
        ≡ node (operator_of o) (value node a b c d p) (value node a b c d q)
    go hp hq true e t =
        plug_append a (frames_of b c d p) _
        ∙ cc (hp (and_left (once p) (not (names_a q)) t), without_a a b b c d q (and_right (once p) (not (names_a q)) t))
    go hp hq false e t =
        plug_append a (frames_of b c d q) _ ∙ cc (hq t, without_a a b b c d p (subst (λ (m : Bool). T (not m)) (sym e) tt))

-- there are as many frames above A as its level
pub above_level : {X : Type 0} (f : Side → Basic → Formula → X) (p : Formula) → length (above f p) ≡ level_of_a p
above_level f A = refl
above_level f B = refl
above_level f C = refl
above_level f D = refl
above_level f (join o p q) = go (above_level f p) (above_level f q) (names_a p)
  where
    go : length (above f p) ≡ level_of_a p → length (above f q) ≡ level_of_a q → (m : Bool)
        → length (cond m (above f p ++ (f left o q ∷ [])) (above f q ++ (f right o p ∷ []))) ≡ cond m (level_of_a p) (level_of_a q) + 1
    go h k true = simp length-append (omega arith)
    go h k false = simp length-append (omega arith)

-- ---- what is made of the frames above A does not ask how they were made
pub map_above : {X Y : Type 0} (g : X → Y) (f : Side → Basic → Formula → X) (p : Formula) → map g (above f p) ≡ above (λ s o q. g (f s o q)) p
map_above g f A = refl
map_above g f B = refl
map_above g f C = refl
map_above g f D = refl
map_above g f (join o p q) = go (map_above g f p) (map_above g f q) (names_a p)
  where
    go : map g (above f p) ≡ above (λ s o q. g (f s o q)) p → map g (above f q) ≡ above (λ s o q. g (f s o q)) q → (m : Bool)
        → map g (cond m (above f p ++ (f left o q ∷ [])) (above f q ++ (f right o p ∷ [])))
        ≡ cond m (above (λ s o q. g (f s o q)) p ++ (g (f left o q) ∷ [])) (above (λ s o q. g (f s o q)) q ++ (g (f right o p) ∷ []))
    go hp hq true = map-append g (above f p) (f left o q ∷ []) ∙ ap (λ x. x ++ (g (f left o q) ∷ [])) hp
    go hp hq false = map-append g (above f q) (f right o p ∷ []) ∙ ap (λ x. x ++ (g (f right o p) ∷ [])) hq
