-- What a list of lifts by a right table keeps of the tree as written: what it selects, the groups of its leaves, that it is without `I`, and the limit.
use mathlib.Core.Path.{◌≡◌, refl, subst}
use mathlib.Core.List.{List, [], ◌∷◌}
use Prim.Native.Nat.{◌≤◌}
use native.Mathlib.Omega.{arith}
use Rattle.tree.specs.Tree.{Tree, size, most_nodes, WithoutIntersection}
use Rattle.tree.proofs.TreeLaws.{equivalent_refl, equivalent_trans}
use Rattle.lift.specs.Lift.{Result, refused, lifted}
use Rattle.lift.proofs.LiftLaws.{Keeps, Kept, LiftedKeeps, lift_in_keeps}
use Rattle.moves.specs.Moves.{MoveTable}
use Rattle.moves.proofs.MoveLaws.{Right}
use Rattle.sheet.specs.Reading.{LiftLine}
use Rattle.printing.specs.Key.{LiftAnswer}
use Rattle.lift_lines.specs.Lifting.{lifting, tree_left, lift_answer, tree_after, lift_answers}

pub keeps_refl : (t : Tree) → size t ≤ most_nodes → Keeps t t
keeps_refl t h = record { equivalent = equivalent_refl t; over = λ m o. o; over_back = λ m o. o; without = λ w. w; most = h }

pub keeps_trans : {t u w : Tree} → Keeps t u → Keeps u w → Keeps t w
keeps_trans f g = record {
  equivalent = equivalent_trans g.equivalent f.equivalent;
  over = λ m o. g.over m (f.over m o);
  over_back = λ m o. f.over_back m (g.over_back m o);
  without = λ w. g.without (f.without w);
  most = g.most;
}

-- one lift, done or refused
pub left_keeps : {m : MoveTable} → Right m → (t : Tree) (l : LiftLine) → size t ≤ most_nodes → Keeps t (tree_left t (lifting m t l))
left_keeps {m} R t l h = go (lifting m t l) refl
  where
    go : (x : Result) → lifting m t l ≡ x → Keeps t (tree_left t x)
    go (refused n) e = keeps_refl t h
    go (lifted u p n) e =
        let K : LiftedKeeps t l.levels u p n = subst (Kept t l.levels) e (lift_in_keeps R t l.position l.levels h) in
        K.keeps

-- the whole list
pub after_keeps : {m : MoveTable} → Right m → (t : Tree) (ls : List LiftLine) → size t ≤ most_nodes → Keeps t (tree_after m t ls)
unfolding tree_after
after_keeps R t [] h = keeps_refl t h
after_keeps {m} R t (l ∷ ls) h = let K = left_keeps R t l h in keeps_trans K (after_keeps R (tree_left t (lifting m t l)) ls K.most)

-- ---- in a tree without `I` no lift is answered with 27
unfoldable pub AllAnswers : (LiftAnswer → Type 0) → List LiftAnswer → Type 0
AllAnswers P [] = Unit {0}
AllAnswers P (a ∷ ls) = P a × AllAnswers P ls

pub never_27 : {m : MoveTable} → Right m → (t : Tree) (ls : List LiftLine) → size t ≤ most_nodes → WithoutIntersection t → AllAnswers (λ a. a.number ≡ 27 → ⊥) (lift_answers m t ls)
unfolding lift_answers AllAnswers
never_27 R t [] h w = tt
never_27 {m} R t (l ∷ ls) h w =
    let K = left_keeps R t l h in
    (first (lifting m t l) (lift_in_keeps R t l.position l.levels h), never_27 R (tree_left t (lifting m t l)) ls K.most (K.without w))
  where
    first : (x : Result) → Kept t l.levels x → (lift_answer l x).number ≡ 27 → ⊥
    first (refused n) K e = K.not_27 w e
    first (lifted u p n) K e = omega arith
