-- Document 01, "The key program": the lifts of a sheet, in order, by a move table.
use Rattle.std.specs.Prelude.{List, [], ◌∷◌}
use Rattle.std.proofs.Math.Option.{some}
use Rattle.tree.specs.Tree.{Tree}
use Rattle.sheet.specs.Reading.{LiftLine}
use Rattle.moves.specs.Moves.{MoveTable}
use Rattle.lift.specs.Lift.{Result, refused, lifted, lift_in}
use Rattle.printing.specs.Key.{LiftAnswer}

-- a lift in a tree, by 01's definition
abbrev pub lifting : MoveTable → Tree → LiftLine → Result
lifting m t l = lift_in m (some t) l.position l.levels

-- "A refused lift leaves the tree and the next goes on."
abbrev pub tree_left : Tree → Result → Tree
tree_left t (refused number) = t
tree_left t (lifted u position looks) = u

-- "`LIFT` number position looks (number 0 if done; if refused, the line's own position and 0)"
abbrev pub lift_answer : LiftLine → Result → LiftAnswer
lift_answer l (refused number) = record { number = number; position = l.position; looks = 0 }
lift_answer l (lifted u position looks) = record { number = 0; position = position; looks = looks }

-- "The first lift gets the tree as read, each later one the tree that the lift before it left": the tree that the list leaves,
unfoldable pub tree_after : MoveTable → Tree → List LiftLine → Tree
tree_after m t [] = t
tree_after m t (l ∷ ls) = tree_after m (tree_left t (lifting m t l)) ls

-- and the answers, in order
unfoldable pub lift_answers : MoveTable → Tree → List LiftLine → List LiftAnswer
lift_answers m t [] = []
lift_answers m t (l ∷ ls) = lift_answer l (lifting m t l) ∷ lift_answers m (tree_left t (lifting m t l)) ls
