use mathlib.Core.Path.{◌≡◌}
use mathlib.Core.List.{List}
use Prim.Native.Nat.{◌+◌, ◌*◌, ◌≤◌}
use lib.ListN.{length, take}
use Rattle.tree.specs.Tree.{Tree, most_nodes}
use Rattle.tree.specs.Context.{Frame}
use Rattle.moves.specs.Moves.{MoveTable}
use Rattle.moves.specs.InnerEntries.{TableIs}
use Rattle.step.specs.InnerStanding.{Standing}
use Rattle.lift.proofs.RunLaws.{Reached}
use Rattle.lift.proofs.run.Given as goal

abbrev pub invariant-loop-left : goal.invariant-loop-left
invariant-loop-left l =
    (l.made.nodes ≤ most_nodes)
    × (most_nodes ≤ length l.from)
    × (most_nodes ≤ length l.into)
    × (l.looks + most_nodes * l.left ≤ most_nodes * most_nodes)
    × (l.out ≡ l.initial.out)
    × ((m : MoveTable) → TableIs m l.table.signs.now l.table.lengths.now → (a : Tree) (c : List Frame) → Standing (take l.nodes l.initial.from) l.initial.made.node a c
    → Reached m a c l.levels l.looks-2 (take l.made.nodes l.from) l.made.node l.left l.looks)

abbrev pub decreases-loop-left : goal.decreases-loop-left
decreases-loop-left l = l.left
