use mathlib.Core.List.{List}
use Prim.Native.Nat.{◌≤◌}
use lib.ListN.{length, take}
use Rattle.tree.specs.Tree.{Tree}
use Rattle.moves.specs.Moves.{MoveTable}
use Rattle.moves.specs.InnerEntries.{TableIs}
use Rattle.sheet.specs.Reading.{LiftLine}
use Rattle.lift_lines.specs.Inner.{IsList, Asked}
use Rattle.lift_lines.proofs.LiftAllLaws.{Reached}
use Rattle.lift_lines.proofs.lift_all.Given as goal

abbrev pub invariant-loop : goal.invariant-loop
invariant-loop l =
    (l.progress.nodes ≤ length l.tree)
    × ((m : MoveTable) → TableIs m l.table.signs.now l.table.lengths.now → (t : Tree) (ls : List LiftLine) → IsList (take l.nodes l.initial.tree) t → Asked l.sheet l.start l.count ls → Reached m l.sheet t ls l.count l.counter l.tree l.progress.nodes l.initial.out l.out l.at l.progress.next)
