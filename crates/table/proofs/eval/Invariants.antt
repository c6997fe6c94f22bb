use mathlib.Core.Path.{◌≡◌}
use mathlib.Core.List.{List}
use Prim.Native.Nat.{ℕ, ◌≤◌, ◌-◌}
use lib.ListN.{length}
use Rattle.tree.specs.Tree.{Tree, postfix}
use Rattle.table.specs.InnerTable.{filling, ArePlaces}
use Rattle.table.proofs.EvalLaws.{Evaluating}
use Rattle.table.proofs.eval.Given as goal

abbrev pub invariant-loop-i : goal.invariant-loop-i
invariant-loop-i l =
    (l.i ≤ length l.list) × (l.top ≤ l.i) × (length l.waiting ≡ 8191)
    × ((t : Tree) (groups : List ℕ) → l.list ≡ postfix t → ArePlaces l.list groups l.places → Evaluating (filling groups l.row) t l.list l.i l.waiting l.top l.value)

abbrev pub decreases-loop-i : goal.decreases-loop-i
decreases-loop-i l = length l.list - l.i
