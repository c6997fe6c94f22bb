use mathlib.Core.Path.{◌≡◌}
use mathlib.Core.Bool.{false}
use Prim.Native.Nat.{ℕ, ◌<◌}
use lib.ListN.{get_or}
use Rattle.tree.specs.Tree.{Tree, postfix}
use Rattle.table.specs.InnerTable.{value_at}
use Rattle.table.proofs.table.Given as goal

abbrev pub invariant-loop-row : goal.invariant-loop-row
invariant-loop-row l = (t : Tree) → l.list ≡ postfix t → (i : ℕ) → i < l.row → get_or l.value-items i false ≡ value_at l.groups t i
