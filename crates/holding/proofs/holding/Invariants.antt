use mathlib.Core.Path.{◌≡◌}
use Prim.Native.Nat.{◌≤◌}
use lib.ListN.{length}
use Rattle.tree.specs.Tree.{Tree, postfix, is_in}
use Rattle.tree.proofs.PassLaws.{Passing}
use Rattle.holding.specs.InnerHolding.{leaf_status, node_status}
use Rattle.holding.specs.declared.Status.TheVariants.{Free}
use Rattle.holding.proofs.holding.Given as goal

abbrev pub invariant-loop-at : goal.invariant-loop-at
invariant-loop-at l = (l.top ≤ l.at) × (length l.stack ≡ 8191) × ((t : Tree) → l.list ≡ postfix t → Passing (leaf_status (is_in l.marks)) node_status Free t l.at l.stack l.top)
