-- The groups found are being written: their list is `.0`, how many they are `.1.0`.
use mathlib.Core.Path.{◌≡◌}
use Prim.Native.Nat.{◌≤◌}
use lib.ListN.{length, take, drop}
use Rattle.tree.specs.Tree.{collect}
use Rattle.tree.specs.InnerGroups.{leaves_in}
use Rattle.tree.proofs.add_groups.Given as goal

abbrev pub invariant-loop-x : goal.invariant-loop-x
invariant-loop-x l = (l.found.1.0 ≤ 8) × (length l.found.0 ≡ 8) × (collect (take l.found.1.0 l.found.0) (leaves_in (drop l.x-index l.list)) ≡ collect (take l.fn.known.count l.fn.known.list) (leaves_in l.list))
