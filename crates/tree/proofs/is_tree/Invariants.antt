use mathlib.Core.Path.{◌≡◌}
use Prim.Native.Nat.{◌≤◌}
use lib.ListN.{drop}
use Rattle.tree.specs.Parse.{tree_of, is_some}
use Rattle.tree.proofs.ParseLaws.{formed}
use Rattle.tree.proofs.is_tree.Given as goal

abbrev pub invariant-loop-x : goal.invariant-loop-x
invariant-loop-x l = (l.waiting ≤ l.x-index) × (formed l.waiting (drop l.x-index l.list) ≡ is_some (tree_of l.list))
