use mathlib.Core.Path.{◌≡◌}
use mathlib.Core.List.{reverse}
use Prim.Native.Nat.{◌+◌, ◌≤◌, ◌<◌}
use lib.ListN.{length, take}
use Rattle.tree.specs.InnerScan.{backward}
use Rattle.tree.proofs.scan_backward.Given as goal

abbrev pub invariant-loop-i : goal.invariant-loop-i
invariant-loop-i l = (0 < l.operands) × (l.operands + l.i ≤ length l.list + 1) × (backward l.operands (reverse (take l.i l.list)) ≡ backward 1 (reverse (take l.to l.list)))
