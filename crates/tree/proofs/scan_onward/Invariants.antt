use mathlib.Core.Path.{◌≡◌}
use Prim.Native.Nat.{◌+◌, ◌-◌, ◌≤◌}
use lib.ListN.{drop}
use Rattle.tree.specs.InnerScan.{onward}
use Rattle.tree.proofs.scan_onward.Given as goal

-- the operands are the part and those after it
abbrev pub invariant-loop-i : goal.invariant-loop-i
invariant-loop-i l = (1 ≤ l.operands) × (l.operands ≤ l.i + 2) × (l.i + onward (l.operands - 1) (drop l.i l.list) ≡ l.to + onward 0 (drop l.to l.list))
