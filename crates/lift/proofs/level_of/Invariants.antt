use mathlib.Core.Path.{◌≡◌}
use Prim.Native.Nat.{◌+◌, ◌≤◌}
use lib.ListN.{drop}
use Rattle.lift.proofs.LevelLaws.{rises}
use Rattle.lift.proofs.level_of.Given as goal

abbrev pub invariant-loop-entry : goal.invariant-loop-entry
invariant-loop-entry l =
    (l.operands ≤ l.entry-index) × (l.level ≤ l.entry-index) × (l.level + rises l.operands (drop l.entry-index l.entry-items) ≡ rises 0 (drop l.to l.list))
