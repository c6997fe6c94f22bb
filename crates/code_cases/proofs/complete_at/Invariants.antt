-- The part that holds the position has at least one node, and each turn halves it.
use Rattle.std.proofs.Common.{◌≤◌}
use Rattle.code_cases.proofs.complete_at.Given as goal

abbrev pub invariant-loop-p : goal.invariant-loop-p
invariant-loop-p l = 1 ≤ l.size

abbrev pub decreases-loop-p : goal.decreases-loop-p
decreases-loop-p l = l.size
