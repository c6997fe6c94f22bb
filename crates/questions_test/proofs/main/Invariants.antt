-- No more come back than were tried.
use Rattle.std.proofs.Common.{◌≤◌}
use Rattle.questions_test.proofs.main.Given as goal

abbrev pub invariant-loop-index : goal.invariant-loop-index
invariant-loop-index l = l.back ≤ l.index
