-- The index stays within the buffer.
use Rattle.std.proofs.Common.{◌≤◌, length}
use Rattle.sheet_test.proofs.cases.repeat.Given as goal

abbrev pub invariant-loop : goal.invariant-loop
invariant-loop l = l.next ≤ length l.out
