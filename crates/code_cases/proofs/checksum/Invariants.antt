-- The sum stays below the modulus.
use Rattle.std.proofs.Common.{◌<◌}
use Rattle.code_cases.proofs.checksum.Given as goal

abbrev pub invariant-loop-x : goal.invariant-loop-x
invariant-loop-x l = l.sum < 1000000007
