-- The lowest digit that is set.
use native.Mathlib.Omega.{arith}
use Rattle.older_coder.proofs.FlagLaws.{lowest_flags}
use Rattle.player.specs.Limits.{register_count}
use Rattle.older_coder.proofs.lowest.Goals as goal

pub overflow_cast-result : goal.overflow_cast-result
overflow_cast-result c = omega (arith, c.requires, lowest_flags register_count 32 c.args.free (omega arith) c.requires)

pub returns : goal.returns
returns c = lowest_flags register_count 32 c.args.free (omega arith) c.requires
