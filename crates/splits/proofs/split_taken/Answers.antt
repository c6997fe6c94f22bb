use native.Mathlib.Omega.{arith}
use Rattle.std.proofs.lemmas.Grind.{common_steps}
use Rattle.splits.specs.InnerSplits.{split_taken}
use Rattle.splits.proofs.split_taken.Goals as goal

pub returns : goal.returns
unfolding split_taken
returns c = grind (arith, common_steps)
