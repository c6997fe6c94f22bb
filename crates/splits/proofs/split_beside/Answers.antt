use native.Mathlib.Omega.{arith}
use Rattle.splits.proofs.SplitLaws.{splits}
use Rattle.splits.proofs.split_beside.Goals as goal

pub split-parts-requires : goal.split-parts-requires
split-parts-requires c = rw c.power.ensures (splits c.requires.1 _ (omega (arith, c.requires.2)))
