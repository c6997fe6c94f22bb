use native.Mathlib.Omega.{arith}
use Rattle.splits.proofs.SplitLaws.{splits}
use Rattle.splits.proofs.use_below.Goals as goal

pub usable-requires : goal.usable-requires
usable-requires c = rw c.power.ensures (splits c.requires.1 _ (omega (arith, c.requires.2)))
