use Rattle.splits.proofs.SplitLaws.{splits_top}
use Rattle.splits.proofs.allowed_top.Goals as goal

pub usable-requires : goal.usable-requires
usable-requires c = splits_top c.requires.1
