use Rattle.splits.proofs.SplitLaws.{splits_top}
use Rattle.splits.proofs.beside_use.Goals as goal

pub usable-requires : goal.usable-requires
usable-requires c = splits_top c.requires.2
