use Rattle.splits.proofs.SplitLaws.{splits_top}
use Rattle.splits.proofs.drops_in_first.Goals as goal

pub usable-requires : goal.usable-requires
usable-requires c = splits_top c.requires.1

pub split-parts-requires : goal.split-parts-requires
split-parts-requires c = splits_top c.requires.1
