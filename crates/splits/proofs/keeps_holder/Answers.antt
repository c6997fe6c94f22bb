use Rattle.splits.proofs.SplitLaws.{splits_top}
use Rattle.splits.proofs.keeps_holder.Goals as goal

pub split-parts-requires : goal.split-parts-requires
split-parts-requires c = splits_top c.requires.1
