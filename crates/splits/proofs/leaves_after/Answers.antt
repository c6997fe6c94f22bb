use Rattle.splits.proofs.SplitLaws.{splits, below_most, estimate_small}
use Rattle.splits.proofs.leaves_after.Goals as goal

pub split-parts-requires : goal.split-parts-requires
split-parts-requires c = rw c.power.ensures (splits c.requires.0 _ c.requires.1)

pub leaves_by-requires : goal.leaves_by-requires
leaves_by-requires c =
    let most = below_most c.requires.0 in
    (rw c.estimate-a.ensures (estimate_small _ _ _ most), rw c.estimate-b.ensures (estimate_small _ _ _ most))
