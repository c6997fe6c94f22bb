use Rattle.splits.proofs.+estimate.Given as goal

abbrev pub decreases-estimate : goal.decreases-estimate
decreases-estimate l = l.k
