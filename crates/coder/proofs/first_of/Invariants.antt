use Rattle.coder.proofs.CodingLaws.{Descent}
use Rattle.coder.proofs.first_of.Given as goal

abbrev pub invariant-loop-end : goal.invariant-loop-end
invariant-loop-end l = Descent l.noted.tree.now l.position l.end l.first

abbrev pub decreases-loop-end : goal.decreases-loop-end
decreases-loop-end l = l.end
