use Rattle.splits.proofs.SplitLaws.{Best}
use Rattle.splits.proofs.choose.Given as goal

abbrev pub invariant-loop-i : goal.invariant-loop-i
invariant-loop-i l = Best l.m l.table l.n l.i l.best l.least
