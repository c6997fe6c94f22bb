use lib.ListN.{take}
use Rattle.tree.specs.InnerWriting.{Wrote}
use Rattle.exports.proofs.store_list.Given as goal

abbrev pub invariant-loop-i : goal.invariant-loop-i
invariant-loop-i l = Wrote l.initial.out 0 l.out l.i (take l.i l.list)
