use Prim.Native.Nat.{◌+◌}
use lib.ListN.{take}
use Rattle.tree.specs.InnerWriting.{Wrote}
use Rattle.tree.proofs.copy.Given as goal

abbrev pub invariant-loop-i : goal.invariant-loop-i
invariant-loop-i g l = Wrote l.initial.out l.at l.out (l.at + l.i) (take l.i l.source)
