use lib.ListN.{take}
use Rattle.tree.specs.InnerWriting.{Wrote}
use Rattle.text.specs.Inner.{fields_after}
use Rattle.text.proofs.put_fields.Given as goal

abbrev pub invariant-loop-n : goal.invariant-loop-n
invariant-loop-n l = Wrote l.initial.out l.at l.out l.next (fields_after (take l.n-index l.numbers))
