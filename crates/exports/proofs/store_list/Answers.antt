-- `store_list`: so far the first i numbers have been stored.
use mathlib.Core.Path.{◌∙◌}
use lib.Seq.{take_all}
use Rattle.tree.proofs.WritingLaws.{wrote_nothing, wrote_next}
use Rattle.exports.proofs.store_list.Goals as goal

pub loop-i-init : goal.loop-i-init
loop-i-init c = wrote_nothing c.args.out.now 0

pub loop-i-preserved : goal.loop-i-preserved
loop-i-preserved c = rw c.store_entry.ensures (wrote_next c.args.list.now c.loop-i.i c.loop-i-test.true c.loop-i.invariant)

pub shape_of-out : goal.shape_of-out
shape_of-out c = c.loop-i.invariant.same

pub returns : goal.returns
returns c = c.loop-i.invariant.list ∙ rw (take_all c.loop-i.i c.args.list.now c.loop-i-test.false)
