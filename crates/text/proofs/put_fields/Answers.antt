-- `put_fields`: so far the fields of the first numbers have been written.
use Rattle.tree.proofs.WritingLaws.{wrote_nothing, wrote_then, wrote_as}
use Rattle.text.specs.Inner.{fields_after}
use Rattle.text.proofs.LineLaws.{fields_next}
use Rattle.text.proofs.put_fields.Goals as goal

pub loop-n-init : goal.loop-n-init
unfolding fields_after
loop-n-init c = wrote_nothing _ _

pub loop-n-preserved : goal.loop-n-preserved
loop-n-preserved c = wrote_as (wrote_then c.loop-n.invariant c.put_field-next.ensures) (fields_next _ _ c.loop-n-test.true)
