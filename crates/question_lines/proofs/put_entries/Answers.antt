-- `put_entries`: so far the fields of the first i entries have been written.
use mathlib.Core.Path.{sym}
use native.Mathlib.Omega.{arith}
use lib.Seq.{take_all}
use Rattle.tree.proofs.WritingLaws.{wrote_nothing, wrote_then, wrote_as}
use Rattle.questions.proofs.TreeLaws.{entry_at}
use Rattle.question_lines.proofs.FieldLaws.{after_none, after_next}
use Rattle.question_lines.proofs.put_entries.Goals as goal

pub loop-x-init : goal.loop-x-init
loop-x-init c = (omega arith, wrote_as (wrote_nothing _ _) (sym (after_none c.args.list.now)))

pub entry_byte-requires : goal.entry_byte-requires
entry_byte-requires c =
    entry_at c.args.list.now c.loop-x.x-index c.requires.0 c.loop-x-test.true

pub copy-next-requires : goal.copy-next-requires
copy-next-requires c =
    let loop = c.loop-x in
    omega (arith, loop.invariant.1.same, c.requires.1)

pub loop-x-preserved : goal.loop-x-preserved
loop-x-preserved c = let loop = c.loop-x in let list = c.args.list.now in let W = c.copy-next.ensures in (omega (arith, W.ends), wrote_as (wrote_then loop.invariant.1 W) (after_next list loop.x-index _ c.entry_byte.result (omega arith) c.loop-x-test.true c.entry_byte.ensures))

pub shape_of-out : goal.shape_of-out
shape_of-out c = c.loop-x.invariant.1.same

pub returns : goal.returns
returns c = (omega arith, wrote_as c.loop-x.invariant.1 (rw (take_all _ _ c.loop-x-test.false)))
