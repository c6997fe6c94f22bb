-- Each four numbers are one line more; the rest of fewer than four has none.
use Rattle.printing.proofs.PrintingLaws.{up_to_start, up_to_next, up_to_room, up_to_end, text_left_all, text_left_next, text_left_end}
use Rattle.printing.proofs.put_code.Goals as goal

pub loop-four-init : goal.loop-four-init
loop-four-init c = rw (text_left_all c.args.device c.args.code.now c.as_chunks.ensures.front) (up_to_start _ c.args.out.now c.args.at)

pub put_one-next-requires : goal.put_one-next-requires
put_one-next-requires c = up_to_room _ _ _ (text_left_next c.args.device _ _ c.loop-four-test.true) c.loop-four.invariant c.requires

pub loop-four-preserved : goal.loop-four-preserved
loop-four-preserved c = up_to_next _ (text_left_next c.args.device _ _ c.loop-four-test.true) c.loop-four.invariant c.put_one-next.ensures

pub returns : goal.returns
returns c = up_to_end _ (text_left_end c.args.device _ _ c.loop-four-test.false) c.loop-four.invariant
