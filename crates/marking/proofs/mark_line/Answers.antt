-- `mark_line`: a mark has one digit.
use Rattle.marking.specs.Text.{mark_line_of}
use Rattle.marking.proofs.TextLaws.{mark_small, mark_fits}
use Rattle.marking.proofs.mark_line.Goals as goal

pub put-requires : goal.put-requires
put-requires c = rw c.from.ensures (mark_fits _ (mark_small c.in-Ok.verdict))

pub returns-in-Ok : goal.returns-in-Ok
unfolding mark_line_of
returns-in-Ok c = rw c.in-Ok.is (rw c.from.ensures at c.put.ensures)

pub returns-in-Err : goal.returns-in-Err
returns-in-Err c = rw c.in-Err.is c.put_refusal.ensures
