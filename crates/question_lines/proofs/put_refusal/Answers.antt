-- `put_refusal`: the line has room for any number.
use native.Mathlib.Omega.{arith}
use Rattle.question_lines.proofs.FieldLaws.{put_in_line, refusal_few, refusal_fits}
use Rattle.question_lines.proofs.put_refusal.Goals as goal

pub put_line-count-requires : goal.put_line-count-requires
put_line-count-requires c = omega (arith, refusal_fits c.args.number (omega (arith, c.ranges.number)))

pub returns : goal.returns
returns c = put_in_line (refusal_few c.args.number (omega (arith, c.ranges.number)) c.put_line-count.ensures) c.put_line-count.ensures
