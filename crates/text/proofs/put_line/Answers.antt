-- `put_line`: one writing after another.
use Rattle.tree.proofs.WritingLaws.{wrote_then, wrote_as}
use Rattle.text.proofs.LineLaws.{line_written}
use Rattle.text.proofs.put_line.Goals as goal

pub returns : goal.returns
returns c = wrote_as (wrote_then (wrote_then c.copy-first.ensures c.put_fields-next.ensures) c.write_one.ensures) (line_written _ _)
