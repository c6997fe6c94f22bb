-- `put_tree`: one writing after another; an index has at most four digits.
use native.Mathlib.Omega.{arith}
use Rattle.tree.proofs.WritingLaws.{wrote_then, wrote_as}
use Rattle.question_lines.proofs.FieldLaws.{index_few, line_written, put_in_line}
use Rattle.question_lines.proofs.put_tree.Goals as goal

pub put_decimal-first-requires : goal.put_decimal-first-requires
put_decimal-first-requires c = omega (arith, index_few c.args.index c.requires.0)

pub put_entries-next-requires : goal.put_entries-next-requires
put_entries-next-requires c =
    let put-decimal = c.put_decimal-first in
    (c.requires.2, omega (arith, put-decimal.ensures.ends, put-decimal.ensures.same, index_few c.args.index c.requires.0, c.requires.1))

pub write_one-count-requires : goal.write_one-count-requires
write_one-count-requires c =
    let put-decimal = c.put_decimal-first in
    let put_entries = c.put_entries-next in
    omega (arith, put-decimal.ensures.ends, put-decimal.ensures.same, put_entries.ensures.0, put_entries.ensures.1.same, index_few c.args.index c.requires.0, c.requires.1)

pub returns : goal.returns
returns c = let W = wrote_then (wrote_then c.put_decimal-first.ensures c.put_entries-next.ensures.1) c.write_one-count.ensures in put_in_line (omega (arith, c.put_decimal-first.ensures.ends, c.put_entries-next.ensures.0, c.write_one-count.ensures.ends, index_few c.args.index c.requires.0, c.requires.1)) (wrote_as W (line_written c.args.index c.args.list.now))
