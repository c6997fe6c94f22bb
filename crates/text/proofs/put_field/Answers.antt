-- `put_field`: one writing after another.
use Rattle.tree.proofs.WritingLaws.{wrote_then}
use Rattle.text.proofs.put_field.Goals as goal

pub returns : goal.returns
returns c =
    let write_one = c.write_one-next in
    wrote_then write_one.ensures c.put_decimal.ensures
