use Rattle.columns.proofs.ColumnLaws.{written_after_lem}
use Rattle.columns.proofs.with_holder.Goals as goal

pub returns : goal.returns
returns c =
    let pre = c.requires in
    written_after_lem pre c.copy-next.ensures c.write_one.ensures
