-- `put`: the line in a new array.
use Rattle.marking.proofs.TextLaws.{put_in_line}
use Rattle.marking.proofs.put.Goals as goal

pub returns : goal.returns
returns c =
    let pre = c.requires in
    put_in_line _ pre c.put_line-count.ensures
