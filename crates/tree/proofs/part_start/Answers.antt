-- `tree::part_start` meets its contract: in a tree the scan back comes to where the part begins.
use mathlib.Core.Path.{◌∙◌}
use Rattle.tree.proofs.PartLaws.{part_begins}
use Rattle.tree.proofs.part_start.Goals as goal

pub returns : goal.returns
returns c = λ from a k P. c.scan_backward.ensures ∙ part_begins P
