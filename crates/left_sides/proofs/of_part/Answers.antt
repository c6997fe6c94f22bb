-- `of_part` meets its contract: the constant table is the rows of the four parts in order.
use Rattle.left_sides.proofs.KnownLaws.{part_known_lem}
use Rattle.left_sides.proofs.of_part.Goals as goal

pub returns : goal.returns
returns c = rw c.has_sign-meaning.ensures (part_known_lem c.args.sign c.requires.0 c.requires.1)
