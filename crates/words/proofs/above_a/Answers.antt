-- `above_a` meets its contract: the signs after A make the frames above it (AboveLaws).
use borrow.Author.Rules.{rules}
use Rattle.words.proofs.AboveLaws.{frames_found}
use Rattle.words.proofs.above_a.Goals as goal

pub returns : goal.returns
returns c = frames_found _ c.place_of_a.ensures.signs_after c.frame_after-own.result c.and_then-parent.result c.frame_after-own.ensures (search rules) (search rules) (search rules)
