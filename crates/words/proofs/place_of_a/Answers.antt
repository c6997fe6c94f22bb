-- `place_of_a` meets its contract: what `position` says is that no sign before the place is A's, and that the one at it is.
use borrow.Author.Rules.{rules}
use Rattle.words.proofs.AboveLaws.{place_is}
use Rattle.words.proofs.place_of_a.Goals as goal

pub returns : goal.returns
returns c = place_is c.args.word.now c.unwrap_or.result (search rules) (search rules) (search rules)
