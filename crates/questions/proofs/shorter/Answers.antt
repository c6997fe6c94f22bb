-- `shorter` meets its contract: the constant has the definition's values in order.
use Rattle.questions.specs.InnerCounts.{count, ahead}
use Rattle.questions.proofs.CountLaws.{counted_shorter}
use borrow.Author.Rules.{rules}
use Rattle.questions.proofs.shorter.Goals as goal

pub returns : goal.returns
unfolding ahead count
returns c = counted_shorter c.args.n (search rules)
