use mathlib.Core.Path.{ap, ◌∙◌}
use Rattle.common.specs.Answer.{Answer}
use Rattle.exports.specs.Storing.{with_answer}
use Rattle.exports.proofs.index_of_call.Goals as goal

pub returns : goal.returns
returns c = c.store_reply.ensures ∙ ap (λ (a : Answer). with_answer a c.args.answer.now) c.index_of-reply.ensures.says
