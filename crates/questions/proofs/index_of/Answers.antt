-- `index_of` meets its contract: a list that is no question has no index.
use mathlib.Core.Path.{sym, ◌∙◌}
use Rattle.questions.proofs.AnswerLaws.{gives_index, gives_no_index}
use Rattle.questions.proofs.index_of.Goals as goal

pub index_in-requires : goal.index_in-requires
index_in-requires c = sym c.is_question.ensures ∙ c.if-not-is_question.false

pub returns : goal.returns
returns c = gives_index c.args.list.now c.index_in.result c.index_in.ensures

pub returns-then-not-is_question : goal.returns-then-not-is_question
returns-then-not-is_question c = gives_no_index c.args.list.now (sym c.is_question.ensures ∙ c.if-not-is_question.true)
