-- `tree_at` meets its contract: the list with the index among those of its length is the tree.
use native.Mathlib.Omega.{arith}
use Rattle.questions.proofs.AnswerLaws.{gives_none, index_below, gives_some}
use Rattle.questions.proofs.tree_at.Goals as goal

pub returns-then-index-ge-QUESTIONS : goal.returns-then-index-ge-QUESTIONS
returns-then-index-ge-QUESTIONS c = gives_none c.args.index (omega (arith, c.if-index-ge-QUESTIONS.true))

pub list_at-entries-requires : goal.list_at-entries-requires
list_at-entries-requires c =
    let r = c.length_at-place in
    (r.ensures.1, index_below r.ensures.0 (omega (arith, c.if-index-ge-QUESTIONS.false)) r.ensures.1)

pub returns : goal.returns
returns c = let r = c.length_at-place in gives_some r.ensures.0 (omega (arith, c.if-index-ge-QUESTIONS.false)) r.ensures.1 c.list_at-entries.result c.list_at-entries.ensures
