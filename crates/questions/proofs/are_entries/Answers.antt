-- `are_entries`: the numbers that are left are entries exactly if all are.
use mathlib.Core.Path.{sym, ◌∙◌}
use Rattle.questions.proofs.TurnLaws.{entries_on, entries_stop, entries_end}
use Rattle.questions.proofs.are_entries.Goals as goal

pub loop-x-preserved : goal.loop-x-preserved
loop-x-preserved c = sym (entries_on c.args.list.now c.loop-x.x-index c.loop-x-test.true (sym c.is_in.ensures ∙ c.if-not-is_in.false)) ∙ c.loop-x.invariant

pub returns-then-not-is_in : goal.returns-then-not-is_in
returns-then-not-is_in c = sym (sym c.loop-x.invariant ∙ entries_stop c.args.list.now c.loop-x.x-index c.loop-x-test.true (sym c.is_in.ensures ∙ c.if-not-is_in.true))

pub returns : goal.returns
returns c = sym (sym c.loop-x.invariant ∙ entries_end c.args.list.now c.loop-x.x-index c.loop-x-test.false)
