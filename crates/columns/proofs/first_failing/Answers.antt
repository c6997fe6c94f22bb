use mathlib.Core.Path.{sym, ◌∙◌}
use native.Mathlib.Omega.{arith}
use Rattle.free_tables.proofs.SearchLaws.{failing_turn, failing_stop, failing_end, failing_start}
use Rattle.columns.proofs.first_failing.Goals as goal

pub loop-i-init : goal.loop-i-init
loop-i-init c = failing_start _ _

pub returns-then-not-agrees_at : goal.returns-then-not-agrees_at
returns-then-not-agrees_at c =
    let loop = c.loop-i in
    (sym (failing_stop _ loop.i _ c.loop-i-test.true (sym c.agrees_at.ensures ∙ c.if-not-agrees_at.true)) ∙ loop.invariant, c.loop-i-test.true)

pub loop-i-preserved : goal.loop-i-preserved
loop-i-preserved c =
    let loop = c.loop-i in
    sym (failing_turn _ loop.i _ c.loop-i-test.true (sym c.agrees_at.ensures ∙ c.if-not-agrees_at.false)) ∙ loop.invariant

pub returns : goal.returns
returns c = sym c.loop-i.invariant ∙ failing_end _ c.loop-i.i _ c.loop-i-test.false ∙ omega arith
