use mathlib.Core.Path.{sym, ap, ◌∙◌}
use native.Mathlib.Omega.{arith}
use Rattle.free_tables.proofs.SearchLaws.{failing_turn, failing_stop, failing_end}
use Rattle.splits.specs.InnerSplits.{form_of}
use Rattle.splits.proofs.SplitLaws.{forms_at, top_start, refused_is}
use Rattle.splits.proofs.first_top.Goals as goal

pub loop-form-init : goal.loop-form-init
loop-form-init c = top_start _ _

pub returns-then-allowed_top : goal.returns-then-allowed_top
returns-then-allowed_top c =
    let args = c.args in
    let loop = c.loop-form in
    let here = forms_at loop.form-index c.loop-form-test.true in
    let stops = sym loop.invariant ∙ failing_stop _ loop.form-index _ c.loop-form-test.true (refused_is args.m args.table.now loop.form-index here c.allowed_top.ensures c.if-allowed_top.true) in
    (omega (arith, stops, c.loop-form-test.true), here ∙ ap form_of (sym stops))

pub loop-form-preserved : goal.loop-form-preserved
loop-form-preserved c =
    let args = c.args in
    let loop = c.loop-form in
    let here = refused_is args.m args.table.now loop.form-index (forms_at loop.form-index c.loop-form-test.true) c.allowed_top.ensures c.if-allowed_top.false in
    sym (failing_turn _ loop.form-index _ c.loop-form-test.true here) ∙ loop.invariant

pub returns : goal.returns
returns c =
    let loop = c.loop-form in
    sym loop.invariant ∙ failing_end _ loop.form-index _ c.loop-form-test.false ∙ omega arith
