use mathlib.Core.Path.{sym, ◌∙◌}
use native.Mathlib.Nat.{zero-mod}
use native.Mathlib.Omega.{arith}
use borrow.Author.Count.{below_more}
use Rattle.forms.specs.InnerForms.{may_use}
use Rattle.free_tables.proofs.SearchLaws.{pass_all, fail_one}
use Rattle.free_tables.proofs.SplitLaws.{place_turn, pair_rule}
use Rattle.free_tables.proofs.may_use_all.Goals as goal

pub loop-r-init : goal.loop-r-init
loop-r-init c = (sym (zero-mod _), λ i h. absurd (omega arith))

pub returns-then-not-may_use : goal.returns-then-not-may_use
returns-then-not-may_use c =
    let loop = c.loop-r in
    sym (fail_one _ _ loop.r c.loop-r-test.true (sym (pair_rule (may_use c.args.form) _ _ loop.r loop.k loop.invariant.0) ∙ sym c.may_use.ensures ∙ c.if-not-may_use.true))

pub loop-r-preserved : goal.loop-r-preserved
loop-r-preserved c =
    let loop = c.loop-r in (
      place_turn loop.r loop.k _ _ loop.invariant.0 c.next_place-k.ensures,
      below_more _ loop.r loop.invariant.1 (sym (pair_rule (may_use c.args.form) _ _ loop.r loop.k loop.invariant.0) ∙ sym c.may_use.ensures ∙ c.if-not-may_use.false),
    )

pub returns : goal.returns
returns c = sym (pass_all _ _ (λ i h. c.loop-r.invariant.1 i (omega arith)))
