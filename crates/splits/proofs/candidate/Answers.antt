use mathlib.Core.Path.{sym, ◌∙◌}
use Rattle.splits.proofs.SplitLaws.{candidate_none, candidate_some}
use Rattle.splits.proofs.candidate.Goals as goal

pub returns-in_err-plan : goal.returns-in_err-plan
returns-in_err-plan c =
    c.from_residual.ensures ∙ candidate_none _ _ _ _ c.candidate_form-form.ensures c.candidate_variable-variable.ensures (sym c.use_of.ensures ∙ c.in_err-plan.was)

pub returns : goal.returns
returns c = candidate_some _ _ _ _ c.candidate_form-form.ensures c.candidate_variable-variable.ensures (sym c.use_of.ensures ∙ c.in_ok-plan.was)
