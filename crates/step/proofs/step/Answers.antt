-- `step` meets its contract: what the plan says, and a stretch replaced by it.
use Rattle.std.proofs.lemmas.Result.{err_from_is_err_and}
use Rattle.step.proofs.StepAnswerLaws.{table_alone, plan_refused}
use Rattle.step.proofs.step.Goals as goal

pub returns-in_err-plan : goal.returns-in_err-plan
returns-in_err-plan c = λ m K a k S.
    let p = err_from_is_err_and c.from_residual.result c.from_residual.ensures.1 in
    rw (p.1, p.2) (plan_refused m c.args.list.now c.args.node a k c.args.out.now c.in_err-plan.field-0.0 (c.in_err-plan.ensures m (table_alone K _ c.last_alone.ensures) a k S))

pub returns : goal.returns
returns c = λ m K a k S. c.replace_by.ensures m a k K S (c.in_ok-plan.ensures m (table_alone K _ c.last_alone.ensures) a k S)
