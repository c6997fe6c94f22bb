use mathlib.Core.Path.{sym, ap, ◌∙◌}
use Rattle.common.specs.Answer.{Answer}
use Rattle.gather.specs.Answer.{gathering_says}
use Rattle.exports.specs.Storing.{with_answer}
use Rattle.exports.proofs.gather_call.Goals as goal

pub returns-in-Ok : goal.returns-in-Ok
returns-in-Ok c =
    let gather = c.gather in
    record { verdict = gather.result; gathers = gather.ensures.gathers; stores = c.store_all.ensures ∙ ap (λ (a : Answer). with_answer a c.args.answer.now) (sym (ap gathering_says c.in-Ok.is)) }

pub returns-in-Err : goal.returns-in-Err
returns-in-Err c =
    let gather = c.gather in
    let stored = rw c.from.ensures at c.store_all-in-Err.ensures in
    record { verdict = gather.result; gathers = gather.ensures.gathers; stores = stored ∙ ap (λ (a : Answer). with_answer a c.args.answer.now) (sym (ap gathering_says c.in-Err.is)) }
