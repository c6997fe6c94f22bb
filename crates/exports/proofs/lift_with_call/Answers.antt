use mathlib.Core.Path.{ap, ◌∙◌}
use Rattle.common.specs.Answer.{Answer}
use Rattle.exports.specs.Storing.{with_answer}
use Rattle.exports.proofs.lift_with_call.Goals as goal

pub returns : goal.returns
returns c =
    let lift = rw c.table_from-table.ensures at c.lift_with-lifted.ensures in
    record { leaves = lift.leaves; stores = c.store_lift.ensures ∙ ap (λ (a : Answer). with_answer a c.args.answer.now) lift.says }
