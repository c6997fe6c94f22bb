use mathlib.Core.Path.{refl, ap, ◌∙◌}
use Rattle.std.proofs.lemmas.Result.{err_from_is_err_and}
use Rattle.common.specs.Answer.{refused_with}
use Rattle.gather.proofs.AnswerLaws.{number_some}
use Rattle.gather.proofs.gather.Goals as goal

pub returns-in_err-fault_of : goal.returns-in_err-fault_of
returns-in_err-fault_of c =
    let p = err_from_is_err_and c.from_residual.result c.from_residual.ensures.1 in
    let fault = c.in_err-fault_of.ensures in
    rw (p.1, p.2) (record {
      gathers = record { faulty = λ n. (ap refused_with fault, refl); gathers = λ e. absurd (number_some _ (fault ∙ e)) };
      by = record { by = λ e. absurd (number_some _ (fault ∙ e)) };
    })

pub returns : goal.returns
returns c =
    let done = c.gather_tree.ensures in record {
      gathers = record { faulty = λ n. absurd (n c.in_ok-fault_of.ensures); gathers = λ e t q. done.gathers_tree t q };
      by = record { by = λ e t q. done.by t q };
    }
