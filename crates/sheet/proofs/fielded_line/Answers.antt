-- `fielded_line`: one field or two, by whether a tab stands in the rest; a third field makes the second no number.
use Rattle.std.proofs.Common.{◌∙◌, sym, ◌+◌}
use lib.ListN.{take, drop}
use Rattle.text.specs.Decimal.{decimal}
use Rattle.text.proofs.DecimalLaws.{capped_some}
use Rattle.text.proofs.PartsLaws.{rest_all}
use Rattle.sheet.proofs.FormLaws.{fields_one, fields_two, one_large, first_large, second_large}
use Rattle.sheet.proofs.fielded_line.Goals as goal

pub returns-in_err-number-in-None : goal.returns-in_err-number-in-None
returns-in_err-number-in-None c =
    c.from_residual.ensures ∙ sym (fields_one _ _ _ c.in-None.ensures ∙ one_large c.args.kind (decimal c.args.rest.now) c.in_err-number-in-None.ensures)

pub returns-in_ok-number-in-None : goal.returns-in_ok-number-in-None
returns-in_ok-number-in-None c =
    let e = capped_some (decimal c.args.rest.now) _ c.in_ok-number-in-None.ensures in
    c.one_number.ensures ∙ sym (fields_one _ _ _ c.in-None.ensures ∙ rw e)

pub returns-in_err-p-in-Some : goal.returns-in_err-p-in-Some
returns-in_err-p-in-Some c =
    c.from_residual-in_err-p-in-Some.ensures
    ∙ sym (fields_two _ _ c.args.rest.now c.in-Some.t c.in-Some.ensures.0 c.in-Some.ensures.1 ∙ first_large c.args.kind (decimal (take c.in-Some.t c.args.rest.now)) (decimal (drop (c.in-Some.t + 1) c.args.rest.now)) c.in_err-p-in-Some.ensures)

pub returns-in_err-n-in-Some : goal.returns-in_err-n-in-Some
returns-in_err-n-in-Some c =
    c.from_residual-in_err-n-in-Some.ensures
    ∙ sym (fields_two _ _ c.args.rest.now c.in-Some.t c.in-Some.ensures.0 c.in-Some.ensures.1 ∙ second_large c.args.kind (decimal (take c.in-Some.t c.args.rest.now)) (decimal (drop (c.in-Some.t + 1) c.args.rest.now)) (rw rest_all at c.in_err-n-in-Some.ensures))

pub returns-in_ok-n-in-Some : goal.returns-in_ok-n-in-Some
returns-in_ok-n-in-Some c =
    let f = c.args.rest.now in let t = c.in-Some.t in
    let p = capped_some (decimal (take t f)) _ c.in_ok-p-in-Some.ensures in
    let n = capped_some (decimal (drop (t + 1) f)) _ (rw rest_all at c.in_ok-n-in-Some.ensures) in
    c.two_numbers.ensures ∙ sym (fields_two _ _ f t c.in-Some.ensures.0 c.in-Some.ensures.1 ∙ rw (p, n))
