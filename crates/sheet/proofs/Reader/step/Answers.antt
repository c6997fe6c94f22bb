-- `Reader::step`: a line of no form has its fault, a task in a file without tasks has its own, and else each arm is its kind's step.
use Rattle.std.proofs.Common.{◌≡◌, ◌∙◌, refl, sym, ap, Some, None, Err}
use Rattle.std.specs.Result.{result_ok}
use Rattle.std.specs.Option.{ok_or}
use Rattle.std.proofs.lemmas.Result.{err_from_is_err_and}
use Rattle.sheet.specs.Faults.{fault_number}
use Rattle.sheet.specs.declared.Line.TheVariants.{Group, Operator, Mark, End}
use Rattle.sheet.specs.declared.Fault.TheVariants.{NoForm}
use Rattle.sheet.proofs.HoldLaws.{stepped_faulty, stepped_place, fault_bad, holds_counted}
use Rattle.sheet.proofs.Reader.step.Goals as goal

pub returns-in_err-line : goal.returns-in_err-line
returns-in_err-line g c = λ rules st r h.
    let p = err_from_is_err_and c.from_residual.result c.from_residual.ensures.1 in
    let none : c.args.line ≡ None = c.ok_or.ensures.ok_part ∙ ap result_ok c.in_err-line.was in
    let err : Err NoForm ≡ Err c.in_err-line.field-0.0 = ap (λ x. ok_or x NoForm) (sym none) ∙ sym c.ok_or.ensures.value ∙ c.in_err-line.was in
    let f : NoForm ≡ c.in_err-line.field-0.0 = cc in
    rw (p.1, p.2, none) (stepped_faulty h None _ _ _ _ refl (fault_bad h ∙ ap fault_number f))

pub returns-in_err-place_fault : goal.returns-in_err-place_fault
returns-in_err-place_fault g c = λ rules st r h.
    let p = err_from_is_err_and c.from_residual-in_err-place_fault.result c.from_residual-in_err-place_fault.ensures.1 in
    let some = c.ok_or.ensures.ok_part ∙ ap result_ok c.in_ok-line.was in
    rw (p.1, p.2, some) (stepped_place (holds_counted h) _ _ _ _ _ refl c.in_err-place_fault.ensures)

pub returns-in-Group : goal.returns-in-Group
returns-in-Group g c = λ rules st r h.
    let e : c.args.line ≡ Some (Group c.in-Group.g) = c.ok_or.ensures.ok_part ∙ ap result_ok c.in_ok-line.was ∙ ap Some c.in-Group.is in
    rw e (c.group.ensures rules st (rw e at r) (holds_counted h))

pub returns-in-Operator : goal.returns-in-Operator
returns-in-Operator g c = λ rules st r h.
    let e : c.args.line ≡ Some (Operator c.in-Operator.x) = c.ok_or.ensures.ok_part ∙ ap result_ok c.in_ok-line.was ∙ ap Some c.in-Operator.is in
    rw e (c.operator.ensures rules st (rw e at r) (holds_counted h))

pub returns-in-Lift : goal.returns-in-Lift
returns-in-Lift g c = λ rules st r h.
    let e = c.ok_or.ensures.ok_part ∙ ap result_ok c.in_ok-line.was ∙ ap Some c.in-Lift.is in
    rw e (c.lift.ensures _ _ _ rules st (rw e at r) (holds_counted h))

pub returns-in-Mark : goal.returns-in-Mark
returns-in-Mark g c = λ rules st r h.
    let e : c.args.line ≡ Some (Mark c.in-Mark.g) = c.ok_or.ensures.ok_part ∙ ap result_ok c.in_ok-line.was ∙ ap Some c.in-Mark.is in
    rw e (c.mark.ensures _ rules st (rw e at r) (holds_counted h))

pub returns-in-End : goal.returns-in-End
returns-in-End g c = λ rules st r h.
    let e : c.args.line ≡ Some End = c.ok_or.ensures.ok_part ∙ ap result_ok c.in_ok-line.was ∙ ap Some c.in-End.is in
    rw e (c.end.ensures _ rules st tt (holds_counted h))
