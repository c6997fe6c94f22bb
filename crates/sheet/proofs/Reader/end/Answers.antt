-- `Reader::end`: the fault in the reader's numbers is the state's, and without fault the reader follows the state.
use Rattle.std.proofs.Common.{◌∙◌, sym}
use Rattle.std.proofs.lemmas.Result.{err_from_is_err_and}
use Rattle.sheet.proofs.SoundLaws.{first_second}
use Rattle.sheet.proofs.HoldLaws.{fault_end, stepped_order, stepped_end}
use Rattle.sheet.proofs.Reader.end.Goals as goal

pub returns-in_err-order_fault : goal.returns-in_err-order_fault
returns-in_err-order_fault g c = λ after rules st r h.
    let p = err_from_is_err_and c.from_residual.result c.from_residual.ensures.1 in
    rw (p.1, p.2) (stepped_order h _ _ 3 _ _ (fault_end h) c.in_err-order_fault.ensures)

pub returns : goal.returns
returns g c = λ after rules st r h. stepped_end h after (fault_end h ∙ first_second _ _ (sym c.in_ok-order_fault.ensures))
