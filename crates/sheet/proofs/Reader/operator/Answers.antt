-- `Reader::operator`: the fault in the reader's numbers is the state's, and without fault the reader follows the state.
use Rattle.std.proofs.Common.{◌∙◌, refl, sym}
use Rattle.std.proofs.lemmas.Result.{err_from_is_err_and}
use borrow.Author.Tests.{lt-ltb, le-ltb, le-leb, lt-leb}
use Rattle.sheet.specs.declared.Fault.TheVariants.{TooFewTrees, TooManyNodes}
use Rattle.sheet.proofs.SoundLaws.{first_second}
use Rattle.sheet.proofs.HoldLaws.{fault_operator, stepped_faulty, stepped_order, stepped_operator}
use Rattle.sheet.proofs.Reader.operator.Goals as goal

pub returns-in_err-order_fault : goal.returns-in_err-order_fault
returns-in_err-order_fault g c = λ rules st r h.
    let p = err_from_is_err_and c.from_residual.result c.from_residual.ensures.1 in
    rw (p.1, p.2) (stepped_order h _ _ 0 _ _ (fault_operator h _) c.in_err-order_fault.ensures)

pub returns-then-self-lt2 : goal.returns-then-self-lt2
returns-then-self-lt2 g c = λ rules st r h.
    stepped_faulty h _ _ _ TooFewTrees _ refl (fault_operator h _ ∙ first_second _ _ (sym c.in_ok-order_fault.ensures) ∙ rw (lt-ltb _ _ c.if-self-lt2.true))

pub returns-then-self : goal.returns-then-self
returns-then-self g c = λ rules st r h.
    stepped_faulty h _ _ _ TooManyNodes _ refl
    (fault_operator h _ ∙ first_second _ _ (sym c.in_ok-order_fault.ensures) ∙ rw (le-ltb _ _ c.if-self-lt2.false, le-leb _ _ c.if-self.true))

pub returns : goal.returns
returns g c = λ rules st r h.
    stepped_operator h _ _ r
    (fault_operator h _ ∙ first_second _ _ (sym c.in_ok-order_fault.ensures) ∙ rw (le-ltb _ _ c.if-self-lt2.false, lt-leb _ _ c.if-self.false)) c.if-self-lt2.false
