-- `Reader::mark`: a mark without fault has room, since marks are different groups of the tree, of which there are eight at most.
use Rattle.std.proofs.Common.{◌∙◌, refl, sym}
use Rattle.std.proofs.lemmas.Result.{err_from_is_err_and}
use Rattle.sheet.specs.declared.Fault.TheVariants.{UnknownMark, MarkTwice}
use Rattle.sheet.proofs.SoundLaws.{first_second}
use Rattle.sheet.proofs.HoldLaws.{fault_mark, stepped_faulty, stepped_order, stepped_mark, mark_room, marked_few}
use Rattle.sheet.proofs.Reader.mark.Goals as goal

pub returns-in_err-order_fault : goal.returns-in_err-order_fault
returns-in_err-order_fault g c = λ after rules st r h.
    let p = err_from_is_err_and c.from_residual.result c.from_residual.ensures.1 in
    rw (p.1, p.2) (stepped_order h _ _ 2 _ _ (fault_mark h c.requires.0 _) c.in_err-order_fault.ensures)

pub returns-then-not-is_in : goal.returns-then-not-is_in
returns-then-not-is_in g c = λ after rules st r h.
    stepped_faulty h _ _ _ UnknownMark _ refl (fault_mark h c.requires.0 _ ∙ first_second _ _ (sym c.in_ok-order_fault.ensures) ∙ rw (sym c.if-not-is_in.ensures))

pub shared_ref_as_front-is_in-2 : goal.shared_ref_as_front-is_in-2
shared_ref_as_front-is_in-2 g c = marked_few c.requires.1.2

pub returns-then-is_in : goal.returns-then-is_in
returns-then-is_in g c = λ after rules st r h.
    stepped_faulty h _ _ _ MarkTwice _ refl (fault_mark h c.requires.0 _ ∙ first_second _ _ (sym c.in_ok-order_fault.ensures) ∙ rw (sym c.if-not-is_in.ensures, sym c.if-is_in.ensures))

pub bounds-self-self : goal.bounds-self-self
bounds-self-self g c =
    mark_room c.requires.1.2 c.args.g (first_second _ _ (sym c.in_ok-order_fault.ensures) ∙ rw (sym c.if-not-is_in.ensures, sym c.if-is_in.ensures))

pub returns : goal.returns
returns g c = λ after rules st r h.
    stepped_mark h _ after (fault_mark h c.requires.0 _ ∙ first_second _ _ (sym c.in_ok-order_fault.ensures) ∙ rw (sym c.if-not-is_in.ensures, sym c.if-is_in.ensures))
