-- `Reader::group`: the fault in the reader's numbers is the state's, and without fault the reader follows the state.
use Rattle.std.proofs.Common.{◌∙◌, refl, sym}
use Rattle.std.proofs.lemmas.Result.{err_from_is_err_and}
use borrow.Author.Tests.{le-leb, lt-leb}
use Rattle.tree.specs.Tree.{most_groups}
use Rattle.sheet.specs.declared.Fault.TheVariants.{TooManyNodes, TooManyGroups}
use Rattle.sheet.proofs.SoundLaws.{first_second}
use Rattle.sheet.proofs.HoldLaws.{fault_group, stepped_faulty, stepped_order, stepped_group_old, stepped_group_new}
use Rattle.sheet.proofs.Reader.group.Goals as goal
use Rattle.sheet.proofs.Reader.group.Goals.{then-not-is_in+else-self-ge-MOST_GROUPS, else-not-is_in}

pub returns-in_err-order_fault : goal.returns-in_err-order_fault
returns-in_err-order_fault g c = λ rules st r h.
    let p = err_from_is_err_and c.from_residual.result c.from_residual.ensures.1 in
    rw (p.1, p.2) (stepped_order h _ _ 0 _ _ (fault_group h _) c.in_err-order_fault.ensures)

pub returns-then-self : goal.returns-then-self
returns-then-self g c = λ rules st r h.
    stepped_faulty h _ _ _ TooManyNodes _ refl (fault_group h _ ∙ first_second _ _ (sym c.in_ok-order_fault.ensures) ∙ rw (le-leb _ _ c.if-self.true))

pub returns-then-self-ge-MOST_GROUPS : goal.returns-then-self-ge-MOST_GROUPS
returns-then-self-ge-MOST_GROUPS g c = λ rules st r h.
    stepped_faulty h _ _ _ TooManyGroups _ refl
    (fault_group h _ ∙ first_second _ _ (sym c.in_ok-order_fault.ensures)
    ∙ rw (lt-leb _ _ c.if-self.false, sym c.if-not-is_in.ensures, le-leb most_groups _ c.if-self-ge-MOST_GROUPS.true))

pub returns : goal.returns
returns g c = λ rules st r h.
    elim c.if-not-is_in.branch [
      | then-not-is_in+else-self-ge-MOST_GROUPS w ↦ rw w.self-is
          (stepped_group_new h _ _ r
          (fault_group h _ ∙ first_second _ _ (sym c.in_ok-order_fault.ensures) ∙ rw (lt-leb _ _ c.if-self.false, sym w.if-not-is_in.ensures, lt-leb most_groups _ w.if-self-ge-MOST_GROUPS.false))
          (sym w.if-not-is_in.ensures))
      | else-not-is_in w ↦ rw w.self-is
          (stepped_group_old h _ _ r
          (fault_group h _ ∙ first_second _ _ (sym c.in_ok-order_fault.ensures) ∙ rw (lt-leb _ _ c.if-self.false, sym w.if-not-is_in.ensures))
          (sym w.if-not-is_in.ensures))
    ]
