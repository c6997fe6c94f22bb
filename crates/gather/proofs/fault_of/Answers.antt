use mathlib.Core.Path.{sym, ap, ◌∙◌}
use mathlib.Core.Bool.{cond}
use Rattle.std.proofs.lemmas.Result.{err_from_is_err_and}
use Rattle.gather.proofs.AnswerLaws.{same_refusal}
use Rattle.gather.proofs.LoopLaws.{fault_short, fault_none, fault_many, fault_marks}
use Rattle.gather.proofs.fault_of.Goals as goal

pub returns-then-room-lt-MOST_NODES : goal.returns-then-room-lt-MOST_NODES
returns-then-room-lt-MOST_NODES c = fault_short _ _ _ c.if-room-lt-MOST_NODES.true

pub returns-then-not-is_tree : goal.returns-then-not-is_tree
returns-then-not-is_tree c = fault_none _ _ _ c.if-room-lt-MOST_NODES.false (sym c.is_tree.ensures ∙ c.if-not-is_tree.true)

pub returns-in_err-groups : goal.returns-in_err-groups
returns-in_err-groups c =
    let p = err_from_is_err_and c.from_residual.result c.from_residual.ensures.1 in
    let e = c.in_err-groups.ensures in
    let many = rw e.ok_part at c.groups_of.ensures in
    rw (p.1, p.2, same_refusal _ _ (rw e.ok_part at e.value)) (fault_many _ _ _ c.if-room-lt-MOST_NODES.false (sym c.is_tree.ensures ∙ c.if-not-is_tree.false) many)

pub returns-then-bad_marks : goal.returns-then-bad_marks
returns-then-bad_marks c =
    let found = rw c.in_ok-groups.ensures.ok_part at c.groups_of.ensures in
    ap (λ b. cond b 18 0) (sym c.if-bad_marks.true) ∙ fault_marks _ _ _ c.if-room-lt-MOST_NODES.false _ _ (sym c.is_tree.ensures ∙ c.if-not-is_tree.false) (c.as_slice.ensures.found ∙ found) c.as_slice.ensures.few c.bad_marks.ensures

pub returns : goal.returns
returns c =
    let found = rw c.in_ok-groups.ensures.ok_part at c.groups_of.ensures in
    sym (ap (λ b. cond b 18 0) (sym c.if-bad_marks.false) ∙ fault_marks _ _ _ c.if-room-lt-MOST_NODES.false _ _ (sym c.is_tree.ensures ∙ c.if-not-is_tree.false) (c.as_slice.ensures.found ∙ found) c.as_slice.ensures.few c.bad_marks.ensures)
