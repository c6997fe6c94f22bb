use mathlib.Core.Path.{sym, ◌∙◌}
use Rattle.gather.proofs.LoopLaws.{bad_twice, bad_unknown, bad_on, bad_none}
use Rattle.gather.proofs.bad_marks.Goals as goal
use Rattle.gather.proofs.bad_marks.Goals.{then-is_in-via-then-is_in, then-is_in-via-else-is_in+then-not-is_in}

pub returns-then-is_in : goal.returns-then-is_in
returns-then-is_in c =
    let inside = c.loop-i-test.true in
    rw (sym c.is_empty.ensures ∙ c.if-is_empty.false, c.loop-i.invariant)
    elim c.then-is_in.branch [
      | then-is_in-via-then-is_in w ↦ sym (bad_twice _ _ _ inside (sym w.if-is_in.true ∙ c.is_in.ensures))
      | then-is_in-via-else-is_in+then-not-is_in w ↦ sym (bad_unknown _ _ _ inside (sym w.if-not-is_in.true ∙ w.is_in-else-is_in.ensures))
    ]

pub loop-i-preserved : goal.loop-i-preserved
loop-i-preserved c =
    c.loop-i.invariant ∙ bad_on _ _ _ c.loop-i-test.true (sym c.if-is_in.false ∙ c.is_in.ensures) (sym c.if-not-is_in.false ∙ c.is_in-else-is_in.ensures)

pub returns : goal.returns
returns c = rw (sym c.is_empty.ensures ∙ c.if-is_empty.false) (sym (c.loop-i.invariant ∙ bad_none _ _ _ c.loop-i-test.false))
