-- `foreign_line`: what is left of the entries has the first foreign one of all.
use mathlib.Core.Path.{sym, ◌∙◌}
use native.Mathlib.Omega.{arith}
use Rattle.marking.proofs.ForeignLaws.{foreign_here, foreign_operator, foreign_known, foreign_end}
use Rattle.marking.proofs.foreign_line.Goals as goal
use Rattle.marking.proofs.foreign_line.Goals.{else-x-lt-UNION-via-then-x-lt-UNION+else-not-is_in, else-x-lt-UNION-via-else-x-lt-UNION}

pub returns-then-not-is_in : goal.returns-then-not-is_in
returns-then-not-is_in c =
    (omega arith, sym (c.loop-i.invariant ∙ foreign_here _ _ _ c.loop-i-test.true c.if-x-lt-UNION.true (sym c.is_in.ensures ∙ c.if-not-is_in.true)))

pub loop-i-preserved : goal.loop-i-preserved
loop-i-preserved c =
    let inside = c.loop-i-test.true in
    c.loop-i.invariant ∙ (elim c.else-x-lt-UNION.branch [
      | else-x-lt-UNION-via-then-x-lt-UNION+else-not-is_in w ↦ foreign_known _ _ _ inside (sym w.is_in.ensures ∙ w.if-not-is_in.false)
      | else-x-lt-UNION-via-else-x-lt-UNION w ↦ foreign_operator _ _ _ inside w.if-x-lt-UNION.false
    ])

pub returns : goal.returns
returns c = c.loop-i.invariant ∙ foreign_end _ _ _ c.loop-i-test.false
