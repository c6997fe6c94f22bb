use mathlib.Core.Path.{sym, ◌∙◌}
use native.Mathlib.Omega.{arith}
use Rattle.splits.proofs.SplitLaws.{below_most, best_start, best_none, best_new, best_old, best_all, cost_some}
use Rattle.splits.proofs.choose.Goals as goal
use Rattle.splits.proofs.choose.Goals.{in-Some+then-leaves-least, in-Some+else-leaves-least, in_default}

pub loop-i-init : goal.loop-i-init
loop-i-init c = best_start _ _ _ _ (omega arith)

pub loop-i-preserved : goal.loop-i-preserved
loop-i-preserved c =
    let loop = c.loop-i in
    let few = below_most c.requires in
    let here = sym c.candidate.ensures in
    elim c.match-candidate.branch [
      | in-Some+then-leaves-least w ↦
          rw (w.best-is, w.least-is)
          (best_new _ _ _ loop.i few loop.invariant (here ∙ w.in-Some.is) (w.leaves_after-leaves.ensures ∙ cost_some _ _ _ _ (here ∙ w.in-Some.is)) w.if-leaves-least.true)
      | in-Some+else-leaves-least w ↦
          rw (w.best-is, w.least-is)
          (best_old _ _ _ loop.i few _ loop.invariant (here ∙ w.in-Some.is) (w.leaves_after-leaves.ensures ∙ cost_some _ _ _ _ (here ∙ w.in-Some.is)) w.if-leaves-least.false)
      | in_default w ↦ rw (w.best-is, w.least-is) (best_none _ _ _ loop.i few loop.invariant (here ∙ w.in_default.is))
    ]

pub returns : goal.returns
returns c = best_all _ _ _ c.loop-i.i c.loop-i.invariant (omega arith)
