use native.Mathlib.Omega.{arith}
use borrow.Author.Count.{below_more}
use lib.ListN.{length-set}
use lib.Seq.{get_or-set_same, get_or-set_other}
use Rattle.table.proofs.places.Goals as goal

pub loop-i-preserved : goal.loop-i-preserved
loop-i-preserved c =
    let l = c.loop-i in (
      simp length-set l.invariant.0,
      below_more _ l.i (λ k h. rw (get_or-set_other l.places l.i k c.place.result 0 (omega arith)) (l.invariant.1 k h))
          (rw (get_or-set_same l.places l.i c.place.result 0 (omega arith)) c.place.ensures),
    )
