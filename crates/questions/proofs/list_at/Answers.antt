-- `list_at`: what is written so far is the front of the list, and the rest has index `rest` among those that go on.
use native.Mathlib.Omega.{arith}
use Rattle.questions.proofs.TurnLaws.{after_most, writing_none, writing_below, writing_fits, writing_more, written_all}
use Rattle.questions.proofs.list_at.Goals as goal

pub loop-i-init : goal.loop-i-init
loop-i-init c = (omega arith, writing_none c.args.length c.args.k c.requires.0 c.requires.1)

pub beginning-place-requires : goal.beginning-place-requires
beginning-place-requires c =
    let behind = c.count_behind.ensures in
    rw (behind.0, behind.1) (writing_below c.loop-i.invariant.1 c.loop-i-test.true)

pub after-waiting-requires : goal.after-waiting-requires
after-waiting-requires c =
    let behind = c.count_behind.ensures in
    (writing_fits c.loop-i.invariant.1 c.loop-i-test.true c.beginning-place.ensures behind.0 behind.1, omega arith)

pub loop-i-preserved : goal.loop-i-preserved
loop-i-preserved c = let behind = c.count_behind.ensures in let W = writing_more c.loop-i.invariant.1 c.loop-i-test.true c.beginning-place.ensures behind.0 behind.1 in (omega (arith, c.after-waiting.ensures, after_most c.beginning-place.result.part c.loop-i.waiting), rw c.after-waiting.ensures W)

pub returns : goal.returns
returns c = λ l e. written_all c.loop-i.invariant.1 c.requires.0 c.loop-i-test.false l e
