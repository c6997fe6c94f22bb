-- `index_in`: what is left of the list gives, from `index` on, the whole list's index.
use native.Mathlib.Omega.{arith}
use lib.ListN.{get_or}
use Rattle.questions.proofs.TurnLaws.{after_most, reading_none, reading_fits, reading_more, reading_all}
use Rattle.questions.proofs.TreeLaws.{tested}
use Rattle.questions.proofs.index_in.Goals as goal

pub shorter-index-requires : goal.shorter-index-requires
shorter-index-requires c = omega (arith, (tested c.args.list.now c.requires).few)

pub loop-i-init : goal.loop-i-init
loop-i-init c = (omega arith, omega arith, rw c.shorter-index.ensures (reading_none c.args.list.now c.requires))

pub after-waiting-requires : goal.after-waiting-requires
after-waiting-requires c = (reading_fits c.loop-i.invariant.2 c.loop-i-test.true, omega arith)

pub loop-i-preserved : goal.loop-i-preserved
loop-i-preserved c = let behind = c.count_behind.ensures in let R = reading_more c.loop-i.invariant.2 c.loop-i-test.true c.preceding-index.ensures.0 behind.0 behind.1 in (omega (arith, c.after-waiting.ensures, after_most (get_or c.args.list.now c.loop-i.i 0) c.loop-i.waiting), omega (arith, c.preceding-index.ensures.1), rw c.after-waiting.ensures R)

pub returns : goal.returns
returns c = reading_all c.loop-i.invariant.2 c.loop-i-test.false
