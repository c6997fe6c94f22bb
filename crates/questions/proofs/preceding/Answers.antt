-- `preceding` meets its contract, entry by entry.
use native.Mathlib.Omega.{arith}
use borrow.Author.Tests.{ne_eqb}
use Rattle.questions.specs.InnerCounts.{ahead}
use Rattle.questions.proofs.preceding.Goals as goal

pub returns-then-x-eq1 : goal.returns-then-x-eq1
unfolding ahead
returns-then-x-eq1 c = (rw c.if-x-eq1.true (omega arith), omega arith)

pub returns-then-x-eq2 : goal.returns-then-x-eq2
unfolding ahead
returns-then-x-eq2 c = (rw c.if-x-eq2.true (omega arith), omega arith)

pub returns-then-x-eq3 : goal.returns-then-x-eq3
unfolding ahead
returns-then-x-eq3 c = (rw c.if-x-eq3.true (omega arith), omega arith)

pub returns-then-x-eq-UNION : goal.returns-then-x-eq-UNION
unfolding ahead
returns-then-x-eq-UNION c = (rw c.if-x-eq-UNION.true (omega arith), omega arith)

pub returns-then-x-eq-DIFFERENCE : goal.returns-then-x-eq-DIFFERENCE
unfolding ahead
returns-then-x-eq-DIFFERENCE c = (rw c.if-x-eq-DIFFERENCE.true (omega arith), omega arith)

pub returns : goal.returns
unfolding ahead
returns c = (rw (ne_eqb _ 1 c.if-x-eq1.false, ne_eqb _ 2 c.if-x-eq2.false, ne_eqb _ 3 c.if-x-eq3.false, ne_eqb _ 65001 c.if-x-eq-UNION.false, ne_eqb _ 65002 c.if-x-eq-DIFFERENCE.false) (omega arith), omega arith)
