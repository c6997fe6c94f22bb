-- `after` meets its contract: an operator that fits has two trees before it.
use native.Mathlib.Omega.{arith}
use borrow.Author.Tests.{lt-ltb, le-ltb}
use Rattle.questions.proofs.after.Goals as goal

pub returns-then-x-lt-UNION : goal.returns-then-x-lt-UNION
returns-then-x-lt-UNION c = rw (lt-ltb _ _ c.if-x-lt-UNION.true)

pub overflow_sub-result : goal.overflow_sub-result
overflow_sub-result c = let h = c.requires.0 c.if-x-lt-UNION.false in omega arith

pub returns : goal.returns
returns c = rw (le-ltb _ _ c.if-x-lt-UNION.false)
