-- `row` meets its contract: each row has the definition's values in order.
use mathlib.Core.Path.{refl}
use native.Mathlib.Omega.{arith}
use Rattle.questions.specs.InnerCounts.{count}
use Rattle.questions.proofs.CountLaws.{counted_row}
use Rattle.questions.proofs.row.Goals as goal

pub returns-in-0 : goal.returns-in-0
unfolding count
returns-in-0 c = counted_row 0 (omega arith) refl

pub returns-in-1 : goal.returns-in-1
unfolding count
returns-in-1 c = counted_row 1 (omega arith) refl

pub returns-in-2 : goal.returns-in-2
unfolding count
returns-in-2 c = counted_row 2 (omega arith) refl

pub returns-in-3 : goal.returns-in-3
unfolding count
returns-in-3 c = counted_row 3 (omega arith) refl

pub returns-in-4 : goal.returns-in-4
unfolding count
returns-in-4 c = counted_row 4 (omega arith) refl

pub returns-in-5 : goal.returns-in-5
unfolding count
returns-in-5 c = counted_row 5 (omega arith) refl

pub returns-in_default : goal.returns-in_default
unfolding count
returns-in_default c = counted_row 6 (omega arith) refl
