-- `entry_byte` meets its contract: an entry that is no operator is a group of one digit.
use native.Mathlib.Omega.{arith}
use Rattle.question_lines.proofs.FieldLaws.{union_byte, difference_byte, group_byte}
use Rattle.question_lines.proofs.entry_byte.Goals as goal

pub returns-then-x-eq-UNION : goal.returns-then-x-eq-UNION
returns-then-x-eq-UNION c = union_byte (omega arith) c.if-x-eq-UNION.true

pub returns-then-x-eq-DIFFERENCE : goal.returns-then-x-eq-DIFFERENCE
returns-then-x-eq-DIFFERENCE c = difference_byte (omega arith) c.if-x-eq-DIFFERENCE.true

pub overflow_cast-result : goal.overflow_cast-result
overflow_cast-result c = let g = group_byte c.args.x c.requires c.if-x-eq-UNION.false c.if-x-eq-DIFFERENCE.false in omega arith

pub overflow_add-result : goal.overflow_add-result
overflow_add-result c = let g = group_byte c.args.x c.requires c.if-x-eq-UNION.false c.if-x-eq-DIFFERENCE.false in omega arith

pub returns : goal.returns
returns c = (group_byte c.args.x c.requires c.if-x-eq-UNION.false c.if-x-eq-DIFFERENCE.false).byte
