-- The faults' numbers in document 01, "The sheet": "Reading refuses with a number and a line counted from 1".
use Rattle.std.specs.Prelude.{ℕ, Result, Ok, Err}
use Rattle.sheet.specs.declared.Fault.{Fault}
use Rattle.sheet.specs.declared.Fault.TheVariants.{TooManyBytes, NoForm, OutOfPlace, TooFewTrees, TooManyNodes, TooManyGroups, NotOneTree, UnknownMark, MarkTwice, NoEnd}
use Rattle.sheet.specs.declared.Refusal.{Refusal}

-- "1 (line 0) over 60,000 bytes"; "2 a line of no such form"; "3 a line of good form out of its place, or after `E`"; "4 `U` or `D` with
-- fewer than two trees waiting; 5 a 1,024th node; 6 a ninth different group"; "7 the first line after the tree lines .. when they don't
-- make one tree"; "8 a mark of a group not in the tree; 9 a mark twice"; "10 when lines are used up without `E`"
abbrev pub fault_number : Fault → ℕ
fault_number TooManyBytes = 1
fault_number NoForm = 2
fault_number OutOfPlace = 3
fault_number TooFewTrees = 4
fault_number TooManyNodes = 5
fault_number TooManyGroups = 6
fault_number NotOneTree = 7
fault_number UnknownMark = 8
fault_number MarkTwice = 9
fault_number NoEnd = 10

-- what reading answers, a refusal by its number and its line
abbrev pub numbered : {A : Type 0} → Result A Refusal → Result A (ℕ × ℕ)
numbered (Ok x) = Ok x
numbered (Err refusal) = Err (fault_number refusal.fault, refusal.line)
