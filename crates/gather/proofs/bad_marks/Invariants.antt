use mathlib.Core.Path.{◌≡◌}
use lib.ListN.{drop}
use Rattle.gather.specs.Answer.{bad_mark}
use Rattle.gather.proofs.bad_marks.Given as goal

abbrev pub invariant-loop-i : goal.invariant-loop-i
invariant-loop-i l = bad_mark l.groups l.marks ≡ bad_mark l.groups (drop l.i l.marks)
