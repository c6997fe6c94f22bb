use mathlib.Core.Path.{◌≡◌}
use lib.ListN.{drop}
use Rattle.marking.specs.Inner.{foreign_entry}
use Rattle.marking.proofs.foreign_line.Given as goal

abbrev pub invariant-loop-i : goal.invariant-loop-i
invariant-loop-i l = foreign_entry l.groups 0 l.list ≡ foreign_entry l.groups l.i (drop l.i l.list)
