use mathlib.Core.Path.{◌≡◌}
use lib.ListN.{drop}
use Rattle.questions.specs.InnerCounts.{are_entries}
use Rattle.questions.proofs.are_entries.Given as goal

abbrev pub invariant-loop-x : goal.invariant-loop-x
invariant-loop-x l = are_entries (drop l.x-index l.list) ≡ are_entries l.list
