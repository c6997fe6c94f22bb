use mathlib.Core.Path.{◌≡◌}
use lib.ListN.{length}
use Rattle.move_table.proofs.LoadLaws.{Loads}
use Rattle.move_table.proofs.load.Given as goal

abbrev pub invariant-loop-place : goal.invariant-loop-place
invariant-loop-place l = (length l.signs ≡ 1116) × (length l.lengths ≡ 36) × Loads l.bytes l.place l.at l.signs l.lengths
