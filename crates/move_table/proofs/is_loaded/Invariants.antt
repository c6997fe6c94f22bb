use mathlib.Core.Path.{◌≡◌}
use lib.ListN.{length}
use Rattle.move_table.specs.Loading.{places}
use Rattle.move_table.specs.Packing.{entries_of}
use Rattle.move_table.specs.InnerLoading.{is_table}
use Rattle.move_table.proofs.PackingLaws.{table_from}
use Rattle.move_table.proofs.is_loaded.Given as goal

abbrev pub invariant-loop-place : goal.invariant-loop-place
invariant-loop-place l = (length l.table.signs ≡ 1116) × (length l.table.lengths ≡ 36) × (is_table (entries_of places l.table.signs l.table.lengths) ≡ table_from l.place l.table.signs l.table.lengths)
