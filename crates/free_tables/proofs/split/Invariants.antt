use mathlib.Core.Path.{◌≡◌}
use Prim.Native.Nat.{◌%◌}
use Rattle.forms.specs.InnerForms.{first_row, second_row}
use Rattle.free_tables.specs.InnerTables.{at_pair}
use Rattle.free_tables.proofs.SplitLaws.{Filled}
use Rattle.free_tables.proofs.split.Given as goal

abbrev pub invariant-loop-r : goal.invariant-loop-r
invariant-loop-r l =
    (l.k ≡ l.r % l.step) × Filled 128 (at_pair (first_row l.form) l.table l.step) l.first l.r × Filled 128 (at_pair (second_row l.form) l.table l.step) l.second l.r
