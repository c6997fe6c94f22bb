use mathlib.Core.Bool.{cond}
use Prim.Native.Nat.{◌-◌, ◌+◌, ◌*◌}
use lib.Dec.{ltb}
use Rattle.table.specs.InnerTable.{row_count, rows_of}
use Rattle.free_tables.proofs.SplitLaws.{Filled}
use Rattle.columns.specs.InnerJoining.{exact_row}
use Rattle.columns.proofs.held_rows.Given as goal

abbrev pub invariant-loop-i : goal.invariant-loop-i
invariant-loop-i l = Filled row_count (λ j. exact_row (rows_of l.t (cond (ltb j l.columns) (l.w * j) (l.w * (j - l.columns) + l.p)))) l.rows l.i
