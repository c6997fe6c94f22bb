use Prim.Native.Nat.{◌+◌, ◌*◌}
use Rattle.table.specs.InnerTable.{row_count, rows_of}
use Rattle.free_tables.proofs.SplitLaws.{Filled}
use Rattle.columns.specs.InnerJoining.{exact_row, differs}
use Rattle.columns.proofs.rows_of.Given as goal

abbrev pub invariant-loop-i : goal.invariant-loop-i
invariant-loop-i l = Filled row_count (λ j. exact_row (differs (rows_of l.t (l.from + l.step * j)) l.base)) l.rows l.i
