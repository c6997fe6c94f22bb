use mathlib.Core.Path.{◌≡◌}
use Prim.Native.Nat.{◌-◌}
use Rattle.table.specs.InnerTable.{rows_of}
use Rattle.free_tables.specs.InnerSearch.{first_failing}
use Rattle.columns.specs.InnerChoosing.{agrees}
use Rattle.columns.specs.Inner.{failing_by}
use Rattle.columns.proofs.first_failing.Given as goal

abbrev pub invariant-loop-i : goal.invariant-loop-i
invariant-loop-i l =
    let s = l.scan in
    first_failing (agrees (rows_of l.t) s.w s.low s.high s.start) (s.total - l.i) l.i ≡ failing_by (rows_of l.t) s
