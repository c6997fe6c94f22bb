use mathlib.Core.Path.{◌≡◌}
use Prim.Native.Nat.{◌-◌}
use Rattle.free_tables.specs.InnerSearch.{first_failing}
use Rattle.splits.specs.InnerSplits.{form_count, first_top}
use Rattle.splits.proofs.SplitLaws.{refused}
use Rattle.splits.proofs.first_top.Given as goal

abbrev pub invariant-loop-form : goal.invariant-loop-form
invariant-loop-form l = first_failing (refused l.m l.table) (form_count - l.form-index) l.form-index ≡ first_top l.m l.table
