use mathlib.Core.Path.{◌≡◌}
use mathlib.Core.Bool.{true}
use Prim.Native.Nat.{ℕ, ◌<◌, ◌%◌}
use Rattle.forms.specs.InnerForms.{may_use}
use Rattle.free_tables.specs.InnerTables.{at_pair}
use Rattle.free_tables.proofs.may_use_all.Given as goal

abbrev pub invariant-loop-r : goal.invariant-loop-r
invariant-loop-r l = (l.k ≡ l.r % l.step) × ((i : ℕ) → i < l.r → at_pair (may_use l.form) l.table l.step i ≡ true)
