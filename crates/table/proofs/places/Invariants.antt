use mathlib.Core.Path.{◌≡◌}
use Prim.Native.Nat.{ℕ, ◌<◌}
use lib.ListN.{length, get_or}
use Rattle.table.specs.InnerTable.{IsPlace}
use Rattle.table.proofs.places.Given as goal

abbrev pub invariant-loop-i : goal.invariant-loop-i
invariant-loop-i l = (length l.places ≡ 8191) × ((k : ℕ) → k < l.i → IsPlace l.groups (get_or l.list k 0) (get_or l.places k 0))
