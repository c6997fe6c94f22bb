-- What the checks before a call is carried out answer. Only contracts of inner functions cite it.
use Rattle.std.specs.Prelude.{Bool, cond, ℕ, ltb, Ok, Err}
use Rattle.player.specs.Limits.{byte_count}
use Rattle.player.specs.Playing.{refusal_number, Played}

-- the number of the first fault, 0 where there is none
abbrev pub fault_of : Played → ℕ
fault_of (Ok ok) = 0
fault_of (Err refusal) = refusal_number refusal

-- of the two first faults, where the code has 22 or not, which is a device's own
abbrev pub lengths_fault : Bool → (bytes : ℕ) → ℕ
lengths_fault has22 bytes = cond (ltb bytes byte_count) 21 (cond has22 22 0)
