-- Two keys of one sheet, by any tables and for any devices: what requests 7 and 8 of 02 claim of them.
use Rattle.std.specs.Prelude.{◌≡◌, false, List, [], ℕ, ◌≤◌, length, Ok}
use Rattle.common.specs.Exactly.{Exactly}
use Rattle.player.specs.Limits.{byte_count}
use Rattle.player.specs.Playing.{wrong_pair_count, wrong_patch, Played}
use Rattle.printing.specs.Key.{Key, refusal, answers, cannot}
use Rattle.printing.specs.declared.Device.{Device}
use Rattle.key.specs.Devices.{InstructionOf, numbers_for, PlaysFor}

-- a key says `HELD` 19
abbrev pub SaysCannot : {I : Type 0} → Key I → Type 0
SaysCannot (refusal number line) = ⊥
SaysCannot (answers lifts held is) = held ≡ cannot

-- its instructions
abbrev pub instructions_of : {I : Type 0} → Key I → List I
instructions_of (refusal number line) = []
instructions_of (answers lifts held is) = is

-- Request 7: "the same lamps and the same gathering verdict". Request 8: "Both players must light alike". Two keys have the same verdict, and
-- where they have instructions, each device's player, fed those of its key, takes them and leaves the same bytes, whichever lamps a patch
-- that 01 allows gives the groups.
pub record Alike (d e : Device) (k : Key (InstructionOf d)) (l : Key (InstructionOf e)) : Type 0 where
  pub verdict : Exactly (SaysCannot k) (SaysCannot l)
  pub lamps : (SaysCannot k → ⊥) → (patch bytes : List ℕ) → wrong_pair_count (length patch) ≡ false → wrong_patch patch ≡ false → byte_count ≤ length bytes
      → (r s : Played) (after after' : List ℕ) → PlaysFor d (numbers_for d (instructions_of k)) patch bytes r after → PlaysFor e (numbers_for e (instructions_of l)) patch bytes s after'
      → (r ≡ Ok tt) × (s ≡ Ok tt) × (after ≡ after')

-- Request 8: "A second key program, otherwise alike": the lines before the code are the same, the `NO` line, or the `LIFT` and `HELD` lines
abbrev pub SameLines : {I J : Type 0} → Key I → Key J → Type 0
SameLines (refusal number line) (refusal number' line') = (number ≡ number') × (line ≡ line')
SameLines (refusal number line) (answers lifts held is) = ⊥
SameLines (answers lifts held is) (refusal number line) = ⊥
SameLines (answers lifts held is) (answers lifts' held' is') = (lifts ≡ lifts') × (held ≡ held')
