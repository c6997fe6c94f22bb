-- A set of lamps as bytes. 01, "The player": "lamp n is bit (n−1) mod 8, lowest bit 0, of byte (n−1)/8 rounded down, 1 if
-- the answer holds that lamp (it is lit), else 0". The law `byte_bit` of proofs/ByteLaws.antt says it in these words.
use Rattle.std.specs.Prelude.{Bool, true, false, List, [], ◌∷◌, ℕ, zero, suc, ◌+◌, ◌*◌}
use Rattle.player.specs.Limits.{byte_count}
use Rattle.player.specs.Instructions.{Lamps}

-- "1 if the answer holds that lamp (it is lit), else 0"
abbrev pub bit : Bool → ℕ
bit true = 1
bit false = 0

-- The `count` lamps from `first` on as the bits of a number, the first as the lowest.
unfoldable pub pack : Lamps → ℕ → ℕ → ℕ
pack f first zero = 0
pack f first (suc count) = pack f (suc first) count * 2 + bit (f first)

-- `count` bytes, of 8 lamps each, from the lamp `first` on.
unfoldable pub bytes_from : Lamps → ℕ → ℕ → List ℕ
bytes_from f first zero = []
bytes_from f first (suc count) = pack f first 8 ∷ bytes_from f (first + 8) count

-- Lamps 1 to 512.
abbrev pub bytes : Lamps → List ℕ
bytes f = bytes_from f 1 byte_count
