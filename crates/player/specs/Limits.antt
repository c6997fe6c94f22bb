-- 01's limits. Each stands here once, and once in src/lib.rt.
use Rattle.std.specs.Prelude.{Bool, ◌||◌, ℕ, ltb}

-- "There are 13 registers, 0 to 12"
abbrev pub register_count : ℕ
register_count = 13

-- "A number from 1 to .. is .. that group of lamps"; request 4: "Reading, tree, code, patch and marks all accept 1 to 60,000."
abbrev pub last_group : ℕ
last_group = 60000

-- "pairs of group and lamp (1 to 512)"
abbrev pub last_lamp : ℕ
last_lamp = 512

-- "The player writes the first 64 bytes, no other"
abbrev pub byte_count : ℕ
byte_count = 64

-- "code of 0 or over 8,191 instructions"
abbrev pub most_instructions : ℕ
most_instructions = 8191

-- "a patch of odd length or over 4,096 pairs"
abbrev pub most_pairs : ℕ
most_pairs = 4096

-- A number that is not one of lo to hi.
abbrev pub outside : ℕ → ℕ → ℕ → Bool
outside lo hi x = ltb x lo || ltb hi x
