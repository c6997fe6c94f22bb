-- The faults of the older player's code, and what a call of `play` answers and leaves. Request 8 of 02; 21, 24 and 25 are 01's.
use Rattle.std.specs.Prelude.{Bool, false, not, cond, ◌||◌, List, [], ◌∷◌, ℕ, eqb, leb, length}
use Rattle.player.specs.Limits.{register_count, last_group, outside}
use Rattle.player.specs.Instructions.{add, both, load_kind, kind_of}
use Rattle.player.specs.Patches.{rig}
use Rattle.player.specs.Playing.{wrong_length, fault_by, Played, PlaysBy}
use Rattle.older_player.specs.Instructions.{lit_lamps, show_kind, instructions}

-- "With it, code is up to 8,192 instructions .. and 20 and 22 follow that"
abbrev pub most_instructions : ℕ
most_instructions = 8192

-- 23: "a kind, register or group out of range"; "four numbers, unused ones 0"
abbrev pub wrong_instruction : ℕ → ℕ → ℕ → ℕ → Bool
wrong_instruction kind a b c =
    (leb register_count a || not (eqb c 0))
    || cond (eqb kind load_kind) (outside 1 last_group b)
    (cond (eqb kind show_kind) (not (eqb b 0)) (outside (kind_of add) (kind_of both) kind || leb register_count b))

-- "SHOW, kind 5, stands last and there only, else 23": by how many numbers stand behind the instruction
abbrev pub misplaced : ℕ → ℕ → Bool
misplaced kind behind = cond (eqb behind 0) (not (eqb kind show_kind)) (eqb kind show_kind)

-- some instruction of the code is such a one; its numbers go four by four
unfoldable pub wrong_code : List ℕ → Bool
wrong_code [] = false
wrong_code (a ∷ []) = false
wrong_code (a ∷ b ∷ []) = false
wrong_code (a ∷ b ∷ c ∷ []) = false
wrong_code (a ∷ b ∷ c ∷ d ∷ rest) = (wrong_instruction a b c d || misplaced a (length rest)) || wrong_code rest

-- the number of the first fault, 0 where there is none
abbrev pub play_fault : (code patch lamps : List ℕ) → ℕ
play_fault code patch lamps = fault_by (wrong_length most_instructions (length code)) (wrong_code code) patch lamps

-- What a call answers, and what the bytes are afterwards.
abbrev pub Plays : (code patch lamps : List ℕ) → Played → List ℕ → Type 0
Plays code patch lamps = PlaysBy (play_fault code patch lamps) (lit_lamps (rig patch) (instructions code)) lamps
