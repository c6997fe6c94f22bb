-- The faults, and what a call of `play` answers and leaves. 01, "The player".
use Rattle.std.specs.Prelude.{◌≡◌, Bool, false, not, cond, ◌||◌, List, [], ◌∷◌, ◌++◌, ℕ, ◌*◌, ◌/◌, ◌%◌, eqb, leb, ltb, length, drop, Result, Ok, Err}
use Rattle.common.specs.Answer.{Answer, done, refused_with, answer_by}
use Rattle.player.specs.Limits.{register_count, last_group, last_lamp, byte_count, most_instructions, most_pairs, outside}
use Rattle.player.specs.Instructions.{Lamps, lit_lamps, add, both, load_kind, kind_of, instructions}
use Rattle.player.specs.Patches.{rig}
use Rattle.player.specs.Bytes.{bytes}
use Rattle.player.specs.declared.Refusal.{Refusal}
use Rattle.player.specs.declared.Refusal.TheVariants.{ShortBuffer, WrongLength, WrongInstruction, WrongPairCount, WrongPair}

-- 22: "code of 0 or over .. instructions, or of a length that four doesn't divide"; the most is a device's own
abbrev pub wrong_length : (most n : ℕ) → Bool
wrong_length most n = eqb n 0 || (ltb most (n / 4) || not (eqb (n % 4) 0))

-- 23: "a kind, register or group out of range, or LOAD's last number not 0"; the kinds are 1 to 4, of which request 6 gave the last
abbrev pub wrong_instruction : ℕ → ℕ → ℕ → ℕ → Bool
wrong_instruction kind target s t =
    leb register_count target
    || cond (eqb kind load_kind)
    (outside 1 last_group s || not (eqb t 0))
    (outside (kind_of add) (kind_of both) kind || (leb register_count s || leb register_count t))

-- some instruction of the code is such a one; its numbers go four by four
unfoldable pub wrong_code : List ℕ → Bool
wrong_code [] = false
wrong_code (a ∷ []) = false
wrong_code (a ∷ b ∷ []) = false
wrong_code (a ∷ b ∷ c ∷ []) = false
wrong_code (a ∷ b ∷ c ∷ d ∷ rest) = wrong_instruction a b c d || wrong_code rest

-- 24: "a patch of odd length or over 4,096 pairs"
abbrev pub wrong_pair_count : ℕ → Bool
wrong_pair_count n = not (eqb (n % 2) 0) || ltb (2 * most_pairs) n

-- 25: "a pair out of range"
abbrev pub wrong_pair : ℕ → ℕ → Bool
wrong_pair group lamp = outside 1 last_group group || outside 1 last_lamp lamp

-- some pair of the patch is such a one; its numbers go two by two
unfoldable pub wrong_patch : List ℕ → Bool
wrong_patch [] = false
wrong_patch (g ∷ []) = false
wrong_patch (g ∷ n ∷ rest) = wrong_pair g n || wrong_patch rest

-- "the first fault listed is the one given"; 0 where there is none
abbrev pub patch_fault : List ℕ → ℕ
patch_fault patch = cond (wrong_pair_count (length patch)) 24 (cond (wrong_patch patch) 25 0)

-- of a call, where the code has 22 or not, and 23 or not: these are a device's own
abbrev pub fault_by : Bool → Bool → (patch lamps : List ℕ) → ℕ
fault_by has22 has23 patch lamps =
    cond (ltb (length lamps) byte_count) 21
    (cond has22 22
    (cond has23 23
    (patch_fault patch)))

-- of 01's player
abbrev pub play_fault : (code patch lamps : List ℕ) → ℕ
play_fault code patch lamps = fault_by (wrong_length most_instructions (length code)) (wrong_code code) patch lamps

-- The bytes afterwards, by the first fault and the lamps lit: done, the first 64 say the answer and the others are as they were; refused,
-- "bytes unchanged".
abbrev pub bytes_by : ℕ → Lamps → (lamps : List ℕ) → List ℕ
bytes_by fault lit lamps = cond (eqb fault 0) (bytes lit ++ drop byte_count lamps) lamps

-- 01's numbers
abbrev pub refusal_number : Refusal → ℕ
refusal_number ShortBuffer = 21
refusal_number WrongLength = 22
refusal_number WrongInstruction = 23
refusal_number WrongPairCount = 24
refusal_number WrongPair = 25

-- what a call of `play` answers
abbrev pub Played : Type 0
Played = Result (Unit {0}) Refusal

-- 01's number for each answer; there are no values
abbrev pub played_says : Played → Answer
played_says (Ok ok) = done []
played_says (Err refusal) = refused_with (refusal_number refusal)

-- What a call answers, and what the bytes are afterwards, by the first fault and the lamps lit.
pub record PlaysBy (fault : ℕ) (lit : Lamps) (lamps : List ℕ) (r : Played) (after : List ℕ) : Type 0 where
  pub says : played_says r ≡ answer_by fault []
  pub written : after ≡ bytes_by fault lit lamps

-- of 01's player
abbrev pub Plays : (code patch lamps : List ℕ) → Played → List ℕ → Type 0
Plays code patch lamps = PlaysBy (play_fault code patch lamps) (lit_lamps (rig patch) (instructions code)) lamps
