-- Laws of the older player's code: read four by four, as the loop does; what an instruction without fault 23 says of its numbers.
use mathlib.Core.Path.{◌≡◌, refl, ◌∙◌}
use mathlib.Core.Bool.{Bool, true, false, not, cond, ◌||◌}
use mathlib.Core.List.{List, [], ◌∷◌, ◌++◌}
use Prim.Native.Nat.{ℕ, ◌+◌, ◌-◌, ◌*◌, ◌/◌, ◌≤◌, ◌<◌}
use native.Mathlib.Omega.{arith}
use borrow.Author.Tests.{ne_eqb, leb-false, lt-leb, le-ltb}
use lib.Dec.{eqb, leb}
use lib.ListN.{length, get_or, drop, length-drop, length-append}
use Rattle.common.proofs.ListLaws.{four_at}
use Rattle.player.specs.Limits.{register_count, last_group, outside}
use Rattle.player.specs.Instructions.{add, both, load_kind, kind_of}
use Rattle.player.specs.Playing.{wrong_length, fault_by}
use Rattle.player.proofs.FaultLaws.{or_left, or_right}
use Rattle.player.proofs.InstructionLaws.{kind_not_load, kind_inside}
use Rattle.player.proofs.ListLaws.{of_four, chunks_of, number_in}
use Rattle.player.proofs.PlayingLaws.{length_right}
use Rattle.older_player.specs.Instructions.{Instruction, load, change, show, show_kind, numbers_of}
use Rattle.older_player.specs.Playing.{most_instructions, wrong_instruction, misplaced, wrong_code, play_fault}
use Rattle.older_player.specs.Codes.{AllWellFormed}
use Rattle.older_player.proofs.InstructionLaws.{kind_not_show, numbers_length}

or_true : (b : Bool) → (b || true) ≡ true
or_true true = refl
or_true false = refl

module _ (l : List ℕ) (i : ℕ) (h : i < length l / 4) where
  abbrev pub here : List ℕ
  here = get_or (chunks_of 4 l) i []

  abbrev behind : ℕ
  behind = length l - 4 * (i + 1)

  code_more : wrong_code (drop (4 * i) l) ≡ ((of_four wrong_instruction here || misplaced (get_or here 0 0) behind) || wrong_code (drop (4 * (i + 1)) l))
  unfolding wrong_code
  code_more =
      let number = number_in 4 l i in
      let first : 4 * i + 0 ≡ 4 * i = omega arith in
      rw (number 0 h (omega arith), number 1 h (omega arith), number 2 h (omega arith), number 3 h (omega arith), first)
      (rw (four_at l (4 * i) (4 * (i + 1)) (omega arith) (omega arith), length-drop))

  pub code_hit : of_four wrong_instruction here ≡ true → wrong_code (drop (4 * i) l) ≡ true
  code_hit s = code_more ∙ rw s

  pub code_hit_place : misplaced (get_or here 0 0) behind ≡ true → wrong_code (drop (4 * i) l) ≡ true
  code_hit_place s = code_more ∙ rw (s, or_true (of_four wrong_instruction here))

  pub code_miss : of_four wrong_instruction here ≡ false → misplaced (get_or here 0 0) behind ≡ false → wrong_code (drop (4 * i) l) ≡ wrong_code (drop (4 * (i + 1)) l)
  code_miss s u = code_more ∙ rw (s, u)

-- at any position of the code
module _ (l : List ℕ) (i k : ℕ) (e : i + 4 ≡ k) (h : k ≤ length l) where
  abbrev wrong_here : Bool
  wrong_here = wrong_instruction (get_or l i 0) (get_or l (i + 1) 0) (get_or l (i + 2) 0) (get_or l (i + 3) 0) || misplaced (get_or l i 0) (length l - k)

  code_more_at : wrong_code (drop i l) ≡ (wrong_here || wrong_code (drop k l))
  unfolding wrong_code
  code_more_at = rw (four_at l i k e h, length-drop)

  pub code_hit_at : wrong_here ≡ true → wrong_code (drop i l) ≡ true
  code_hit_at s = code_more_at ∙ rw s

  pub code_miss_at : wrong_here ≡ false → wrong_code (drop i l) ≡ wrong_code (drop k l)
  code_miss_at s = code_more_at ∙ rw s

pub code_end : (l : List ℕ) → length l < 4 → wrong_code l ≡ false
unfolding wrong_code
code_end [] h = refl
code_end (a ∷ []) h = refl
code_end (a ∷ b ∷ []) h = refl
code_end (a ∷ b ∷ c ∷ []) h = refl
code_end (a ∷ b ∷ c ∷ d ∷ l) h = absurd (omega arith)

-- ---- one instruction
module _ (kind a b c : ℕ) (right : wrong_instruction kind a b c ≡ false) where
  pub right_register : a < register_count
  right_register = leb-false register_count a (or_left _ _ (or_left _ _ right))

  pub by_kind : cond (eqb kind load_kind) (outside 1 last_group b) (cond (eqb kind show_kind) (not (eqb b 0)) (outside (kind_of add) (kind_of both) kind || leb register_count b)) ≡ false
  by_kind = or_right (leb register_count a || not (eqb c 0)) _ right

-- ---- the faults of the numbers of instructions, with SHOW at the end
module _ (register : ℕ) (low : register < register_count) where
  not_last : (is : List Instruction) → eqb (length (numbers_of (is ++ (show register ∷ [])))) 0 ≡ false
  not_last is = ne_eqb (length (numbers_of (is ++ (show register ∷ [])))) 0 (λ e. omega (arith, numbers_length (is ++ (show register ∷ [])), length-append is (show register ∷ [])))

  -- No fault 23.
  pub numbers_no_23 : (is : List Instruction) → AllWellFormed is → wrong_code (numbers_of (is ++ (show register ∷ []))) ≡ false
  unfolding AllWellFormed numbers_of wrong_code
  numbers_no_23 [] h = rw (lt-leb register_count register low)
  numbers_no_23 (load target group ∷ is) h =
      rw (lt-leb register_count target h.0.0, le-ltb group 1 h.0.1, le-ltb last_group group h.0.2, not_last is, numbers_no_23 is h.1)
  numbers_no_23 (change o first second ∷ is) h =
      rw (kind_not_load o, kind_not_show o, kind_inside o, lt-leb register_count first h.0.0, lt-leb register_count second h.0.1, not_last is, numbers_no_23 is h.1)
  numbers_no_23 (show r ∷ is) h = absurd h.0

  -- No fault 22 in up to 8,192 instructions; so the player refuses them only for its bytes and its patch.
  pub numbers_fault : (is : List Instruction) → length is + 1 ≤ most_instructions → AllWellFormed is → (patch lamps : List ℕ)
      → play_fault (numbers_of (is ++ (show register ∷ []))) patch lamps ≡ fault_by false false patch lamps
  numbers_fault is few h patch lamps = rw (no_22, numbers_no_23 is h)
    where
      no_22 : wrong_length most_instructions (length (numbers_of (is ++ (show register ∷ [])))) ≡ false
      no_22 =
          let m = length-append is (show register ∷ []) in
          length_right most_instructions (length (numbers_of (is ++ (show register ∷ [])))) (length (is ++ (show register ∷ []))) (numbers_length (is ++ (show register ∷ []))) (omega arith) (omega arith)
