-- Code and patches as chunks of four and of two, as the loops go over them.
use mathlib.Core.Path.{◌≡◌, refl, sym, ap, ◌∙◌, fun_ext}
use mathlib.Core.Bool.{Bool, true, false, cond, ◌&&◌, ◌||◌}
use mathlib.Core.List.{List, [], ◌∷◌, map}
use Prim.Native.Nat.{ℕ, zero, suc, ◌+◌, ◌-◌, ◌*◌, ◌/◌, ◌≤◌, ◌<◌}
use native.Mathlib.Nat.{mul-zero, mul-suc, suc-add}
use native.Mathlib.Numerals.{add-one}
use native.Mathlib.Omega.{arith}
use borrow.Author.Tests.{eq-eqb, ne_eqb, eqb-true, eqb-false}
use lib.Dec.{eqb}
use lib.ListN.{length, get_or, take, drop}
use lib.Seq.{drop-cons}
use Rattle.std.proofs.lemmas.List.{drop_all, drop-drop, get_or-drop, get_or-take}
use Rattle.std.specs.List.{list_any}
use Rattle.std.specs.Simd.{first_chunks}
use Rattle.common.specs.Fours.{fours}
use Rattle.common.proofs.ListLaws.{two_at, four_at, fours_more, fours_end}
use Rattle.player.specs.Instructions.{Rig, Registers, add, combined, put, empty, step, run}
use Rattle.player.specs.Patches.{rig}
use Rattle.player.specs.Playing.{wrong_instruction, wrong_code, wrong_pair, wrong_patch}
use Rattle.player.specs.declared.Form.{Form}
use Rattle.player.specs.declared.Form.TheVariants.{ThreeRegisters}
use Rattle.player.specs.InnerForms.{wrong_in, instruction_in, NoneWrong}
use Rattle.player.proofs.FaultLaws.{or_left, or_right}

-- what f makes of a chunk of four numbers, and of two
abbrev pub of_four : {A : Type 0} → (ℕ → ℕ → ℕ → ℕ → A) → List ℕ → A
of_four f four = f (get_or four 0 0) (get_or four 1 0) (get_or four 2 0) (get_or four 3 0)

abbrev pub of_pair : {A : Type 0} → (ℕ → ℕ → A) → List ℕ → A
of_pair f pair = f (get_or pair 0 0) (get_or pair 1 0)

abbrev pub chunks_of : ℕ → List ℕ → List (List ℕ)
chunks_of n l = first_chunks n (length l / n) l

-- the first chunk, and those of the rest
four_first : (a b c d : ℕ) (l : List ℕ) → chunks_of 4 (a ∷ b ∷ c ∷ d ∷ l) ≡ (a ∷ b ∷ c ∷ d ∷ []) ∷ chunks_of 4 l
four_first a b c d l = let more : suc (suc (suc (suc (length l)))) / 4 ≡ suc (length l / 4) = omega arith in rw more

two_first : (a b : ℕ) (l : List ℕ) → chunks_of 2 (a ∷ b ∷ l) ≡ (a ∷ b ∷ []) ∷ chunks_of 2 l
two_first a b l = let more : suc (suc (length l)) / 2 ≡ suc (length l / 2) = omega arith in rw more

-- ---- code
pub fours_chunks : {A : Type 0} (f : ℕ → ℕ → ℕ → ℕ → A) (l : List ℕ) → fours f l ≡ map (of_four f) (chunks_of 4 l)
unfolding fours
fours_chunks f [] = refl
fours_chunks f (a ∷ []) = refl
fours_chunks f (a ∷ b ∷ []) = refl
fours_chunks f (a ∷ b ∷ c ∷ []) = refl
fours_chunks f (a ∷ b ∷ c ∷ d ∷ l) = rw (four_first a b c d l, fours_chunks f l)

pub any_code : (l : List ℕ) → list_any (of_four wrong_instruction) (chunks_of 4 l) ≡ wrong_code l
unfolding wrong_code
any_code [] = refl
any_code (a ∷ []) = refl
any_code (a ∷ b ∷ []) = refl
any_code (a ∷ b ∷ c ∷ []) = refl
any_code (a ∷ b ∷ c ∷ d ∷ l) = rw (four_first a b c d l, any_code l)

-- code without fault 23: each of its instructions
pub code_right : (l : List ℕ) → wrong_code l ≡ false → NoneWrong (fours (wrong_in ThreeRegisters) l)
unfolding wrong_code fours NoneWrong
code_right [] h = tt
code_right (a ∷ []) h = tt
code_right (a ∷ b ∷ []) h = tt
code_right (a ∷ b ∷ c ∷ []) h = tt
code_right (a ∷ b ∷ c ∷ d ∷ l) h = (or_left _ _ h, code_right l (or_right (wrong_instruction a b c d) _ h))

-- ---- carried out chunk by chunk
module _ (form : Form) (chunks : List (List ℕ)) (i : ℕ) (h : i < length chunks) where
  pub none_more : NoneWrong (map (of_four (wrong_in form)) (drop i chunks))
      → (of_four (wrong_in form) (get_or chunks i []) ≡ false) × NoneWrong (map (of_four (wrong_in form)) (drop (i + 1) chunks))
  unfolding NoneWrong
  none_more n = rw add-one (rw (drop-cons chunks i []) at n)

  pub run_more : (G : Rig) (R : Registers)
      → run G (map (of_four (instruction_in form)) (drop i chunks)) R
      ≡ run G (map (of_four (instruction_in form)) (drop (i + 1) chunks)) (step G (of_four (instruction_in form) (get_or chunks i [])) R)
  unfolding run
  run_more G R = rw (add-one, drop-cons chunks i [])

pub run_end : (form : Form) (chunks : List (List ℕ)) (i : ℕ) → length chunks ≤ i → (G : Rig) (R : Registers)
    → run G (map (of_four (instruction_in form)) (drop i chunks)) R ≡ R
unfolding run
run_end form chunks i h G R = rw (drop_all i chunks h)

-- ---- pairs
pub any_patch : (l : List ℕ) → list_any (of_pair wrong_pair) (chunks_of 2 l) ≡ wrong_patch l
unfolding wrong_patch
any_patch [] = refl
any_patch (g ∷ []) = refl
any_patch (g ∷ n ∷ l) = rw (two_first g n l, any_patch l)

pair_put : (S : Rig) (g n group lamp : ℕ) → put S g (combined add (eqb n) (S g)) group lamp ≡ ((eqb g group && eqb n lamp) || S group lamp)
pair_put S g n group lamp = go (eqb group g) refl
  where
    go : (b : Bool) → eqb group g ≡ b → cond b (combined add (eqb n) (S g)) (S group) lamp ≡ ((eqb g group && eqb n lamp) || S group lamp)
    go true q = rw (eqb-true group g q, eq-eqb g g refl)
    go false q = rw (ne_eqb g group (λ e. eqb-false group g q (sym e)))

or_swap : (x y z : Bool) → (x || (y || z)) ≡ (y || (x || z))
or_swap true true z = refl
or_swap true false z = refl
or_swap false y z = refl

-- one pair more
rig_pair : (l : List ℕ) (i at : ℕ) → at ≡ 2 * i → suc (suc at) ≤ length l → (group lamp : ℕ)
    → rig (take (suc (suc at)) l) group lamp ≡ ((eqb (get_or l at 0) group && eqb (get_or l (suc at) 0) lamp) || rig (take at l) group lamp)
unfolding rig
rig_pair [] i at e h group lamp = absurd (omega arith)
rig_pair (g ∷ []) i at e h group lamp = absurd (omega arith)
rig_pair (g ∷ n ∷ l) i zero e h group lamp = refl
rig_pair (g ∷ n ∷ l) i (suc zero) e h group lamp = absurd (omega arith)
rig_pair (g ∷ n ∷ l) i (suc (suc at)) e h group lamp =
    rw (rig_pair l (i - 1) at (omega arith) (omega arith) group lamp) (or_swap (eqb g group && eqb n lamp) _ _)

chunk_at : (n k : ℕ) (l : List ℕ) (i : ℕ) → i < k → get_or (first_chunks n k l) i [] ≡ take n (drop (n * i) l)
chunk_at n zero l i h = absurd (omega arith)
chunk_at n (suc k) l zero h = rw mul-zero
chunk_at n (suc k) l (suc i) h =
    let more : n + n * i ≡ n * suc i = rw mul-suc (omega arith) in
    rw (chunk_at n k (drop n l) i (omega arith), drop-drop (n * i) n l, more)

chunk_count : (n k : ℕ) (l : List ℕ) → length (first_chunks n k l) ≡ k
chunk_count n zero l = refl
chunk_count n (suc k) l = ap suc (chunk_count n k (drop n l))

-- a test that is true of none
none_of : {A : Type 0} (test : A → Bool) (l : List A) (i : ℕ) (d : A) → i < length l → list_any test l ≡ false → test (get_or l i d) ≡ false
none_of test [] i d h none = absurd (omega arith)
none_of test (x ∷ l) zero d h none = or_left (test x) _ none
none_of test (x ∷ l) (suc i) d h none = none_of test l i d (omega arith) (or_right (test x) _ none)

-- a number of a chunk stands in the list
pub number_in : (n : ℕ) (l : List ℕ) (i j : ℕ) → i < length l / n → j < n → get_or (get_or (chunks_of n l) i []) j 0 ≡ get_or l (n * i + j) 0
number_in n l i j h lt = rw (chunk_at n (length l / n) l i h, get_or-take n (drop (n * i) l) j 0 lt, get_or-drop (n * i) l j 0)

module _ (l : List ℕ) (i : ℕ) (h : i < length l / 2) where
  abbrev pub pair : List ℕ
  pair = get_or (chunks_of 2 l) i []

  -- a pair puts its lamp into its group
  pub rig_more : put (rig (take (2 * i) l)) (get_or pair 0 0) (combined add (eqb (get_or pair 1 0)) (rig (take (2 * i) l) (get_or pair 0 0))) ≡ rig (take (2 * (i + 1)) l)
  rig_more =
      let next : 2 * (i + 1) ≡ suc (suc (2 * i)) = omega arith in
      let one : 2 * i + 1 ≡ suc (2 * i) = omega arith in
      let none : 2 * i + 0 ≡ 2 * i = omega arith in
      fun_ext (λ group. fun_ext (λ lamp.
      rw (number_in 2 l i 0 h (omega arith), number_in 2 l i 1 h (omega arith), next, one, none)
      (pair_put (rig (take (2 * i) l)) (get_or l (2 * i) 0) (get_or l (suc (2 * i)) 0) group lamp ∙ sym (rig_pair l i (2 * i) refl (omega arith) group lamp))))

  -- in a patch without fault 25 it has none
  pub pair_right : wrong_patch l ≡ false → of_pair wrong_pair pair ≡ false
  pair_right right = none_of (of_pair wrong_pair) (chunks_of 2 l) i [] (rw (chunk_count 2 (length l / 2) l) h) (any_patch l ∙ right)

pub rig_none : empty ≡ rig []
unfolding rig
rig_none = refl

-- ---- at any position of a list
module _ (l : List ℕ) (i k : ℕ) (e : i + 4 ≡ k) (h : k ≤ length l) where
  code_more : wrong_code (drop i l) ≡ (wrong_instruction (get_or l i 0) (get_or l (i + 1) 0) (get_or l (i + 2) 0) (get_or l (i + 3) 0) || wrong_code (drop k l))
  unfolding wrong_code
  code_more = rw (four_at l i k e h)

  pub code_hit : wrong_instruction (get_or l i 0) (get_or l (i + 1) 0) (get_or l (i + 2) 0) (get_or l (i + 3) 0) ≡ true → wrong_code (drop i l) ≡ true
  code_hit s = code_more ∙ rw s

  pub code_miss : wrong_instruction (get_or l i 0) (get_or l (i + 1) 0) (get_or l (i + 2) 0) (get_or l (i + 3) 0) ≡ false → wrong_code (drop i l) ≡ wrong_code (drop k l)
  code_miss s = code_more ∙ rw s

  module _ (form : Form) where
    pub none_more_at : NoneWrong (fours (wrong_in form) (drop i l)) → (wrong_in form (get_or l i 0) (get_or l (i + 1) 0) (get_or l (i + 2) 0) (get_or l (i + 3) 0) ≡ false) × NoneWrong (fours (wrong_in form) (drop k l))
    unfolding NoneWrong
    none_more_at n = rw (fours_more (wrong_in form) l i k e h) at n

    pub run_more_at : (G : Rig) (R : Registers)
        → run G (fours (instruction_in form) (drop i l)) R ≡ run G (fours (instruction_in form) (drop k l)) (step G (instruction_in form (get_or l i 0) (get_or l (i + 1) 0) (get_or l (i + 2) 0) (get_or l (i + 3) 0)) R)
    unfolding run
    run_more_at G R = rw (fours_more (instruction_in form) l i k e h)

pub code_end : (l : List ℕ) → length l < 4 → wrong_code l ≡ false
unfolding wrong_code
code_end [] h = refl
code_end (a ∷ []) h = refl
code_end (a ∷ b ∷ []) h = refl
code_end (a ∷ b ∷ c ∷ []) h = refl
code_end (a ∷ b ∷ c ∷ d ∷ l) h = absurd (omega arith)

pub run_end_at : (form : Form) (l : List ℕ) (G : Rig) (R : Registers) → length l < 4 → run G (fours (instruction_in form) l) R ≡ R
unfolding run
run_end_at form l G R h = rw (fours_end (instruction_in form) l h)

module _ (l : List ℕ) (i k : ℕ) (e : i + 2 ≡ k) (h : k ≤ length l) where
  pub patch_hit : wrong_pair (get_or l i 0) (get_or l (i + 1) 0) ≡ true → wrong_patch (drop i l) ≡ true
  unfolding wrong_patch
  patch_hit s = rw (two_at l i k e h, s)

  pub patch_miss : wrong_pair (get_or l i 0) (get_or l (i + 1) 0) ≡ false → wrong_patch (drop i l) ≡ wrong_patch (drop k l)
  unfolding wrong_patch
  patch_miss s = rw (two_at l i k e h, s)

  -- a pair puts its lamp into its group
  pub rig_more_at : put (rig (drop k l)) (get_or l i 0) (combined add (eqb (get_or l (i + 1) 0)) (rig (drop k l) (get_or l i 0))) ≡ rig (drop i l)
  unfolding rig
  rig_more_at = fun_ext (λ group. fun_ext (λ lamp. rw (two_at l i k e h) (pair_put (rig (drop k l)) (get_or l i 0) (get_or l (i + 1) 0) group lamp)))

pub patch_end : (l : List ℕ) → length l < 2 → wrong_patch l ≡ false
unfolding wrong_patch
patch_end [] h = refl
patch_end (a ∷ []) h = refl
patch_end (a ∷ b ∷ l) h = absurd (omega arith)

pub rig_end : (l : List ℕ) → length l < 2 → empty ≡ rig l
unfolding rig
rig_end [] h = refl
rig_end (g ∷ []) h = refl
rig_end (g ∷ n ∷ l) h = absurd (omega arith)

-- a patch without fault 25: each of its pairs
pub patch_right : (l : List ℕ) (j : ℕ) → wrong_patch l ≡ false → 2 * j + 2 ≤ length l → wrong_pair (get_or l (2 * j) 0) (get_or l (2 * j + 1) 0) ≡ false
unfolding wrong_patch
patch_right [] j right h = absurd (omega arith)
patch_right (g ∷ []) j right h = absurd (omega arith)
patch_right (g ∷ n ∷ l) zero right h = or_left (wrong_pair g n) (wrong_patch l) right
patch_right (g ∷ n ∷ l) (suc j) right h =
    let next : 2 * suc j ≡ suc (suc (2 * j)) = omega arith in
    rw (next, suc-add, suc-add) (patch_right l j (or_right (wrong_pair g n) (wrong_patch l) right) (omega arith))
