-- The codes without fault 23 are exactly the numbers of instructions in range that are not SHOW, and of SHOW behind them.
use mathlib.Core.Path.{◌≡◌, refl, sym, ap, ap₂, ◌∙◌}
use mathlib.Core.Bool.{Bool, true, false, not, cond, ◌||◌, true≢false}
use mathlib.Core.List.{List, [], ◌∷◌, ◌++◌, append_assoc}
use Prim.Native.Nat.{ℕ, suc, ◌+◌, ◌-◌, ◌%◌, ◌≤◌}
use native.Mathlib.Omega.{arith}
use borrow.Author.Tests.{eqb-true, eqb-false, ne_eqb, leb-false, ltb-false, lt-leb, le-ltb}
use lib.Dec.{eqb, leb, ltb}
use lib.ListN.{length, take, get_or, length-append}
use lib.Seq.{take_at, get_or_at}
use Rattle.common.specs.Exactly.{Exactly}
use Rattle.common.specs.Fours.{fours}
use Rattle.player.specs.Limits.{register_count, last_group, outside}
use Rattle.player.specs.Instructions.{Rig, Registers, empty, run, add, cut, both, load_kind, kind_of, operation_with}
use Rattle.player.specs.declared.Form.TheVariants.{TwoRegisters}
use Rattle.player.specs.InnerForms.{wrong_in, instruction_in, NoneWrong, CanRun, shown_by}
use Rattle.player.proofs.FaultLaws.{or_left, or_right}
use Rattle.player.specs.Playing.{wrong_length}
use Rattle.player.proofs.PlayingLaws.{length_fits}
use Rattle.player.proofs.InstructionLaws.{kind_not_load, kind_inside, kind_read}
use Rattle.older_player.specs.Instructions.{Instruction, load, change, show, lights, lit_lamps, show_kind, numbers, numbers_of, instruction, instructions}
use Rattle.older_player.specs.Playing.{most_instructions, wrong_instruction, misplaced, wrong_code}
use Rattle.older_player.specs.Codes.{WellFormed, AllWellFormed, IsCode}
use Rattle.older_player.proofs.InstructionLaws.{numbers_append, instructions_numbers}
use Rattle.older_player.proofs.PlayingLaws.{right_register, by_kind, numbers_no_23}

is_it : (n m : ℕ) → not (eqb n m) ≡ false → n ≡ m
is_it n m = go (eqb n m) refl
  where
    go : (b : Bool) → eqb n m ≡ b → not b ≡ false → n ≡ m
    go true e h = eqb-true n m e
    go false e h = absurd (true≢false h)

-- a kind in range is that of an operation
kind_back : (kind : ℕ) → outside (kind_of add) (kind_of both) kind ≡ false → kind ≡ kind_of (operation_with kind)
kind_back kind h = go (eqb kind 2) refl (eqb kind 3) refl
  where
    go : (x : Bool) → eqb kind 2 ≡ x → (y : Bool) → eqb kind 3 ≡ y → kind ≡ kind_of (cond x add (cond y cut both))
    go true e y f = eqb-true kind 2 e
    go false e true f = eqb-true kind 3 f
    go false e false f =
        omega (arith, eqb-false kind 2 e, eqb-false kind 3 f, ltb-false kind 2 (or_left _ _ h), ltb-false 4 kind (or_right (ltb kind 2) _ h))

-- where SHOW stands
last_shows : (kind : ℕ) → misplaced kind 0 ≡ false → kind ≡ show_kind
last_shows kind h = is_it kind show_kind h

not_shows : (kind behind : ℕ) → misplaced kind (suc behind) ≡ false → kind ≡ show_kind → ⊥
not_shows kind behind h = eqb-false kind show_kind (rw (ne_eqb (suc behind) 0 (λ e. omega arith)) at h)

-- four numbers without fault 23, wherever they stand: the instruction that they are
module _ (kind a b c : ℕ) (right : wrong_instruction kind a b c ≡ false) where
  last_zero : c ≡ 0
  last_zero = is_it c 0 (or_right (leb register_count a) _ (or_left _ _ right))

  pub record Is (i : Instruction) : Type 0 where
    pub well_formed : WellFormed i
    pub numbered : kind ∷ a ∷ b ∷ c ∷ [] ≡ numbers i

  -- no SHOW
  other : (kind ≡ show_kind → ⊥) → (i : Instruction) × Is i
  other n = go (eqb kind load_kind) refl (rw (ne_eqb kind show_kind n) at (by_kind kind a b c right))
    where
      go : (f : Bool) → eqb kind load_kind ≡ f → cond f (outside 1 last_group b) (outside (kind_of add) (kind_of both) kind || leb register_count b) ≡ false → (i : Instruction) × Is i
      go true e h = (
        load a b,
        record {
          well_formed = (right_register kind a b c right, ltb-false b 1 (or_left _ _ h), ltb-false last_group b (or_right (ltb b 1) _ h));
          numbered = ap₂ (λ (k l : ℕ). k ∷ a ∷ b ∷ l ∷ []) (eqb-true kind load_kind e) last_zero;
        },
      )
      go false e h = (
        change (operation_with kind) a b,
        record {
          well_formed = (right_register kind a b c right, leb-false register_count b (or_right (outside (kind_of add) (kind_of both) kind) _ h));
          numbered = ap₂ (λ (k l : ℕ). k ∷ a ∷ b ∷ l ∷ []) (kind_back kind (or_left _ _ h)) last_zero;
        },
      )

  -- SHOW
  shown : kind ≡ show_kind → kind ∷ a ∷ b ∷ c ∷ [] ≡ numbers (show a)
  shown e = let z : b ≡ 0 = is_it b 0 (rw e at (by_kind kind a b c right)) in rw (e, z, last_zero)

pub code_of : (code : List ℕ) → wrong_code code ≡ false → 1 ≤ length code → length code % 4 ≡ 0 → IsCode code
unfolding wrong_code numbers_of AllWellFormed
code_of [] w some four = absurd (omega arith)
code_of (a ∷ []) w some four = absurd (omega arith)
code_of (a ∷ b ∷ []) w some four = absurd (omega arith)
code_of (a ∷ b ∷ c ∷ []) w some four = absurd (omega arith)
code_of (a ∷ b ∷ c ∷ d ∷ []) w some four =
    let right = or_left (wrong_instruction a b c d) _ (or_left _ _ w) in
    let e : a ≡ show_kind = last_shows a (or_right (wrong_instruction a b c d) _ (or_left _ _ w)) in
    record { others = []; register = b; well_formed = tt; low = right_register a b c d right; numbered = shown a b c d right e }
code_of (a ∷ b ∷ c ∷ d ∷ e ∷ rest) w some four =
    let right = or_left (wrong_instruction a b c d) _ (or_left _ _ w) in
    let n = not_shows a (length rest) (or_right (wrong_instruction a b c d) _ (or_left _ _ w)) in
    let i = other a b c d right n in
    let C = code_of (e ∷ rest) (or_right (wrong_instruction a b c d || misplaced a (length (e ∷ rest))) _ w) (omega arith) (omega arith) in
    record {
      others = i.0 ∷ C.others;
      register = C.register;
      well_formed = (i.1.well_formed, C.well_formed);
      low = C.low;
      numbered = ap₂ (λ (x y : List ℕ). x ++ y) i.1.numbered C.numbered;
    }

-- "SHOW .. stands last and there only, else 23"
pub right_exactly : (code : List ℕ) → 1 ≤ length code → length code % 4 ≡ 0 → Exactly (wrong_code code ≡ false) (IsCode code)
right_exactly code some four = record {
  only = λ w. code_of code w some four;
  always = λ C. rw C.numbered (numbers_no_23 C.register C.low C.others C.well_formed);
}

-- ---- carried out as by 01's player
-- the instructions before SHOW can be
others_right : (is : List Instruction) → AllWellFormed is → NoneWrong (fours (wrong_in TwoRegisters) (numbers_of is))
unfolding AllWellFormed numbers_of fours NoneWrong
others_right [] h = tt
others_right (load target group ∷ is) h = (rw (lt-leb register_count target h.0.0, le-ltb group 1 h.0.1, le-ltb last_group group h.0.2), others_right is h.1)
others_right (change o first second ∷ is) h = (rw (kind_not_load o, kind_inside o, lt-leb register_count first h.0.0, lt-leb register_count second h.0.1), others_right is h.1)
others_right (show register ∷ is) h = absurd h.0

-- and leave the answer in the register that SHOW names
others_run : (G : Rig) (is : List Instruction) (register : ℕ) → AllWellFormed is → (R : Registers)
    → run G (fours (instruction_in TwoRegisters) (numbers_of is)) R register ≡ lights G (is ++ (show register ∷ [])) R
unfolding AllWellFormed numbers_of fours run lights
others_run G [] register h R = refl
others_run G (load target group ∷ is) register h R = others_run G is register h.1 _
others_run G (change o first second ∷ is) register h R = rw (kind_not_load o, kind_read o) (others_run G is register h.1 _)
others_run G (show r ∷ is) register h R = absurd h.0

module _ (code : List ℕ) (C : IsCode code) where
  -- its numbers are those of the instructions before SHOW, and SHOW's
  whole : code ≡ numbers_of C.others ++ (show_kind ∷ C.register ∷ 0 ∷ 0 ∷ [])
  unfolding numbers_of
  whole = C.numbered ∙ numbers_append C.others (show C.register ∷ [])

  before_show : length code - 4 ≡ length (numbers_of C.others)
  before_show = omega (arith, ap (length {A = ℕ}) whole, length-append (numbers_of C.others) (show_kind ∷ C.register ∷ 0 ∷ 0 ∷ []))

  pub record Carried (before : List ℕ) (shown : ℕ) : Type 0 where
    pub can : CanRun TwoRegisters before shown
    pub lit : (G : Rig) → shown_by TwoRegisters before shown G ≡ lit_lamps G (instructions code)

  pub carried : Carried (take (length code - 4) code) (get_or code (length code - 4 + 1) 0)
  carried =
      let others : List ℕ = numbers_of C.others in
      let front : take (length code - 4) code ≡ others = ap (take (length code - 4)) whole ∙ take_at others _ (length code - 4) (sym before_show) in
      let shown : get_or code (length code - 4 + 1) 0 ≡ C.register =
      ap (λ (l : List ℕ). get_or l (length code - 4 + 1) 0) (whole ∙ sym (append_assoc others (show_kind ∷ []) (C.register ∷ 0 ∷ 0 ∷ [])))
      ∙ get_or_at (others ++ (show_kind ∷ [])) C.register (0 ∷ 0 ∷ []) 0 (length code - 4 + 1) (length-append others (show_kind ∷ []) ∙ omega (arith, before_show)) in
      rw (front, shown) (record {
        can = record { right = others_right C.others C.well_formed; inside = C.low };
        lit = λ G. others_run G C.others C.register C.well_formed empty ∙ ap (lit_lamps G) (sym (ap (fours instruction) C.numbered ∙ instructions_numbers (C.others ++ (show C.register ∷ []))));
      })

-- the code that the player carries out
pub code_is : (code : List ℕ) → wrong_length most_instructions (length code) ≡ false → wrong_code code ≡ false → IsCode code
code_is code long right = let L = length_fits most_instructions (length code) long in code_of code right L.0 L.2
