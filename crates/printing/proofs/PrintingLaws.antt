-- The text of instructions, line by line, and how long lines are.
use mathlib.Core.Path.{◌≡◌, refl, sym, ap, ◌∙◌}
use mathlib.Core.List.{List, [], ◌∷◌, ◌++◌, map, append_assoc, append-nil}
use Prim.Native.Nat.{ℕ, suc, ◌/◌, ◌+◌, ◌-◌, ◌*◌, ◌^◌, ◌≤◌, ◌<◌}
use native.Mathlib.Omega.{arith}
use borrow.Author.Tests.{eq-eqb, ne_eqb}
use lib.ListN.{length, get_or, drop, length-append}
use lib.Seq.{drop-cons}
use native.Mathlib.Numerals.{add-one}
use Rattle.std.proofs.lemmas.List.{drop_all}
use Rattle.std.specs.Simd.{first_chunks}
use Rattle.tree.specs.InnerWriting.{Wrote}
use Rattle.tree.proofs.WritingLaws.{wrote_nothing, wrote_then, wrote_as}
use Rattle.text.specs.Decimal.{digits}
use Rattle.text.specs.Line.{line, lines}
use Rattle.text.specs.Inner.{field, fields_after}
use Rattle.text.proofs.DecimalLaws.{digits_length}
use Rattle.text.proofs.LineLaws.{line_length}
use Rattle.text.specs.Line.{Row}
use Rattle.player.specs.Limits.{register_count}
use Rattle.player.specs.Instructions.{Operation, add, cut, both, Instruction, load, operate, load_kind, kind_of, operation_with, instruction}
use Rattle.player.specs.Instructions as newer
use Rattle.player.proofs.InstructionLaws.{WellFormed, AllWellFormed, instructions_numbers}
use Rattle.older_player.specs.Instructions as older
use Rattle.older_player.specs.Codes as older-codes
use Rattle.older_player.proofs.InstructionLaws as older-laws
use Rattle.common.specs.Fours.{fours}
use Rattle.common.proofs.ListLaws.{fours_more, fours_end}
use Rattle.printing.specs.Key.{NO, LIFT, HELD, LOAD, ADD, CUT, BOTH, SHOW, word_of, instruction_row, older_row, instruction_rows}
use Rattle.printing.specs.Inner.{row_text, row_of, four_row, code_rows}
use Rattle.printing.specs.declared.Device.{Device}
use Rattle.printing.specs.declared.Device.TheVariants.{Newer, Older}

-- ---- a loop that writes a text piece by piece: so far the front of `whole` is written, and `rest` is what is left of it
pub record WroteUpTo (whole rest out : List ℕ) (at : ℕ) (out' : List ℕ) (next : ℕ) : Type 0 where
  pub front : List ℕ
  pub wrote : Wrote out at out' next front
  pub is : front ++ rest ≡ whole

pub up_to_start : (whole out : List ℕ) (at : ℕ) → WroteUpTo whole whole out at out at
up_to_start whole out at = record { front = []; wrote = wrote_nothing out at; is = refl }

pub up_to_next : {whole out out₁ out₂ x rest : List ℕ} {at next₁ next₂ : ℕ} (rest₁ : List ℕ) → rest₁ ≡ x ++ rest → WroteUpTo whole rest₁ out at out₁ next₁ → Wrote out₁ next₁ out₂ next₂ x
    → WroteUpTo whole rest out at out₂ next₂
up_to_next {whole} {out} {out₁} {out₂} {x} {rest} rest₁ e w v = record {
  front = w.front ++ x;
  wrote = wrote_then w.wrote v;
  is = append_assoc w.front x rest ∙ ap (λ (l : List ℕ). w.front ++ l) (sym e) ∙ w.is;
}

pub up_to_room : {whole out out₁ : List ℕ} {at next : ℕ} (rest₁ x rest : List ℕ) → rest₁ ≡ x ++ rest → WroteUpTo whole rest₁ out at out₁ next → at + length whole ≤ length out
    → next + length x ≤ length out₁
up_to_room {whole} rest₁ x rest e w h =
    omega (arith, w.wrote.ends, w.wrote.same, ap length w.is, length-append w.front rest₁, ap length e, length-append x rest)

pub up_to_end : {whole out out₁ : List ℕ} {at next : ℕ} (rest : List ℕ) → rest ≡ [] → WroteUpTo whole rest out at out₁ next → Wrote out at out₁ next whole
up_to_end rest e w = wrote_as w.wrote (sym (append-nil w.front) ∙ ap (λ (l : List ℕ). w.front ++ l) (sym e) ∙ w.is)

-- ---- the line of an instruction, by its kind
module _ (kind target s t : ℕ) where
  pub load_text : kind ≡ load_kind → row_text (instruction_row (instruction kind target s t)) ≡ line LOAD (target ∷ s ∷ [])
  load_text e = rw (eq-eqb kind load_kind e)

  pub operation_text : (kind ≡ load_kind → ⊥) → row_text (instruction_row (instruction kind target s t)) ≡ line (word_of (operation_with kind)) (target ∷ s ∷ t ∷ [])
  operation_text l = rw (ne_eqb kind load_kind l)

-- of the older player's
module _ (kind first second : ℕ) where
  pub older_load_text : kind ≡ load_kind → row_text (older_row (older.instruction kind first second 0)) ≡ line LOAD (first ∷ second ∷ [])
  older_load_text e = rw (eq-eqb kind load_kind e)

  pub older_show_text : kind ≡ older.show_kind → row_text (older_row (older.instruction kind first second 0)) ≡ line SHOW (first ∷ [])
  older_show_text e = rw e

  pub older_operation_text : (kind ≡ load_kind → ⊥) → (kind ≡ older.show_kind → ⊥)
      → row_text (older_row (older.instruction kind first second 0)) ≡ line (word_of (operation_with kind)) (first ∷ second ∷ [])
  older_operation_text l z = rw (ne_eqb kind load_kind l, ne_eqb kind older.show_kind z)

-- the word of an operation, by its kind
module _ (kind : ℕ) where
  pub add_word : kind ≡ kind_of add → word_of (operation_with kind) ≡ ADD
  add_word e = rw e

  pub cut_word : kind ≡ kind_of cut → word_of (operation_with kind) ≡ CUT
  cut_word e = rw e

  pub both_word : (kind ≡ kind_of add → ⊥) → (kind ≡ kind_of cut → ⊥) → word_of (operation_with kind) ≡ BOTH
  both_word a c = rw (ne_eqb kind (kind_of add) a, ne_eqb kind (kind_of cut) c)

-- ---- one instruction more of a code
abbrev pub code_text : Device → List ℕ → List ℕ
code_text d code = lines (code_rows d code)

four_first : (a b c d : ℕ) (l : List ℕ) → first_chunks 4 (suc (suc (suc (suc (length l)))) / 4) (a ∷ b ∷ c ∷ d ∷ l) ≡ (a ∷ b ∷ c ∷ d ∷ []) ∷ first_chunks 4 (length l / 4) l
four_first a b c d l = let more : suc (suc (suc (suc (length l)))) / 4 ≡ suc (length l / 4) = omega arith in rw more

four_rows : (v : Device) (l : List ℕ) → map (four_row v) (first_chunks 4 (length l / 4) l) ≡ code_rows v l
unfolding fours
four_rows v [] = refl
four_rows v (a ∷ []) = refl
four_rows v (a ∷ b ∷ []) = refl
four_rows v (a ∷ b ∷ c ∷ []) = refl
four_rows v (a ∷ b ∷ c ∷ d ∷ l) = rw (four_first a b c d l, four_rows v l)

-- what is left to write of a code from its instruction i on
abbrev pub text_left : Device → List (List ℕ) → ℕ → List ℕ
text_left d chunks i = lines (map (four_row d) (drop i chunks))

pub text_left_all : (d : Device) (code : List ℕ) {chunks : List (List ℕ)} → chunks ≡ first_chunks 4 (length code / 4) code → text_left d chunks 0 ≡ code_text d code
text_left_all d code e = rw (e, four_rows d code)

pub text_left_next : (d : Device) (chunks : List (List ℕ)) (i : ℕ) → i < length chunks → text_left d chunks i ≡ row_text (four_row d (get_or chunks i [])) ++ text_left d chunks (i + 1)
unfolding lines
text_left_next d chunks i h = rw (add-one, drop-cons chunks i [])

pub text_left_end : (d : Device) (chunks : List (List ℕ)) (i : ℕ) → length chunks ≤ i → text_left d chunks i ≡ []
unfolding lines
text_left_end d chunks i h = rw (drop_all i chunks h)

-- the same by the numbers of the code
pub code_text_next : (d : Device) (code : List ℕ) (i : ℕ) → 4 ≤ length code - i
    → code_text d (drop i code) ≡ row_text (row_of d (get_or code i 0) (get_or code (i + 1) 0) (get_or code (i + 2) 0) (get_or code (i + 3) 0)) ++ code_text d (drop (i + 4) code)
unfolding lines
code_text_next d code i h = rw (fours_more (row_of d) code i (i + 4) refl (omega arith))

pub code_room : (d : Device) {out out₁ : List ℕ} {at next : ℕ} (code : List ℕ) (i : ℕ) → 4 ≤ length code - i → WroteUpTo (code_text d code) (code_text d (drop i code)) out at out₁ next
    → at + length (code_text d code) ≤ length out
    → next + length (row_text (row_of d (get_or code i 0) (get_or code (i + 1) 0) (get_or code (i + 2) 0) (get_or code (i + 3) 0))) ≤ length out₁
code_room d code i h w room =
    up_to_room (code_text d (drop i code)) (row_text (row_of d (get_or code i 0) (get_or code (i + 1) 0) (get_or code (i + 2) 0) (get_or code (i + 3) 0))) (code_text d (drop (i + 4) code))
    (code_text_next d code i h) w room

pub code_text_end : (d : Device) (code : List ℕ) → length code < 4 → code_text d code ≡ []
unfolding lines
code_text_end d code h = rw (fours_end (row_of d) code h)

-- the lines of the numbers of instructions are the instructions' lines
rows_of_lem : {I : Type 0} (row_for : I → Row) (instruction : ℕ → ℕ → ℕ → ℕ → I) (l : List ℕ)
    → fours (λ a b c d. row_for (instruction a b c d)) l ≡ instruction_rows row_for (fours instruction l)
unfolding fours instruction_rows
rows_of_lem row_for f [] = refl
rows_of_lem row_for f (a ∷ []) = refl
rows_of_lem row_for f (a ∷ b ∷ []) = refl
rows_of_lem row_for f (a ∷ b ∷ c ∷ []) = refl
rows_of_lem row_for f (a ∷ b ∷ c ∷ d ∷ l) = ap (λ (rs : List Row). row_for (f a b c d) ∷ rs) (rows_of_lem row_for f l)

pub newer_rows : (is : List Instruction) → code_rows Newer (newer.numbers_of is) ≡ instruction_rows instruction_row is
newer_rows is = rows_of_lem instruction_row instruction (newer.numbers_of is) ∙ ap (instruction_rows instruction_row) (instructions_numbers is)

pub older_rows : (is : List older.Instruction) → code_rows Older (older.numbers_of is) ≡ instruction_rows older_row is
older_rows is = rows_of_lem older_row older.instruction (older.numbers_of is) ∙ ap (instruction_rows older_row) (older-laws.instructions_numbers is)

-- ---- how long lines are at most
line_two : (word : List ℕ) (a b : ℕ) → length (line word (a ∷ b ∷ [])) ≡ length word + length (digits a) + length (digits b) + 3
unfolding fields_after
line_two word a b = omega (arith, line_length word (a ∷ b ∷ []), length-append (field a) (field b ++ []), length-append (field b) [])

pub line_three : (word : List ℕ) (a b c : ℕ) → length (line word (a ∷ b ∷ c ∷ [])) ≡ length word + length (digits a) + length (digits b) + length (digits c) + 4
unfolding fields_after
line_three word a b c =
    omega (arith, line_length word (a ∷ b ∷ c ∷ []), length-append (field a) (field b ++ (field c ++ [])), length-append (field b) (field c ++ []), length-append (field c) [])

word_most : (o : Operation) → length (word_of o) ≤ 4
word_most add = omega arith
word_most cut = omega arith
word_most both = omega arith

-- an instruction that the player takes: at most 14 bytes
pub instruction_most : (i : Instruction) → WellFormed i → length (row_text (instruction_row i)) ≤ 14
instruction_most (load target group) w =
    omega (arith, line_two LOAD target group, digits_length 1 target (omega (arith, w.0)), digits_length 4 group (omega (arith, w.2)))
instruction_most (operate o target s t) w =
    omega (arith, word_most o, line_three (word_of o) target s t, digits_length 1 target (omega (arith, w.0)), digits_length 1 s (omega (arith, w.1)), digits_length 1 t (omega (arith, w.2)))

pub code_most : (is : List Instruction) → AllWellFormed is → length (lines (instruction_rows instruction_row is)) ≤ 14 * length is
unfolding lines instruction_rows AllWellFormed
code_most [] w = omega arith
code_most (i ∷ is) w = omega (arith, instruction_most i w.0, code_most is w.1, length-append (row_text (instruction_row i)) (lines (instruction_rows instruction_row is)))

-- one of the older player's, too
line_one : (word : List ℕ) (a : ℕ) → length (line word (a ∷ [])) ≡ length word + length (digits a) + 2
unfolding fields_after
line_one word a = omega (arith, line_length word (a ∷ []), length-append (field a) [])

older_most : (i : older.Instruction) → older-codes.WellFormed i → length (row_text (older_row i)) ≤ 14
older_most (older.load target group) w =
    omega (arith, line_two LOAD target group, digits_length 1 target (omega (arith, w.0)), digits_length 4 group (omega (arith, w.2)))
older_most (older.change o first second) w =
    omega (arith, word_most o, line_two (word_of o) first second, digits_length 1 first (omega (arith, w.0)), digits_length 1 second (omega (arith, w.1)))
older_most (older.show register) w = absurd w

-- with SHOW, at most 8, at the end
pub older_code_most : (register : ℕ) → register < register_count → (is : List older.Instruction) → older-codes.AllWellFormed is
    → length (lines (instruction_rows older_row (is ++ (older.show register ∷ [])))) ≤ 14 * length is + 8
unfolding lines instruction_rows older-codes.AllWellFormed
older_code_most r h [] w = omega (arith, line_one SHOW r, digits_length 1 r (omega arith), length-append (row_text (older_row (older.show r))) [])
older_code_most r h (i ∷ is) w = omega (arith, older_most i w.0, older_code_most r h is w.1, length-append (row_text (older_row i)) (lines (instruction_rows older_row (is ++ (older.show r ∷ [])))))

-- a LIFT line: at most 16
pub lift_most : (number position looks : ℕ) → number < 100 → position < 10 ^ 4 → looks < 100 → length (line LIFT (number ∷ position ∷ looks ∷ [])) ≤ 16
lift_most number position looks n p k =
    omega (arith, line_three LIFT number position looks, digits_length 1 number (omega arith), digits_length 3 position (omega arith), digits_length 1 looks (omega arith))

-- a HELD line: at most 17
pub held_most : (first count : ℕ) → first < 10 ^ 4 → count < 10 ^ 4 → length (line HELD (0 ∷ first ∷ count ∷ [])) ≤ 17
held_most first count f c =
    omega (arith, line_three HELD 0 first count, digits_length 0 0 (omega arith), digits_length 3 first (omega arith), digits_length 3 count (omega arith))

pub never_most : length (line HELD (19 ∷ [])) ≤ 17
unfolding fields_after
never_most = omega (arith, line_length HELD (19 ∷ []), length-append (field 19) [], digits_length 1 19 (omega arith))

-- a NO line, of a byte and a machine number: at most 28
pub no_most : (number at : ℕ) → number < 1000 → at < 10 ^ 20 → length (line NO (number ∷ at ∷ [])) ≤ 28
no_most number at n l = omega (arith, line_two NO number at, digits_length 2 number (omega arith), digits_length 19 at l)
