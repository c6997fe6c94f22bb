-- Code of a device whose operations name three registers, as ours, or two, of which the first is the target and the left operand: it is
-- carried out as code of ours that does the same. Only contracts of inner functions cite it.
use Rattle.std.specs.Prelude.{◌≡◌, Bool, false, cond, List, [], ◌∷◌, ℕ, ◌<◌, eqb, length, get_or}
use Rattle.common.specs.Fours.{fours}
use Rattle.player.specs.Limits.{register_count}
use Rattle.player.specs.Instructions.{Lamps, Rig, Instruction, empty, run, load_kind, instruction}
use Rattle.player.specs.Playing.{wrong_instruction}
use Rattle.player.specs.declared.Form.{Form}
use Rattle.player.specs.declared.Form.TheVariants.{ThreeRegisters, TwoRegisters}

-- the place of an operation's left operand among its numbers: behind the target, or the target's own. The right one follows
abbrev pub left_of : Form → ℕ
left_of ThreeRegisters = 2
left_of TwoRegisters = 1

-- the two last numbers of ours, from the three behind the kind
abbrev pub left_in : Form → (kind a b : ℕ) → ℕ
left_in ThreeRegisters kind a b = b
left_in TwoRegisters kind a b = cond (eqb kind load_kind) b a

abbrev pub right_in : Form → (kind b c : ℕ) → ℕ
right_in ThreeRegisters kind b c = c
right_in TwoRegisters kind b c = cond (eqb kind load_kind) c b

-- whether ours cannot be carried out, and what it is
abbrev pub wrong_in : Form → (kind a b c : ℕ) → Bool
wrong_in form kind a b c = wrong_instruction kind a (left_in form kind a b) (right_in form kind b c)

abbrev pub instruction_in : Form → (kind a b c : ℕ) → Instruction
instruction_in form kind a b c = instruction kind a (left_in form kind a b) (right_in form kind b c)

-- the one that a chunk of four numbers is
abbrev pub instruction_at : Form → List ℕ → Instruction
instruction_at form four = instruction_in form (get_or four 0 0) (get_or four 1 0) (get_or four 2 0) (get_or four 3 0)

-- no test of a list came out true
unfoldable pub NoneWrong : List Bool → Type 0
NoneWrong [] = Unit {0}
NoneWrong (b ∷ bs) = (b ≡ false) × NoneWrong bs

-- that instruction can be carried out: ours has no fault 23, and there is an entry for each register
pub record CanStep (form : Form) (four : List ℕ) (registers : List (List ℕ)) : Type 0 where
  pub right : wrong_in form (get_or four 0 0) (get_or four 1 0) (get_or four 2 0) (get_or four 3 0) ≡ false
  pub all_registers : length registers ≡ register_count

-- all the instructions can be, and there is a register `shown`
pub record CanRun (form : Form) (code : List ℕ) (shown : ℕ) : Type 0 where
  pub right : NoneWrong (fours (wrong_in form) code)
  pub inside : shown < register_count

-- what register `shown` holds after all of them, where registers are empty at first
abbrev pub shown_by : (form : Form) (code : List ℕ) (shown : ℕ) → Rig → Lamps
shown_by form code shown rig = run rig (fours (instruction_in form) code) empty shown
