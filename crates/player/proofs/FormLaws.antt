-- What an instruction that can be carried out says of the numbers that the code reads, whichever form its operations have.
use mathlib.Core.Path.{◌≡◌, refl, sym, ap, ◌∙◌}
use mathlib.Core.List.{List}
use Prim.Native.Nat.{ℕ, ◌+◌, ◌≤◌, ◌<◌}
use borrow.Author.Tests.{eq-eqb, ne_eqb}
use lib.ListN.{get_or}
use Rattle.player.specs.Limits.{register_count, last_group}
use Rattle.player.specs.Instructions.{Rig, Registers, combined, put, step, load_kind, operation_with}
use Rattle.player.specs.declared.Form.{Form}
use Rattle.player.specs.declared.Form.TheVariants.{ThreeRegisters, TwoRegisters}
use Rattle.player.specs.InnerForms.{left_of, left_in, right_in, instruction_at, CanStep}
use Rattle.player.proofs.HoldingLaws.{step_load, step_combined}
use Rattle.player.proofs.FaultLaws.{Executable, right_target, right_group, right_s, right_t}

-- of a LOAD the group stays where it is
load_stays : (form : Form) (kind a b : ℕ) → kind ≡ load_kind → left_in form kind a b ≡ b
load_stays ThreeRegisters kind a b e = refl
load_stays TwoRegisters kind a b e = rw (eq-eqb kind load_kind e)

-- of an operation each operand stands where the form says
module _ (four : List ℕ) (kind : ℕ) (n : kind ≡ load_kind → ⊥) where
  left_there : (form : Form) → get_or four (left_of form) 0 ≡ left_in form kind (get_or four 1 0) (get_or four 2 0)
  left_there ThreeRegisters = refl
  left_there TwoRegisters = rw (ne_eqb kind load_kind n)

  right_there : (form : Form) → get_or four (left_of form + 1) 0 ≡ right_in form kind (get_or four 2 0) (get_or four 3 0)
  right_there ThreeRegisters = refl
  right_there TwoRegisters = rw (ne_eqb kind load_kind n)

module _ {form : Form} {four : List ℕ} {registers : List (List ℕ)} (C : CanStep form four registers) where
  abbrev kind : ℕ
  kind = get_or four 0 0

  abbrev first : ℕ
  first = left_in form kind (get_or four 1 0) (get_or four 2 0)

  abbrev second : ℕ
  second = right_in form kind (get_or four 2 0) (get_or four 3 0)

  executable : Executable kind (get_or four 1 0) first second registers
  executable = record { right = C.right; all_registers = C.all_registers }

  pub target_low : get_or four 1 0 < register_count
  target_low = right_target executable

  module _ (e : kind ≡ load_kind) where
    pub load_left : first ≡ get_or four 2 0
    load_left = load_stays form kind _ _ e

    pub load_step : (G : Rig) (R : Registers) → put R (get_or four 1 0) (G (get_or four 2 0)) ≡ step G (instruction_at form four) R
    load_step G R = ap (λ (k : ℕ). put R (get_or four 1 0) (G k)) (sym load_left) ∙ step_load G R kind _ _ _ e

    pub group_low : get_or four 2 0 ≤ last_group
    group_low = rw load_left at (right_group executable e)

  module _ (n : kind ≡ load_kind → ⊥) where
    pub left_at : get_or four (left_of form) 0 ≡ first
    left_at = left_there four kind n form

    pub right_at : get_or four (left_of form + 1) 0 ≡ second
    right_at = right_there four kind n form

    pub left_low : get_or four (left_of form) 0 < register_count
    left_low = rw left_at (right_s executable n)

    pub right_low : get_or four (left_of form + 1) 0 < register_count
    right_low = rw right_at (right_t executable n)

    pub combine_step : (G : Rig) (R : Registers)
        → put R (get_or four 1 0) (combined (operation_with kind) (R (get_or four (left_of form) 0)) (R (get_or four (left_of form + 1) 0))) ≡ step G (instruction_at form four) R
    combine_step G R = rw (left_at, right_at) (step_combined G R kind _ _ _ n)
