-- Without a fault the bytes suffice and the instructions are right, and the lamps of the register that SHOW names are written.
use mathlib.Core.Path.{◌≡◌, sym, ◌∙◌}
use mathlib.Core.Bool.{false}
use mathlib.Core.List.{List}
use Prim.Native.Nat.{ℕ, ◌+◌, ◌-◌}
use lib.ListN.{length, take, get_or}
use Rattle.player.specs.declared.Form.TheVariants.{TwoRegisters}
use Rattle.player.specs.InnerForms.{CanRun, shown_by}
use Rattle.player.specs.Patches.{rig}
use Rattle.player.specs.Playing.{wrong_length}
use Rattle.player.proofs.PlayingLaws.{lengths_right, check_right, no_fault, played}
use Rattle.older_player.specs.Instructions.{lit_lamps, instructions}
use Rattle.older_player.specs.Playing.{most_instructions, wrong_code}
use Rattle.older_player.proofs.CodeLaws.{Carried, carried, code_is}
use Rattle.older_player.proofs.play.Goals as goal

split : (code : List ℕ) (long : wrong_length most_instructions (length code) ≡ false) (right : wrong_code code ≡ false)
    → Carried code (code_is code long right) (take (length code - 4) code) (get_or code (length code - 4 + 1) 0)
split code long right = carried _ _

pub write_lamps-requires : goal.write_lamps-requires
write_lamps-requires c =
    let a = c.args in
    let lengths = lengths_right (wrong_length most_instructions (length a.code.now)) (length a.lamps.now) c.in_ok-check_lengths.ensures in
    let patch = check_right a.patch.now c.in_ok-check_patch.ensures in
    let S = split a.code.now lengths.1 (sym c.wrong_code.ensures ∙ c.if-wrong_code.false) in
    let can : CanRun TwoRegisters (take (length a.code.now - 4) a.code.now) c.from-shown.result = rw c.from-shown.ensures S.can in
    (can, patch.0, patch.1, lengths.0)

pub returns : goal.returns
returns c =
    let a = c.args in
    let lengths = lengths_right (wrong_length most_instructions (length a.code.now)) (length a.lamps.now) c.in_ok-check_lengths.ensures in
    let right = sym c.wrong_code.ensures ∙ c.if-wrong_code.false in
    let S = split a.code.now lengths.1 right in
    let lit : shown_by TwoRegisters (take (length a.code.now - 4) a.code.now) c.from-shown.result (rig a.patch.now) ≡ lit_lamps (rig a.patch.now) (instructions a.code.now) =
    rw c.from-shown.ensures (S.lit (rig a.patch.now)) in
    played _ _ _ _ (no_fault _ (wrong_code a.code.now) a.patch.now a.lamps.now lengths.0 lengths.1 right c.in_ok-check_patch.ensures) (rw lit at c.write_lamps.ensures)
