-- Without a fault the bytes suffice and the instructions are right, and the lamps of register 0 are written.
use mathlib.Core.Path.{sym, ◌∙◌}
use native.Mathlib.Omega.{arith}
use lib.ListN.{length}
use Rattle.player.specs.Limits.{most_instructions}
use Rattle.player.specs.Playing.{wrong_length}
use Rattle.player.proofs.ListLaws.{code_right}
use Rattle.player.proofs.PlayingLaws.{lengths_right, check_right}
use Rattle.player.proofs.play.Goals as goal

pub write_lamps-requires : goal.write_lamps-requires
write_lamps-requires c =
    let a = c.args in
    let lengths = lengths_right (wrong_length most_instructions (length a.code.now)) (length a.lamps.now) (c.in_ok-check_lengths.ensures) in
    let patch = check_right a.patch.now (c.in_ok-check_patch.ensures) in
    (record { right = code_right _ (sym c.wrong_code.ensures ∙ c.if-wrong_code.false); inside = omega arith }, patch.0, patch.1, lengths.0)
