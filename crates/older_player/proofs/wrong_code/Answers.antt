-- The loop's invariant: the instructions passed had no fault, so that the code has one exactly if the rest has.
use mathlib.Core.Path.{sym, ◌∙◌}
use Prim.Native.Nat.{◌*◌, ◌/◌, ◌<◌}
use native.Mathlib.Omega.{arith}
use lib.ListN.{length, drop, length-drop}
use Rattle.older_player.proofs.PlayingLaws.{code_hit, code_hit_place, code_miss, code_end}
use Rattle.older_player.proofs.wrong_code.Goals as goal
use Rattle.older_player.proofs.wrong_code.Goals.{then-wrong_instruction-via-then-wrong_instruction, then-wrong_instruction-via-else-wrong_instruction+then-misplaced}

pub returns-then-wrong_instruction : goal.returns-then-wrong_instruction
returns-then-wrong_instruction c =
    let l = c.args.code.now in
    let i = c.loop-i.i in
    let front = c.as_chunks.ensures.front in
    let within : i < length l / 4 = omega (arith, c.as_chunks.ensures.front_len) in
    elim c.then-wrong_instruction.branch [
      | then-wrong_instruction-via-then-wrong_instruction w ↦ sym (c.loop-i.invariant ∙ code_hit l i within (rw front at (sym w.if-wrong_instruction.ensures)))
      | then-wrong_instruction-via-else-wrong_instruction+then-misplaced w ↦ sym (c.loop-i.invariant ∙ code_hit_place l i within (rw front at (sym w.if-misplaced.ensures)))
    ]

pub loop-i-preserved : goal.loop-i-preserved
loop-i-preserved c =
    let l = c.args.code.now in
    let i = c.loop-i.i in
    let front = c.as_chunks.ensures.front in
    let within : i < length l / 4 = omega (arith, c.as_chunks.ensures.front_len) in
    c.loop-i.invariant ∙ code_miss l i within (rw front at (sym c.if-wrong_instruction.ensures)) (rw front at (sym c.if-misplaced.ensures))

pub returns : goal.returns
returns c =
    let i = c.loop-i.i in
    let l = c.args.code.now in
    sym (c.loop-i.invariant ∙ code_end (drop (4 * i) l) (simp length-drop (omega (arith, c.as_chunks.ensures.front_len))))
