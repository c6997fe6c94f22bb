-- The entry written holds the set that the instruction puts there.
use Prim.Native.Nat.{◌+◌}
use lib.ListN.{get_or, length-set}
use Rattle.player.specs.InnerForms.{left_of}
use Rattle.player.proofs.FormLaws.{target_low, load_step, left_low, right_low, combine_step}
use Rattle.player.proofs.HoldingLaws.{holds_put}
use Rattle.player.proofs.step.Goals as goal

pub returns-then-kind-eq-LOAD : goal.returns-then-kind-eq-LOAD
returns-then-kind-eq-LOAD c =
    let C = c.requires in (
      simp length-set C.all_registers,
      λ G R groups registers.
          rw (c.from-target.ensures, ← load_step C c.if-kind-eq-LOAD.true G R)
          (holds_put registers _ (target_low C) (rw c.from.ensures at (c.lamps.ensures G groups))),
    )

pub returns-else-kind-eq-LOAD : goal.returns-else-kind-eq-LOAD
returns-else-kind-eq-LOAD c =
    let C = c.requires in
    let no_load = c.if-kind-eq-LOAD.false in (
      simp length-set C.all_registers,
      λ G R groups registers.
          let set = rw (c.from-s.ensures, c.from-t.ensures, c.left-left.ensures) at (c.combine.ensures (R (get_or c.args.four.now (left_of c.args.form) 0)) (R (get_or c.args.four.now (left_of c.args.form + 1) 0))) in
          rw (c.from-target.ensures, ← combine_step C no_load G R)
          (holds_put registers _ (target_low C) (set (registers.entry _ (left_low C no_load)) (registers.entry _ (right_low C no_load)))),
    )
