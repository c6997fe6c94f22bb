-- The loop's invariant: the registers hold sets from which the rest of the code comes to the answer of the whole.
use mathlib.Core.Path.{refl, sym, ◌∙◌}
use mathlib.Core.List.{[]}
use lib.ListN.{get_or}
use Rattle.player.specs.Instructions.{empty, step}
use Rattle.player.specs.InnerForms.{instruction_in, instruction_at}
use Rattle.player.proofs.HoldingLaws.{holds_none}
use Rattle.player.proofs.ListLaws.{fours_chunks, none_more, run_more, run_end}
use Rattle.player.proofs.execute.Goals as goal

pub loop-four-init : goal.loop-four-init
loop-four-init c =
    rw c.as_chunks.ensures.front
    (rw fours_chunks at c.requires.right, refl, λ G h. (empty, holds_none, rw (fours_chunks (instruction_in c.args.form) c.args.code.now)))

pub step-requires : goal.step-requires
step-requires c =
    let v = c.loop-four in
    let right = (none_more c.args.form c.as_chunks.result.0.now v.four-index c.loop-four-test.true v.invariant.0).0 in
    record { right = right; all_registers = v.invariant.1 }

pub loop-four-preserved : goal.loop-four-preserved
loop-four-preserved c =
    let form = c.args.form in
    let chunks = c.as_chunks.result.0.now in
    let v = c.loop-four in
    let within = c.loop-four-test.true in (
      (none_more form chunks v.four-index within v.invariant.0).1,
      c.step.ensures.0,
      λ G h.
          let w = v.invariant.2 G h in (
            step G (instruction_at form (get_or chunks v.four-index [])) w.0,
            c.step.ensures.1 G w.0 h w.1,
            sym (run_more form chunks v.four-index within G w.0) ∙ w.2,
          ),
    )

pub returns : goal.returns
returns c G h =
    let v = c.loop-four in
    let w = v.invariant.2 G h in
    rw (← (sym (run_end c.args.form c.as_chunks.result.0.now v.four-index c.loop-four-test.false G w.0) ∙ w.2)) (w.1.entry _ c.requires.inside)
