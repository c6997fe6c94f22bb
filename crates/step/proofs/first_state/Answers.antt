-- `first_state` meets its contract: the two frames that it found are the first of the context.
use mathlib.Core.Path.{sym, ap, ◌∙◌}
use native.Mathlib.Omega.{arith}
use lib.ListN.{length}
use Rattle.moves.specs.InnerEntries.{number_of}
use Rattle.step.proofs.UnderLaws.{is_root, is_under}
use Rattle.step.proofs.PlanLaws.{no_state, two_frames}
use Rattle.step.proofs.first_state.Goals as goal

pub returns-in_err-above_node : goal.returns-in_err-above_node
returns-in_err-above_node c = λ a k P.
    let e = is_root c.args.part k (c.in_err-above_node.ensures a k P) in
    c.from_residual.ensures ∙ sym (ap number_of (no_state k (omega (arith, ap length e))))

pub above_part-requires-2 : goal.above_part-requires-2
above_part-requires-2 c =
    let p = c.requires in
    let G = is_under c.args.list.now c.args.part p.0 p.1 c.in_ok-above_node.above_node p.2 (c.in_ok-above_node.ensures p.0 p.1 p.2) in
    (_, _, G.parent)

pub returns-in_err-above_parent : goal.returns-in_err-above_parent
returns-in_err-above_parent c = λ a k P.
    let G = is_under c.args.list.now c.args.part a k c.in_ok-above_node.above_node P (c.in_ok-above_node.ensures a k P) in
    let e = is_root c.in_ok-above_node.above_node.parent G.rest (c.in_err-above_parent.ensures _ G.rest G.parent) in
    c.from_residual-in_err-above_parent.ensures ∙ sym (ap number_of (no_state k (omega (arith, ap length G.is, ap length e))))

pub returns : goal.returns
returns c = λ a k P.
    let G = is_under c.args.list.now c.args.part a k c.in_ok-above_node.above_node P (c.in_ok-above_node.ensures a k P) in
    let H = is_under c.args.list.now c.in_ok-above_node.above_node.parent _ G.rest c.in_ok-above_parent.above_parent G.parent (c.in_ok-above_parent.ensures _ G.rest G.parent) in
    two_frames G H (c.state_of.ensures G.side G.operator H.side H.operator G.kind H.kind)
