use mathlib.Core.Path.{sym, ◌∙◌}
use lib.Seq.{length-take-le}
use Rattle.std.proofs.lemmas.Result.{err_from_is_err_and}
use Rattle.gather.proofs.AnswerLaws.{same_refusal}
use Rattle.gather.proofs.WholeLaws.{the_same, rest_all, scanned, room, ready_for, inside, written_tree, holder_found, gathers_done, returns_done, gathers_none, returns_none}
use Rattle.gather.proofs.gather_ordered.Goals as goal

pub choose-choice-requires : goal.choose-choice-requires
choose-choice-requires c = scanned c.requires.ordered _ _ c.power-w.ensures c.power-columns.ensures

pub build-built-requires : goal.build-built-requires
build-built-requires c =
    let pre = c.requires in
    let o = pre.ordered in
    let w = c.power-w.ensures in
    let n = c.power-columns.ensures in
    let t = pre.listed.0 in
    let e = pre.listed.1 in
    rw (rest_all o) (record { room = room o _ _ w n _ pre.most_nodes_in_bounds; ready_for = ready_for o _ _ w n t e _ (c.table-t.ensures t e) _ c.choose-choice.ensures })

pub returns-in_err-nodes : goal.returns-in_err-nodes
returns-in_err-nodes c =
    let o = c.requires.ordered in
    let w = c.power-w.ensures in
    let n = c.power-columns.ensures in
    let rows = c.table-t.ensures in
    let choice = c.choose-choice.ensures in
    let p = err_from_is_err_and c.from_residual.result c.from_residual.ensures.1 in
    let e = c.in_err-nodes.ensures in
    let none = rw e.ok_part at c.build-built.ensures in
    rw (p.1, p.2, same_refusal _ _ (rw e.ok_part at e.value)) (record {
      gathers_tree = λ t e. gathers_none o _ _ w n t e _ (rows t e) _ choice none;
      by = λ t q. returns_none o _ _ w n t (the_same q) _ (rows t (the_same q)) _ choice none;
    })

pub slice_bounds-holding-end : goal.slice_bounds-holding-end
slice_bounds-holding-end c =
    let pre = c.requires in
    let t = pre.listed.0 in
    let e = pre.listed.1 in
    let b = rw c.in_ok-nodes.ensures.ok_part at c.build-built.ensures in
    inside pre.ordered _ _ c.power-w.ensures c.power-columns.ensures t e _ (c.table-t.ensures t e) _ c.choose-choice.ensures b.0 b.1 pre.most_nodes_in_bounds

pub slice_bounds-holding-end-2 : goal.slice_bounds-holding-end-2
slice_bounds-holding-end-2 c = sym (length-take-le _ _ (slice_bounds-holding-end c))

pub holding-requires : goal.holding-requires
holding-requires c =
    let pre = c.requires in
    let t = pre.listed.0 in
    let e = pre.listed.1 in
    let b = rw c.in_ok-nodes.ensures.ok_part at c.build-built.ensures in
    written_tree pre.ordered _ _ c.power-w.ensures c.power-columns.ensures t e _ (c.table-t.ensures t e) _ c.choose-choice.ensures b.0 b.1 pre.most_nodes_in_bounds

pub unwrap-holder-requires : goal.unwrap-holder-requires
unwrap-holder-requires c =
    let pre = c.requires in
    let t = pre.listed.0 in
    let e = pre.listed.1 in
    let b = rw c.in_ok-nodes.ensures.ok_part at c.build-built.ensures in
    let h = holder_found pre.ordered _ _ c.power-w.ensures c.power-columns.ensures t e _ (c.table-t.ensures t e) _ c.choose-choice.ensures b.0 b.1 pre.most_nodes_in_bounds _ c.holding.ensures in
    rw (c.holder.ensures, h.1)

pub returns : goal.returns
returns c =
    let pre = c.requires in
    let o = pre.ordered in
    let w = c.power-w.ensures in
    let n = c.power-columns.ensures in
    let rows = c.table-t.ensures in
    let choice = c.choose-choice.ensures in
    let b = rw c.in_ok-nodes.ensures.ok_part at c.build-built.ensures in
    let named = sym c.holder.ensures ∙ c.unwrap-holder.ensures in record {
      gathers_tree = λ t e. gathers_done o _ _ w n t e _ (rows t e) _ choice b.0 b.1 pre.most_nodes_in_bounds _ _ c.holding.ensures named;
      by = λ t q. returns_done o _ _ w n t (the_same q) _ (rows t (the_same q)) _ choice b.0 b.1 pre.most_nodes_in_bounds _ _ c.holding.ensures named;
    }
