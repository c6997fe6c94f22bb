-- `plan_step` meets its contract: the frames that it found are the first of the context, and PlanLaws says what the step is.
use mathlib.Core.Path.{sym, ◌∙◌}
use Rattle.std.proofs.lemmas.Result.{err_from_is_err_and}
use Rattle.moves.proofs.MoveLaws.{table_right}
use Rattle.step.specs.declared.Refusal.TheVariants.{NoStep, ThroughIntersection}
use Rattle.step.proofs.UnderLaws.{is_root, is_under, none_given, some_given, root_by, under_by}
use Rattle.step.proofs.PlanLaws.{no_parent, no_grandparent, blocked_without_state, t_without_d, stuck_without_d, t_alone, blocked_without_input, t_with_d}
use Rattle.step.proofs.plan_step.Goals as goal

pub returns-in_err-above_node : goal.returns-in_err-above_node
returns-in_err-above_node c = λ m L a k S.
    let p = err_from_is_err_and c.from_residual.result c.from_residual.ensures.1 in
    let n = root_by c.args.node.part NoStep c.above_part.ensures c.ok_or.ensures.value c.in_err-above_node.was in
    rw (p.1, p.2, n.0) (no_parent m k (n.1 a k S.part))

pub above_part-requires-2 : goal.above_part-requires-2
above_part-requires-2 c =
    let a = c.requires.0 in
    let k = c.requires.1 in
    let S = c.requires.2 in
    let G = under_by c.args.node.part NoStep c.above_part.ensures c.ok_or.ensures.value c.in_ok-above_node.was a k S.part in
    (_, _, G.parent)

pub returns-in_err-above_parent : goal.returns-in_err-above_parent
returns-in_err-above_parent c = λ m L a k S.
    let G = under_by c.args.node.part NoStep c.above_part.ensures c.ok_or.ensures.value c.in_ok-above_node.was a k S.part in
    let p = err_from_is_err_and c.from_residual-in_err-above_parent.result c.from_residual-in_err-above_parent.ensures.1 in
    let n = root_by c.in_ok-above_node.above_node.parent NoStep c.above_part-2.ensures c.ok_or-2.ensures.value c.in_err-above_parent.was in
    rw (p.1, p.2, n.0) (no_grandparent G m (n.1 _ G.rest G.parent))

pub returns-in_err-state : goal.returns-in_err-state
returns-in_err-state c = λ m L a k S.
    let G = under_by c.args.node.part NoStep c.above_part.ensures c.ok_or.ensures.value c.in_ok-above_node.was a k S.part in
    let H = under_by c.in_ok-above_node.above_node.parent NoStep c.above_part-2.ensures c.ok_or-2.ensures.value c.in_ok-above_parent.was _ G.rest G.parent in
    let p = err_from_is_err_and c.from_residual-in_err-state.result c.from_residual-in_err-state.ensures.1 in
    let n = none_given c.args.node.state ThroughIntersection _ (sym c.ok_or-3.ensures.value ∙ c.in_err-state.was) in
    rw (p.1, p.2, n.1) (blocked_without_state G H c.args.node S.state m n.0)

pub above_part-requires-3 : goal.above_part-requires-3
above_part-requires-3 c =
    let a = c.requires.0 in
    let k = c.requires.1 in
    let S = c.requires.2 in
    let G = under_by c.args.node.part NoStep c.above_part.ensures c.ok_or.ensures.value c.in_ok-above_node.was a k S.part in
    let H = under_by c.in_ok-above_node.above_node.parent NoStep c.above_part-2.ensures c.ok_or-2.ensures.value c.in_ok-above_parent.was _ G.rest G.parent in
    (_, _, H.parent)

pub returns-then-state-le-LAST_ALONE : goal.returns-then-state-le-LAST_ALONE
returns-then-state-le-LAST_ALONE c = λ m L a k S.
    let G = under_by c.args.node.part NoStep c.above_part.ensures c.ok_or.ensures.value c.in_ok-above_node.was a k S.part in
    let H = under_by c.in_ok-above_node.above_node.parent NoStep c.above_part-2.ensures c.ok_or-2.ensures.value c.in_ok-above_parent.was _ G.rest G.parent in
    let one = some_given c.args.node.state _ _ (sym c.ok_or-3.ensures.value ∙ c.in_ok-state.was) in
    let e = is_root c.in_ok-above_parent.above_parent.parent H.rest (sym c.in_default.is ∙ c.above_part-3.ensures _ H.rest H.parent) in
    t_without_d G H c.args.node S.state (table_right L.holds) one e c.if-state-le-LAST_ALONE.true

pub returns-in_default : goal.returns-in_default
returns-in_default c = λ m L a k S.
    let G = under_by c.args.node.part NoStep c.above_part.ensures c.ok_or.ensures.value c.in_ok-above_node.was a k S.part in
    let H = under_by c.in_ok-above_node.above_node.parent NoStep c.above_part-2.ensures c.ok_or-2.ensures.value c.in_ok-above_parent.was _ G.rest G.parent in
    let one = some_given c.args.node.state _ _ (sym c.ok_or-3.ensures.value ∙ c.in_ok-state.was) in
    let e = is_root c.in_ok-above_parent.above_parent.parent H.rest (sym c.in_default.is ∙ c.above_part-3.ensures _ H.rest H.parent) in
    stuck_without_d G H c.args.node S.state (table_right L.holds) one e c.if-state-le-LAST_ALONE.false

pub returns-then-state-last : goal.returns-then-state-last
returns-then-state-last c = λ m L a k S.
    let G = under_by c.args.node.part NoStep c.above_part.ensures c.ok_or.ensures.value c.in_ok-above_node.was a k S.part in
    let H = under_by c.in_ok-above_node.above_node.parent NoStep c.above_part-2.ensures c.ok_or-2.ensures.value c.in_ok-above_parent.was _ G.rest G.parent in
    let one = some_given c.args.node.state _ _ (sym c.ok_or-3.ensures.value ∙ c.in_ok-state.was) in
    let K = is_under c.args.list.now c.in_ok-above_parent.above_parent.parent _ H.rest c.in-Some.above_t H.parent (sym c.in-Some.is ∙ c.above_part-3.ensures _ H.rest H.parent) in
    t_alone G H c.args.node S.state (table_right L.holds) one L K c.if-state-last.true

pub returns-in_err-input : goal.returns-in_err-input
returns-in_err-input c = λ m L a k S.
    let G = under_by c.args.node.part NoStep c.above_part.ensures c.ok_or.ensures.value c.in_ok-above_node.was a k S.part in
    let H = under_by c.in_ok-above_node.above_node.parent NoStep c.above_part-2.ensures c.ok_or-2.ensures.value c.in_ok-above_parent.was _ G.rest G.parent in
    let one = some_given c.args.node.state _ _ (sym c.ok_or-3.ensures.value ∙ c.in_ok-state.was) in
    let K = is_under c.args.list.now c.in_ok-above_parent.above_parent.parent _ H.rest c.in-Some.above_t H.parent (sym c.in-Some.is ∙ c.above_part-3.ensures _ H.rest H.parent) in
    let p = err_from_is_err_and c.from_residual-in_err-input.result c.from_residual-in_err-input.ensures.1 in
    let n = none_given c.in-Some.above_t.operand ThroughIntersection _ (sym c.ok_or-4.ensures.value ∙ c.in_err-input.was) in
    rw (p.1, p.2, n.1) (blocked_without_input G H c.args.node S.state (table_right L.holds) one L K n.0 c.if-state-last.false)

pub returns : goal.returns
returns c = λ m L a k S.
    let G = under_by c.args.node.part NoStep c.above_part.ensures c.ok_or.ensures.value c.in_ok-above_node.was a k S.part in
    let H = under_by c.in_ok-above_node.above_node.parent NoStep c.above_part-2.ensures c.ok_or-2.ensures.value c.in_ok-above_parent.was _ G.rest G.parent in
    let one = some_given c.args.node.state _ _ (sym c.ok_or-3.ensures.value ∙ c.in_ok-state.was) in
    let K = is_under c.args.list.now c.in_ok-above_parent.above_parent.parent _ H.rest c.in-Some.above_t H.parent (sym c.in-Some.is ∙ c.above_part-3.ensures _ H.rest H.parent) in
    let input = some_given c.in-Some.above_t.operand _ _ (sym c.ok_or-4.ensures.value ∙ c.in_ok-input.was) in
    t_with_d G H c.args.node S.state (table_right L.holds) one L K input c.if-state-last.false
