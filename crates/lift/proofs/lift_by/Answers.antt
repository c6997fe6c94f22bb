-- `lift_by` meets its contract: each test is the definition's, in order.
use mathlib.Core.Path.{sym, ap, ◌∙◌}
use native.Mathlib.Omega.{arith}
use Prim.Native.Nat.{◌≤◌}
use lib.ListN.{length}
use Rattle.tree.specs.Tree.{most_nodes}
use Rattle.tree.proofs.TreeLaws.{postfix_length}
use Rattle.tree.proofs.ParseLaws.{IsTree, the_tree}
use Rattle.lift.specs.declared.Refusal.TheVariants.{ShortBuffer, NotATree, NoPosition, BadLevels}
use Rattle.lift.proofs.WholeLaws.{says_11, says_12, says_13, says_14, runs_on, the_part, levels_below, refuses, lifts_same}
use Rattle.lift.proofs.lift_by.Goals as goal
use Rattle.lift.proofs.lift_by.Goals.{Else-not-is_tree}

-- the tree that the list is
given : (c : Else-not-is_tree) → IsTree c.args.tree.now
given c = the_tree c.args.tree.now (sym c.is_tree.ensures ∙ c.if-not-is_tree.false)

pub returns-then-out-lt-MOST_NODES : goal.returns-then-out-lt-MOST_NODES
returns-then-out-lt-MOST_NODES c = λ m K. let g = c.args in
    refuses ShortBuffer (says_11 m (length g.out.now) g.tree.now g.position g.levels c.if-out-lt-MOST_NODES.true)

pub returns-then-not-is_tree : goal.returns-then-not-is_tree
returns-then-not-is_tree c = λ m K. let g = c.args in
    refuses NotATree (says_12 m (length g.out.now) g.tree.now g.position g.levels c.if-out-lt-MOST_NODES.false (sym c.is_tree.ensures ∙ c.if-not-is_tree.true))

pub returns-then-tree-position : goal.returns-then-tree-position
returns-then-tree-position c = λ m K. let g = c.args in
    let W = given (goal.at.returns-then-tree-position c).Else-not-is_tree in
    refuses NoPosition (says_13 m (length g.out.now) g.tree.now g.position g.levels c.if-out-lt-MOST_NODES.false W c.if-tree-position.true)

pub returns-then-levels-level : goal.returns-then-levels-level
returns-then-levels-level c = λ m K. let g = c.args in
    let W = given (goal.at.returns-then-levels-level c).Else-not-is_tree in
    let q = c.if-tree-position.false in
    let P = the_part m (length g.out.now) g.tree.now g.position g.levels c.if-out-lt-MOST_NODES.false W q in
    refuses BadLevels
    (says_14 m (length g.out.now) g.tree.now g.position g.levels c.if-out-lt-MOST_NODES.false W q c.level_of-level.result (c.level_of-level.ensures.by_index _ _ _ P) c.if-levels-level.true)

pub lift_part-requires : goal.lift_part-requires
lift_part-requires c =
    let g = c.args in
    let W = given (goal.at.lift_part-requires c).Else-not-is_tree in
    let P = the_part c.requires.0 (length g.out.now) g.tree.now g.position g.levels c.if-out-lt-MOST_NODES.false W c.if-tree-position.false in
    let most : length g.tree.now ≤ most_nodes = omega (arith, ap length W.list, postfix_length W.tree, W.most) in
    record {
      ends = (_, _, _, P);
      list_len_bound = (most, c.if-out-lt-MOST_NODES.false);
      levels_le_most_nodes = omega (arith, most, c.level_of-level.ensures.upper_bound, levels_below g.levels c.level_of-level.result c.if-levels-level.false);
      some_table = c.requires;
    }

pub returns : goal.returns
returns c = λ m K. let g = c.args in
    let W = given (goal.at.returns c).Else-not-is_tree in
    let q = c.if-tree-position.false in
    let P = the_part m (length g.out.now) g.tree.now g.position g.levels c.if-out-lt-MOST_NODES.false W q in
    let e = runs_on m (length g.out.now) g.tree.now g.position g.levels c.if-out-lt-MOST_NODES.false W q c.level_of-level.result (c.level_of-level.ensures.by_index _ _ _ P) c.if-levels-level.false in
    lifts_same e ((c.lift_part.ensures m K).lifts _ _ _ P)
