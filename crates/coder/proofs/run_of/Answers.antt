-- The answers by their laws; the count is what lies between the part's start and the node.
use mathlib.Core.Path.{◌≡◌, sym, ◌∙◌}
use mathlib.Core.Bool.{true}
use native.Mathlib.Omega.{arith}
use Rattle.tree.specs.Parse.{tree_of, is_some}
use Rattle.notes.specs.InnerNotes.{Noted}
use Rattle.coder.proofs.CodingLaws.{no_such_node, no_such_tree, part_start, the_run}
use Rattle.coder.proofs.run_of.Goals as goal
use Rattle.coder.proofs.run_of.Goals.{then-tree-position-via-then-tree-position, then-tree-position-via-else-tree-position+then-not-is_tree, After-first_of}

a_tree : (c : After-first_of) → is_some (tree_of c.args.tree.now) ≡ true
a_tree c = sym c.is_tree.ensures ∙ c.if-not-is_tree.false

noted : (c : After-first_of) → Noted c.args.tree.now c.new-noted.result.notes.now
noted c = rw c.new-noted.ensures at c.new-noted.result.noted

pub returns-then-tree-position : goal.returns-then-tree-position
returns-then-tree-position c = elim c.then-tree-position.branch [
  | then-tree-position-via-then-tree-position w ↦ no_such_node _ _ w.if-tree-position.true
  | then-tree-position-via-else-tree-position+then-not-is_tree w ↦ no_such_tree _ _ (sym w.is_tree.ensures ∙ w.if-not-is_tree.true)
]

pub overflow_sub-result : goal.overflow_sub-result
overflow_sub-result c =
    let s = (goal.at.overflow_sub-result c).After-first_of in
    omega (arith, part_start _ _ (a_tree s) (noted s) c.if-tree-position.false, c.from-start.ensures)

pub returns : goal.returns
returns c =
    let s = (goal.at.returns c).After-first_of in
    the_run _ _ (a_tree s) (noted s) c.if-tree-position.false (rw c.new-noted.ensures at c.first_of.ensures)
    (omega (arith, part_start _ _ (a_tree s) (noted s) c.if-tree-position.false, c.from-start.ensures))
