-- The loop keeps that every node below i is noted. An operator's operands are the nodes noted last, which `operands` finds in
-- reach.
use native.Mathlib.Omega.{arith}
use lib.ListN.{length-set}
use Rattle.tree.proofs.ParseLaws.{tree_few}
use Rattle.notes.proofs.NoteLaws.{Operands, noted_none, noted_leaf, noted_node, operands}
use Rattle.notes.proofs.NotedTree.new.Goals as goal
use Rattle.notes.proofs.NotedTree.new.Goals.{then-x-lt-UNION, else-x-lt-UNION, After-from-left}

in_reach : (c : After-from-left) → Operands c.loop-i.notes c.loop-i.i
in_reach c = operands _ _ _ c.requires c.loop-i.invariant.2 c.loop-i-test.true c.if-x-lt-UNION.false

pub loop-i-init : goal.loop-i-init
loop-i-init c = (tree_few c.args.tree.now c.requires, c.told-notes, noted_none _ _)

pub overflow_sub-i : goal.overflow_sub-i
overflow_sub-i c = let O = operands _ _ _ c.requires c.loop-i.invariant.2 c.loop-i-test.true c.if-x-lt-UNION.false in omega arith

pub overflow_sub-left : goal.overflow_sub-left
overflow_sub-left c = let O = in_reach c in omega arith

pub bounds-notes-left : goal.bounds-notes-left
bounds-notes-left c = let O = in_reach c in omega arith

pub bounds-notes-left-else-x-lt-UNION : goal.bounds-notes-left-else-x-lt-UNION
bounds-notes-left-else-x-lt-UNION c = let O = in_reach c in omega arith

pub overflow_sub-i-else-x-lt-UNION : goal.overflow_sub-i-else-x-lt-UNION
overflow_sub-i-else-x-lt-UNION c = let O = in_reach c in omega arith

pub need_of-requires : goal.need_of-requires
need_of-requires c = rw c.from-left.ensures (in_reach c).small

pub loop-i-preserved : goal.loop-i-preserved
loop-i-preserved c =
    let v = c.loop-i in
    elim c.if-x-lt-UNION.branch [
      | then-x-lt-UNION w ↦ rw w.notes-is (v.invariant.0, simp length-set v.invariant.1, noted_leaf v.invariant.2 (omega arith) w.if-x-lt-UNION.true)
      | else-x-lt-UNION w ↦ rw (w.notes-is, w.need_of.ensures, w.from-left.ensures)
          (v.invariant.0, simp length-set v.invariant.1, noted_node v.invariant.2 (omega arith) w.if-x-lt-UNION.false)
    ]
