-- A leaf's four numbers are its code. For another node, `ready` gives what the calls for the children ask, and `writes_node` joins
-- what they wrote with the operator's instruction.
use Prim.Native.Nat.{◌+◌}
use native.Mathlib.Omega.{arith}
use Rattle.coder.proofs.WriterLaws.{end_inside, leaf_room, inner_node, ready, Writes, writes_leaf, writes_node}
use Rattle.coder.proofs.+write_node.Goals as goal
use Rattle.coder.proofs.+write_node.Goals.{then-y-lt-UNION, else-y-lt-UNION}

pub offset_bounds-noted-end : goal.offset_bounds-noted-end
offset_bounds-noted-end t c = omega (arith, end_inside c.requires, c.args.noted.now.noted.few)

pub bounds-noted-end : goal.bounds-noted-end
bounds-noted-end t c = end_inside c.requires

pub put-requires : goal.put-requires
put-requires t c = leaf_room c.requires

pub returns-then-x-lt-UNION : goal.returns-then-x-lt-UNION
returns-then-x-lt-UNION t c = writes_leaf _ _ _ c.if-x-lt-UNION.true c.put.ensures

pub children_of-c-requires : goal.children_of-c-requires
children_of-c-requires t c = (inner_node c.requires c.args.noted.now.noted c.if-x-lt-UNION.false).0

pub write_node-next-requires : goal.write_node-next-requires
write_node-next-requires t c =
    let R = ready c.requires c.args.noted.now.noted c.if-x-lt-UNION.false c.children_of-c.ensures in
    (omega (arith, c.decreases, R.less_one), R.first_call)

pub offset_bounds-noted-c : goal.offset_bounds-noted-c
offset_bounds-noted-c t c =
    omega (arith, end_inside c.requires, c.args.noted.now.noted.few, (ready c.requires c.args.noted.now.noted c.if-x-lt-UNION.false c.children_of-c.ensures).less_two)

pub bounds-noted-c : goal.bounds-noted-c
bounds-noted-c t c =
    omega (arith, end_inside c.requires, (ready c.requires c.args.noted.now.noted c.if-x-lt-UNION.false c.children_of-c.ensures).less_two)

pub put-last-requires : goal.put-last-requires
put-last-requires t c =
    leaf_room ((ready c.requires c.args.noted.now.noted c.if-x-lt-UNION.false c.children_of-c.ensures).second_call _ _ c.write_node-next.ensures)

pub write_node-last-requires : goal.write_node-last-requires
write_node-last-requires t c =
    let R = ready c.requires c.args.noted.now.noted c.if-x-lt-UNION.false c.children_of-c.ensures in
    (omega (arith, c.decreases, R.less_two), R.second_call _ _ c.write_node-next.ensures)

pub put-requires-2 : goal.put-requires-2
put-requires-2 t c =
    let second_written : Writes c.args.noted.now.tree.now c.children_of-c.result.second (c.args.target + 1) c.write_node-next.new.out c.write_node-next.result c.if-y-lt-UNION.out c.if-y-lt-UNION.last =
    elim c.if-y-lt-UNION.branch [
      | then-y-lt-UNION w ↦ rw (w.out-is, w.last-is) (writes_leaf _ _ _ w.if-y-lt-UNION.true w.put-last.ensures)
      | else-y-lt-UNION w ↦ rw (w.out-is, w.last-is) w.write_node-last.ensures
    ]
    in
    (ready c.requires c.args.noted.now.noted c.if-x-lt-UNION.false c.children_of-c.ensures).own_room _ _ _ _ c.write_node-next.ensures second_written

pub returns : goal.returns
returns t c =
    let second_written : Writes c.args.noted.now.tree.now c.children_of-c.result.second (c.args.target + 1) c.write_node-next.new.out c.write_node-next.result c.if-y-lt-UNION.out c.if-y-lt-UNION.last =
    elim c.if-y-lt-UNION.branch [
      | then-y-lt-UNION w ↦ rw (w.out-is, w.last-is) (writes_leaf _ _ _ w.if-y-lt-UNION.true w.put-last.ensures)
      | else-y-lt-UNION w ↦ rw (w.out-is, w.last-is) w.write_node-last.ensures
    ]
    in
    writes_node c.requires c.args.noted.now.noted c.if-x-lt-UNION.false c.children_of-c.ensures c.left_and_right-s.ensures.left c.left_and_right-s.ensures.right c.write_node-next.ensures
    second_written c.kind_of.ensures c.put-2.ensures
