-- A leaf's four numbers are its code. For another node, `ready` gives what the calls for the children ask, and `writes_node` joins
-- what they wrote with the operator's instruction.
use native.Mathlib.Omega.{arith}
use Rattle.older_coder.specs.InnerWriter.{waiting_in}
use Rattle.older_coder.proofs.WriterLaws.{end_inside, leaf_room, lowest_inside, inner_node, ready, Writes, writes_leaf, writes_node}
use Rattle.older_coder.proofs.+write_node.Goals as goal
use Rattle.older_coder.proofs.+write_node.Goals.{then-y-lt-UNION, else-y-lt-UNION}

pub offset_bounds-noted-end : goal.offset_bounds-noted-end
offset_bounds-noted-end t c = omega (arith, end_inside c.requires, c.args.noted.now.noted.few)

pub bounds-noted-end : goal.bounds-noted-end
bounds-noted-end t c = end_inside c.requires

pub write_leaf-requires : goal.write_leaf-requires
write_leaf-requires t c = (lowest_inside c.requires, leaf_room c.requires)

pub returns-then-x-lt-UNION : goal.returns-then-x-lt-UNION
returns-then-x-lt-UNION t c = writes_leaf _ _ _ c.if-x-lt-UNION.true c.write_leaf.ensures.0 c.write_leaf.ensures.1

pub children_of-c-requires : goal.children_of-c-requires
children_of-c-requires t c = inner_node c.requires c.args.noted.now.noted c.if-x-lt-UNION.false

pub write_node-one-requires : goal.write_node-one-requires
write_node-one-requires t c =
    let R = ready c.requires c.args.noted.now.noted c.if-x-lt-UNION.false c.children_of-c.ensures in
    (omega (arith, c.decreases, R.less_one), R.first_call)

pub behind-next-requires : goal.behind-next-requires
behind-next-requires t c =
    let B = (ready c.requires c.args.noted.now.noted c.if-x-lt-UNION.false c.children_of-c.ensures).first_behind in
    (B.high, B.low, omega (arith, B.inside, c.well_formed))

pub also_in-rest-requires : goal.also_in-rest-requires
also_in-rest-requires t c = (ready c.requires c.args.noted.now.noted c.if-x-lt-UNION.false c.children_of-c.ensures).register _ _ c.write_node-one.ensures

pub offset_bounds-noted-c : goal.offset_bounds-noted-c
offset_bounds-noted-c t c =
    omega (arith, end_inside c.requires, c.args.noted.now.noted.few, (ready c.requires c.args.noted.now.noted c.if-x-lt-UNION.false c.children_of-c.ensures).less_two)

pub bounds-noted-c : goal.bounds-noted-c
bounds-noted-c t c =
    omega (arith, end_inside c.requires, (ready c.requires c.args.noted.now.noted c.if-x-lt-UNION.false c.children_of-c.ensures).less_two)

pub write_leaf-two-requires : goal.write_leaf-two-requires
write_leaf-two-requires t c =
    let R = ready c.requires c.args.noted.now.noted c.if-x-lt-UNION.false c.children_of-c.ensures in
    let W = R.second_call _ _ _ c.behind-next.ensures c.write_node-one.ensures in
    (rw c.also_in-rest.ensures (lowest_inside W), leaf_room W)

pub write_node-two-requires : goal.write_node-two-requires
write_node-two-requires t c =
    let R = ready c.requires c.args.noted.now.noted c.if-x-lt-UNION.false c.children_of-c.ensures in
    (omega (arith, c.decreases, R.less_two), rw c.also_in-rest.ensures (R.second_call _ _ _ c.behind-next.ensures c.write_node-one.ensures))

pub behind-last-requires : goal.behind-last-requires
behind-last-requires t c =
    let B = (ready c.requires c.args.noted.now.noted c.if-x-lt-UNION.false c.children_of-c.ensures).second_behind _ c.behind-next.ensures in
    (B.high, B.low, omega (arith, B.inside, c.well_formed))

pub put-requires : goal.put-requires
put-requires t c =
    let second_written : Writes c.args.noted.now.tree.now c.children_of-c.result.second (waiting_in c.also_in-rest.result) c.write_node-one.new.out c.behind-next.result c.if-y-lt-UNION.out c.if-y-lt-UNION.two =
    elim c.if-y-lt-UNION.branch [
      | then-y-lt-UNION w ↦ rw (w.out-is, w.two-is) (writes_leaf _ _ _ w.if-y-lt-UNION.true w.write_leaf-two.ensures.0 w.write_leaf-two.ensures.1)
      | else-y-lt-UNION w ↦ rw (w.out-is, w.two-is) w.write_node-two.ensures
    ]
    in
    (ready c.requires c.args.noted.now.noted c.if-x-lt-UNION.false c.children_of-c.ensures).own_room _ _ _ _ _ _ c.behind-next.ensures c.behind-last.ensures c.write_node-one.ensures
    (rw c.also_in-rest.ensures at second_written)

pub returns : goal.returns
returns t c =
    let second_written : Writes c.args.noted.now.tree.now c.children_of-c.result.second (waiting_in c.also_in-rest.result) c.write_node-one.new.out c.behind-next.result c.if-y-lt-UNION.out c.if-y-lt-UNION.two =
    elim c.if-y-lt-UNION.branch [
      | then-y-lt-UNION w ↦ rw (w.out-is, w.two-is) (writes_leaf _ _ _ w.if-y-lt-UNION.true w.write_leaf-two.ensures.0 w.write_leaf-two.ensures.1)
      | else-y-lt-UNION w ↦ rw (w.out-is, w.two-is) w.write_node-two.ensures
    ]
    in
    writes_node c.requires c.args.noted.now.noted c.if-x-lt-UNION.false c.children_of-c.ensures c.left_and_right-left.ensures.left c.left_and_right-left.ensures.right c.behind-next.ensures c.behind-last.ensures c.write_node-one.ensures
    (rw c.also_in-rest.ensures at second_written) c.kind_of.ensures c.put.ensures
