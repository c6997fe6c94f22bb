-- The loop keeps a `Descent`: the node at `end` has the position in its part, and `first` is where its code begins.
use native.Mathlib.Omega.{arith}
use Rattle.tree.proofs.ParseLaws.{tree_some}
use Rattle.coder.proofs.CodingLaws.{descent_start, descent_few, descent_inner, descend, stepped_less, descent_end}
use Rattle.coder.proofs.first_of.Goals as goal

pub overflow_sub-end : goal.overflow_sub-end
overflow_sub-end c = tree_some _ c.args.noted.now.is_tree

pub loop-end-init : goal.loop-end-init
loop-end-init c = descent_start _ _ c.args.noted.now.is_tree c.requires

pub step_down-b-requires : goal.step_down-b-requires
step_down-b-requires c =
    descent_inner c.args.noted.now.noted c.loop-end-test.true c.loop-end.invariant

pub overflow_add-first : goal.overflow_add-first
overflow_add-first c =
    let loop = c.loop-end in
    omega (arith, descent_few (descend c.args.noted.now.noted c.loop-end-test.true loop.invariant c.step_down-b.ensures), c.args.noted.now.noted.few)

pub loop-end-smaller : goal.loop-end-smaller
loop-end-smaller c =
    let loop = c.loop-end in
    stepped_less (descent_inner c.args.noted.now.noted c.loop-end-test.true loop.invariant) c.step_down-b.ensures

pub loop-end-preserved : goal.loop-end-preserved
loop-end-preserved c =
    let loop = c.loop-end in
    descend c.args.noted.now.noted c.loop-end-test.true loop.invariant c.step_down-b.ensures

pub returns : goal.returns
returns c = descent_end c.loop-end-test.false c.loop-end.invariant
