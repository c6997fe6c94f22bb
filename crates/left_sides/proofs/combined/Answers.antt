-- `combined` meets its contract. The loop's invariant: the array's first i values and what is left of the lists make up the whole.
use mathlib.Core.Path.{refl}
use native.Mathlib.Omega.{arith}
use lib.ListN.{length-set}
use Rattle.tree.specs.Tree.{operator_of, apply}
use Rattle.left_sides.proofs.MeaningLaws.{filled_more, filled_end, zip_more, zip_end}
use Rattle.left_sides.proofs.combined.Goals as goal

pub loop-i-init : goal.loop-i-init
loop-i-init c = (refl, λ o e. refl)

pub loop-i-preserved : goal.loop-i-preserved
loop-i-preserved c =
    let args = c.args in
    let loop = c.loop-i in (
      simp length-set loop.invariant.0,
      λ o e. filled_more _ _ loop.out _ loop.i _ (omega arith) (rw (c.combine.ensures o e) (zip_more (apply (operator_of o)) args.x args.y loop.i (omega arith) (omega arith))) (loop.invariant.1 o e),
    )

pub returns : goal.returns
returns c =
    let args = c.args in
    let loop = c.loop-i in
    λ o e. filled_end _ _ loop.out loop.i (omega arith) (zip_end (apply (operator_of o)) args.x args.y loop.i (omega arith)) (loop.invariant.1 o e)
