-- `has_sign` meets its contract. The loop's invariant: the array's first i values and what is left of the row make up the whole.
use mathlib.Core.Path.{refl, ap}
use mathlib.Core.List.{map}
use native.Mathlib.Omega.{arith}
use lib.Dec.{eqb}
use lib.ListN.{length-set, drop_of_length-le}
use Rattle.tree.proofs.PassLaws.{here}
use Rattle.left_sides.proofs.MeaningLaws.{filled_more, filled_end}
use Rattle.left_sides.proofs.has_sign.Goals as goal

pub loop-i-init : goal.loop-i-init
loop-i-init c = (refl, refl)

pub loop-i-preserved : goal.loop-i-preserved
loop-i-preserved c =
    let args = c.args in
    let loop = c.loop-i in (
      simp length-set loop.invariant.0,
      filled_more _ _ loop.out _ loop.i _ (omega arith) (ap (map (λ b. eqb b args.sign)) (here args.row loop.i (omega arith))) loop.invariant.1,
    )

pub returns : goal.returns
returns c =
    let args = c.args in
    let loop = c.loop-i in
    filled_end _ _ loop.out loop.i (omega arith) (ap (map (λ b. eqb b args.sign)) (drop_of_length-le args.row {i = loop.i} (omega arith))) loop.invariant.1
