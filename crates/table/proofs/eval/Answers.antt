use mathlib.Core.Path.{refl, ◌∙◌}
use native.Mathlib.Omega.{arith}
use lib.ListN.{length-set}
use Rattle.table.proofs.EvalLaws.{evaluating_start, evaluating_leaf, evaluating_both, evaluating_operator, evaluating_end}
use Rattle.table.proofs.eval.Goals as goal

pub loop-i-init : goal.loop-i-init
loop-i-init c = (omega arith, omega arith, refl, λ t groups e p. evaluating_start e)

pub loop-i-preserved-in_default : goal.loop-i-preserved-in_default
loop-i-preserved-in_default c =
    let pre = c.requires in
    let loop = c.loop-i in
    let less = c.loop-i-test.true in (
      omega arith,
      omega arith,
      simp length-set loop.invariant.2,
      λ t groups e p. evaluating_leaf (loop.invariant.3 t groups e p) _ less c.if-x-lt-UNION.true (omega arith) ((p.each loop.i less).says _ pre.1),
    )

pub loop-i-preserved-in-Some : goal.loop-i-preserved-in-Some
loop-i-preserved-in-Some c =
    let pre = c.requires in
    let loop = c.loop-i in
    let less = c.loop-i-test.true in
    let next = c.in-Some.ensures in (
      omega (arith, next.0),
      omega arith,
      loop.invariant.2,
      λ t groups e p. evaluating_both (loop.invariant.3 t groups e p) _ _ less c.if-x-lt-UNION.true ((p.each loop.i less).says _ pre.1)
          next.0 (omega (arith, next.1, next.2)) (λ o k. c.combine-value.ensures o (next.2 ∙ k)),
    )

pub overflow_sub-top : goal.overflow_sub-top
overflow_sub-top c =
    let pre = c.requires in
    (evaluating_operator (c.loop-i.invariant.3 pre.0.0 pre.2.0 pre.0.1 pre.2.1) c.loop-i-test.true c.if-x-lt-UNION.false).0

pub loop-i-preserved : goal.loop-i-preserved
loop-i-preserved c =
    let loop = c.loop-i in (
      omega arith,
      omega arith,
      loop.invariant.2,
      λ t groups e p. (evaluating_operator (loop.invariant.3 t groups e p) c.loop-i-test.true c.if-x-lt-UNION.false).1 _ c.combine-value-else-x-lt-UNION.ensures,
    )

pub returns : goal.returns
returns c = λ t groups e p. evaluating_end (c.loop-i.invariant.3 t groups e p) c.loop-i-test.false
