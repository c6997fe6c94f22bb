-- `of_word` meets its contract. The loop's invariant: the array's first values are known of the formulas that wait (`Reading`).
use Prim.Native.Nat.{◌-◌}
use mathlib.Core.Path.{refl, ◌∙◌}
use native.Mathlib.Omega.{arith}
use lib.ListN.{length-set}
use Rattle.left_sides.proofs.ReadingLaws.{part_sign, operator_sign_lem, reading_start, reading_part, reading_operator, reading_neither, reading_few, reading_several, reading_end}
use Rattle.left_sides.proofs.of_word.Invariants.{outside}
use Rattle.left_sides.proofs.of_word.Goals as goal
use Rattle.left_sides.proofs.of_word.Goals.{then-sign, else-sign+else-sign-2+else-top-lt2}

pub loop-sign-init : goal.loop-sign-init
loop-sign-init c = (omega arith, refl, reading_start outside _ _)

pub of_part-requires : goal.of_part-requires
of_part-requires c = part_sign _ c.if-sign.true

pub loop-sign-preserved : goal.loop-sign-preserved
loop-sign-preserved c =
    let loop = c.loop-sign in
    let known = loop.invariant.2 in
    elim c.if-sign.branch [
      | then-sign w ↦ (
        omega arith,
        rw w.waiting-is (length-set loop.waiting loop.top _ ∙ loop.invariant.1),
        rw (w.waiting-is, w.top-is) (reading_part known _ c.loop-sign-test.true (omega arith) w.of_part.ensures),
      )
      | else-sign+else-sign-2+else-top-lt2 w ↦ (
          let o = operator_sign_lem _ w.if-sign-2.false in (
            omega arith,
            rw w.waiting-is (length-set loop.waiting (loop.top - 1 - 1) _ ∙ loop.invariant.1),
            rw (w.waiting-is, w.top-is) (reading_operator known _ o.0 c.loop-sign-test.true o.1 w.if-top-lt2.false (omega arith) (λ p q e f. w.joined.ensures o.0 p q o.1 e f)),
          )
          )
    ]

pub returns-then-sign-2 : goal.returns-then-sign-2
returns-then-sign-2 c = reading_neither c.loop-sign.invariant.2 c.loop-sign-test.true c.if-sign.false c.if-sign-2.true

pub returns-then-top-lt2 : goal.returns-then-top-lt2
returns-then-top-lt2 c =
    let o = operator_sign_lem _ c.if-sign-2.false in
    reading_few c.loop-sign.invariant.2 o.0 c.loop-sign-test.true o.1 c.if-top-lt2.true

pub returns-then-top-eq1 : goal.returns-then-top-eq1
returns-then-top-eq1 c = reading_end c.loop-sign.invariant.2 c.loop-sign-test.false c.if-top-eq1.true

pub returns-else-top-eq1 : goal.returns-else-top-eq1
returns-else-top-eq1 c = reading_several c.loop-sign.invariant.2 c.loop-sign-test.false c.if-top-eq1.false
