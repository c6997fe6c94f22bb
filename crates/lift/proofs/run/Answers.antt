-- `run` meets its contract, turn by turn: RunLaws has one.
use mathlib.Core.Path.{refl, ◌∙◌}
use native.Mathlib.Omega.{arith}
use lib.ListN.{take}
use Rattle.std.proofs.lemmas.Result.{err_from_is_err_and}
use Rattle.tree.proofs.TreeLaws.{size_positive}
use Rattle.lift.proofs.RunLaws.{goes_on_lem, refuses_step, ends, Reached, reached_answers}
use Rattle.lift.proofs.run.Goals as goal
use Rattle.lift.proofs.run.Goals.{At-loop-left}

-- `Reached`, of the part and the table that `requires` hands over
abbrev Here : At-loop-left → Type 0
Here t =
    let p = t.requires in
    let l = t.loop-left in
    Reached p.some_table.0 p.stands.0 p.stands.1 t.args.levels t.args.looks (take l.made.nodes l.from.now) l.made.node l.left l.looks

here : (t : At-loop-left) → Here t
here t = let p = t.requires in t.loop-left.invariant.5 p.some_table.0 p.some_table.1 p.stands.0 p.stands.1 p.stands.2

pub loop-left-init : goal.loop-left-init
loop-left-init c = (omega arith, omega arith, omega arith, omega arith, refl, λ m K a k S. record { e = k; stands = S; same = refl })

pub overflow_sub-result : goal.overflow_sub-result
overflow_sub-result c =
    let R = here (goal.at.overflow_sub-result c).At-loop-left in
    omega (arith, R.stands.part.ends, size_positive c.requires.stands.0)

pub returns-in_err-made : goal.returns-in_err-made
returns-in_err-made c =
    let g = c.args in
    let l = c.loop-left in
    let p = err_from_is_err_and c.from_residual.result c.from_residual.ensures.1 in
    λ m K. record {
      lifts = λ a k S.
          let R = l.invariant.5 m K a k S in
          reached_answers R g.out.now _ l.out (rw (p.1, p.2, l.invariant.4) (refuses_step m a R.e l.left l.looks c.if-left-eq0.false _ g.out.now _ (c.in_err-made.ensures m K a R.e R.stands)));
    }

pub returns-then-left-eq0 : goal.returns-then-left-eq0
returns-then-left-eq0 c =
    let g = c.args in
    let l = c.loop-left in
    λ m K. record {
      lifts = λ a k S.
          let R = l.invariant.5 m K a k S in
          reached_answers R g.out.now _ c.copy.new.out (ends m l.from.now l.made.nodes l.made.node a R.e l.left l.looks _ g.out.now _ R.stands (omega arith) (omega arith) c.if-left-eq0.true (rw l.invariant.4 at c.copy.ensures));
    }

pub step-requires-clause-stands : goal.step-requires-clause-stands
step-requires-clause-stands c =
    let R = here (goal.at.step-requires-clause-stands c).At-loop-left in
    ((_, _, R.stands), c.requires.some_table)

pub loop-left-preserved : goal.loop-left-preserved
loop-left-preserved c =
    let l = c.loop-left in
    let W = c.requires.some_table in
    let R = here (goal.at.loop-left-preserved c).At-loop-left in
    let D = c.in_ok-made.ensures W.0 W.1 _ _ R.stands in (
      D.short,
      omega arith,
      l.invariant.1,
      omega arith,
      l.invariant.4,
      λ m K a k S.
          let I = l.invariant.5 m K a k S in
          let E = c.in_ok-made.ensures m K a I.e I.stands in
          record { e = E.e; stands = E.stands; same = I.same ∙ goes_on_lem m a I.e l.left l.looks c.if-left-eq0.false E },
    )
