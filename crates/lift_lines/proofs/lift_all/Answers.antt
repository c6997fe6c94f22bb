-- `lift_all`: after so many lifts, what is written and what is left to write make up the whole.
use Rattle.std.proofs.Common.{◌≡◌, Some, rules}
use mathlib.Core.Path.{ap, ◌∙◌}
use native.Mathlib.Omega.{arith}
use Rattle.sheet.specs.declared.LineAt.{LineAt}
use Rattle.sheet.specs.declared.Line.TheVariants.{Lift}
use Rattle.lift_lines.proofs.LiftOneLaws.{front_size}
use Rattle.lift_lines.proofs.LiftAllLaws.{Reached, reached_start, reached_turn, reached_next, reached_end, same_lift}
use Rattle.lift_lines.proofs.lift_all.Goals as goal
use Rattle.lift_lines.proofs.lift_all.Goals.{At-loop, in_default-via-in-Some+in_default, in_default-via-in_default}

-- what is reached from the tree and by the table that `requires` has
abbrev Here : At-loop → Type 0
Here a =
    let p = a.requires in
    Reached p.some_table.0 a.args.sheet.now p.in_array.0.0 p.count_in_bounds.0.0 a.args.count a.loop.counter a.loop.tree a.loop.progress.nodes a.args.out.now a.loop.out a.loop.at a.loop.progress.next

here : (a : At-loop) → Here a
here a = let p = a.requires in a.loop.invariant.1 p.some_table.0 p.some_table.1 p.in_array.0.0 p.count_in_bounds.0.0 p.in_array.0.1 p.count_in_bounds.0.1

pub loop-init : goal.loop-init
loop-init c =
    let a = c.args in
    (c.requires.in_array.1, λ m K t ls w k. reached_start m a.sheet.now t ls a.start a.count a.tree.now a.nodes a.out.now w k)

pub unreachable-requires : goal.unreachable-requires
unreachable-requires c =
    let T = reached_turn (here (goal.at.unreachable-requires c).At-loop) c.loop-test.true in
    let read = ap (λ (x : LineAt). x.line) c.line_at-here.ensures ∙ T.read in
    elim c.in_default.branch [
      | in_default-via-in-Some+in_default w ↦ search (rules, read)
      | in_default-via-in_default w ↦ search (rules, read)
    ]

pub lift_one-progress-requires-clause-in_array : goal.lift_one-progress-requires-clause-in_array
lift_one-progress-requires-clause-in_array c =
    let R = here (goal.at.lift_one-progress-requires-clause-in_array c).At-loop in
    ((R.present, R.holds), c.loop.invariant.0, omega (arith, c.requires.in_array, c.loop.auto.tree))

pub lift_one-progress-requires-clause-lift_room : goal.lift_one-progress-requires-clause-lift_room
lift_one-progress-requires-clause-lift_room c =
    let R = here (goal.at.lift_one-progress-requires-clause-lift_room c).At-loop in
    let T = reached_turn R c.loop-test.true in
    let lift : c.line_at-here.result.line ≡ Some (Lift c.in-Some-Lift.position c.in-Some-Lift.levels) = search rules in
    let q = same_lift T _ c.line_at-here.ensures lift in
    let bytes = c.requires.count_in_bounds.1 in (
      record {
        near = omega (arith, c.from.ensures, q.0, T.range.position_most);
        few = omega (arith, c.from-in-loop.ensures, q.1, T.range.levels_most);
        room = omega (arith, R.most, bytes, c.loop.auto.out, c.loop-test.true);
      },
      c.requires.some_table,
    )

pub loop-preserved : goal.loop-preserved
loop-preserved c =
    let l = c.loop in
    let p = c.requires in
    let R = here (goal.at.loop-preserved c).At-loop in
    let lift : c.line_at-here.result.line ≡ Some (Lift c.in-Some-Lift.position c.in-Some-Lift.levels) = search rules in
    let L = c.lift_one-progress.ensures p.some_table.0 p.some_table.1 R.present R.holds in (
      omega (arith, L.fits, p.in_array, c.lift_one-progress.auto.tree, l.auto.tree),
      λ m K t ls w a.
          let S = l.invariant.1 m K t ls w a in
          let T = reached_turn S c.loop-test.true in
          let q = same_lift T _ c.line_at-here.ensures lift in
          rw c.line_at-here.ensures (reached_next S c.loop-test.true T (rw (c.from.ensures, c.from-in-loop.ensures, q.0, q.1) at (c.lift_one-progress.ensures m K S.present S.holds))),
    )

pub returns : goal.returns
returns c = λ m K t ls w a.
    let l = c.loop in
    let R = l.invariant.1 m K t ls w a in
    reached_end R (omega (arith, l.auto.counter-end, c.loop-test.false)) a.counted (omega (arith, front_size l.tree l.progress.nodes R.present R.holds l.invariant.0, R.holds.most))
