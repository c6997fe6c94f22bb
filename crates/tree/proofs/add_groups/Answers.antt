-- `tree::add_groups` meets its contract: the groups found so far, with those of what is left of the list, are those of the whole list.
use mathlib.Core.Path.{sym, ◌∙◌}
use native.Mathlib.Omega.{arith}
use lib.ListN.{length-set}
use Rattle.tree.proofs.CollectLaws.{collect_operator, collect_old, collect_written, collect_many, collect_end}
use Rattle.tree.proofs.add_groups.Goals as goal
use Rattle.tree.proofs.add_groups.Goals.{then-x-lt-UNION+then-not-is_in+else-found-eq-MOST_GROUPS, else-x-lt-UNION, else-x-lt-UNION-via-then-x-lt-UNION+else-not-is_in, else-x-lt-UNION-via-else-x-lt-UNION}

pub returns-then-found-eq-MOST_GROUPS : goal.returns-then-found-eq-MOST_GROUPS
returns-then-found-eq-MOST_GROUPS c =
    let l = c.loop-x in
    let new = rw c.as_slice.ensures.found at (sym c.is_in.ensures ∙ c.if-not-is_in.true) in
    collect_many l.found.0 _ _ _ c.loop-x-test.true c.if-x-lt-UNION.true new c.if-found-eq-MOST_GROUPS.true l.invariant.1 l.invariant.2

pub loop-x-preserved : goal.loop-x-preserved
loop-x-preserved c =
    let l = c.loop-x in
    let inside = c.loop-x-test.true in
    elim c.if-x-lt-UNION.branch [
      | then-x-lt-UNION+then-not-is_in+else-found-eq-MOST_GROUPS w ↦
          let new = rw w.as_slice.ensures.found at (sym w.is_in.ensures ∙ w.if-not-is_in.true) in
          rw w.found-is (omega arith, simp length-set l.invariant.1, sym (collect_written l.found.0 _ l.found.1.0 l.x-index inside w.if-x-lt-UNION.true new (omega arith)) ∙ l.invariant.2)
      | else-x-lt-UNION w ↦
          rw w.found-is (elim w.else-x-lt-UNION.branch [
            | else-x-lt-UNION-via-then-x-lt-UNION+else-not-is_in v ↦
                let old = rw v.as_slice.ensures.found at (sym v.is_in.ensures ∙ v.if-not-is_in.false) in
                rw v.found-is (l.invariant.0, l.invariant.1, sym (collect_old _ _ _ inside v.if-x-lt-UNION.true old) ∙ l.invariant.2)
            | else-x-lt-UNION-via-else-x-lt-UNION v ↦ rw v.found-is (l.invariant.0, l.invariant.1, sym (collect_operator _ _ _ inside v.if-x-lt-UNION.false) ∙ l.invariant.2)
          ])
    ]

pub returns : goal.returns
returns c = let l = c.loop-x in sym (collect_end _ _ _ c.loop-x-test.false) ∙ l.invariant.2
