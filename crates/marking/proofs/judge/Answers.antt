-- `judge`: the tables decide equivalence, and `is_gathered` the rest.
use mathlib.Core.Path.{sym, ◌∙◌}
use borrow.Author.Tests.{not-true, not-false, eqb-true, eqb-false}
use Rattle.marking.proofs.MarkLaws.{same_lamps, judged_other, judged_unmarked, judged_gathered, judged_not}
use Rattle.marking.proofs.judge.Goals as goal
use Rattle.marking.proofs.judge.Goals.{then-is_empty-via-then-is_empty, then-is_empty-via-else-is_empty+then-is_gathered}

pub returns-then-ne : goal.returns-then-ne
returns-then-ne c = judged_other (same_lamps _ _ c.table-a.ensures c.table-b.ensures) _ (not-true _ (sym c.ne.ensures ∙ c.if-ne.true))

pub returns-then-is_empty : goal.returns-then-is_empty
returns-then-is_empty c =
    let lamps = same_lamps _ _ c.table-a.ensures c.table-b.ensures in
    let same = not-false _ (sym c.ne.ensures ∙ c.if-ne.false) in
    elim c.then-is_empty.branch [
      | then-is_empty-via-then-is_empty w ↦ judged_unmarked lamps _ same (eqb-true _ _ (sym c.is_empty.ensures ∙ w.if-is_empty.true))
      | then-is_empty-via-else-is_empty+then-is_gathered w ↦ judged_gathered lamps _ same w.is_gathered.ensures w.if-is_gathered.true
    ]

pub returns : goal.returns
returns c =
    let lamps = same_lamps _ _ c.table-a.ensures c.table-b.ensures in
    judged_not lamps _ (not-false _ (sym c.ne.ensures ∙ c.if-ne.false)) c.is_gathered.ensures (eqb-false _ _ (sym c.is_empty.ensures ∙ c.if-is_empty.false)) c.requires.1.2 c.if-is_gathered.false
