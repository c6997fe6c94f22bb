-- `mark_read`: reading's answers hold the two trees, the groups and the marks.
use mathlib.Core.Path.{sym, ◌∙◌}
use lib.Seq.{length-take-le}
use Rattle.tree.proofs.CollectLaws.{some_found}
use Rattle.marking.proofs.ReadLaws.{sheet_long, marks_long, drawing_long, sheet_listed, drawing_listed, few_groups, read_foreign, read_judged}
use Rattle.marking.proofs.mark_read.Goals as goal

pub slice_bounds-question-end : goal.slice_bounds-question-end
slice_bounds-question-end c = sheet_long c.requires.4

pub slice_bounds-groups_of-end : goal.slice_bounds-groups_of-end
slice_bounds-groups_of-end c = sym (length-take-le _ _ (sheet_long c.requires.4))

pub slice_bounds-drawn-end : goal.slice_bounds-drawn-end
slice_bounds-drawn-end c = drawing_long c.requires.4

pub slice_bounds-foreign_line-end : goal.slice_bounds-foreign_line-end
slice_bounds-foreign_line-end c = sym (length-take-le _ _ (drawing_long c.requires.4))

pub unwrap-found-requires : goal.unwrap-found-requires
unwrap-found-requires c = some_found _ _ c.groups_of.ensures (few_groups c.requires.4)

pub returns-in-Some : goal.returns-in-Some
returns-in-Some c =
    let line = c.in-Some.ensures in
    let found = rw c.unwrap-found.ensures at c.groups_of.ensures in
    λ question candidate q d B. read_foreign B (c.as_slice-groups.ensures.found ∙ found) _ line.1 line.0

pub slice_bounds-question-end-2 : goal.slice_bounds-question-end-2
slice_bounds-question-end-2 c =
    let pre = c.requires in
    sheet_long pre.4

pub slice_bounds-judge-end : goal.slice_bounds-judge-end
slice_bounds-judge-end c =
    let pre = c.requires in
    sym (length-take-le _ _ (sheet_long pre.4))

pub slice_bounds-marks-end : goal.slice_bounds-marks-end
slice_bounds-marks-end c =
    let pre = c.requires in
    marks_long pre.4

pub slice_bounds-judge-end-2 : goal.slice_bounds-judge-end-2
slice_bounds-judge-end-2 c =
    let pre = c.requires in
    sym (length-take-le _ _ (marks_long pre.4))

pub slice_bounds-drawn-end-2 : goal.slice_bounds-drawn-end-2
slice_bounds-drawn-end-2 c =
    let pre = c.requires in
    drawing_long pre.4

pub slice_bounds-judge-end-3 : goal.slice_bounds-judge-end-3
slice_bounds-judge-end-3 c =
    let pre = c.requires in
    sym (length-take-le _ _ (drawing_long pre.4))

pub judge-requires : goal.judge-requires
judge-requires c =
    let pre = c.requires in
    (sheet_listed pre.4, drawing_listed pre.4)

pub returns : goal.returns
returns c =
    let found = rw c.unwrap-found.ensures at c.groups_of.ensures in
    λ question candidate q d B. read_judged B (c.as_slice-groups.ensures.found ∙ found) _ c.in_default.ensures c.judge.ensures
