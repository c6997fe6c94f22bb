-- `mark`: the question's refusal, the candidate's, or what follows where both are read.
use Rattle.std.proofs.lemmas.Result.{err_from_is_err_and}
use Rattle.marking.proofs.ReadLaws.{marks_question, marks_candidate, both_read, marks_read}
use Rattle.marking.proofs.mark.Goals as goal

pub returns-in_err-sheet : goal.returns-in_err-sheet
returns-in_err-sheet c =
    let p = err_from_is_err_and c.from_residual.result c.from_residual.ensures.1 in
    rw (p.1, p.2) (marks_question _ _ _ c.in_err-sheet.ensures)

pub returns-in_err-drawing : goal.returns-in_err-drawing
returns-in_err-drawing c =
    let p = err_from_is_err_and c.from_residual-in_err-drawing.result c.from_residual-in_err-drawing.ensures.1 in
    rw (p.1, p.2) (marks_candidate _ _ c.in_ok-sheet.ensures _ c.in_err-drawing.ensures)

pub mark_read-requires : goal.mark_read-requires
mark_read-requires c =
    let both = both_read _ _ c.in_ok-sheet.ensures c.in_ok-drawing.ensures in
    (_, _, both.0, both.1, both.2)

pub returns : goal.returns
returns c = marks_read _ _ c.in_ok-sheet.ensures c.in_ok-drawing.ensures _ c.mark_read.ensures
