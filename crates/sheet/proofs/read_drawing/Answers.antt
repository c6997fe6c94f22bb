-- `read_drawing`: the outcome as an answer.
use Rattle.std.proofs.lemmas.Result.{err_from_is_err_and}
use Rattle.sheet.specs.Rules.{candidate_rules}
use Rattle.sheet.specs.Reading.{read_with}
use Rattle.sheet.proofs.LoopLaws.{gives_no_drawing, gives_drawing}
use Rattle.sheet.proofs.read_drawing.Goals as goal

pub returns-in_err-reader : goal.returns-in_err-reader
returns-in_err-reader c =
    let p = err_from_is_err_and c.from_residual.result c.from_residual.ensures.1 in
    rw (p.1, p.2) (gives_no_drawing (read_with candidate_rules c.args.file.now) _ c.in_err-reader.ensures)

pub returns : goal.returns
returns c = gives_drawing (read_with candidate_rules c.args.file.now) _ c.in_ok-reader.ensures
