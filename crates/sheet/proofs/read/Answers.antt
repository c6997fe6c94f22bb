-- `read`: the outcome as an answer.
use Rattle.std.proofs.lemmas.Result.{err_from_is_err_and}
use Rattle.sheet.specs.Reading.{reading}
use Rattle.sheet.proofs.LoopLaws.{gives_refused, gives_accepted}
use Rattle.sheet.proofs.read.Goals as goal

pub returns-in_err-reader : goal.returns-in_err-reader
returns-in_err-reader c =
    let p = err_from_is_err_and c.from_residual.result c.from_residual.ensures.1 in
    rw (p.1, p.2) (gives_refused (reading c.args.sheet.now) _ c.in_err-reader.ensures)

pub returns : goal.returns
returns c = gives_accepted (reading c.args.sheet.now) _ c.in_ok-reader.ensures
