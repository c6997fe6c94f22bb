-- `line_at`: the line ends before the first LF of the rest.
use Rattle.std.proofs.Common.{◌∙◌, sym, ap, ◌+◌, Option}
use Rattle.text.proofs.PartsLaws.{rest_all}
use Rattle.sheet.specs.declared.Line.{Line}
use Rattle.sheet.proofs.LineAtLaws.{line_past, line_cut, line_whole}
use Rattle.sheet.proofs.line_at.Goals as goal

pub returns-then-sheet-at : goal.returns-then-sheet-at
returns-then-sheet-at c = sym (line_past _ _ _ c.if-sheet-at.true)

pub returns-in-None : goal.returns-in-None
returns-in-None c = sym (line_cut _ _ _ c.if-sheet-at.false (rw rest_all at c.in-None.ensures))

pub returns-in-Some : goal.returns-in-Some
returns-in-Some c =
    let s = c.args.sheet.now in let at = c.args.at in let k = c.in-Some.k in
    let e = rw rest_all at c.in-Some.ensures in
    ap (λ (l : Option Line). record { line = l; next = at + k + 1 }) (rw rest_all at c.line_of.ensures) ∙ sym (line_whole _ s at k e.0 e.1)
