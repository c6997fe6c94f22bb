-- A refusal, after which no code follows, or what `answer_sheet` writes.
use Rattle.std.proofs.Common.{ℕ, ◌∙◌, ◌<◌, ap, arith, Err, rules}
use Rattle.printing.proofs.PrintingLaws.{no_most}
use Rattle.key.proofs.AnswerLaws.{accepted_read, refused_left, accepted_left}
use Rattle.key.proofs.put_before_code.Goals as goal

pub put_line-next-requires : goal.put_line-next-requires
put_line-next-requires c =
    let line : c.in-Err.refusal.line < 18446744073709551616 = search rules in
    omega (arith, no_most c.from.result c.in-Err.refusal.line (omega (arith, c.from.ensures, c.from-number.type_inv)) (omega arith), c.requires.1)

pub returns-in-Err : goal.returns-in-Err
returns-in-Err c = λ m K.
    let at = c.in-Err.refusal.line in
    let w = c.put_line-next.ensures in
    let line : at < 18446744073709551616 = search rules in
    let short = no_most c.from.result at (omega (arith, c.from.ensures, c.from-number.type_inv)) (omega arith) in
    let e = ap (λ (n : ℕ). Err (n, at)) (c.from.ensures ∙ c.from-number.ensures) ∙ c.in-Err.ensures in
    record {
      inside = omega arith;
      room = omega (arith, w.ends, short);
      holds = refused_left m c.args.sheet.now _ c.from.result at e w (omega (arith, w.ends, short));
    }

pub answer_sheet-requires : goal.answer_sheet-requires
answer_sheet-requires c = (accepted_read c.args.sheet.now c.in-Ok.ensures, c.requires.0, c.requires.1, c.requires.2)

pub returns-in-Ok : goal.returns-in-Ok
returns-in-Ok c = λ m K.
    let z = accepted_read c.args.sheet.now c.in-Ok.ensures in
    accepted_left m c.args.sheet.now z.1.accepts (c.answer_sheet.ensures m K z.0 z.1)
