-- `number`: what is left of the field, read from the number so far, gives the whole field's number.
use Rattle.std.proofs.Common.{◌∙◌, sym, arith, length}
use borrow.Author.Tests.{eqb-true, eqb-false}
use Rattle.text.proofs.DecimalLaws.{number_start, number_empty, number_leading, lead_other, lead_short, after_none, after_next, after_end}
use Rattle.text.proofs.number.Goals as goal

pub returns-then-is_empty : goal.returns-then-is_empty
returns-then-is_empty c = sym (number_empty _ (eqb-true _ 0 (sym c.if-is_empty.ensures)))

pub returns-then-bytes-eq-NOUGHT : goal.returns-then-bytes-eq-NOUGHT
returns-then-bytes-eq-NOUGHT c = sym (number_leading c.args.bytes.now (omega arith) c.if-bytes-eq-NOUGHT.true)

pub loop-d-init : goal.loop-d-init
loop-d-init c = let h = eqb-false (length c.args.bytes.now) 0 (sym c.if-is_empty.ensures) in grind (arith, number_start, lead_other, lead_short)

pub returns-in_err-v : goal.returns-in_err-v
returns-in_err-v c =
    c.from_residual.ensures
    ∙ sym (c.loop-d.invariant ∙ after_next c.loop-d.v c.args.bytes.now c.loop-d.d-index (omega arith) ∙ rw (sym c.in_err-v.ensures) (after_none _))

pub loop-d-preserved : goal.loop-d-preserved
loop-d-preserved c = c.loop-d.invariant ∙ after_next c.loop-d.v c.args.bytes.now c.loop-d.d-index (omega arith) ∙ rw (sym c.in_ok-v.ensures)

pub returns : goal.returns
returns c = sym (c.loop-d.invariant ∙ after_end c.loop-d.v c.args.bytes.now c.loop-d.d-index (omega arith))
