-- The table's refusal; or, as in `key`, the code behind all but the code, by its words.
use mathlib.Core.Path.{◌≡◌, ◌∙◌}
use native.Mathlib.Omega.{arith}
use Rattle.tree.proofs.WritingLaws.{wrote_as}
use Rattle.move_table.specs.Packing.{fault_number}
use Rattle.move_table.proofs.SchoolLaws.{table_refused}
use Rattle.key.proofs.AnswerLaws.{refusal_text, short_line, school_refused, school_written, LoadedAs, loaded_as}
use Rattle.key.proofs.key_with.Goals as goal
use Rattle.key.proofs.key_with.Goals.{In-Ok, In-Err}

-- the table's words
words : (c : In-Ok) → LoadedAs c.args.table.now c.in-Ok.school
words c = loaded_as c.args.table.now c.in-Ok.school c.in-Ok.ensures

pub put_line-next-requires : goal.put_line-next-requires
put_line-next-requires c =
    let number : c.from.result ≡ fault_number c.in-Err.refusal.fault = c.from.ensures ∙ c.from-number.ensures in
    rw number (omega (arith, short_line c.args.table.now c.in-Err.refusal c.in-Err.ensures, c.if-out-lt-KEY_BYTES.false))

pub returns-in-Err : goal.returns-in-Err
returns-in-Err c =
    let args = c.args in
    let refusal = c.in-Err.refusal in
    let number : c.from.result ≡ fault_number refusal.fault = c.from.ensures ∙ c.from-number.ensures in
    let w = rw number at c.put_line-next.ensures in
    let K = school_refused args.device args.table.now args.sheet.now c.if-out-lt-KEY_BYTES.false (fault_number refusal.fault) refusal.line (table_refused args.table.now refusal c.in-Err.ensures)
    (omega (arith, w.ends, short_line args.table.now refusal c.in-Err.ensures)) (wrote_as w (refusal_text args.device (fault_number refusal.fault) refusal.line)) in
    record { key_call = K.0; by = K.1 }

pub put_before_code-left-requires : goal.put_before_code-left-requires
put_before_code-left-requires c = (omega arith, c.if-out-lt-KEY_BYTES.false, (_, (words (goal.at.put_before_code-left-requires c).In-Ok).holds))

pub finish-next-requires : goal.finish-next-requires
finish-next-requires c =
    let before = c.put_before_code-left in
    let P = before.ensures _ (words (goal.at.finish-next-requires c).In-Ok).holds in
    (P.inside, omega (arith, P.room, before.auto.out, c.if-out-lt-KEY_BYTES.false))

pub returns : goal.returns
returns c =
    let args = c.args in
    let L = words (goal.at.returns c).In-Ok in
    let K = school_written args.device args.table.now args.sheet.now c.if-out-lt-KEY_BYTES.false L.entries L.is (((c.put_before_code-left.ensures _ L.holds).holds args.device).whole _ _ c.finish-next.ensures) in
    record { key_call = K.0; by = K.1 }
