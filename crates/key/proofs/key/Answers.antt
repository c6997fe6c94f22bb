-- No words stand for our own table; the code behind all but the code makes the key.
use mathlib.Core.Path.{refl}
use native.Mathlib.Omega.{arith}
use Rattle.moves.specs.Moves.{ours}
use Rattle.sheet.specs.Reading.{reading}
use Rattle.key.specs.Call.{KeyOf}
use Rattle.key.specs.InnerKeyOf.{key_of}
use Rattle.key.proofs.AnswerLaws.{call_short, call_by}
use Rattle.key.proofs.key.Goals as goal

pub returns-then-out-lt-KEY_BYTES : goal.returns-then-out-lt-KEY_BYTES
returns-then-out-lt-KEY_BYTES c =
    let args = c.args in
    let K = call_short args.device (KeyOf args.device ours (reading args.sheet.now)) (key_of args.device args.sheet.now) args.out.now c.if-out-lt-KEY_BYTES.true in
    record { key_call = K.0; by = K.1 }

pub put_before_code-left-requires : goal.put_before_code-left-requires
put_before_code-left-requires c = (omega arith, c.if-out-lt-KEY_BYTES.false, (ours, record { by = refl }))

pub finish-next-requires : goal.finish-next-requires
finish-next-requires c =
    let before = c.put_before_code-left in
    let P = before.ensures ours (record { by = refl }) in
    (P.inside, omega (arith, P.room, before.auto.out, c.if-out-lt-KEY_BYTES.false))

pub returns : goal.returns
returns c =
    let args = c.args in
    let K = call_by args.device ours args.sheet.now c.if-out-lt-KEY_BYTES.false (((c.put_before_code-left.ensures ours (record { by = refl })).holds args.device).whole _ _ c.finish-next.ensures) in
    record { key_call = K.0; by = K.1 }
