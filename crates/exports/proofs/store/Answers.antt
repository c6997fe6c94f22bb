use mathlib.Core.Path.{sym}
use Prim.Native.Nat.{◌%◌}
use lib.Seq.{set_out}
use Rattle.exports.proofs.store.Goals as goal

pub returns-else-i-answer : goal.returns-else-i-answer
returns-else-i-answer c = sym (set_out c.args.answer.now c.args.i (c.args.value % 4294967296) c.if-i-answer.false)
