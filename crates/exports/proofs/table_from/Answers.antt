-- `table_from` meets its contract: arrays of as many numbers are written over whole.
use native.Mathlib.Omega.{arith}
use Rattle.exports.proofs.TableFromLaws.{both_lengths, table_written, table_zeros}
use Rattle.exports.proofs.table_from.Goals as goal

pub copy-requires : goal.copy-requires
copy-requires c = omega (arith, (both_lengths c.args.signs.now c.args.lengths.now c.if-signs-lengths.true).0)

pub copy-requires-then-signs-lengths : goal.copy-requires-then-signs-lengths
copy-requires-then-signs-lengths c = omega (arith, (both_lengths c.args.signs.now c.args.lengths.now c.if-signs-lengths.true).1)

pub returns-then-signs-lengths : goal.returns-then-signs-lengths
returns-then-signs-lengths c = table_written c.args.signs.now c.args.lengths.now c.if-signs-lengths.true c.copy.ensures c.copy-then-signs-lengths.ensures

pub returns : goal.returns
returns c = table_zeros c.args.signs.now c.args.lengths.now c.if-signs-lengths.false
