-- `put_decimal`: the digits of n/10 are written first, then the last digit; n falls at each call.
use mathlib.Core.Path.{sym}
use Rattle.tree.proofs.WritingLaws.{wrote_then, wrote_as}
use Rattle.text.proofs.DecimalLaws.{digits_small, digits_large}
use Rattle.text.proofs.+put_decimal.Goals as goal

pub returns-then-n-lt10 : goal.returns-then-n-lt10
returns-then-n-lt10 t c = wrote_as c.write_one.ensures (sym (digits_small _ c.if-n-lt10.true))

pub returns : goal.returns
returns t c = wrote_as (wrote_then c.put_decimal-next.ensures c.write_one-2.ensures) (sym (digits_large _ c.if-n-lt10.false))
