use mathlib.Core.Path.{◌≡◌}
use Rattle.std.proofs.Common.{Some}
use lib.ListN.{drop}
use Rattle.text.specs.Decimal.{decimal}
use Rattle.text.specs.Inner.{capped}
use Rattle.text.proofs.DecimalLaws.{after}
use Rattle.text.proofs.number.Given as goal

abbrev pub invariant-loop-d : goal.invariant-loop-d
invariant-loop-d l = capped (decimal l.bytes) ≡ after (Some l.v) (drop l.d-index l.bytes)
