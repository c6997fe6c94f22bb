-- `Reader::new`: nothing has been read.
use Rattle.std.proofs.Common.{refl}
use Rattle.sheet.proofs.HoldLaws.{holds_nothing_read}
use Rattle.sheet.proofs.Reader.new.Goals as goal

pub returns : goal.returns
returns g c = (holds_nothing_read _ _ refl, refl)
