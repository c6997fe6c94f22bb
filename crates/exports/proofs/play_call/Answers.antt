use Rattle.exports.proofs.PlayingLaws.{play_call}
use Rattle.exports.proofs.play_call.Goals as goal

pub returns : goal.returns
returns c = play_call c.play-played.ensures _ c.number_of.ensures
