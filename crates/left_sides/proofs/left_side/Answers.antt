-- `left_side` meets its contract: the constant table is the left sides' words in order.
use mathlib.Core.List.{[]}
use Rattle.words.specs.Word.{word}
use Rattle.moves.specs.LeftSides.{left_side}
use Rattle.left_sides.proofs.KnownLaws.{at_place}
use Rattle.left_sides.proofs.left_side.Goals as goal

pub returns : goal.returns
returns c = λ x i. at_place (λ x i. word (left_side x i)) [] x i c.args.place
