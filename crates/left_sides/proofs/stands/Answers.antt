-- `stands` meets its contract, by what `of_word` says of both words.
use mathlib.Core.Path.{refl}
use Rattle.left_sides.proofs.StandsLaws.{side_formula, stands_is}
use Rattle.left_sides.proofs.stands.Goals as goal

pub returns-in_default-of_word : goal.returns-in_default-of_word
returns-in_default-of_word c = λ x i e. side_formula x i c.left_side.result (c.left_side.ensures x i e) c.in_default-of_word.ensures

pub returns : goal.returns
returns c = λ x i e. stands_is x i c.args.word.now c.left_side.result c.in-Some.found c.in-Some-of_word.side _ c.eq-same.result (c.left_side.ensures x i e) c.in-Some.ensures c.in-Some-of_word.ensures refl c.eq-same.ensures
