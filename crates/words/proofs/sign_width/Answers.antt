-- `sign_width` meets its contract: by what the sign stands for.
use mathlib.Core.Path.{sym, ap, ◌∙◌}
use lib.ListN.{length}
use Rattle.words.specs.InnerWords.{part_at}
use Rattle.words.proofs.WordLaws.{part_number, sign_part, sign_operator, sign_nothing, cut_length}
use Rattle.words.proofs.sign_width.Goals as goal

pub returns-in-Some-clause-by_index : goal.returns-in-Some-clause-by_index
returns-in-Some-clause-by_index c l w =
    let g = c.args in
    let p = c.in-Some.named in
    sym (ap length (sign_part l g.parts g.sign p (sym c.in-Some.ensures)) ∙ cut_length l (part_at g.parts p) (w p (part_number g.sign p (sym c.in-Some.ensures))))

pub returns-in-Some-operator_of-clause-by_index : goal.returns-in-Some-operator_of-clause-by_index
returns-in-Some-operator_of-clause-by_index c l w = let g = c.args in sym (ap length (sign_operator l g.parts g.sign _ (sym c.part_of.ensures ∙ c.in_default.is) (sym c.in-Some-operator_of.ensures)))

pub returns-in-None-clause-by_index : goal.returns-in-None-clause-by_index
returns-in-None-clause-by_index c l w = let g = c.args in sym (ap length (sign_nothing l g.parts g.sign (sym c.part_of.ensures ∙ c.in_default.is) (sym c.in-None.ensures)))
