-- `combine` meets its contract: by cases on the operator and on the operands' values.
use mathlib.Core.Path.{◌≡◌, refl}
use mathlib.Core.Bool.{Bool, true, false, ◌&&◌, ◌||◌, not}
use lib.Dec.{eqb}
use Rattle.tree.specs.Tree.{Basic, plus, minus, operator_of, apply}
use Rattle.words.specs.Word.{operator_sign}
use Rattle.left_sides.proofs.combine.Goals as goal

combined_as : (o : Basic) (a b : Bool) → ((a && not b) || (b && eqb (operator_sign o) 43)) ≡ apply (operator_of o) a b
combined_as plus true true = refl
combined_as plus true false = refl
combined_as plus false true = refl
combined_as plus false false = refl
combined_as minus true true = refl
combined_as minus true false = refl
combined_as minus false true = refl
combined_as minus false false = refl

pub returns : goal.returns
returns c = λ o e. rw e (combined_as o c.args.a c.args.b)
