-- `table::combine` meets its contract: by cases on the operator and on the operands' values.
use mathlib.Core.Path.{◌≡◌, refl}
use mathlib.Core.Bool.{Bool, true, false, beq, ◌&&◌, ◌||◌}
use Rattle.std.specs.Prelude.{◌==◌}
use Rattle.tree.specs.Tree.{Operator, union, difference, intersection, sign, apply}
use Rattle.table.proofs.combine.Goals as goal

combined : (o : Operator) (a b : Bool) → ((a && beq b (sign o == sign intersection)) || (b && (sign o == sign union))) ≡ apply o a b
combined union true true = refl
combined union true false = refl
combined union false true = refl
combined union false false = refl
combined difference true true = refl
combined difference true false = refl
combined difference false true = refl
combined difference false false = refl
combined intersection true true = refl
combined intersection true false = refl
combined intersection false true = refl
combined intersection false false = refl

pub returns : goal.returns
returns c = λ o e. rw e (combined o c.args.a c.args.b)
