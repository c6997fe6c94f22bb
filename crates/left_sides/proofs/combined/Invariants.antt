use mathlib.Core.Path.{◌≡◌}
use mathlib.Core.List.{◌++◌, zip_with}
use lib.ListN.{length, take, drop}
use Rattle.tree.specs.Tree.{Basic, operator_of, apply}
use Rattle.words.specs.Word.{operator_sign}
use Rattle.left_sides.proofs.combined.Given as goal

abbrev pub invariant-loop-i : goal.invariant-loop-i
invariant-loop-i l =
    (length l.out ≡ 16)
    × ((o : Basic) → l.sign ≡ operator_sign o → take l.i l.out ++ zip_with (apply (operator_of o)) (drop l.i l.x) (drop l.i l.y) ≡ zip_with (apply (operator_of o)) l.x l.y)
