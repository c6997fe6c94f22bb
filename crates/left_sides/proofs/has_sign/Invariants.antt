use mathlib.Core.Path.{◌≡◌}
use mathlib.Core.List.{◌++◌, map}
use lib.Dec.{eqb}
use lib.ListN.{length, take, drop}
use Rattle.left_sides.proofs.has_sign.Given as goal

abbrev pub invariant-loop-i : goal.invariant-loop-i
invariant-loop-i l = (length l.out ≡ 16) × (take l.i l.out ++ map (λ b. eqb b l.sign) (drop l.i l.row) ≡ map (λ b. eqb b l.sign) l.row)
