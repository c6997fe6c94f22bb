-- Laws of the older player's instructions and the numbers that they are written as.
use mathlib.Core.Path.{◌≡◌, refl, sym}
use mathlib.Core.Bool.{false}
use mathlib.Core.List.{List, [], ◌∷◌, ◌++◌, append_assoc}
use Prim.Native.Nat.{◌*◌}
use native.Mathlib.Omega.{arith}
use lib.Dec.{eqb}
use lib.ListN.{length}
use Rattle.common.specs.Fours.{fours}
use Rattle.player.specs.Instructions.{Operation, add, cut, both, kind_of}
use Rattle.player.proofs.InstructionLaws.{kind_not_load, kind_read}
use Rattle.older_player.specs.Instructions.{Instruction, load, change, show, show_kind, numbers, numbers_of, instructions}

-- ---- the numbers of a list
pub numbers_append : (is js : List Instruction) → numbers_of (is ++ js) ≡ numbers_of is ++ numbers_of js
unfolding numbers_of
numbers_append [] js = refl
numbers_append (i ∷ is) js = rw (numbers_append is js) (sym (append_assoc (numbers i) (numbers_of is) (numbers_of js)))

pub numbers_length : (is : List Instruction) → length (numbers_of is) ≡ 4 * length is
unfolding numbers_of
numbers_length [] = refl
numbers_length (load target group ∷ is) = omega (arith, numbers_length is)
numbers_length (change o first second ∷ is) = omega (arith, numbers_length is)
numbers_length (show register ∷ is) = omega (arith, numbers_length is)

-- read again, they give the list
pub kind_not_show : (o : Operation) → eqb (kind_of o) show_kind ≡ false
kind_not_show add = refl
kind_not_show cut = refl
kind_not_show both = refl

pub instructions_numbers : (is : List Instruction) → instructions (numbers_of is) ≡ is
unfolding fours numbers_of
instructions_numbers [] = refl
instructions_numbers (load target group ∷ is) = rw (instructions_numbers is)
instructions_numbers (change o first second ∷ is) = rw (kind_not_load o, kind_not_show o, kind_read o, instructions_numbers is)
instructions_numbers (show register ∷ is) = rw (instructions_numbers is)
