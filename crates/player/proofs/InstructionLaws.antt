-- Laws of instructions, for the crates above: which ones the player takes, lists of them, and the numbers that they are written as.
use mathlib.Core.Path.{◌≡◌, refl, sym}
use mathlib.Core.Bool.{false}
use mathlib.Core.List.{List, [], ◌∷◌, ◌++◌, append_assoc}
use Prim.Native.Nat.{◌*◌, ◌≤◌, ◌<◌}
use native.Mathlib.Omega.{arith}
use lib.Dec.{eqb}
use lib.ListN.{length}
use Rattle.common.specs.Fours.{fours}
use Rattle.player.specs.Limits.{register_count, last_group, outside}
use Rattle.player.specs.Instructions.{Rig, Registers, Operation, add, cut, both, Instruction, load, operate, kind_of, load_kind, operation_with, step, run, numbers, numbers_of, instructions}

-- An instruction that names registers 0 to 12 only and, if it is a LOAD, a group from 1 to the last one
abbrev pub WellFormed : Instruction → Type 0
WellFormed (load target group) = (target < register_count) × (1 ≤ group) × (group ≤ last_group)
WellFormed (operate o target s t) = (target < register_count) × (s < register_count) × (t < register_count)

-- a list of such instructions
unfoldable pub AllWellFormed : List Instruction → Type 0
AllWellFormed [] = Unit {0}
AllWellFormed (i ∷ is) = WellFormed i × AllWellFormed is

-- ---- an operation's kind: it is not LOAD's, it is in range, and read again it gives the operation
pub kind_not_load : (o : Operation) → eqb (kind_of o) load_kind ≡ false
kind_not_load add = refl
kind_not_load cut = refl
kind_not_load both = refl

pub kind_inside : (o : Operation) → outside (kind_of add) (kind_of both) (kind_of o) ≡ false
kind_inside add = refl
kind_inside cut = refl
kind_inside both = refl

pub kind_read : (o : Operation) → operation_with (kind_of o) ≡ o
kind_read add = refl
kind_read cut = refl
kind_read both = refl

-- ---- two lists, one behind the other
pub run_append : (rig : Rig) (is js : List Instruction) (R : Registers) → run rig (is ++ js) R ≡ run rig js (run rig is R)
unfolding run
run_append rig [] js R = refl
run_append rig (i ∷ is) js R = run_append rig is js (step rig i R)

pub numbers_append : (is js : List Instruction) → numbers_of (is ++ js) ≡ numbers_of is ++ numbers_of js
unfolding numbers_of
numbers_append [] js = refl
numbers_append (i ∷ is) js = rw (numbers_append is js) (sym (append_assoc (numbers i) (numbers_of is) (numbers_of js)))

-- ---- the numbers of a list
pub numbers_length : (is : List Instruction) → length (numbers_of is) ≡ 4 * length is
unfolding numbers_of
numbers_length [] = refl
numbers_length (load target group ∷ is) = omega (arith, numbers_length is)
numbers_length (operate o target s t ∷ is) = omega (arith, numbers_length is)

-- read again, they give the list
pub instructions_numbers : (is : List Instruction) → instructions (numbers_of is) ≡ is
unfolding fours numbers_of
instructions_numbers [] = refl
instructions_numbers (load target group ∷ is) = rw (instructions_numbers is)
instructions_numbers (operate o target s t ∷ is) = rw (kind_not_load o, kind_read o, instructions_numbers is)
