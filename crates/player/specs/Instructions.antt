-- Instructions, what they do to the registers, and the numbers that they are written as. 01, "The instructions".
use Rattle.std.specs.Prelude.{Bool, false, not, cond, ◌&&◌, ◌||◌, List, [], ◌∷◌, ◌++◌, ℕ, eqb}
use Rattle.common.specs.Fours.{fours}

-- A set of lamps, by lamp number.
abbrev pub Lamps : Type 0
Lamps = ℕ → Bool

-- "A rig gives each group its set of lamps"
abbrev pub Rig : Type 0
Rig = ℕ → Lamps

-- The set of lamps in each register.
abbrev pub Registers : Type 0
Registers = ℕ → Lamps

-- what two sets of lamps are combined by: "ADD (2) target, s, t .. CUT (3) target, s, t"; request 6: "the player gains BOTH (kind 4)"
pub data Operation : Type 0 where
  add : Operation
  cut : Operation
  both : Operation

-- "LOAD (1) target, group, 0. ADD (2) target, s, t .. CUT (3) target, s, t"; request 6: "BOTH (kind 4)"
pub data Instruction : Type 0 where
  load : (target group : ℕ) → Instruction
  operate : Operation → (target s t : ℕ) → Instruction

-- "union of registers s and t"; "s without t"; request 6: "lamps in both"
abbrev pub combined : Operation → Lamps → Lamps → Lamps
combined add f g lamp = f lamp || g lamp
combined cut f g lamp = f lamp && not (g lamp)
combined both f g lamp = f lamp && g lamp

-- Registers "empty at first".
abbrev pub empty : Registers
empty register lamp = false

-- The registers once the set f is put into one of them.
abbrev pub put : Registers → ℕ → Lamps → Registers
put R target f register = cond (eqb register target) f (R register)

-- What one instruction does.
abbrev pub step : Rig → Instruction → Registers → Registers
step rig (load target group) R = put R target (rig group)
step rig (operate o target s t) R = put R target (combined o (R s) (R t))

-- What a list of instructions does, the first one first.
unfoldable pub run : Rig → List Instruction → Registers → Registers
run rig [] R = R
run rig (i ∷ is) R = run rig is (step rig i R)

-- "empty at first; the answer is in 0"
abbrev pub lit_lamps : Rig → List Instruction → Lamps
lit_lamps rig is = run rig is empty 0

-- "An instruction is four 16-bit numbers: kind, target, and two more"; "LOAD (1)"
abbrev pub load_kind : ℕ
load_kind = 1

-- "ADD (2) .. CUT (3)"; request 6: "BOTH (kind 4)"
abbrev pub kind_of : Operation → ℕ
kind_of add = 2
kind_of cut = 3
kind_of both = 4

-- "LOAD (1) target, group, 0. ADD (2) target, s, t .. CUT (3) target, s, t"; request 6: "BOTH (kind 4)"
abbrev pub numbers : Instruction → List ℕ
numbers (load target group) = load_kind ∷ target ∷ group ∷ 0 ∷ []
numbers (operate o target s t) = kind_of o ∷ target ∷ s ∷ t ∷ []

-- The numbers of a list of instructions, one after the other.
unfoldable pub numbers_of : List Instruction → List ℕ
numbers_of [] = []
numbers_of (i ∷ is) = numbers i ++ numbers_of is

-- The operation of a kind that is not LOAD's; fault 23 leaves no other kind.
abbrev pub operation_with : ℕ → Operation
operation_with kind = cond (eqb kind (kind_of add)) add (cond (eqb kind (kind_of cut)) cut both)

-- The instruction that four numbers stand for; fault 23 leaves no other kind.
abbrev pub instruction : ℕ → ℕ → ℕ → ℕ → Instruction
instruction kind target s t = cond (eqb kind load_kind) (load target s) (operate (operation_with kind) target s t)

-- Numbers as a list of instructions; fault 22 leaves no rest.
abbrev pub instructions : List ℕ → List Instruction
instructions code = fours instruction code
