-- Instructions of the older player, what they do to the registers, and the numbers that they are written as. Request 8 of 02.
use Rattle.std.specs.Prelude.{List, [], ◌∷◌, ◌++◌, cond, ℕ, eqb}
use Rattle.common.specs.Fours.{fours}
use Rattle.player.specs.Instructions.{Lamps, Rig, Registers, Operation, combined, empty, put, load_kind, kind_of, operation_with}

-- "a player whose ADD, CUT and BOTH name two registers"; "a last line SHOW names the register with the answer"
pub data Instruction : Type 0 where
  load : (target group : ℕ) → Instruction
  change : Operation → (first second : ℕ) → Instruction
  show : (register : ℕ) → Instruction

-- What a list of instructions lights, the first one first: "the first is changed by the second"; "SHOW names the register with the
-- answer". It "stands last and there only".
unfoldable pub lights : Rig → List Instruction → Registers → Lamps
lights rig [] R = empty 0
lights rig (load target group ∷ is) R = lights rig is (put R target (rig group))
lights rig (change o first second ∷ is) R = lights rig is (put R first (combined o (R first) (R second)))
lights rig (show register ∷ is) R = R register

-- registers "empty at first"
abbrev pub lit_lamps : Rig → List Instruction → Lamps
lit_lamps rig is = lights rig is empty

-- "SHOW, kind 5"
abbrev pub show_kind : ℕ
show_kind = 5

-- "Its instructions too are four numbers, unused ones 0"
abbrev pub numbers : Instruction → List ℕ
numbers (load target group) = load_kind ∷ target ∷ group ∷ 0 ∷ []
numbers (change o first second) = kind_of o ∷ first ∷ second ∷ 0 ∷ []
numbers (show register) = show_kind ∷ register ∷ 0 ∷ 0 ∷ []

-- The numbers of a list of instructions, one after the other.
unfoldable pub numbers_of : List Instruction → List ℕ
numbers_of [] = []
numbers_of (i ∷ is) = numbers i ++ numbers_of is

-- The instruction that four numbers stand for; fault 23 leaves no other kind, and nothing but 0 as the fourth.
abbrev pub instruction : ℕ → ℕ → ℕ → ℕ → Instruction
instruction kind a b c = cond (eqb kind load_kind) (load a b) (cond (eqb kind show_kind) (show a) (change (operation_with kind) a b))

-- Numbers as a list of instructions; fault 22 leaves no rest.
abbrev pub instructions : List ℕ → List Instruction
instructions code = fours instruction code
