-- Request 8's sentence about fault 23, said of instructions: "Its instructions too are four numbers, unused ones 0, and SHOW, kind 5, stands
-- last and there only, else 23". That these are exactly the codes without fault 23 is a theorem (proofs/CodeLaws.antt).
use Rattle.std.specs.Prelude.{◌≡◌, List, [], ◌∷◌, ◌++◌, ℕ, ◌≤◌, ◌<◌}
use Rattle.player.specs.Limits.{register_count, last_group}
use Rattle.older_player.specs.Instructions.{Instruction, load, change, show, numbers_of}

-- an instruction, not SHOW, that names registers 0 to 12 only and, if it is a LOAD, a group from 1 to the last one
abbrev pub WellFormed : Instruction → Type 0
WellFormed (load target group) = (target < register_count) × (1 ≤ group) × (group ≤ last_group)
WellFormed (change o first second) = (first < register_count) × (second < register_count)
WellFormed (show register) = ⊥

-- a list of such instructions
unfoldable pub AllWellFormed : List Instruction → Type 0
AllWellFormed [] = Unit {0}
AllWellFormed (i ∷ is) = WellFormed i × AllWellFormed is

-- the numbers of such instructions and, behind them, of SHOW
pub record IsCode (code : List ℕ) : Type 0 where
  pub others : List Instruction
  pub register : ℕ
  pub well_formed : AllWellFormed others
  pub low : register < register_count
  pub numbered : code ≡ numbers_of (others ++ (show register ∷ []))
