-- The two devices, as a key knows them: 01's player, and the older one of request 8 of 02.
use Rattle.std.specs.Prelude.{◌≡◌, Bool, List, ℕ}
use Rattle.tree.specs.Tree.{Tree}
use Rattle.text.specs.Line.{Row}
use Rattle.player.specs.Instructions as newer
use Rattle.player.specs.Playing.{Played}
use Rattle.player.specs.Playing as newer-player
use Rattle.older_player.specs.Instructions as older
use Rattle.older_player.specs.Playing as older-player
use Rattle.code.specs.Code.{code}
use Rattle.code.specs.Devices as coding
use Rattle.code.specs.Effects.{Effect, newer_effect, older_effect}
use Rattle.printing.specs.Key.{instruction_row, older_row}
use Rattle.printing.specs.declared.Device.{Device}
use Rattle.printing.specs.declared.Device.TheVariants.{Newer, Older}

-- its instructions
abbrev pub InstructionOf : Device → Type 0
InstructionOf Newer = newer.Instruction
InstructionOf Older = older.Instruction

-- what an instruction reads, writes and loads
abbrev pub effect_of : (d : Device) → InstructionOf d → Effect
effect_of Newer i = newer_effect i
effect_of Older i = older_effect i

-- the code of a tree: 01's, "The root's target is 0"; and that of the second coder
abbrev pub code_for : (d : Device) → Tree → List (InstructionOf d)
code_for Newer t = code t 0
code_for Older t = coding.code_on coding.older_player t

-- "its own instructions", of a part, where its result is handed on in the register r: 01's "Code for a node with target r"; and the older
-- player's, while operands wait in some registers
abbrev pub IsOwn : (d : Device) → Tree → List (InstructionOf d) → ℕ → Type 0
IsOwn Newer h is r = is ≡ code h r
IsOwn Older h is r =
    (w : List Bool) × (is ≡ (coding.part_code coding.older_player w h).own) × (r ≡ (coding.part_code coding.older_player w h).register)

-- an instruction's line, and a code's numbers
abbrev pub row_for : (d : Device) → InstructionOf d → Row
row_for Newer i = instruction_row i
row_for Older i = older_row i

abbrev pub numbers_for : (d : Device) → List (InstructionOf d) → List ℕ
numbers_for Newer is = newer.numbers_of is
numbers_for Older is = older.numbers_of is

-- what a call of its player answers and leaves: the contract of `play`
abbrev pub PlaysFor : Device → (code patch lamps : List ℕ) → Played → List ℕ → Type 0
PlaysFor Newer code patch lamps r after = newer-player.Plays code patch lamps r after
PlaysFor Older code patch lamps r after = older-player.Plays code patch lamps r after
