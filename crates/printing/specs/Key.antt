-- Document 01, "The key program": what a key says, and the bytes that say it.
use Rattle.std.specs.Prelude.{List, [], ◌∷◌, ◌++◌, ℕ}
use Rattle.text.specs.Line.{Row, line, lines}
use Rattle.player.specs.Instructions.{Operation, add, cut, both, Instruction, load, operate}
use Rattle.older_player.specs.Instructions as older

-- "per lift `LIFT` number position looks"
pub record LiftAnswer : Type 0 where
  pub number : ℕ
  pub position : ℕ
  pub looks : ℕ

-- "with marks `HELD` 0 first count (the run's first instruction from 1, and its length) or `HELD` 19 and nothing more"
pub data Held : Type 0 where
  unmarked : Held
  held_run : (first count : ℕ) → Held
  cannot : Held

-- "It .. prints `NO` number line, or: per lift ..; with marks ..; then the code"
-- of a device with these instructions
pub data Key (I : Type 0) : Type 0 where
  refusal : (number line : ℕ) → Key I
  answers : List LiftAnswer → Held → List I → Key I

-- ---- the words that lines begin with
abbrev pub NO : List ℕ
NO = 78 ∷ 79 ∷ []

abbrev pub LIFT : List ℕ
LIFT = 76 ∷ 73 ∷ 70 ∷ 84 ∷ []

abbrev pub HELD : List ℕ
HELD = 72 ∷ 69 ∷ 76 ∷ 68 ∷ []

abbrev pub LOAD : List ℕ
LOAD = 76 ∷ 79 ∷ 65 ∷ 68 ∷ []

abbrev pub ADD : List ℕ
ADD = 65 ∷ 68 ∷ 68 ∷ []

abbrev pub CUT : List ℕ
CUT = 67 ∷ 85 ∷ 84 ∷ []

abbrev pub BOTH : List ℕ
BOTH = 66 ∷ 79 ∷ 84 ∷ 72 ∷ []

-- request 8: "a last line SHOW"
abbrev pub SHOW : List ℕ
SHOW = 83 ∷ 72 ∷ 79 ∷ 87 ∷ []

-- a line of a word and numbers
abbrev pub row : List ℕ → List ℕ → Row
row word numbers = record { word = word; numbers = numbers }

-- ---- the lines of a key
abbrev pub lift_row : LiftAnswer → Row
lift_row a = row LIFT (a.number ∷ a.position ∷ a.looks ∷ [])

-- "per lift `LIFT` number position looks"
unfoldable pub lift_rows : List LiftAnswer → List Row
lift_rows [] = []
lift_rows (a ∷ ls) = lift_row a ∷ lift_rows ls

-- "with marks `HELD` 0 first count .. or `HELD` 19 and nothing more"
abbrev pub held_rows : Held → List Row
held_rows unmarked = []
held_rows (held_run first count) = row HELD (0 ∷ first ∷ count ∷ []) ∷ []
held_rows cannot = row HELD (19 ∷ []) ∷ []

-- "a code line is .. `ADD` or `CUT`"; request 6: "the player gains BOTH (kind 4)"
abbrev pub word_of : Operation → List ℕ
word_of add = ADD
word_of cut = CUT
word_of both = BOTH

-- "a code line is `LOAD`, `ADD` or `CUT` and its numbers, LOAD's last 0 left out"; or `BOTH` and its numbers, by request 6
abbrev pub instruction_row : Instruction → Row
instruction_row (load target group) = row LOAD (target ∷ group ∷ [])
instruction_row (operate o target s t) = row (word_of o) (target ∷ s ∷ t ∷ [])

-- request 8: "A second key program, otherwise alike, prints this code without unused numbers"
abbrev pub older_row : older.Instruction → Row
older_row (older.load target group) = row LOAD (target ∷ group ∷ [])
older_row (older.change o first second) = row (word_of o) (first ∷ second ∷ [])
older_row (older.show register) = row SHOW (register ∷ [])

-- ---- a whole key, of a device whose instructions have these lines
module _ {I : Type 0} (row_for : I → Row) where
  -- "then the code"
  unfoldable pub instruction_rows : List I → List Row
  instruction_rows [] = []
  instruction_rows (i ∷ is) = row_for i ∷ instruction_rows is

  -- "It .. prints `NO` number line, or: per lift ..; with marks ..; then the code"
  abbrev pub rows_of : Key I → List Row
  rows_of (refusal number line) = row NO (number ∷ line ∷ []) ∷ []
  rows_of (answers ls held is) = lift_rows ls ++ (held_rows held ++ instruction_rows is)

  -- "The key is the bytes handed to printing": "Fields are parted by one tab and lines end in LF"
  unfoldable pub text : Key I → List ℕ
  text k = lines (rows_of k)
