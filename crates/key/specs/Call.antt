-- What `key` promises: the keys of a sheet of any bytes, and what a call answers and leaves.
use Rattle.std.specs.Prelude.{◌≡◌, List, [], ◌∷◌, ℕ, ◌≤◌, ◌<◌, length, Result, Ok, Err}
use Rattle.std.proofs.Math.Option.{Option, some, none}
use Rattle.common.specs.Answer.{Answer, done}
use Rattle.tree.specs.Tree.{Tree}
use Rattle.tree.specs.Parse.{tree_of}
use Rattle.tree.specs.Writing.{over}
use Rattle.moves.specs.Moves.{MoveTable}
use Rattle.sheet.specs.Reading.{ReadingOutcome, accepted, refused}
use Rattle.move_table.specs.Loading as table
use Rattle.printing.specs.Key.{Key, refusal, answers, text}
use Rattle.printing.specs.declared.Device.{Device}
use Rattle.key.specs.Devices.{InstructionOf, row_for}
use Rattle.key.specs.Demand.{Demand3}
use Rattle.key.specs.declared.ShortBuffer.{ShortBuffer}

-- As many bytes as every key fits in: 10,000 LIFT lines of at most 16 bytes (a lift line of a sheet has at least 6 of its
-- 60,000 bytes), a HELD line of at most 17, 8,191 code lines of at most 14, and a SHOW line of at most 8.
abbrev pub key_bytes : ℕ
key_bytes = 274699

-- "It reads a sheet .. and prints `NO` number line, or: ..": a refusal for a sheet that reading refuses, and for one that it accepts
-- a key that meets the third demand, by a move table
abbrev pub KeyOf : (d : Device) → MoveTable → ReadingOutcome → Key (InstructionOf d) → Type 0
KeyOf d m (refused number line) k = k ≡ refusal number line
KeyOf d m (accepted st) (refusal number line) = ⊥
KeyOf d m (accepted st) (answers lifts held is) = (t : Tree) × (tree_of st.entries ≡ some t) × Demand3 d m t st.marks st.lifts lifts held is

-- by a school's table, from what loading it comes to; request 7 of 02: "a refused table prints only `NO` number line"
abbrev pub KeyWith : (d : Device) → table.Loaded → ReadingOutcome → Key (InstructionOf d) → Type 0
KeyWith d (table.refused number line) o k = k ≡ refusal number line
KeyWith d (table.loaded ps) o k = KeyOf d (table.school_table ps) o k

-- 01's number and value for each answer: a key of so many bytes is written, also one that is a refusal. That the buffer is too short
-- for some key is no case of 01 and has no number.
abbrev pub key_says : Result ℕ ShortBuffer → Option Answer
key_says (Ok count) = some (done (count ∷ []))
key_says (Err short) = none

-- a key of which that holds was written, and nothing past it
pub record WritesKey (d : Device) (IsKey : Key (InstructionOf d) → Type 0) (out : List ℕ) (r : Result ℕ ShortBuffer) (out' : List ℕ) : Type 0 where
  pub key : Key (InstructionOf d)
  pub answers : IsKey key
  pub says : key_says r ≡ some (done (length (text (row_for d) key) ∷ []))
  pub written : out' ≡ over (text (row_for d) key) out

-- what a call promises that is to write such a key, for any buffer
pub record KeyCall (d : Device) (IsKey : Key (InstructionOf d) → Type 0) (out : List ℕ) (r : Result ℕ ShortBuffer) (out' : List ℕ) : Type 0 where
  pub short : length out < key_bytes → (key_says r ≡ none) × (out' ≡ out)
  pub long : key_bytes ≤ length out → WritesKey d IsKey out r out'
