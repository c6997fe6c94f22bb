-- The very key that is written, a function of the sheet and the table. 01 leaves the gathered tree free, and with it the key; a reader need not
-- believe a line of this: `KeyCall` says what a key must be.
use Rattle.std.specs.Prelude.{◌≡◌, List, [], ◌∷◌, ℕ, ◌≤◌, length, Result}
use Rattle.std.proofs.Math.Option.{Option, some, none}
use Rattle.common.specs.Answer.{done}
use Rattle.tree.specs.Tree.{Tree}
use Rattle.tree.specs.Parse.{tree_of}
use Rattle.tree.specs.Writing.{over}
use Rattle.coder.specs.Coding.{code_of_list, run_of}
use Rattle.coder.specs.declared.Run.{Run}
use Rattle.gather.specs.InnerGathered.{gathered_by, holder_of}
use Rattle.moves.specs.Moves.{MoveTable, ours}
use Rattle.sheet.specs.Rules.{Rules, sheet_rules}
use Rattle.sheet.specs.Reading.{ReadingState, ReadingOutcome, accepted, refused, read_with}
use Rattle.move_table.specs.Loading as table
use Rattle.printing.specs.Key.{Held, unmarked, held_run, cannot, Key, refusal, answers, text}
use Rattle.lift_lines.specs.Lifting.{tree_after, lift_answers}
use Rattle.printing.specs.declared.Device.{Device}
use Rattle.key.specs.Devices.{InstructionOf, code_for, row_for}
use Rattle.key.specs.Call.{key_bytes, key_says}
use Rattle.key.specs.declared.ShortBuffer.{ShortBuffer}

-- ---- what follows the lifts, which leave the tree u
-- "`HELD` 0 first count", of a run
abbrev pub held_as : Run → Held
held_as run = held_run run.first run.count

-- of the holder's run in the gathered tree; "`HELD` 19" where there is none
abbrev pub held_in : List ℕ → Option Tree → Held
held_in marks none = cannot
held_in marks (some g) = held_as (run_of (some g) (holder_of marks g))

-- "with marks `HELD` .."
abbrev pub held_by : Tree → List ℕ → Held
held_by u [] = unmarked
held_by u (m ∷ marks) = held_in (m ∷ marks) (gathered_by u (m ∷ marks))

-- "then the code of the tree after the lifts, with marks of the gathered one"
abbrev pub code_by : (d : Device) → Tree → List ℕ → List (InstructionOf d)
code_by d u [] = code_for d u
code_by d u (m ∷ marks) = code_of_list (code_for d) (gathered_by u (m ∷ marks))

-- ---- the whole
-- of an accepted sheet by a table, by the tree that its entries are (and they are one)
abbrev pub key_in : (d : Device) → MoveTable → ReadingState → Option Tree → Key (InstructionOf d)
key_in d m st none = refusal 0 0
key_in d m st (some t) =
    let u = tree_after m t st.lifts in
    answers (lift_answers m t st.lifts) (held_by u st.marks) (code_by d u st.marks)

-- by what reading comes to
abbrev pub key_for : (d : Device) → MoveTable → ReadingOutcome → Key (InstructionOf d)
key_for d m (refused number line) = refusal number line
key_for d m (accepted st) = key_in d m st (tree_of st.entries)

-- the key's bytes
unfoldable pub key_by : Device → MoveTable → ReadingOutcome → List ℕ
key_by d m o = text (row_for d) (key_for d m o)

-- by our own table, of a sheet that is read by these rules, and by today's
abbrev pub key_with : Device → Rules → List ℕ → List ℕ
key_with d rules sheet = key_by d ours (read_with rules sheet)

abbrev pub key_of : Device → List ℕ → List ℕ
key_of d sheet = key_with d sheet_rules sheet

-- by a school's table
abbrev pub key_for_school : (d : Device) → table.Loaded → ReadingOutcome → Key (InstructionOf d)
key_for_school d (table.refused number line) o = refusal number line
key_for_school d (table.loaded ps) o = key_for d (table.school_table ps) o

unfoldable pub school_key_of : Device → (bytes sheet : List ℕ) → List ℕ
school_key_of d bytes sheet = text (row_for d) (key_for_school d (table.loading bytes) (read_with sheet_rules sheet))

-- where the buffer is long enough, it is these bytes that are written
pub record KeyBy (bytes out : List ℕ) (r : Result ℕ ShortBuffer) (out' : List ℕ) : Type 0 where
  pub by : key_bytes ≤ length out → (key_says r ≡ some (done (length bytes ∷ []))) × (out' ≡ over bytes out)
