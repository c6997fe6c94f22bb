-- What the functions of this crate ask and promise each other. Only their contracts cite this.
use Rattle.std.specs.Prelude.{◌≡◌, true, List, [], ◌++◌, ℕ, ◌+◌, ◌≤◌, length, take, Result}
use Rattle.tree.specs.Tree.{Tree, most_nodes, most_groups, is_in, groups}
use Rattle.tree.specs.Parse.{tree_of}
use Rattle.tree.specs.InnerGroups.{Distinct}
use Rattle.tree.specs.InnerWriting.{Wrote}
use Rattle.text.specs.Line.{lines}
use Rattle.gather.specs.Gathering.{CannotBeGathered}
use Rattle.moves.specs.Moves.{MoveTable}
use Rattle.sheet.specs.Reading.{ReadingState, ReadingOutcome, accepted, reading, sheet_with}
use Rattle.sheet.specs.declared.Sheet.{Sheet}
use Rattle.printing.specs.Key.{Held, unmarked, held_run, cannot, held_rows, instruction_rows}
use Rattle.lift_lines.specs.Inner.{IsList}
use Rattle.lift_lines.specs.declared.Progress.{Progress}
use Rattle.printing.specs.declared.Device.{Device}
use Rattle.printing.specs.declared.Device.TheVariants.{Newer, Older}
use Rattle.coder.specs.Coding as newer-coder
use Rattle.coder.specs.Coding.{code_of_list}
use Rattle.older_coder.specs.Coding as older-coder
use Rattle.coder.specs.declared.Refusal.{Refusal}
use Rattle.key.specs.Devices.{InstructionOf, code_for, row_for}
use Rattle.key.specs.Demand.{HeldCode}
use Rattle.key.specs.Call.{key_bytes, KeyOf}
use Rattle.key.specs.InnerKeyOf.{held_by, code_by, key_for, key_by}

-- bytes that a HELD line has at most, and
abbrev pub held_bytes : ℕ
held_bytes = 17

-- a code, with SHOW
abbrev pub code_bytes : ℕ
code_bytes = 114682

-- what a device's coder promises
abbrev pub EncodesFor : Device → (tree out : List ℕ) → Result ℕ Refusal → List ℕ → Type 0
EncodesFor Newer tree out r after = newer-coder.Encodes tree out r after
EncodesFor Older tree out r after = older-coder.Encodes tree out r after

-- what a sheet's marks are in a tree that its lifts leave
pub record Markable (u : Tree) (marks : List ℕ) : Type 0 where
  pub few : length (groups u) ≤ most_groups
  pub once : Distinct marks
  pub among : (g : ℕ) → is_in marks g ≡ true → is_in (groups u) g ≡ true

-- ---- the code
-- its lines, of the tree that a list is; none of a list that is no tree
abbrev pub code_lines : Device → List ℕ → List ℕ
code_lines d list = lines (instruction_rows (row_for d) (code_of_list (code_for d) (tree_of list)))

-- all but the code stands in `out`: with the code of the first `nodes` entries of `tree` behind it, the whole is as W says
pub record AllButCode (d : Device) (W : List ℕ → ℕ → Type 0) (tree : List ℕ) (nodes : ℕ) (out : List ℕ) (next : ℕ) : Type 0 where
  pub whole : (out' : List ℕ) (last : ℕ) → Wrote out next out' last (code_lines d (take nodes tree)) → W out' last

-- ---- `put_held`
-- what follows the lifts, which leave the tree u: "with marks `HELD` ..; then the code of the tree after the lifts"
abbrev pub Ends : (d : Device) → Tree → List ℕ → Held → List (InstructionOf d) → Type 0
Ends d u marks unmarked is = (marks ≡ []) × (is ≡ code_for d u)
Ends d u marks (held_run first count) is = (1 ≤ length marks) × HeldCode d u marks first count is
Ends d u marks cannot is = (1 ≤ length marks) × CannotBeGathered (is_in marks) u × (is ≡ [])

-- a tree and marks to gather in it, and room for the HELD line
abbrev pub MarkedTree : (tree : List ℕ) (nodes : ℕ) (marks out : List ℕ) (at : ℕ) → Type 0
MarkedTree tree nodes marks out at =
    ((u : Tree) × IsList (take nodes tree) u × Markable u marks) × (nodes ≤ length tree) × (most_nodes ≤ length tree) × (at + held_bytes ≤ length out)

-- the HELD line, if any, and the code
pub record Finished (d : Device) (u : Tree) (marks out : List ℕ) (at : ℕ) (out' : List ℕ) (next : ℕ) : Type 0 where
  pub ends : Ends d u marks (held_by u marks) (code_by d u marks)
  pub wrote : Wrote out at out' next (lines (held_rows (held_by u marks) ++ instruction_rows (row_for d) (code_by d u marks)))
  pub most : next ≤ at + held_bytes + code_bytes

-- the HELD line is written, if any, and the tree left of which the code follows
pub record PutsHeld (tree : List ℕ) (nodes : ℕ) (marks out : List ℕ) (at : ℕ) (tree' out' : List ℕ) (r : Progress) : Type 0 where
  pub inside : r.nodes ≤ length tree'
  pub most : r.next ≤ at + held_bytes
  pub holds : (d : Device) (u : Tree) → IsList (take nodes tree) u → Markable u marks → AllButCode d (Finished d u marks out at) tree' r.nodes out' r.next

-- ---- `answer_sheet` and `put_before_code`
-- reading accepts the sheet with the state st, and answered so
pub record ReadAs (sheet : List ℕ) (read : Sheet) (st : ReadingState) : Type 0 where
  pub accepts : reading sheet ≡ accepted st
  pub answers : read ≡ sheet_with st

-- the whole key of a sheet by a table, by what reading comes to
pub record WroteKey (d : Device) (m : MoveTable) (o : ReadingOutcome) (out out' : List ℕ) (next : ℕ) : Type 0 where
  pub answers : KeyOf d m o (key_for d m o)
  pub wrote : Wrote out 0 out' next (key_by d m o)
  pub most : next ≤ key_bytes

-- all but the code is written of a key that is to be as W says, and the tree left of which the code follows
pub record PutsBeforeCode (W : Device → List ℕ → ℕ → Type 0) (tree out : List ℕ) (r : Progress) : Type 0 where
  pub inside : r.nodes ≤ length tree
  pub room : r.next + code_bytes ≤ key_bytes
  pub holds : (d : Device) → AllButCode d (W d) tree r.nodes out r.next
