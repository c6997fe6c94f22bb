-- Document 01, "The sheet": what reading answers for any bytes, the first fault first. specs/Form.antt has the forms of the lines.
use Rattle.std.specs.Prelude.{Bool, not, cond, ◌&&◌, List, [], ◌∷◌, ◌++◌, ℕ, ◌+◌, eqb, leb, ltb, length, replicate, Option, Some, None, Result, Ok, Err}
use Rattle.std.proofs.Math.Option.{Option as MathOption, some, none}
use Rattle.tree.specs.Tree.{Tree, most_groups, is_in, with_new}
use Rattle.tree.specs.Parse.{waiting}
use Rattle.tree.specs.Writing.{over}
use Rattle.text.specs.Parts.{Parts, last, part, split}
use Rattle.text.specs.Line.{line_feed}
use Rattle.sheet.specs.Form.{line_of}
use Rattle.sheet.specs.Rules.{Rules, sheet_rules}
use Rattle.sheet.specs.declared.Line.{Line}
use Rattle.sheet.specs.declared.Line.TheVariants.{Group, Operator, Lift, Mark, End}
use Rattle.sheet.specs.declared.Sheet.{Sheet}

-- "1 (line 0) over 60,000 bytes"
abbrev pub most_bytes : ℕ
most_bytes = 60000

-- "`L` position .. levels ..: a lift"
pub record LiftLine : Type 0 where
  pub position : ℕ
  pub levels : ℕ

-- What has been read: the tree's entries and different groups, the marks and the lifts, all in sheet order, and the byte
-- after the tree lines. `phase` is the place of the last line: lines of a lower place may no longer come.
pub record ReadingState : Type 0 where
  pub phase : ℕ
  pub entries : List ℕ
  pub groups : List ℕ
  pub marks : List ℕ
  pub start : ℕ
  pub lifts : List LiftLine

-- "Tree lines come first, then lifts if any, then marks if any, then one `E`."
abbrev pub place : Option Line → ℕ
place None = 0
place (Some (Group g)) = 0
place (Some (Operator x)) = 0
place (Some (Lift p n)) = 1
place (Some (Mark g)) = 2
place (Some End) = 3

-- the phase after `E`, higher than any place: "then one `E`", "or after `E`"
abbrev pub ended : ℕ
ended = 4

-- no trees where the pass over the entries fails
abbrev pub or_none : MathOption (List Tree) → List Tree
or_none none = []
or_none (some ts) = ts

-- the trees that wait after these entries: "trees waiting"
unfoldable pub trees : List ℕ → List Tree
trees entries = or_none (waiting 0 entries [])

-- the first of two faults; 0 is none: "the first fault listed is the one given"
abbrev pub first_fault : ℕ → ℕ → ℕ
first_fault f g = cond (eqb f 0) g f

-- "2 a line of no such form" (for "or a last one without LF" see `read_lines`)
abbrev pub form_fault : Option Line → ℕ
form_fault None = 2
form_fault (Some (Group g)) = 0
form_fault (Some (Operator x)) = 0
form_fault (Some (Lift p n)) = 0
form_fault (Some (Mark g)) = 0
form_fault (Some End) = 0

-- request 5, where there may be no tasks: "a lift or a mark in it is out of its place"
abbrev pub place_fault : Bool → Option Line → ℕ
place_fault tasks (Some (Lift p n)) = cond tasks 0 3
place_fault tasks (Some (Mark g)) = cond tasks 0 3
place_fault tasks (Some (Group g)) = 0
place_fault tasks (Some (Operator x)) = 0
place_fault tasks (Some End) = 0
place_fault tasks None = 0

-- "3 a line of good form out of its place, or after `E`; 7 the first line after the tree lines (line 1 if there are none)
-- when they don't make one tree"; `many` trees wait
abbrev pub order_fault : ℕ → ℕ → ℕ → ℕ
order_fault phase many place = cond (ltb place phase) 3 (cond (eqb phase 0 && ltb 0 place && not (eqb many 1)) 7 0)

-- "5 a 1,024th node", with request 1 "the 256th": the tree has as many nodes as the rules allow
abbrev pub is_full : Rules → ReadingState → Bool
is_full rules st = leb rules.nodes (length st.entries)

-- "then by kind, in this order: 4 `U` or `D` with fewer than two trees waiting; 5 .. node; 6 a ninth different group; 8 a mark of a
-- group not in the tree; 9 a mark twice"; request 6: "4 covers `I`"
abbrev pub kind_fault : Rules → ReadingState → Option Line → ℕ
kind_fault rules st (Some (Operator x)) = cond (ltb (length (trees st.entries)) 2) 4 (cond (is_full rules st) 5 0)
kind_fault rules st (Some (Group g)) = cond (is_full rules st) 5 (cond (not (is_in st.groups g) && leb most_groups (length st.groups)) 6 0)
kind_fault rules st (Some (Mark g)) = cond (is_in st.groups g) (cond (is_in st.marks g) 9 0) 8
kind_fault rules st (Some (Lift p n)) = 0
kind_fault rules st (Some End) = 0
kind_fault rules st None = 0

-- the first fault of a line by these rules; 0 is none
unfoldable pub fault_of : Rules → ReadingState → Option Line → ℕ
fault_of rules st l =
    first_fault (form_fault l) (first_fault (place_fault rules.tasks l)
    (first_fault (order_fault st.phase (length (trees st.entries)) (place l)) (kind_fault rules st l)))

-- One entry more of the tree; `after` is the byte after its line. So `start` is "the byte after the tree lines, also when there are
-- no lifts".
abbrev pub entered : ReadingState → ℕ → List ℕ → ℕ → ReadingState
entered st x groups after =
    record { phase = st.phase; entries = st.entries ++ (x ∷ []); groups = groups; marks = st.marks; start = after; lifts = st.lifts }

-- the same in another phase, with these marks and lifts
abbrev pub with_phase : ReadingState → ℕ → List ℕ → List LiftLine → ReadingState
with_phase st phase marks lifts = record { phase = phase; entries = st.entries; groups = st.groups; marks = marks; start = st.start; lifts = lifts }

-- what a line without fault adds, behind what came before it: "the marks in sheet order"; `after` is the byte after it
abbrev pub state_after : ReadingState → Option Line → ℕ → ReadingState
state_after st (Some (Group g)) after = entered st g (with_new st.groups g) after
state_after st (Some (Operator x)) after = entered st x st.groups after
state_after st (Some (Lift p n)) after = with_phase st (place (Some (Lift p n))) st.marks (st.lifts ++ (record { position = p; levels = n } ∷ []))
state_after st (Some (Mark g)) after = with_phase st (place (Some (Mark g))) (st.marks ++ (g ∷ [])) st.lifts
state_after st (Some End) after = with_phase st ended st.marks st.lifts
state_after st None after = st

-- nothing read yet
abbrev pub nothing_read : ReadingState
nothing_read = record { phase = 0; entries = []; groups = []; marks = []; start = 0; lifts = [] }

-- what reading comes to: what has been read, or the first fault: "Reading refuses with a number and a line counted from 1"
pub data ReadingOutcome : Type 0 where
  accepted : ReadingState → ReadingOutcome
  refused : ℕ → ℕ → ReadingOutcome

-- "Then for each line in order": reading the lines that are left, the first of them at the byte `at`, with n lines passed. "Lines
-- end in LF (byte 10)": what stands behind the last LF is nothing ("10 when lines are used up without `E`, at the line after the
-- last"), or "a last one without LF" (2).
unfoldable pub read_lines : Rules → ReadingState → ℕ → ℕ → Parts → ReadingOutcome
read_lines rules st n at (last l) =
    cond (eqb (length l) 0) (cond (eqb st.phase ended) (accepted st) (refused 10 (n + 1))) (refused 2 (n + 1))
read_lines rules st n at (part l ls) =
    cond (eqb (fault_of rules st (line_of rules l)) 0) (read_lines rules (state_after st (line_of rules l) (at + length l + 1)) (n + 1) (at + length l + 1) ls)
    (refused (fault_of rules st (line_of rules l)) (n + 1))

-- reading a file by these rules: "1 (line 0) over 60,000 bytes", then its lines. "An empty sheet gets 10 at line 1": its one part is
-- empty.
unfoldable pub read_with : Rules → List ℕ → ReadingOutcome
read_with rules sheet = cond (ltb most_bytes (length sheet)) (refused 1 0) (read_lines rules nothing_read 0 0 (split line_feed sheet))

-- reading a sheet, by today's rules
abbrev pub reading : List ℕ → ReadingOutcome
reading sheet = read_with sheet_rules sheet

-- "Accepted, reading answers by value the tree, the marks in sheet order, the byte where the lifts begin .. and how many there are;
-- entries past the tree's and the marks' ends are 0."
unfoldable pub sheet_with : ReadingState → Sheet
sheet_with st =
    record {
      tree = over st.entries (replicate sheet_rules.nodes 0);
      nodes = length st.entries;
      marks = over st.marks (replicate most_groups 0);
      marked = length st.marks;
      start = st.start;
      lifts = length st.lifts;
    }

-- "Refused, everything but number and line is 0. It writes to no lent memory": `read` is lent the sheet to read only, and of a refused
-- one it answers number and line alone.
unfoldable pub sheet_of : ReadingOutcome → Result Sheet (ℕ × ℕ)
sheet_of (accepted st) = Ok (sheet_with st)
sheet_of (refused number line) = Err (number, line)
