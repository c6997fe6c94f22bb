-- How the reader's numbers and arrays stand for what has been read (`ReadingState`), and what each inner function of reading promises
-- of them.
use Rattle.std.specs.Prelude.{◌≡◌, true, [], ℕ, ◌≤◌, length, replicate, Option, Some, None, Result, Ok, Err}
use Rattle.std.proofs.Math.Option.{some}
use Rattle.tree.specs.Tree.{Operator as TreeOperator, sign, is_group, is_in, collect, most_groups}
use Rattle.tree.specs.InnerGroups.{Distinct, leaves_in}
use Rattle.tree.specs.Parse.{waiting}
use Rattle.tree.specs.Writing.{over}
use Rattle.tree.specs.InnerWriting.{Wrote}
use Rattle.sheet.specs.Rules.{Rules}
use Rattle.sheet.specs.Reading.{ReadingState, trees, fault_of, state_after, ReadingOutcome, accepted, refused}
use Rattle.sheet.specs.InnerLines.{LiftRange}
use Rattle.sheet.specs.declared.Line.{Line}
use Rattle.sheet.specs.declared.Line.TheVariants.{Group, Operator, Lift, Mark, End}
use Rattle.sheet.specs.declared.Fault.{Fault}
use Rattle.sheet.specs.declared.Refusal.{Refusal}
use Rattle.sheet.specs.declared.Reader.{Reader}
use Rattle.sheet.specs.Faults.{fault_number}
use Rattle.sheet.specs.InnerFaults.{fault_in, phase_number}

-- what a line's numbers may be
abbrev pub InRange : Option Line → Type 0
InRange None = Unit {0}
InRange (Some (Group g)) = is_group g ≡ true
InRange (Some (Operator x)) = (o : TreeOperator) × (x ≡ sign o)
InRange (Some (Lift p n)) = LiftRange (record { position = p; levels = n })
InRange (Some (Mark g)) = is_group g ≡ true
InRange (Some End) = Unit {0}

-- what each state that reading reaches has
pub record Sound (rules : Rules) (st : ReadingState) : Type 0 where
  pub forest : waiting 0 st.entries [] ≡ some (trees st.entries)
  pub nodes : length st.entries ≤ rules.nodes
  pub known : st.groups ≡ collect [] (leaves_in st.entries)
  pub different : length st.groups ≤ most_groups
  pub once : Distinct st.marks
  pub marked : (g : ℕ) → is_in st.marks g ≡ true → is_in st.groups g ≡ true
  pub one : (st.phase ≡ 0 → ⊥) → length (trees st.entries) ≡ 1

-- the reader's numbers and arrays are those of the state: the arrays hold its lists, and 0 past their ends
pub record Holds (rules : Rules) (st : ReadingState) {N : ℕ} (r : Reader N) : Type 0 where
  pub sound : Sound rules st
  pub room : N ≡ rules.nodes
  pub tasks : r.tasks ≡ rules.tasks
  pub phase : phase_number r.phase ≡ st.phase
  pub waits : r.waiting ≡ length (trees st.entries)
  pub within : r.waiting ≤ r.nodes
  pub entries : Wrote (replicate rules.nodes 0) 0 r.tree r.nodes st.entries
  pub known : Wrote (replicate most_groups 0) 0 r.groups r.different st.groups
  pub marked : Wrote (replicate most_groups 0) 0 r.marks r.marked st.marks
  pub start : r.start ≡ st.start
  pub lifts : r.lifts ≡ length st.lifts
  pub few : r.lifts ≤ r.line

-- they are those of some state, by some rules
abbrev pub Holding : {N : ℕ} → Reader N → Type 0
Holding r = (rules : Rules) × (st : ReadingState) × Holds rules st r

-- the reader after a line, of which it has read so many, and what reading the line answers: its fault, or the state that it leads to
pub record AfterLine (rules : Rules) (st : ReadingState) (l : Option Line) (after line : ℕ) (answer : Result (Unit {0}) Fault) {N : ℕ} (r : Reader N) : Type 0 where
  pub fault : fault_in answer ≡ fault_of rules st l
  pub counted : r.line ≡ line
  pub holds : fault_of rules st l ≡ 0 → Holds rules (state_after st l after) r

-- what reading a line promises: by whatever rules and from whatever state the reader holds, afterwards it is one after the line
abbrev pub Leads : Option Line → ℕ → ℕ → {N : ℕ} → Reader N → Result (Unit {0}) Fault → Reader N → Type 0
Leads l after line p answer r = (rules : Rules) (st : ReadingState) → InRange l → Holds rules st p → AfterLine rules st l after line answer r

-- the reader is that of an accepted file: the state's numbers, its entries and its marks, and 0 past their ends
pub record GivesState (rules : Rules) (st : ReadingState) {N : ℕ} (r : Reader N) : Type 0 where
  pub entries : r.tree ≡ over st.entries (replicate rules.nodes 0)
  pub nodes : r.nodes ≡ length st.entries
  pub marks : r.marks ≡ over st.marks (replicate most_groups 0)
  pub marked : r.marked ≡ length st.marks
  pub start : r.start ≡ st.start
  pub lifts : r.lifts ≡ length st.lifts

-- what reading the lines answers for an outcome: the reader at the end, or the fault with its number, and its line
abbrev pub Gives : Rules → ReadingOutcome → {N : ℕ} → Result (Reader N) Refusal → Type 0
Gives rules (accepted st) (Ok r) = GivesState rules st r
Gives rules (accepted st) (Err refusal) = ⊥
Gives rules (refused number line) (Ok r) = ⊥
Gives rules (refused number line) (Err refusal) = (fault_number refusal.fault ≡ number) × (refusal.line ≡ line)
