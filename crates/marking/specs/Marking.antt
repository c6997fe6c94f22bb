-- Request 5: the mark of a candidate's drawing, and the refusals before it.
use Rattle.std.specs.Prelude.{◌≡◌, Bool, false, not, cond, List, [], ◌∷◌, ℕ, zero, suc, ◌+◌, Option, Some, None, Result, Ok, Err}
use Rattle.std.proofs.Math.Option.{some}
use Rattle.common.specs.Exactly.{Exactly}
use Rattle.tree.specs.Tree.{Tree, Equivalent, is_in}
use Rattle.tree.specs.Parse.{tree_of}
use Rattle.text.specs.Parts.{Parts, last, part, split}
use Rattle.text.specs.Line.{line_feed}
use Rattle.sheet.specs.Rules.{candidate_rules}
use Rattle.sheet.specs.Form.{line_of}
use Rattle.sheet.specs.Reading.{ReadingState, ReadingOutcome, accepted, refused, read_with, reading}
use Rattle.sheet.specs.declared.Line.{Line}
use Rattle.sheet.specs.declared.Line.TheVariants.{Group, Operator, Lift, Mark, End}
use Rattle.gather.specs.Gathering.{Gathered}
use Rattle.marking.specs.declared.Verdict.{Verdict}
use Rattle.marking.specs.declared.Verdict.TheVariants.{Right, OtherLamps, NotGathered}
use Rattle.marking.specs.declared.File.{File}
use Rattle.marking.specs.declared.File.TheVariants.{Question, Candidate}
use Rattle.marking.specs.declared.Refusal.{Refusal}

-- ---- 02's number and values for each answer
-- "`MARK` and 0 .., 1 .. or 2 .."; "A refusal prints `NO`, number, line, and 0 for the question's file or 1 for the candidate's."
pub data MarkAnswer : Type 0 where
  mark : ℕ → MarkAnswer
  no : (number line file : ℕ) → MarkAnswer

-- what the call answers
abbrev pub Marking : Type 0
Marking = Result Verdict Refusal

-- "0 for right, 1 for not the same lamps or 2 for not gathered"
abbrev pub mark_number : Verdict → ℕ
mark_number Right = 0
mark_number OtherLamps = 1
mark_number NotGathered = 2

-- "0 for the question's file or 1 for the candidate's"
abbrev pub file_number : File → ℕ
file_number Question = 0
file_number Candidate = 1

abbrev pub marking_says : Marking → MarkAnswer
marking_says (Ok verdict) = mark (mark_number verdict)
marking_says (Err refusal) = no refusal.number refusal.line (file_number refusal.file)

-- ---- "A group that isn't in its tree is refused with 26, at its first line in the candidate's file"
-- a line with a group that is not among the question's
abbrev pub is_foreign : List ℕ → Option Line → Bool
is_foreign groups (Some (Group g)) = not (is_in groups g)
is_foreign groups (Some (Operator x)) = false
is_foreign groups (Some (Lift p n)) = false
is_foreign groups (Some (Mark g)) = false
is_foreign groups (Some End) = false
is_foreign groups None = false

-- the first such line's number, of lines after n others; 0 where there is none
unfoldable pub foreign_line : List ℕ → ℕ → Parts → ℕ
foreign_line groups n (last l) = 0
foreign_line groups n (part l ls) = cond (is_foreign groups (line_of candidate_rules l)) (n + 1) (foreign_line groups (n + 1) ls)

-- ---- the mark
-- gathered for the question's marks; "A question without marks is judged on its lamps only."
unfoldable pub GatheredFor : List ℕ → Tree → Type 0
GatheredFor [] u = Unit {0}
GatheredFor (m ∷ marks) u = (p : ℕ) × Gathered (is_in (m ∷ marks)) u p

-- of the question's tree as written and the candidate's: "0 for right, 1 for not the same lamps or 2 for not gathered, the first fault
-- in that order. It says right exactly when the candidate's tree is equivalent and gathered."
pub record MarksTree (t : Tree) (marks : List ℕ) (u : Tree) (r : Marking) : Type 0 where
  pub right : Exactly (marking_says r ≡ mark 0) (Equivalent t u × GatheredFor marks u)
  pub other_lamps : Exactly (marking_says r ≡ mark 1) (Equivalent t u → ⊥)
  pub not_gathered : Exactly (marking_says r ≡ mark 2) (Equivalent t u × (GatheredFor marks u → ⊥))

-- ---- the whole
-- of a question and a drawing that are accepted: 26 "after both are read and before marking"; `foreign` is the first line's number
abbrev pub MarksRead : ReadingState → ReadingState → (foreign : ℕ) → Marking → Type 0
MarksRead question drawing (suc n) r = marking_says r ≡ no 26 (suc n) 1
MarksRead question drawing zero r =
    (t : Tree) × (tree_of question.entries ≡ some t) × (u : Tree) × (tree_of drawing.entries ≡ some u) × MarksTree t question.marks u r

-- by what reading the two files comes to: "The question is read first."
abbrev pub MarksBy : ReadingOutcome → ReadingOutcome → (foreign : List ℕ → ℕ) → Marking → Type 0
MarksBy (refused number line) o foreign r = marking_says r ≡ no number line 0
MarksBy (accepted question) (refused number line) foreign r = marking_says r ≡ no number line 1
MarksBy (accepted question) (accepted drawing) foreign r = MarksRead question drawing (foreign question.groups) r

-- what `mark` promises for any bytes of the two files
pub record Marks (question candidate : List ℕ) (r : Marking) : Type 0 where
  pub by : MarksBy (reading question) (read_with candidate_rules candidate) (λ groups. foreign_line groups 0 (split line_feed candidate)) r
