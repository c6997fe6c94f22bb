-- What the functions inside the crate say of each other. No caller has to believe any of this.
use Rattle.std.specs.Prelude.{◌≡◌, Result, Ok, Err, not, cond, ◌&&◌, List, [], ◌∷◌, ℕ, ◌+◌, ◌≤◌, ltb, length}
use Rattle.tree.specs.Tree.{union, sign, Tree, postfix, most_groups, Over, is_in}
use Rattle.text.specs.Parts.{split}
use Rattle.text.specs.Line.{line_feed}
use Rattle.sheet.specs.Rules.{candidate_rules}
use Rattle.sheet.specs.Reading.{ReadingState, accepted, read_with, reading, sheet_with, sheet_of}
use Rattle.sheet.specs.InnerDrawing.{drawing_with, drawing_of}
use Rattle.sheet.specs.declared.Sheet.{Sheet}
use Rattle.sheet.specs.declared.Drawing.{Drawing}
use Rattle.marking.specs.Marking.{Marking, foreign_line, MarksTree, MarksRead}
use Rattle.marking.specs.declared.File.TheVariants.{Question, Candidate}
use Rattle.marking.specs.declared.Refusal.{Refusal}

-- the line of the first entry, of entries after n others, that is a group not among these; 0 where there is none
unfoldable pub foreign_entry : List ℕ → ℕ → List ℕ → ℕ
foreign_entry groups n [] = 0
foreign_entry groups n (x ∷ xs) = cond (ltb x (sign union) && not (is_in groups x)) (n + 1) (foreign_entry groups (n + 1) xs)

-- r is the mark of the trees that the two lists are, where both are over the groups
pub record Judged (list groups marks drawing : List ℕ) (r : Marking) : Type 0 where
  pub judged : (t u : Tree) → list ≡ postfix t → drawing ≡ postfix u → length groups ≤ most_groups → Over (is_in groups) t → Over (is_in groups) u
      → MarksTree t marks u r

-- reading the question's sheet: its answer, or its refusal in the question's file
abbrev pub QuestionRead : List ℕ → Result Sheet Refusal → Type 0
QuestionRead question (Ok sheet) = Ok sheet ≡ sheet_of (reading question)
QuestionRead question (Err refusal) = (Err (refusal.number, refusal.line) ≡ sheet_of (reading question)) × (refusal.file ≡ Question)

-- reading the candidate's drawing
abbrev pub CandidateRead : List ℕ → Result Drawing Refusal → Type 0
CandidateRead candidate (Ok drawing) = Ok drawing ≡ drawing_of (read_with candidate_rules candidate)
CandidateRead candidate (Err refusal) = (Err (refusal.number, refusal.line) ≡ drawing_of (read_with candidate_rules candidate)) × (refusal.file ≡ Candidate)

-- both files are accepted, and these are reading's answers
pub record BothRead (question candidate : List ℕ) (q c : ReadingState) (sheet : Sheet) (drawing : Drawing) : Type 0 where
  pub question_is : reading question ≡ accepted q
  pub candidate_is : read_with candidate_rules candidate ≡ accepted c
  pub sheet_is : sheet ≡ sheet_with q
  pub drawing_is : drawing ≡ drawing_with c

-- they are those of some files
abbrev pub SomeRead : Sheet → Drawing → Type 0
SomeRead sheet drawing = (question : List ℕ) × (candidate : List ℕ) × (q : ReadingState) × (c : ReadingState) × BothRead question candidate q c sheet drawing

-- r is what marking comes to, whichever accepted files these are reading's answers of
abbrev pub MarksAnswers : Sheet → Drawing → Marking → Type 0
MarksAnswers sheet drawing r =
    (question candidate : List ℕ) (q c : ReadingState) → BothRead question candidate q c sheet drawing
    → MarksRead q c (foreign_line q.groups 0 (split line_feed candidate)) r
