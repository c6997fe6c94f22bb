-- Request 10: the line that the questions' program prints for an index.
use Rattle.std.specs.Prelude.{List, [], ◌∷◌, ◌++◌, ℕ, length, replicate}
use Rattle.std.proofs.Math.Option.{Option, some, none}
use Rattle.tree.specs.Pass.{Entry, group, operator, neither, entry_of}
use Rattle.tree.specs.Writing.{over}
use Rattle.text.specs.Decimal.{digits}
use Rattle.text.specs.Parts.{Parts, last, part, join}
use Rattle.text.specs.Line.{tab, line_feed, line}
use Rattle.sheet.specs.Form.{letter_for}
use Rattle.printing.specs.Key.{NO}
use Rattle.questions.specs.Answer.{tree_at}
use Rattle.question_lines.specs.declared.QuestionLine.{QuestionLine}

-- an entry as it is printed: a group's number, or an operator's letter in a sheet
abbrev pub printed_as : Entry → List ℕ
printed_as (group g h) = digits g
printed_as (operator o) = letter_for o ∷ []
printed_as neither = []

-- a first field, and a field for each entry
unfoldable pub fields_of : List ℕ → List ℕ → Parts
fields_of first [] = last first
fields_of first (x ∷ xs) = part first (fields_of (printed_as (entry_of x)) xs)

-- the index and the tree's entries; or `NO` and 30, "An index past the last .. is refused with 30"
unfoldable pub line_text : (index : ℕ) → Option (List ℕ) → List ℕ
line_text index none = line NO (30 ∷ [])
line_text index (some l) = join tab (fields_of (digits index) l) ++ (line_feed ∷ [])

-- as many bytes as every such line fits in: an index of at most 4 digits, seven entries with a tab before each, LF
abbrev pub line_bytes : ℕ
line_bytes = 19

-- these bytes in an array of so many, with zeros behind them, and their count
abbrev pub in_line : List ℕ → QuestionLine
in_line bytes = record { bytes = over bytes (replicate line_bytes 0); count = length bytes }

-- what `line_at` answers
abbrev pub line_at : ℕ → QuestionLine
line_at index = in_line (line_text index (tree_at index))
