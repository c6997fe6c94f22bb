-- Request 5: the line that the marking program prints.
use Rattle.std.specs.Prelude.{List, [], ◌∷◌, ℕ, length, replicate}
use Rattle.tree.specs.Writing.{over}
use Rattle.text.specs.Line.{line}
use Rattle.printing.specs.Key.{NO}
use Rattle.marking.specs.Marking.{MarkAnswer, mark, no}
use Rattle.marking.specs.declared.MarkLine.{MarkLine}

abbrev pub MARK : List ℕ
MARK = 77 ∷ 65 ∷ 82 ∷ 75 ∷ []

-- "prints `MARK` and 0 .., 1 .. or 2 .."; "A refusal prints `NO`, number, line, and 0 .. or 1"
abbrev pub answer_text : MarkAnswer → List ℕ
answer_text (mark n) = line MARK (n ∷ [])
answer_text (no number at file) = line NO (number ∷ at ∷ file ∷ [])

-- as many bytes as every such line fits in: NO, three tabs, LF, a number of at most 3 digits, one of at most 20 and one of 1
abbrev pub line_bytes : ℕ
line_bytes = 30

-- these bytes in an array of so many, with zeros behind them, and their count
abbrev pub in_line : List ℕ → MarkLine
in_line bytes = record { bytes = over bytes (replicate line_bytes 0); count = length bytes }

-- what `mark_line` answers
unfoldable pub mark_line_of : MarkAnswer → MarkLine
mark_line_of answer = in_line (answer_text answer)
