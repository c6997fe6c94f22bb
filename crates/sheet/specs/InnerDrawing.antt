-- What reading a candidate's file answers, by what it comes to: `read_drawing` says so.
use Rattle.std.specs.Prelude.{ℕ, length, replicate, Result, Ok, Err}
use Rattle.tree.specs.Tree.{most_nodes}
use Rattle.tree.specs.Writing.{over}
use Rattle.sheet.specs.Reading.{ReadingState, ReadingOutcome, accepted, refused}
use Rattle.sheet.specs.declared.Drawing.{Drawing}

-- the tree's entries where it is accepted, and 0 past their end
unfoldable pub drawing_with : ReadingState → Drawing
drawing_with st = record { tree = over st.entries (replicate most_nodes 0); nodes = length st.entries }

-- number and line where it is refused
unfoldable pub drawing_of : ReadingOutcome → Result Drawing (ℕ × ℕ)
drawing_of (accepted st) = Ok (drawing_with st)
drawing_of (refused number line) = Err (number, line)
