-- The fields of entries, as they are written.
use Rattle.std.specs.Prelude.{List, [], ◌∷◌, ◌++◌, ℕ}
use Rattle.tree.specs.Pass.{entry_of}
use Rattle.text.specs.Line.{tab}
use Rattle.question_lines.specs.Lines.{printed_as}

-- each entry after a tab
unfoldable pub entries_after : List ℕ → List ℕ
entries_after [] = []
entries_after (x ∷ xs) = (tab ∷ printed_as (entry_of x)) ++ entries_after xs
