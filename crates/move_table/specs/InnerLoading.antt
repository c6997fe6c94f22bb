-- What functions within answer of a line of a table and of a row. No contract of one of 01's calls cites this file.
use Rattle.std.specs.Prelude.{Bool, true, false, cond, List, ℕ, length, get_or, Option as Found, Some, None}
use Rattle.std.proofs.Math.Option.{Option, some, none}
use Rattle.words.specs.Formula.{Formula}
use Rattle.moves.specs.Moves.{state1, input_a}
use Rattle.move_table.specs.Loading.{Place, places, word_in, begins}

-- the place with a number; the first for a number that none has
unfoldable pub place_at : ℕ → Place
place_at n = get_or places n (record { state = state1; input = input_a })

-- how many signs the word of the line with which some bytes begin has; none where that is no line of good form for its place
abbrev pub line_signs : Place → List ℕ → Found ℕ
line_signs at bytes = cond (begins at bytes) (Some (length (word_in bytes))) None

-- there is one
abbrev pub is_table : Option (List Formula) → Bool
is_table (some ps) = true
is_table none = false
