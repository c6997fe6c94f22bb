-- A loaded table by value: what `load` answers, and which tables loading makes.
use Rattle.std.specs.Prelude.{Bool, true, cond, ◌&&◌, List, [], ◌∷◌, ◌++◌, map, ℕ, ◌-◌, eqb, length, take, drop, replicate, Result, Ok, Err}
use Rattle.std.proofs.Math.Option.{Option, some, none}
use Rattle.tree.specs.Tree.{is_up_to}
use Rattle.words.specs.Formula.{Formula}
use Rattle.words.specs.Word.{most_signs, word}
use Rattle.moves.specs.Moves.{MoveTable}
use Rattle.moves.specs.LeftSides.{entry_for}
use Rattle.move_table.specs.Loading.{Place, places, Loaded, loaded, refused, school_table}
use Rattle.move_table.specs.declared.LoadedTable.{LoadedTable}
use Rattle.move_table.specs.declared.Fault.{Fault}
use Rattle.move_table.specs.declared.Fault.TheVariants.{BadLine, BadWord}
use Rattle.move_table.specs.declared.Refusal.{Refusal}

-- a word in its row: zeros behind it
abbrev pub row : List ℕ → List ℕ
row w = w ++ replicate (most_signs - length w) 0

-- the rows one after another
unfoldable pub rows : List Formula → List ℕ
rows [] = []
rows (p ∷ ps) = row (word p) ++ rows ps

-- the words' lengths
abbrev pub lengths : List Formula → List ℕ
lengths ps = map (λ p. length (word p)) ps

abbrev pub packed : List Formula → LoadedTable
packed ps = record { signs = rows ps; lengths = lengths ps }

-- no table
abbrev pub empty : LoadedTable
empty = record { signs = replicate 1116 0; lengths = replicate 36 0 }

-- 28 "is no such line"; 29 "makes no tree, or fails otherwise"
abbrev pub fault_number : Fault → ℕ
fault_number BadLine = 28
fault_number BadWord = 29

-- what `load` answers, by the faults' numbers: the table, or the fault's number and line
abbrev pub load_says : Result LoadedTable Refusal → Result LoadedTable (ℕ × ℕ)
load_says (Ok table) = Ok table
load_says (Err refusal) = Err (fault_number refusal.fault, refusal.line)

-- and for what loading comes to
abbrev pub loading_says : Loaded → Result LoadedTable (ℕ × ℕ)
loading_says (loaded ps) = Ok (packed ps)
loading_says (refused number line) = Err (number, line)

-- ---- a table by value that anyone hands over
-- nothing but zeros
unfoldable pub all_zero : List ℕ → Bool
all_zero [] = true
all_zero (x ∷ xs) = eqb x 0 && all_zero xs

-- the entry of a row and a length; none for one that loading could not have made
abbrev pub entry_of_row : Place → List ℕ → ℕ → Option Formula
entry_of_row at signs n = cond (is_up_to most_signs n && all_zero (drop n signs)) (entry_for at.state at.input (take n signs)) none

-- the first of two, before the others
abbrev pub before : Option Formula → Option (List Formula) → Option (List Formula)
before none rest = none
before (some p) none = none
before (some p) (some ps) = some (p ∷ ps)

-- the entries of all rows
unfoldable pub entries_of : List Place → List ℕ → List ℕ → Option (List Formula)
entries_of [] signs ns = some []
entries_of (at ∷ later) signs [] = none
entries_of (at ∷ later) signs (n ∷ ns) = before (entry_of_row at (take most_signs signs) n) (entries_of later (drop most_signs signs) ns)

-- the entries of a table that loading made; none for any other
abbrev pub unpacked : LoadedTable → Option (List Formula)
unpacked t = entries_of places t.signs t.lengths

-- and the move table that it is
abbrev pub table_of : Option (List Formula) → Option MoveTable
table_of none = none
table_of (some ps) = some (school_table ps)
