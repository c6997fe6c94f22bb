-- What contracts of the functions that print cite: a line's bytes, and the lines of a code's numbers.
use Rattle.std.specs.Prelude.{List, ℕ, get_or}
use Rattle.common.specs.Fours.{fours}
use Rattle.text.specs.Line.{Row, line}
use Rattle.player.specs.Instructions as newer
use Rattle.older_player.specs.Instructions as older
use Rattle.printing.specs.Key.{instruction_row, older_row}
use Rattle.printing.specs.declared.Device.{Device}
use Rattle.printing.specs.declared.Device.TheVariants.{Newer, Older}

-- a line's bytes
abbrev pub row_text : Row → List ℕ
row_text r = line r.word r.numbers

-- the line of the instruction of a device that four numbers stand for
abbrev pub row_of : Device → ℕ → ℕ → ℕ → ℕ → Row
row_of Newer kind a b c = instruction_row (newer.instruction kind a b c)
row_of Older kind a b c = older_row (older.instruction kind a b c)

abbrev pub four_row : Device → List ℕ → Row
four_row d four = row_of d (get_or four 0 0) (get_or four 1 0) (get_or four 2 0) (get_or four 3 0)

-- the lines of a code, whose numbers go four by four
abbrev pub code_rows : Device → List ℕ → List Row
code_rows d code = fours (row_of d) code
