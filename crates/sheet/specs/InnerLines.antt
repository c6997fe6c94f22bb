-- The line at a byte of a sheet, which `line_at` answers, and the lifts that stand line by line from a byte on, which are read so
-- again when they are carried out.
use Rattle.std.specs.Prelude.{◌≡◌, List, [], ◌∷◌, ℕ, ◌+◌, ◌≤◌, length, drop, Some, None}
use Rattle.text.specs.Parts.{Parts, last, part, split}
use Rattle.text.specs.Line.{line_feed}
use Rattle.sheet.specs.declared.Line.TheVariants.{Lift}
use Rattle.sheet.specs.declared.LineAt.{LineAt}
use Rattle.sheet.specs.Form.{line_of, most_position, most_levels}
use Rattle.sheet.specs.Rules.{Rules}
use Rattle.sheet.specs.Reading.{LiftLine}

-- the line at a byte of a sheet and the byte after it; a last line without LF has no form
abbrev pub first_line : Rules → ℕ → Parts → LineAt
first_line rules at (last l) = record { line = None; next = at + length l }
first_line rules at (part l ls) = record { line = line_of rules l; next = at + length l + 1 }

unfoldable pub line_at : Rules → List ℕ → ℕ → LineAt
line_at rules sheet at = first_line rules at (split line_feed (drop at sheet))

-- a lift's numbers are in their ranges
pub record LiftRange (m : LiftLine) : Type 0 where
  pub position_most : m.position ≤ most_position
  pub levels_least : 1 ≤ m.levels
  pub levels_most : m.levels ≤ most_levels

-- reading the line at the byte `from`, then the line after it, and so on gives these lifts, and then the byte `to` is reached
unfoldable pub LiftsTo : Rules → List ℕ → ℕ → List LiftLine → ℕ → Type 0
LiftsTo rules sheet from [] to = from ≡ to
LiftsTo rules sheet from (m ∷ ms) to =
    ((line_at rules sheet from).line ≡ Some (Lift m.position m.levels)) × LiftRange m × LiftsTo rules sheet (line_at rules sheet from).next ms to
