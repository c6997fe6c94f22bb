-- What the test of a school's word answers. No contract of one of 01's calls cites this file.
use Rattle.std.specs.Prelude.{◌≡◌, Bool, true, false, List, ℕ}
use Rattle.std.proofs.Math.Option.{Option, some, none}
use Rattle.words.specs.Formula.{Formula}
use Rattle.moves.specs.Moves.{State, Input, place_number}
use Rattle.moves.specs.LeftSides.{entry_for}

-- there is one
abbrev pub is_formula : Option Formula → Bool
is_formula (some p) = true
is_formula none = false

-- whether a word may stand at a place of the table
abbrev pub StandsIs : List ℕ → ℕ → Bool → Type 0
StandsIs w place r = (x : State) (i : Input) → place ≡ place_number x i → r ≡ is_formula (entry_for x i w)
