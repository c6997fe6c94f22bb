-- What the code knows of a formula, and what its functions say of each other. No contract of one of 01's calls cites this file.
use Rattle.std.specs.Prelude.{◌≡◌, Bool, true, false, ℕ, ◌-◌}
use Rattle.std.proofs.Math.Option.{Option, some}
use mathlib.Core.List.{List, [], ◌∷◌, ◌++◌}
use Rattle.tree.specs.Tree.{apply}
use Rattle.words.specs.Formula.{Formula, names_a, once, level_of_a, value}
use Rattle.words.specs.Word.{sign_of, part, word}
use Rattle.moves.specs.Moves.{State, Input, place_number}
use Rattle.moves.specs.LeftSides.{left_side}
use Rattle.left_sides.specs.declared.Known.{Known}

-- for both Booleans, in before out
abbrev pub each : (Bool → List Bool) → List Bool
each f = f true ++ f false

-- what a formula selects under each of the sixteen fillings
abbrev pub meaning : Formula → List Bool
meaning p = each (λ a. each (λ b. each (λ c. each (λ d. value apply a b c d p ∷ []))))

-- a level as the code holds it, 3 for a higher one too
abbrev pub capped : ℕ → ℕ
capped n = n - (n - 3)

-- what is known of a formula
abbrev pub known : Formula → Known
known p = record { names = names_a p; once = once p; level = capped (level_of_a p); meaning = meaning p }

-- there is a formula, and this is known of it
abbrev pub IsKnown : Option Formula → Known → Type 0
IsKnown f r = (p : Formula) × (f ≡ some p) × (r ≡ known p)

-- a sign names a part, and this is known of it
abbrev pub PartIs : ℕ → Known → Type 0
PartIs s r = (p : Formula) × (sign_of s ≡ part p) × (r ≡ known p)

-- the word is that of the left side at the place
abbrev pub SideIs : ℕ → List ℕ → Type 0
SideIs place w = (x : State) (i : Input) → place ≡ place_number x i → w ≡ word (left_side x i)
