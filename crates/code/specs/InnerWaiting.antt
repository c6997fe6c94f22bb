-- What contracts of the coders cite.
use Rattle.std.specs.Prelude.{Bool, true, false, List, [], ◌∷◌, ℕ, ◌+◌}

-- how many wait
unfoldable pub waiting : List Bool → ℕ
waiting [] = 0
waiting (true ∷ w) = waiting w + 1
waiting (false ∷ w) = waiting w
