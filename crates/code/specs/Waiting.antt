-- Where operands wait: of each register from 0 on, whether one does; past the end of the list none does.
use Rattle.std.specs.Prelude.{Bool, true, false, List, [], ◌∷◌, ℕ, zero, suc, ◌+◌}

-- "the lowest register where no operand waits"
unfoldable pub lowest : List Bool → ℕ
lowest [] = 0
lowest (false ∷ w) = 0
lowest (true ∷ w) = lowest w + 1

-- once an operand waits in this register too
unfoldable pub also_in : List Bool → ℕ → List Bool
also_in [] zero = true ∷ []
also_in [] (suc r) = false ∷ also_in [] r
also_in (x ∷ w) zero = true ∷ w
also_in (x ∷ w) (suc r) = x ∷ also_in w r
