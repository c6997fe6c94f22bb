-- Numbers four by four, as instructions are written.
use Rattle.std.specs.Prelude.{List, [], ◌∷◌, ℕ}

-- what f makes of each four, in order; a rest of fewer than four counts for nothing
module _ {A : Type 0} (f : ℕ → ℕ → ℕ → ℕ → A) where
  unfoldable pub fours : List ℕ → List A
  fours [] = []
  fours (a ∷ []) = []
  fours (a ∷ b ∷ []) = []
  fours (a ∷ b ∷ c ∷ []) = []
  fours (a ∷ b ∷ c ∷ d ∷ rest) = f a b c d ∷ fours rest
