-- The first number that fails a test.
use Rattle.std.specs.Prelude.{Bool, cond, ℕ, zero, suc, eqb}

-- the first of k numbers from i on that fails the test; i + k if none does
unfoldable pub first_failing : (ℕ → Bool) → ℕ → ℕ → ℕ
first_failing f zero i = i
first_failing f (suc k) i = let r = first_failing f k (suc i) in cond (f i) r i

-- whether all of the first k numbers pass it
abbrev pub all_pass : (ℕ → Bool) → ℕ → Bool
all_pass f k = eqb (first_failing f k 0) k
