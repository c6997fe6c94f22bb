-- Two rows of a table, compared, and two tables from a row on.
use mathlib.Core.Path.{◌≡◌, refl, ap}
use mathlib.Core.Bool.{Bool, true, false, not, beq, true≢false, false≢true}
use mathlib.Core.List.{List, ◌∷◌}
use Prim.Native.Nat.{ℕ, ◌+◌, ◌≤◌, ◌<◌}
use native.Mathlib.Numerals.{add-one}
use lib.ListN.{length, get_or, drop, drop_of_length-le}
use lib.Seq.{drop-cons}

-- the test for two different values
pub value_differs : (x y : Bool) → not (beq x y) ≡ true → x ≡ y → ⊥
value_differs true true e q = false≢true e
value_differs true false e q = true≢false q
value_differs false true e q = false≢true q
value_differs false false e q = false≢true e

pub value_same : (x y : Bool) → not (beq x y) ≡ false → x ≡ y
value_same true true e = refl
value_same true false e = absurd (true≢false e)
value_same false true e = absurd (true≢false e)
value_same false false e = refl

module _ (a b : List Bool) (row : ℕ) where
  pub rows_on : row < length a → row < length b → get_or a row false ≡ get_or b row false → drop (row + 1) a ≡ drop (row + 1) b → drop row a ≡ drop row b
  rows_on h k e later = rw (drop-cons a row false h, drop-cons b row false k, e) (ap (λ (rows : List Bool). get_or b row false ∷ rows) (rw add-one at later))

  pub rows_end : length a ≤ row → length b ≤ row → drop row a ≡ drop row b
  rows_end h k = rw (drop_of_length-le a h, drop_of_length-le b k)
