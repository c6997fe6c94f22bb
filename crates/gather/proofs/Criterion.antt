-- The statements that proofs/Theorem.antt proves: what decides whether a tree can be gathered, and that trees with an `I` change no
-- verdict. Only laws cite them; the contracts speak of gathered trees alone.
-- Its columns decide. With each unmarked group fixed as in or out, what the tree selects depends on the marked groups only: that
-- is a column. The tree can be gathered exactly when all its columns that are not constant are the same. A holder that selects by
-- that column, or by its complement, then serves.
use mathlib.Core.Path.{◌≡◌}
use mathlib.Core.Bool.{Bool, true, false, cond}
use Prim.Native.Nat.{ℕ}
use Rattle.tree.specs.Tree.{Tree, selects, WithoutIntersection, Equivalent}
use Rattle.gather.specs.Gathering.{Gathered, CannotBeGathered}

-- the filling that is p at the groups that m marks and r at the others
abbrev pub mixed : (ℕ → Bool) → (ℕ → Bool) → (ℕ → Bool) → ℕ → Bool
mixed m p r g = cond (m g) (p g) (r g)

-- f(p, r): what the tree selects there. The column of r is this as a function of p.
abbrev pub column : (ℕ → Bool) → Tree → (ℕ → Bool) → (ℕ → Bool) → Bool
column m t r p = selects (mixed m p r) t

-- two columns are different, and neither is constant
pub record TwoColumns (m : ℕ → Bool) (t : Tree) : Type 0 where
  pub r : ℕ → Bool
  pub s : ℕ → Bool
  pub different : (q : ℕ → Bool) × (column m t r q ≡ column m t s q → ⊥)
  pub first : (p : ℕ → Bool) × (q : ℕ → Bool) × (column m t r p ≡ column m t r q → ⊥)
  pub second : (p : ℕ → Bool) × (q : ℕ → Bool) × (column m t s p ≡ column m t s q → ⊥)

-- the same by five fillings, p, q and w of the marked groups, r and s of the others:
-- f(q, r) and f(w, s) are true, f(p, r) and f(q, s) are false
pub record FiveFillings (m : ℕ → Bool) (t : Tree) : Type 0 where
  pub p : ℕ → Bool
  pub q : ℕ → Bool
  pub w : ℕ → Bool
  pub r : ℕ → Bool
  pub s : ℕ → Bool
  pub qr : column m t r q ≡ true
  pub ws : column m t s w ≡ true
  pub pr : column m t r p ≡ false
  pub qs : column m t s q ≡ false

-- THE THEOREM's statement, for any tree t and any marks m: no tree at all that is equivalent to t is gathered exactly when
-- two columns of t are different and neither is constant, and exactly when there are five such fillings.
pub record Criterion (m : ℕ → Bool) (t : Tree) : Type 0 where
  pub cannot_columns : CannotBeGathered m t → TwoColumns m t
  pub columns_cannot : TwoColumns m t → CannotBeGathered m t
  pub cannot_fillings : CannotBeGathered m t → FiveFillings m t
  pub fillings_cannot : FiveFillings m t → CannotBeGathered m t

-- "no gathered equivalent tree exists", judged against trees without `I` alone, those of 01
pub record CannotBeGatheredWithoutIntersection (m : ℕ → Bool) (t : Tree) : Type 0 where
  pub never : (u : Tree) (p : ℕ) → WithoutIntersection u → Equivalent t u → Gathered m u p → ⊥
