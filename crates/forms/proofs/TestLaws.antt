-- Tests over all values of some Booleans: one that is computed, and what it says of each value.
use mathlib.Core.Path.{◌≡◌, refl}
use mathlib.Core.Bool.{Bool, true, false, not, beq, ◌&&◌, ◌||◌, false≢true}
use Prim.Native.Nat.{ℕ, zero, suc}

-- ---- a test of n Booleans, over all their values
abbrev pub Test : ℕ → Type 0
Test zero = Bool
Test (suc n) = Bool → Test n

abbrev pub every : (n : ℕ) → Test n → Bool
every zero f = f
every (suc n) f = every n (f true) && every n (f false)

abbrev pub Passes : (n : ℕ) → Test n → Type 0
Passes zero f = f ≡ true
Passes (suc n) f = (b : Bool) → Passes n (f b)

pub both : (x y : Bool) → (x && y) ≡ true → (x ≡ true) × (y ≡ true)
both true y e = (refl, e)
both false y e = absurd (false≢true e)

pub every_passes : (n : ℕ) (f : Test n) → every n f ≡ true → Passes n f
every_passes zero f e = e
every_passes (suc n) f e = λ b. go b (every_passes n (f true)) (every_passes n (f false))
  where
    go : (b : Bool) → (every n (f true) ≡ true → Passes n (f true)) → (every n (f false) ≡ true → Passes n (f false)) → Passes n (f b)
    go true h k = h (both (every n (f true)) (every n (f false)) e).0
    go false h k = k (both (every n (f true)) (every n (f false)) e).1

abbrev pub implies : Bool → Bool → Bool
implies a b = not a || b

pub implied : (a b : Bool) → implies a b ≡ true → a ≡ true → b ≡ true
implied true b e h = e
implied false b e h = absurd (false≢true h)

pub beq_true : (a b : Bool) → beq a b ≡ true → a ≡ b
beq_true true true e = refl
beq_true true false e = absurd (false≢true e)
beq_true false true e = absurd (false≢true e)
beq_true false false e = refl
