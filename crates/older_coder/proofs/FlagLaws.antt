-- Laws of the number that says where no operand waits.
use mathlib.Core.Path.{◌≡◌, refl, ap, ap₂, ◌∙◌}
use mathlib.Core.Bool.{Bool, false}
use mathlib.Core.List.{List, ◌∷◌}
use Prim.Native.Nat.{ℕ, zero, suc, ◌-◌, ◌*◌, ◌/◌, ◌%◌, ◌^◌, ◌≤◌, ◌<◌}
use native.Mathlib.Omega.{arith}
use native.Mathlib.Nat.{pow-suc, one-mul, mod-eq_of_lt}
use lib.Pow.{pow-lt}
use borrow.Author.Tests.{eq-eqb, eqb-false}
use lib.Count.{count_trailing_zeros, under}
use lib.Dec.{eqb}
use lib.ListN.{get_or, replicate}
use Rattle.player.specs.Limits.{register_count}
use Rattle.code.specs.Waiting.{lowest, also_in}
use Rattle.older_coder.specs.InnerWriter.{flags, waiting_in}

abbrev pub all_free : ℕ
all_free = 8191

pub all_free_lem : waiting_in all_free ≡ replicate register_count false
unfolding flags
all_free_lem = refl

-- the lowest register where no operand waits is that of the lowest digit that is set
pub lowest_flags : (n width free : ℕ) → n ≤ width → lowest (flags n free) < n → count_trailing_zeros width free ≡ lowest (flags n free)
unfolding flags lowest count_trailing_zeros
lowest_flags zero width free h k = absurd (omega arith)
lowest_flags (suc n) zero free h k = absurd (omega arith)
lowest_flags (suc n) (suc width) free h k = go (free % 2) (omega arith) k (λ j. lowest_flags n width (free / 2) (omega arith) j)
  where
    go : (r : ℕ) → r < 2 → lowest (eqb r 0 ∷ flags n (free / 2)) < suc n → (lowest (flags n (free / 2)) < n → count_trailing_zeros width (free / 2) ≡ lowest (flags n (free / 2)))
        → under r (count_trailing_zeros width (free / 2)) ≡ lowest (eqb r 0 ∷ flags n (free / 2))
    go zero h k ih = omega (arith, ih (omega arith))
    go (suc zero) h k ih = refl
    go (suc (suc r)) h k ih = absurd (omega arith)

-- a digit cleared
pub also_flags : (n free r : ℕ) → r < n → get_or (flags n free) r false ≡ false → (2 ^ r ≤ free) × (flags n (free - 2 ^ r) ≡ also_in (flags n free) r)
unfolding flags also_in
also_flags zero free r h e = absurd (omega arith)
also_flags (suc n) free zero h e =
    let odd = eqb-false (free % 2) 0 e in
    let half : (free - 1) / 2 ≡ free / 2 = omega (arith, odd) in
    (omega (arith, odd), ap₂ (λ (b : Bool) (m : ℕ). b ∷ flags n m) (eq-eqb ((free - 1) % 2) 0 (omega (arith, odd))) half)
also_flags (suc n) free (suc r) h e =
    let ih = also_flags n (free / 2) r (omega arith) e in
    let p = pow-suc 2 r in
    let same : (free - 2 ^ suc r) % 2 ≡ free % 2 = omega (arith, p, ih.0) in
    let half : (free - 2 ^ suc r) / 2 ≡ free / 2 - 2 ^ r = omega (arith, p, ih.0) in
    (omega (arith, p, ih.0), ap₂ (λ (b : Bool) (l : List Bool). b ∷ l) (ap (λ (m : ℕ). eqb m 0) same) (ap (flags n) half ∙ ih.1))

-- what the code takes off for register r
pub one_bit : (r : ℕ) → r < register_count → (1 * 2 ^ r) % 2 ^ 32 ≡ 2 ^ r
one_bit r h = simp one-mul (mod-eq_of_lt (pow-lt (let z : r < 32 = omega arith in z)))
