-- Lists of numbers: read two by two and four by four, as the loops do, and new arrays.
use mathlib.Core.Path.{◌≡◌, refl, sym, ap, ap₂, ◌∙◌}
use mathlib.Core.List.{List, [], ◌∷◌}
use Prim.Native.Nat.{ℕ, suc, ◌+◌, ◌≤◌, ◌<◌}
use native.Mathlib.Nat.{add_assoc}
use native.Mathlib.Numerals.{add-one}
use native.Mathlib.Omega.{arith}
use lib.ListN.{length, get_or, drop, replicate, length-replicate}
use lib.Seq.{drop-cons}
use Rattle.common.specs.Fours.{fours}

-- two numbers of a list, and what follows them
pub two_at : (l : List ℕ) (i k : ℕ) → i + 2 ≡ k → k ≤ length l → drop i l ≡ get_or l i 0 ∷ get_or l (i + 1) 0 ∷ drop k l
two_at l i k e h =
    drop-cons l i 0 (omega arith)
    ∙ ap (λ (t : List ℕ). get_or l i 0 ∷ t) (drop-cons l (suc i) 0 (omega arith) ∙ ap₂ (λ (m n : ℕ). get_or l m 0 ∷ drop n l) (sym (add-one i)) two)
  where
    two : suc (suc i) ≡ k
    two = omega arith

pub four_at : (l : List ℕ) (i k : ℕ) → i + 4 ≡ k → k ≤ length l
    → drop i l ≡ get_or l i 0 ∷ get_or l (i + 1) 0 ∷ get_or l (i + 2) 0 ∷ get_or l (i + 3) 0 ∷ drop k l
four_at l i k e h =
    two_at l i (i + 2) refl (omega arith)
    ∙ ap (λ (t : List ℕ). get_or l i 0 ∷ get_or l (i + 1) 0 ∷ t) (two_at l (i + 2) k (omega arith) h ∙ ap (λ (m : ℕ). get_or l (i + 2) 0 ∷ get_or l m 0 ∷ drop k l) (add_assoc i 2 1))

-- so `fours`, four numbers at a time, until fewer are left
pub fours_more : {A : Type 0} (f : ℕ → ℕ → ℕ → ℕ → A) (l : List ℕ) (i k : ℕ) → i + 4 ≡ k → k ≤ length l
    → fours f (drop i l) ≡ f (get_or l i 0) (get_or l (i + 1) 0) (get_or l (i + 2) 0) (get_or l (i + 3) 0) ∷ fours f (drop k l)
unfolding fours
fours_more f l i k e h = rw (four_at l i k e h)

pub fours_end : {A : Type 0} (f : ℕ → ℕ → ℕ → ℕ → A) (l : List ℕ) → length l < 4 → fours f l ≡ []
unfolding fours
fours_end f [] h = refl
fours_end f (a ∷ []) h = refl
fours_end f (a ∷ b ∷ []) h = refl
fours_end f (a ∷ b ∷ c ∷ []) h = refl
fours_end f (a ∷ b ∷ c ∷ d ∷ l) h = absurd (omega arith)

-- a new array of zeros has its length
pub zeros_length : (n : ℕ) → n ≤ length (replicate {A = ℕ} n 0)
zeros_length n = omega (arith, length-replicate {A = ℕ} n 0)
