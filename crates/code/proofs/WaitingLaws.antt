-- Laws of the registers where operands wait.
use mathlib.Core.Path.{◌≡◌, refl, sym, ap, ◌∙◌}
use mathlib.Core.Bool.{Bool, true, false, ◌||◌, false≢true}
use mathlib.Core.List.{List, [], ◌∷◌}
use Prim.Native.Nat.{ℕ, zero, suc, ◌+◌, ◌≤◌}
use native.Mathlib.Omega.{arith}
use borrow.Author.Tests.{eq-eqb, eqb-false}
use native.Mathlib.Numerals.{add-one}
use lib.Dec.{eqb, eqb-suc-zero, eqb-zero-suc, eqb-suc-suc}
use lib.ListN.{get_or, replicate}
use Rattle.code.specs.Waiting.{lowest, also_in}
use Rattle.code.specs.InnerWaiting.{waiting}

-- whether an operand waits in a register
abbrev pub waits : List Bool → ℕ → Bool
waits w q = get_or w q false

-- so many registers are enough
pub lowest_most : (w : List Bool) → lowest w ≤ waiting w
unfolding lowest waiting
lowest_most [] = omega arith
lowest_most (false ∷ w) = omega arith
lowest_most (true ∷ w) = omega (arith, lowest_most w)

pub lowest_free : (w : List Bool) → waits w (lowest w) ≡ false
unfolding lowest
lowest_free [] = refl
lowest_free (false ∷ w) = refl
lowest_free (true ∷ w) = rw (add-one (lowest w)) (lowest_free w)

pub also_waits : (w : List Bool) (r q : ℕ) → waits (also_in w r) q ≡ (eqb q r || waits w q)
unfolding also_in
also_waits [] zero zero = refl
also_waits [] zero (suc q) = rw (eqb-suc-zero q)
also_waits [] (suc r) zero = rw (eqb-zero-suc r)
also_waits [] (suc r) (suc q) = rw (eqb-suc-suc q r) (also_waits [] r q)
also_waits (x ∷ w) zero zero = refl
also_waits (x ∷ w) zero (suc q) = rw (eqb-suc-zero q)
also_waits (x ∷ w) (suc r) zero = rw (eqb-zero-suc r)
also_waits (x ∷ w) (suc r) (suc q) = rw (eqb-suc-suc q r) (also_waits w r q)

pub also_waiting : (w : List Bool) (r : ℕ) → waiting (also_in w r) ≤ waiting w + 1
unfolding also_in waiting
also_waiting [] zero = omega arith
also_waiting [] (suc r) = omega (arith, also_waiting [] r)
also_waiting (true ∷ w) zero = omega arith
also_waiting (false ∷ w) zero = omega arith
also_waiting (true ∷ w) (suc r) = omega (arith, also_waiting w r)
also_waiting (false ∷ w) (suc r) = omega (arith, also_waiting w r)

-- where none waits then, none waited, and it is another register
pub also_free : (w : List Bool) (r q : ℕ) → waits (also_in w r) q ≡ false → (q ≡ r → ⊥) × (waits w q ≡ false)
also_free w r q e = go (eqb q r) refl (sym (also_waits w r q) ∙ e)
  where
    go : (x : Bool) → eqb q r ≡ x → (x || waits w q) ≡ false → (q ≡ r → ⊥) × (waits w q ≡ false)
    go true n h = absurd (false≢true (sym h))
    go false n h = (eqb-false q r n, h)

pub also_there : (w : List Bool) (r : ℕ) → waits (also_in w r) r ≡ true
also_there w r = also_waits w r r ∙ rw (eq-eqb r r refl)

pub also_still : (w : List Bool) (r q : ℕ) → waits w q ≡ true → waits (also_in w r) q ≡ true
also_still w r q e = also_waits w r q ∙ go (eqb q r)
  where
    go : (x : Bool) → (x || waits w q) ≡ true
    go true = refl
    go false = e

-- ---- two lists may say the same: one may have an entry for a register where none waits, and the other end before it
pub record Alike (w v : List Bool) : Type 0 where
  pub same : (q : ℕ) → waits w q ≡ waits v q

pub lowest_alike : (w v : List Bool) → Alike w v → lowest w ≡ lowest v
unfolding lowest
lowest_alike [] [] h = refl
lowest_alike [] (false ∷ v) h = refl
lowest_alike [] (true ∷ v) h = absurd (false≢true (h.same 0))
lowest_alike (false ∷ w) [] h = refl
lowest_alike (false ∷ w) (false ∷ v) h = refl
lowest_alike (false ∷ w) (true ∷ v) h = absurd (false≢true (h.same 0))
lowest_alike (true ∷ w) [] h = absurd (false≢true (sym (h.same 0)))
lowest_alike (true ∷ w) (false ∷ v) h = absurd (false≢true (sym (h.same 0)))
lowest_alike (true ∷ w) (true ∷ v) h = ap (λ (n : ℕ). n + 1) (lowest_alike w v (record { same = λ q. h.same (suc q) }))

pub also_alike : (w v : List Bool) (r : ℕ) → Alike w v → Alike (also_in w r) (also_in v r)
also_alike w v r h = record { same = λ q. also_waits w r q ∙ ap (λ (b : Bool). eqb q r || b) (h.same q) ∙ sym (also_waits v r q) }

-- no operand waits
pub none_alike : (n : ℕ) → Alike (replicate n false) []
none_alike zero = record { same = λ q. refl }
none_alike (suc n) = record { same = go n (none_alike n) }
  where
    go : (n : ℕ) → Alike (replicate n false) [] → (q : ℕ) → waits (false ∷ replicate n false) q ≡ false
    go n h zero = refl
    go n h (suc q) = h.same q

pub none_waiting : (n : ℕ) → waiting (replicate n false) ≡ 0
unfolding waiting
none_waiting zero = refl
none_waiting (suc n) = none_waiting n
