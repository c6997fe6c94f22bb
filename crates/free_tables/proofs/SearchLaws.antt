-- The first number that fails a test: what it is, and one turn of a loop that looks for it.
use mathlib.Core.Path.{◌≡◌, refl, sym, ap, subst, ◌∙◌}
use mathlib.Core.Bool.{Bool, true, false, not, cond, true≢false}
use mathlib.Core.Logic.{⊎_elim}
use Prim.Native.Nat.{ℕ, zero, suc, ◌+◌, ◌-◌, ◌<◌, ◌≤◌}
use native.Mathlib.Nat.{eq-or-lt_of_le}
use native.Mathlib.Omega.{arith}
use native.Mathlib.Numerals.{add-one}
use lib.Dec.{eqb}
use borrow.Author.Tests.{eqb-true, eqb-false, not-true}
use Rattle.free_tables.specs.InnerSearch.{first_failing, all_pass}

pub record Fails (f : ℕ → Bool) (k i j : ℕ) : Type 0 where
  pub from : i ≤ j
  pub upto : j ≤ i + k
  pub passed : (n : ℕ) → i ≤ n → n < j → f n ≡ true
  pub fails : j < i + k → f j ≡ false

pub first_fails : (f : ℕ → Bool) (k i : ℕ) → Fails f k i (first_failing f k i)
unfolding first_failing
first_fails f zero i = record { from = omega arith; upto = omega arith; passed = λ n a b. absurd (omega arith); fails = λ h. absurd (omega arith) }
first_fails f (suc k) i = go (f i) refl (first_fails f k (suc i))
  where
    go : (b : Bool) → f i ≡ b → Fails f k (suc i) (first_failing f k (suc i)) → Fails f (suc k) i (cond b (first_failing f k (suc i)) i)
    go true e h = record {
      from = omega (arith, h.from);
      upto = omega (arith, h.upto);
      passed = λ n a b. ⊎_elim (λ q. subst (λ (x : ℕ). f x ≡ true) q e) (λ q. h.passed n q b) (eq-or-lt_of_le a);
      fails = λ l. h.fails (omega arith);
    }
    go false e h = record { from = omega arith; upto = omega arith; passed = λ n a b. absurd (omega arith); fails = λ l. e }

-- ---- one turn of the scan
module _ (f : ℕ → Bool) (i total : ℕ) where
  left_one : i < total → total - i ≡ suc (total - (i + 1))
  left_one h = omega arith

  pub failing_turn : i < total → f i ≡ true → first_failing f (total - i) i ≡ first_failing f (total - (i + 1)) (i + 1)
  unfolding first_failing
  failing_turn h e =
      ap (λ (k : ℕ). first_failing f k i) (left_one h)
      ∙ ap (λ (b : Bool). cond b (first_failing f (total - (i + 1)) (suc i)) i) e
      ∙ ap (first_failing f (total - (i + 1))) (sym (add-one i))

  pub failing_stop : i < total → f i ≡ false → first_failing f (total - i) i ≡ i
  unfolding first_failing
  failing_stop h e =
      ap (λ (k : ℕ). first_failing f k i) (left_one h) ∙ ap (λ (b : Bool). cond b (first_failing f (total - (i + 1)) (suc i)) i) e

  pub failing_end : total ≤ i → first_failing f (total - i) i ≡ i
  unfolding first_failing
  failing_end h = let e : total - i ≡ 0 = omega arith in ap (λ (k : ℕ). first_failing f k i) e

pub failing_start : (f : ℕ → Bool) (total : ℕ) → first_failing f (total - 0) 0 ≡ first_failing f total 0
failing_start f total = let e : total - 0 ≡ total = omega arith in ap (λ (k : ℕ). first_failing f k 0) e

-- ---- all pass, or one fails
pub all_pass_lem : (f : ℕ → Bool) (k : ℕ) → all_pass f k ≡ true → (i : ℕ) → i < k → f i ≡ true
all_pass_lem f k e i h = (first_fails f k 0).passed i (omega arith) (omega (arith, eqb-true (first_failing f k 0) k e))

pub some_fails : (f : ℕ → Bool) (k : ℕ) → all_pass f k ≡ false → (i : ℕ) × (i < k) × (f i ≡ false)
some_fails f k e =
    let F = first_fails f k 0 in
    let n : first_failing f k 0 ≡ k → ⊥ = eqb-false (first_failing f k 0) k e in
    let h : first_failing f k 0 < k = omega (arith, F.upto) in
    (first_failing f k 0, h, F.fails (omega arith))

pub pass_all : (f : ℕ → Bool) (k : ℕ) → ((i : ℕ) → i < k → f i ≡ true) → all_pass f k ≡ true
pass_all f k h = go (eqb (first_failing f k 0) k) refl
  where
    go : (b : Bool) → eqb (first_failing f k 0) k ≡ b → b ≡ true
    go true e = refl
    go false e = let z = some_fails f k e in absurd (true≢false (sym (h z.0 z.1) ∙ z.2))

pub fail_one : (f : ℕ → Bool) (k i : ℕ) → i < k → f i ≡ false → all_pass f k ≡ false
fail_one f k i h e = not-true (all_pass f k) (go (all_pass f k) refl)
  where
    go : (b : Bool) → all_pass f k ≡ b → not b ≡ true
    go true q = absurd (true≢false (sym (all_pass_lem f k q i h) ∙ e))
    go false q = refl
