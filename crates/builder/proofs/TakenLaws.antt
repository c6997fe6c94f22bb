-- Every split that is taken, whichever candidate is chosen, is one of these: the highest variable by a form that may split it, or a
-- variable below it.
use Rattle.std.specs.Prelude.{Option, Some, None}
use mathlib.Core.Path.{◌≡◌, refl, sym, ap, subst, ◌∙◌}
use mathlib.Core.Bool.{Bool, true, false, not, cond, false≢true}
use mathlib.Core.Logic.{◌⊎◌, inl, inr}
use Prim.Native.Nat.{ℕ, ◌/◌, ◌^◌, ◌<◌, ◌≤◌}
use native.Mathlib.Omega.{arith}
use lib.Dec.{ltb}
use borrow.Author.Tests.{lt-ltb, le-ltb, ltb-true, ltb-false, not-false}
use Rattle.free_tables.specs.InnerSearch.{first_failing}
use Rattle.free_tables.specs.InnerTables.{Table, half, first_part, second_part, usable}
use Rattle.forms.specs.declared.Form.{Form}
use Rattle.forms.specs.declared.Form.TheVariants.{Drop}
use Rattle.free_tables.proofs.SearchLaws.{first_fails}
use Rattle.splits.specs.InnerSplits.{form_count, form_of, allowed_top, first_top, can_hold, drops_in_first, use_below, use_of, candidate_form, candidate_variable, candidate_use, candidate_by, split_or_top, split_taken}
use Rattle.splits.specs.declared.Holder.{Holder}
use Rattle.splits.specs.declared.Holder.TheVariants.{Absent, Dropped, Held}
use Rattle.splits.specs.declared.Plan.{Plan}
use Rattle.splits.specs.declared.Plan.TheVariants.{Plain, First, Second}
use Rattle.splits.specs.declared.Split.{Split}

-- ---- the first form that may split the highest variable
module _ (m : Holder) (t : Table) where
  pub first_allowed : first_top m t < form_count → allowed_top m (form_of (first_top m t)) t ≡ true
  unfolding first_top
  first_allowed h = not-false _ ((first_fails (λ i. not (allowed_top m (form_of i) t)) form_count 0).fails (omega arith))

  pub some_allowed : (k : ℕ) → k < form_count → allowed_top m (form_of k) t ≡ true → first_top m t < form_count
  unfolding first_top
  some_allowed k h e = go (ltb (first_failing (λ i. not (allowed_top m (form_of i) t)) form_count 0) form_count) refl
    where
      go : (b : Bool) → ltb (first_failing (λ i. not (allowed_top m (form_of i) t)) form_count 0) form_count ≡ b → first_failing (λ i. not (allowed_top m (form_of i) t)) form_count 0 < form_count
      go true q = ltb-true _ _ q
      go false q = absurd (false≢true (sym (ap not e) ∙ (first_fails (λ i. not (allowed_top m (form_of i) t)) form_count 0).passed k (omega arith) (let z : form_count ≤ first_failing (λ i. not (allowed_top m (form_of i) t)) form_count 0 = ltb-false _ _ q in omega arith)))

-- ---- a variable below the highest
abbrev pub BelowSays : Holder → Form → Table → ℕ → Plan → Type 0
BelowSays m form t step Plain = (m ≡ Absent) × (usable form t step ≡ true)
BelowSays m form t step First =
    (m ≡ Held) × (usable form t step ≡ true) × (usable Drop (second_part form t step) (half (second_part form t step)) ≡ true) × (can_hold (first_part form t step) ≡ true)
BelowSays m form t step Second =
    (m ≡ Held) × (usable form t step ≡ true) × (drops_in_first form (first_part form t step) ≡ true) × (can_hold (second_part form t step) ≡ true)
    × (usable Drop (second_part form t step) (half (second_part form t step)) ≡ false)

-- where it is allowed
abbrev BelowMay : Holder → Form → Table → ℕ → Option Plan → Type 0
BelowMay m form t step None = Unit {0}
BelowMay m form t step (Some plan) = BelowSays m form t step plan

below_says : (m : Holder) (form : Form) (t : Table) (step : ℕ) → BelowMay m form t step (use_below m form t step)
below_says Absent form t step = go (usable form t step) refl
  where
    go : (b : Bool) → usable form t step ≡ b → BelowMay Absent form t step (cond b (Some Plain) None)
    go true e = (refl, e)
    go false e = tt
below_says Dropped form t step = tt
below_says Held form t step =
    go (usable form t step) (usable Drop (second_part form t step) (half (second_part form t step))) (can_hold (first_part form t step)) (drops_in_first form (first_part form t step)) (can_hold (second_part form t step)) refl refl refl refl refl
  where
    go : (u d a f b : Bool) → usable form t step ≡ u → usable Drop (second_part form t step) (half (second_part form t step)) ≡ d
        → can_hold (first_part form t step) ≡ a → drops_in_first form (first_part form t step) ≡ f → can_hold (second_part form t step) ≡ b
        → BelowMay Held form t step (cond u (cond d (cond a (Some First) None) (cond f (cond b (Some Second) None) None)) None)
    go false d a f b eu ed ea ef eb = tt
    go true true true f b eu ed ea ef eb = (refl, eu, ed, ea)
    go true true false f b eu ed ea ef eb = tt
    go true false a true true eu ed ea ef eb = (refl, eu, ef, eb, ed)
    go true false a true false eu ed ea ef eb = tt
    go true false a false b eu ed ea ef eb = tt

-- ---- the split that is taken
pub record Top (m : Holder) (t : Table) (n : ℕ) (s : Split) : Type 0 where
  pub at : s.variable ≡ n
  pub plain : s.plan ≡ Plain
  pub may : allowed_top m s.form t ≡ true

pub record Below (m : Holder) (t : Table) (n : ℕ) (s : Split) : Type 0 where
  pub less : s.variable < n
  pub says : BelowSays m s.form t (2 ^ s.variable) s.plan

abbrev pub Taken : Holder → Table → ℕ → Split → Type 0
Taken m t n s = Top m t n s ⊎ Below m t n s

module _ (m : Holder) (t : Table) (n i : ℕ) (may : allowed_top m (form_of (first_top m t)) t ≡ true) where
  fallback : Taken m t n (split_or_top None m t n)
  fallback = inl (record { at = refl; plain = refl; may = may })

  below : (v : ℕ) → candidate_variable n i ≡ v → v < n → (u : Option Plan) → BelowMay m (candidate_form i) t (2 ^ candidate_variable n i) u → Taken m t n (split_or_top (candidate_by u n i) m t n)
  below v e h None b = fallback
  below v e h (Some p) b = inr (record { less = omega arith; says = b })

  top : candidate_variable n i ≡ n → (b : Bool) → allowed_top m (candidate_form i) t ≡ b → Taken m t n (split_or_top (candidate_by (cond b (Some Plain) None) n i) m t n)
  top e true q = inl (record { at = e; plain = refl; may = q })
  top e false q = fallback

  pub is_taken : Taken m t n (split_taken m t n i)
  unfolding split_taken candidate_use use_of
  is_taken = go (ltb (i / form_count) n) refl
    where
      go : (b : Bool) → ltb (i / form_count) n ≡ b → Taken m t n (split_or_top (candidate_by (cond (ltb (candidate_variable n i) n) (use_below m (candidate_form i) t (2 ^ candidate_variable n i)) (cond (allowed_top m (candidate_form i) t) (Some Plain) None)) n i) m t n)
      go true e =
          let v : candidate_variable n i ≡ i / form_count = ap (λ (b : Bool). cond b (i / form_count) n) e in
          let h : i / form_count < n = ltb-true _ _ e in
          subst (λ (b : Bool). Taken m t n (split_or_top (candidate_by (cond b (use_below m (candidate_form i) t (2 ^ candidate_variable n i)) (cond (allowed_top m (candidate_form i) t) (Some Plain) None)) n i) m t n))
          (sym (lt-ltb (candidate_variable n i) n (omega arith)))
          (below (i / form_count) v h (use_below m (candidate_form i) t (2 ^ candidate_variable n i)) (below_says m (candidate_form i) t (2 ^ candidate_variable n i)))
      go false e =
          let v : candidate_variable n i ≡ n = ap (λ (b : Bool). cond b (i / form_count) n) e in
          subst (λ (b : Bool). Taken m t n (split_or_top (candidate_by (cond b (use_below m (candidate_form i) t (2 ^ candidate_variable n i)) (cond (allowed_top m (candidate_form i) t) (Some Plain) None)) n i) m t n))
          (sym (le-ltb (candidate_variable n i) n (omega arith)))
          (top v (allowed_top m (candidate_form i) t) refl)
