-- Rows of a table and of its parts: a row of the table is a row of a part, with the split variable's bit.
use mathlib.Core.Path.{◌≡◌, refl, sym, ap, subst, ◌∙◌}
use mathlib.Core.Bool.{Bool, true, false, cond, false≢true}
use Rattle.std.proofs.lemmas.List.Folds.{list_any_at}
use mathlib.Core.List.{List, [], ◌∷◌, ◌++◌}
use Prim.Native.Nat.{ℕ, suc, ◌+◌, ◌*◌, ◌%◌, ◌^◌, ◌<◌}
use native.Mathlib.Nat.{mul-add, mul_left_comm, mod-eq_of_lt, zero-mod, add-mul-mod_self_left, pow-suc}
use native.Mathlib.Omega.{arith}
use borrow.Author.Tests.{not-true}
use lib.ListN.{length, get_or, take, drop, take-append-drop}
use Rattle.tree.proofs.PassLaws.{here}
use Rattle.table.proofs.TableLaws.{row_of, row_below, row_append, tabulate_at, length_tabulate}
use Rattle.forms.specs.InnerForms.{free, may_use, first_row, second_row}
use Rattle.free_tables.specs.InnerTables.{Table, row_at, low_row, half, at_pair, split_by, usable, some_on}
use Rattle.forms.specs.declared.Row.{Row}
use Rattle.forms.specs.declared.Form.{Form}
use Rattle.free_tables.proofs.SearchLaws.{all_pass_lem, pass_all}
use Rattle.builder.specs.InnerBuilding.{without}
use Rattle.forms.proofs.TestLaws.{both}
use Rattle.builder.proofs.WritingLaws.{before_length, without_length}

-- ---- the variables without one
low_row_lem : (s p d r : ℕ) → p < s → r ≡ p + s * d → low_row s r ≡ p + s * (2 * d)
low_row_lem s p d r h e =
    let m : r % s ≡ p = ap (λ (k : ℕ). k % s) e ∙ add-mul-mod_self_left p s d ∙ mod-eq_of_lt h in
    omega (arith, mul_left_comm s 2 d)

module _ (gs : List ℕ) (v : ℕ) (h : v < length gs) where
  pub around : gs ≡ take v gs ++ (get_or gs v 0 ∷ drop (v + 1) gs)
  around = sym (take-append-drop v gs) ∙ ap (λ (ys : List ℕ). take v gs ++ ys) (here gs v h)

  pub without_counts : (n : ℕ) → length gs ≡ suc n → length (without v gs) ≡ n
  without_counts n e = omega (arith, without_length gs v h)

  -- the row of a filling, by its row without the variable
  pub row_around : (w : ℕ → Bool) → row_of w gs ≡ cond (w (get_or gs v 0)) (low_row (2 ^ v) (row_of w (without v gs)) + 2 ^ v) (low_row (2 ^ v) (row_of w (without v gs)))
  unfolding row_of
  row_around w =
      ap (row_of w) around
      ∙ row_append w (take v gs) (get_or gs v 0 ∷ drop (v + 1) gs)
      ∙ ap (λ (k : ℕ). row_of w (take v gs) + 2 ^ k * (cond (w (get_or gs v 0)) 1 0 + 2 * row_of w (drop (v + 1) gs))) (before_length gs v h)
      ∙ go (w (get_or gs v 0))
    where
      low : low_row (2 ^ v) (row_of w (without v gs)) ≡ row_of w (take v gs) + 2 ^ v * (2 * row_of w (drop (v + 1) gs))
      low = low_row_lem (2 ^ v) (row_of w (take v gs)) (row_of w (drop (v + 1) gs)) (row_of w (without v gs))
          (subst (λ (k : ℕ). row_of w (take v gs) < 2 ^ k) (before_length gs v h) (row_below w (take v gs)))
          (row_append w (take v gs) (drop (v + 1) gs) ∙ ap (λ (k : ℕ). row_of w (take v gs) + 2 ^ k * row_of w (drop (v + 1) gs)) (before_length gs v h))

      go : (b : Bool) → row_of w (take v gs) + 2 ^ v * (cond b 1 0 + 2 * row_of w (drop (v + 1) gs))
          ≡ cond b (low_row (2 ^ v) (row_of w (without v gs)) + 2 ^ v) (low_row (2 ^ v) (row_of w (without v gs)))
      go true = omega (arith, low, mul-add (2 ^ v) 1 (2 * row_of w (drop (v + 1) gs)))
      go false = omega (arith, low, mul-add (2 ^ v) 0 (2 * row_of w (drop (v + 1) gs)))

-- ---- the rows of a part
module _ (f : Row → Row → Row) (t : Table) (step r : ℕ) (h : r < half t) where
  pub split_row : row_at (split_by f t step) r ≡ at_pair f t step r
  split_row = tabulate_at (at_pair f t step) (half t) 0 r free h ∙ ap (at_pair f t step) (omega arith)

-- ---- sizes
pub half_rows : (t : Table) (n : ℕ) → length t ≡ 2 ^ suc n → half t ≡ 2 ^ n
half_rows t n e = omega (arith, pow-suc 2 n)

module _ (f : Row → Row → Row) (t : Table) (step : ℕ) where
  pub split_rows : (n : ℕ) → length t ≡ 2 ^ suc n → length (split_by f t step) ≡ 2 ^ n
  split_rows n e = length_tabulate (at_pair f t step) (half t) 0 ∙ half_rows t n e

-- ---- what `usable` says
pub record MayUse (form : Form) (t : Table) (step : ℕ) : Type 0 where
  pub pairs : (r : ℕ) → r < half t → at_pair (may_use form) t step r ≡ true
  pub first : (at_pair (first_row form) t step 0).on ≡ false
  pub second : (at_pair (second_row form) t step 0).on ≡ false

pub may_use_lem : {form : Form} {t : Table} {step : ℕ} → usable form t step ≡ true → MayUse form t step
unfolding usable
may_use_lem {form} {t} {step} e =
    let p = both _ _ e in
    let q = both _ _ p.0 in
    record { pairs = all_pass_lem (at_pair (may_use form) t step) (half t) q.0; first = not-true _ q.1; second = not-true _ p.1 }

pub usable_by : {form : Form} {t : Table} {step : ℕ} → MayUse form t step → usable form t step ≡ true
unfolding usable
usable_by {form} {t} {step} u = rw (pass_all (at_pair (may_use form) t step) (half t) u.pairs, u.first, u.second)

-- row 0
pub low_zero : (step : ℕ) → low_row step 0 ≡ 0
low_zero step = omega (arith, zero-mod step)

-- a row that is 1
pub some_on_lem : (t : Table) (i : ℕ) → i < length t → (row_at t i).on ≡ true → some_on t ≡ true
some_on_lem t i h e = list_any_at (λ r. r.on) t i free h e

pub some_row : (t : Table) → some_on t ≡ true → (i : ℕ) × (i < length t) × ((row_at t i).on ≡ true)
some_row [] e = absurd (false≢true e)
some_row (r ∷ t) e = go r.on refl (some_row t)
  where
    go : (b : Bool) → r.on ≡ b → (some_on t ≡ true → (i : ℕ) × (i < length t) × ((row_at t i).on ≡ true)) → (i : ℕ) × (i < length (r ∷ t)) × ((row_at (r ∷ t) i).on ≡ true)
    go true q more = (0, omega arith, q)
    go false q more = let z = more (rw q at e) in (suc z.0, omega (arith, z.1), z.2)
