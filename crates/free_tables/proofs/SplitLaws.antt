-- Laws for the code: the pairs of rows stay inside the table, one turn of the scans, and arrays that are filled row by row.
use mathlib.Core.Path.{◌≡◌, refl, sym, ap, ap₂, ◌∙◌}
use mathlib.Core.Bool.{Bool, true, false, not, ◌&&◌}
use mathlib.Core.List.{List}
use Prim.Native.Nat.{ℕ, ◌+◌, ◌-◌, ◌*◌, ◌/◌, ◌%◌, ◌^◌, ◌<◌, ◌≤◌}
use native.Mathlib.Nat.{mul-suc, mul_comm, mul-le-mul_left, mod-lt, mod-le, mod_self, mod-eq_of_lt, mod-add-mod, mod-add-div, zero-mod, div-lt_iff_lt-mul, two-pow-succ}
use native.Mathlib.Omega.{arith}
use native.Mathlib.Numerals.{add-one}
use lib.Pow.{pow_mono}
use lib.ListN.{length, get_or, take, set, length-set}
use lib.Seq.{get_or-set_same, get_or-set_other, get_or-take, length-take-le, ext_get_or}
use borrow.Author.Count.{below_more}
use Rattle.tree.specs.Tree.{most_groups}
use Rattle.table.specs.InnerTable.{row_count, tabulate}
use Rattle.table.proofs.TableLaws.{length_tabulate, tabulate_at}
use Rattle.forms.specs.InnerForms.{free, first_row, second_row}
use Rattle.free_tables.specs.InnerTables.{Table, row_at, half, at_pair, may_use_all, usable, Splits}
use Rattle.forms.specs.declared.Row.{Row}
use Rattle.forms.specs.declared.Form.{Form}

-- ---- powers
pub power_turn : (s i : ℕ) → s ≡ 2 ^ i → s + s ≡ 2 ^ (i + 1)
power_turn s i e = ap₂ ◌+◌ e e ∙ sym (ap (λ (k : ℕ). 2 ^ k) (add-one i) ∙ two-pow-succ i)

pub power_small : (s i k : ℕ) → s ≡ 2 ^ i → i ≤ k → k ≤ most_groups → s ≤ row_count
power_small s i k e h l = let a : i ≤ most_groups = omega arith in let z : 2 ^ i ≤ 2 ^ most_groups = pow_mono a in omega arith

-- ---- the place of a row, from 0 up to the step
pub place_end : (k step : ℕ) → k + 1 ≡ step → 0 ≡ (k + 1) % step
place_end k step e = sym (ap (λ (s : ℕ). (k + 1) % s) (sym e) ∙ mod_self (k + 1))

pub place_on : (k step : ℕ) → k < step → (k + 1 ≡ step → ⊥) → k + 1 ≡ (k + 1) % step
place_on k step h n = sym (mod-eq_of_lt {n = k + 1} {m = step} (omega arith))

pub place_turn : (r k j step : ℕ) → k ≡ r % step → j ≡ (k + 1) % step → j ≡ (r + 1) % step
place_turn r k j step e q = q ∙ ap (λ (x : ℕ). (x + 1) % step) e ∙ mod-add-mod r step 1

module _ {t : Table} {step : ℕ} (s : Splits t step) (r k : ℕ) (e : k ≡ r % step) where
  pub place_below : k < step
  place_below = omega (arith, mod-lt r s.positive)

  pub place_row : k ≤ r
  place_row = omega (arith, mod-le r step)

  pub pair_inside : r < half t → r + (r - k) + step < length t
  pair_inside h =
      let b : r < step * s.blocks = omega (arith, s.count) in
      let q : r / step < s.blocks = (div-lt_iff_lt-mul {k = step} {x = r} {y = s.blocks} s.positive).1 (rw (mul_comm s.blocks step) b) in
      let l = mul-le-mul_left step q in
      omega (arith, s.count, mod-add-div r step, mul-suc step (r / step), mod-lt r s.positive)

-- a rule at the rows that are read
pub pair_rule : {A : Type 0} (f : Row → Row → A) (t : Table) (step r k : ℕ) → k ≡ r % step → f (row_at t (r + (r - k))) (row_at t (r + (r - k) + step)) ≡ at_pair f t step r
pair_rule f t step r k e = ap (λ (x : ℕ). f (row_at t (r + (r - x))) (row_at t (r + (r - x) + step))) e

-- ---- whether a form may be used: at row 0, and everywhere
pair_zero : {A : Type 0} (f : Row → Row → A) (t : Table) (step : ℕ) → f (row_at t 0) (row_at t step) ≡ at_pair f t step 0
pair_zero f t step = let e : step ≡ 0 + (0 - 0) + step = omega arith in ap (λ (i : ℕ). f (row_at t 0) (row_at t i)) e ∙ pair_rule f t step 0 0 (sym (zero-mod step))

module _ (form : Form) (t : Table) (step : ℕ) {a : Row} (p : a ≡ first_row form (row_at t 0) (row_at t step)) where
  pub usable_first : a.on ≡ true → false ≡ usable form t step
  unfolding usable
  usable_first e =
      let h : (at_pair (first_row form) t step 0).on ≡ true = ap (λ (r : Row). r.on) (sym (p ∙ pair_zero (first_row form) t step)) ∙ e in
      rw h (go (may_use_all form t step))
    where
      go : (x : Bool) → false ≡ (x && false) && not (at_pair (second_row form) t step 0).on
      go true = refl
      go false = refl

  module _ {b : Row} (q : b ≡ second_row form (row_at t 0) (row_at t step)) where
    pub usable_second : b.on ≡ true → false ≡ usable form t step
    unfolding usable
    usable_second e =
        let h : (at_pair (second_row form) t step 0).on ≡ true = ap (λ (r : Row). r.on) (sym (q ∙ pair_zero (second_row form) t step)) ∙ e in
        rw h (go (may_use_all form t step && not (at_pair (first_row form) t step 0).on))
      where
        go : (x : Bool) → false ≡ x && false
        go true = refl
        go false = refl

    pub usable_all : (x : Bool) → x ≡ may_use_all form t step → a.on ≡ false → b.on ≡ false → x ≡ usable form t step
    unfolding usable
    usable_all x u e f =
        let h : (at_pair (first_row form) t step 0).on ≡ false = ap (λ (r : Row). r.on) (sym (p ∙ pair_zero (first_row form) t step)) ∙ e in
        let k : (at_pair (second_row form) t step 0).on ≡ false = ap (λ (r : Row). r.on) (sym (q ∙ pair_zero (second_row form) t step)) ∙ f in
        rw (h, k, ← u) (go x)
      where
        go : (y : Bool) → y ≡ (y && true) && true
        go true = refl
        go false = refl

-- ---- an array of this length whose first r rows are those of f
pub record Filled (size : ℕ) (f : ℕ → Row) (xs : List Row) (r : ℕ) : Type 0 where
  pub long : length xs ≡ size
  pub rows : (i : ℕ) → i < r → get_or xs i free ≡ f i

pub filled_none : {size : ℕ} (f : ℕ → Row) (xs : List Row) → length xs ≡ size → Filled size f xs 0
filled_none f xs e = record { long = e; rows = λ i h. absurd (omega arith) }

pub filled_more : {size : ℕ} {f : ℕ → Row} {xs : List Row} {r : ℕ} (v : Row) → Filled size f xs r → r < size → v ≡ f r → Filled size f (set xs r v) (r + 1)
filled_more {size} {f} {xs} {r} v s h e = record {
  long = length-set xs r v ∙ s.long;
  rows = below_more _ r (λ i l. get_or-set_other xs r i v free (omega arith) ∙ s.rows i l) (get_or-set_same xs r v free (omega (arith, s.long)) ∙ e);
}

pub filled_all : {size : ℕ} {f : ℕ → Row} {xs : List Row} {r : ℕ} (n : ℕ) → Filled size f xs r → n ≤ r → n ≤ size → take n xs ≡ tabulate f n 0
filled_all {size} {f} {xs} {r} n s h l =
    let e : length (take n xs) ≡ n = length-take-le n xs (omega (arith, s.long)) in
    ext_get_or free (take n xs) (tabulate f n 0) (e ∙ sym (length_tabulate f n 0)) (λ i b.
    let c : i < n = omega arith in
    get_or-take n xs i free c ∙ s.rows i (omega arith) ∙ sym (tabulate_at f n 0 i free c ∙ ap f (omega arith)))
