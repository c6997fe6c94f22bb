-- Laws for the code: the rows of a table and of its parts, how many leaves a tree is estimated at, and one turn of the scans.
use Rattle.std.specs.Prelude.{Option, Some, None}
use mathlib.Core.Path.{◌≡◌, refl, sym, ap, ap₂, subst, ◌∙◌}
use mathlib.Core.Bool.{Bool, true, false, not, cond}
use mathlib.Core.List.{List, [], ◌∷◌}
use Prim.Native.Nat.{ℕ, zero, suc, ◌+◌, ◌-◌, ◌*◌, ◌/◌, ◌^◌, ◌<◌, ◌≤◌}
use native.Mathlib.Nat.{two-pow-succ}
use native.Mathlib.Omega.{arith}
use native.Mathlib.Numerals.{add-one}
use lib.Pow.{pow-add, pow_mono, pow_pos}
use lib.Dec.{eqb, ltb}
use lib.ListN.{length, get_or, take}
use borrow.Author.Tests.{ltb-true, lt-ltb, le-ltb}
use Rattle.tree.specs.Tree.{most_groups}
use Rattle.table.specs.InnerTable.{tabulate}
use Rattle.table.proofs.TableLaws.{length_tabulate}
use Rattle.free_tables.specs.InnerSearch.{first_failing}
use Rattle.free_tables.specs.InnerTables.{Table, half, first_part, second_part, usable, Splits, Parted}
use Rattle.forms.specs.declared.Row.{Row}
use Rattle.forms.specs.declared.Form.{Form}
use Rattle.forms.specs.declared.Form.TheVariants.{Drop, Less, Plus, ReducedPlus, JoinedLess, LessOutside, ReducedUnion, JoinedDifference}
use Rattle.free_tables.specs.declared.Parts.{Parts}
use Rattle.splits.specs.InnerSplits.{form_count, form_of, is_drop, allowed_top, first_top, use_below, use_of, first_holder, second_holder, leaves_by, estimate, cost_by, never, candidate_form, candidate_variable, candidate_use, candidate_by, candidate, cost, least, choose, split_taken, Sized}
use Rattle.splits.specs.declared.Holder.{Holder}
use Rattle.splits.specs.declared.Holder.TheVariants.{Absent, Dropped, Held}
use Rattle.splits.specs.declared.Plan.{Plan}
use Rattle.splits.specs.declared.Split.{Split}
use Rattle.splits.specs.declared.Plan.TheVariants.{Plain, First, Second}

-- ---- the forms by number
pub forms_at : (i : ℕ) → i < form_count → get_or (Drop ∷ Less ∷ Plus ∷ ReducedPlus ∷ JoinedLess ∷ LessOutside ∷ ReducedUnion ∷ JoinedDifference ∷ []) i Drop ≡ form_of i
forms_at zero h = refl
forms_at (suc zero) h = refl
forms_at (suc (suc zero)) h = refl
forms_at (suc (suc (suc zero))) h = refl
forms_at (suc (suc (suc (suc zero)))) h = refl
forms_at (suc (suc (suc (suc (suc zero))))) h = refl
forms_at (suc (suc (suc (suc (suc (suc zero)))))) h = refl
forms_at (suc (suc (suc (suc (suc (suc (suc zero))))))) h = refl
forms_at (suc (suc (suc (suc (suc (suc (suc (suc n)))))))) h = absurd (omega arith)

-- ---- the rows of a table and of its parts
module _ {t : Table} {n : ℕ} (s : Sized t (suc n)) where
  pub half_rows : half t ≡ 2 ^ n
  half_rows = omega (arith, s.rows, two-pow-succ n)

  pub splits : (v : ℕ) → v ≤ n → Splits t (2 ^ v)
  splits v h =
      let e : v + (n - v) ≡ n = omega arith in
      let p : 2 ^ (v + (n - v)) ≡ 2 ^ n = ap (λ (k : ℕ). 2 ^ k) e in
      let m : 2 ^ suc n ≤ 2 ^ most_groups = pow_mono s.most in
      record {
        positive = pow_pos v;
        blocks = 2 ^ (n - v);
        some = pow_pos (n - v);
        count = omega (arith, s.rows, two-pow-succ n, pow-add 2 v (n - v));
        most = omega (arith, s.rows);
      }

  pub splits_top : Splits t (half t)
  splits_top = rw half_rows (splits n (omega arith))

  pub below_most : n ≤ most_groups
  below_most = omega (arith, s.most)

-- a part has a variable less
part_sized : {t : Table} {n : ℕ} (f : ℕ → Row) {xs : List Row} → Sized t (suc n) → xs ≡ tabulate f (half t) 0 → Sized xs n
part_sized {t} f s p = record { rows = ap length p ∙ length_tabulate f (half t) 0 ∙ half_rows s; most = below_most s }

module _ {t : Table} {n : ℕ} {form : Form} {step : ℕ} {r : Parts} (s : Sized t (suc n)) (h : Parted r form t step) where
  pub first_sized : Sized (take (half t) r.first) n
  unfolding first_part
  first_sized = part_sized _ s h.first

  pub second_sized : Sized (take (half t) r.second) n
  unfolding second_part
  second_sized = part_sized _ s h.second

-- ---- the highest variable
pub allowed_not : (m : Holder) (form : Form) (t : Table) → usable form t (half t) ≡ false → false ≡ allowed_top m form t
allowed_not Absent form t e = sym e
allowed_not Dropped form t e = rw e
allowed_not Held form t e = rw e

-- the scan for the first form that may
abbrev pub refused : Holder → Table → ℕ → Bool
refused m t i = not (allowed_top m (form_of i) t)

pub top_start : (m : Holder) (t : Table) → first_failing (refused m t) (form_count - 0) 0 ≡ first_top m t
unfolding first_top
top_start m t = refl

pub refused_is : (m : Holder) (t : Table) (i : ℕ) {form : Form} {r b : Bool} → form ≡ form_of i → r ≡ allowed_top m form t → r ≡ b → refused m t i ≡ not b
refused_is m t i p q e = ap not (sym (ap (λ (f : Form). allowed_top m f t) p) ∙ sym q ∙ e)

-- ---- a variable below the highest, and any
pub below_sized : {t : Table} {n : ℕ} (v : ℕ) → Sized t (suc n) → v < n → (x : ℕ) × Sized t (suc (suc x)) × (v ≤ x)
below_sized {n = n} v s h =
    let e : suc (suc (n - 1)) ≡ suc n = omega arith in
    (n - 1, rw e s, omega arith)

pub below_not : (m : Holder) (form : Form) (t : Table) (step : ℕ) → usable form t step ≡ false → None ≡ use_below m form t step
below_not Absent form t step e = rw e
below_not Dropped form t step e = refl
below_not Held form t step e = rw e

module _ (m : Holder) (form : Form) (t : Table) (n v : ℕ) where
  pub use_below_top : v < n → use_of m form t n v ≡ use_below m form t (2 ^ v)
  unfolding use_of
  use_below_top h = rw (lt-ltb v n h)

  pub use_at_top : n ≤ v → use_of m form t n v ≡ cond (allowed_top m form t) (Some Plain) None
  unfolding use_of
  use_at_top h = rw (le-ltb v n h)

-- ---- leaves
either : (b : Bool) {x y most : ℕ} → x ≤ most → y ≤ most → cond b x y ≤ most
either true h l = h
either false h l = l

pub leaves_most : (form : Form) (a b : ℕ) → leaves_by form a b ≤ a + b + 2
leaves_most Drop a b = omega arith
leaves_most Less a b = either (eqb a 0) (omega arith) (omega arith)
leaves_most Plus a b = omega arith
leaves_most ReducedPlus a b = either (eqb a 0) (omega arith) (omega arith)
leaves_most JoinedLess a b = omega arith
leaves_most LessOutside a b = either (eqb a 0) (omega arith) (either (eqb b 0) (omega arith) (omega arith))
leaves_most ReducedUnion a b = either (eqb a 0) (omega arith) (omega arith)
leaves_most JoinedDifference a b = omega arith

pub leaves_drop : (form : Form) (a b : ℕ) → is_drop form ≡ true → leaves_by form a b ≡ a
leaves_drop Drop a b e = refl
leaves_drop Less a b e = cc
leaves_drop Plus a b e = cc
leaves_drop ReducedPlus a b e = cc
leaves_drop JoinedLess a b e = cc
leaves_drop LessOutside a b e = cc
leaves_drop ReducedUnion a b e = cc
leaves_drop JoinedDifference a b e = cc

-- the form that splits the highest variable in an estimate
abbrev pub top_form : Holder → Table → Form
top_form m t = form_of (first_top m t)

pub estimate_none : (k : ℕ) (m : Holder) (t : Table) → k ≡ 0 → 0 ≡ estimate k m t
unfolding estimate
estimate_none k m t e = rw e

pub estimate_one : (m : Holder) (t : Table) (form : Form) (r : ℕ) → form ≡ top_form m t → r ≡ leaves_by form 0 0 → r ≡ estimate 1 m t
unfolding estimate
estimate_one m t form r e q = q ∙ ap (λ (f : Form). leaves_by f 0 0) e

-- a table of a variable more
pub sized_more : {t : Table} {k : ℕ} → Sized t k → (k ≡ 0 → ⊥) → Sized t (suc (k - 1))
sized_more {k = k} s h = let e : suc (k - 1) ≡ k = omega arith in rw e s

module _ (k : ℕ) (m : Holder) (t : Table) (form : Form) (h : k ≡ 0 → ⊥) (e : form ≡ top_form m t) where
  pub estimate_is : (a b : ℕ) → a ≡ estimate (k - 1) Absent (first_part form t (half t)) → b ≡ estimate (k - 1) Absent (second_part form t (half t))
      → leaves_by form a b ≡ estimate k m t
  unfolding estimate
  estimate_is a b p q =
      let z : k ≡ suc (k - 1) = omega arith in
      rw z (rw (p, q, e))

  pub estimate_drop : (a : ℕ) → is_drop form ≡ true → a ≡ estimate (k - 1) Absent (first_part form t (half t)) → a ≡ estimate k m t
  estimate_drop a d p = sym (leaves_drop form a _ d) ∙ estimate_is a _ p refl

pub estimate_most : (k : ℕ) (m : Holder) (t : Table) → estimate k m t + 2 ≤ 2 * 2 ^ k
unfolding estimate
estimate_most zero m t = omega arith
estimate_most (suc n) m t =
    let form = top_form m t in
    let a = first_part form t (half t) in
    let b = second_part form t (half t) in
    omega (arith, leaves_most form (estimate n Absent a) (estimate n Absent b), estimate_most n Absent a, estimate_most n Absent b, two-pow-succ n)

pub estimate_small : (k : ℕ) (m : Holder) (t : Table) → k ≤ most_groups → estimate k m t ≤ never
estimate_small k m t h = let p : 2 ^ k ≤ 2 ^ most_groups = pow_mono h in omega (arith, estimate_most k m t)

pub variable_most : (n i : ℕ) → candidate_variable n i ≤ n
variable_most n i = go (ltb (i / form_count) n) refl
  where
    go : (b : Bool) → ltb (i / form_count) n ≡ b → cond b (i / form_count) n ≤ n
    go true e = omega (arith, ltb-true (i / form_count) n e)
    go false e = omega arith

-- a split that is allowed
module _ (plan : Plan) (form : Form) (t : Table) (n step : ℕ) where
  pub cost_is : (a b : ℕ) → a ≡ estimate n (first_holder plan) (first_part form t step) → b ≡ estimate n (second_holder plan) (second_part form t step)
      → leaves_by form a b ≡ cost_by (Some plan) form t n step
  cost_is a b p q = ap₂ (leaves_by form) p q

  pub cost_drop : (a : ℕ) → is_drop form ≡ true → a ≡ estimate n (first_holder plan) (first_part form t step) → a ≡ cost_by (Some plan) form t n step
  cost_drop a d p = sym (leaves_drop form a _ d) ∙ cost_is a _ p refl

-- what is not none
pub plain_is : Some Plain ≡ None → ⊥
plain_is e = cc

pub first_is_lem : Some First ≡ None → ⊥
first_is_lem e = cc

pub second_is : Some Second ≡ None → ⊥
second_is e = cc

cost_below : (plan : Plan) (form : Form) (t : Table) (n step : ℕ) → n ≤ most_groups → cost_by (Some plan) form t n step < never
cost_below plan form t n step h =
    let a = estimate n (first_holder plan) (first_part form t step) in
    let b = estimate n (second_holder plan) (second_part form t step) in
    let p : 2 ^ n ≤ 2 ^ most_groups = pow_mono h in
    omega (arith, leaves_most form a b, estimate_most n (first_holder plan) (first_part form t step), estimate_most n (second_holder plan) (second_part form t step))

-- a candidate by what was found of it
module _ (m : Holder) (t : Table) (n i : ℕ) {plan : Option Plan} {form : Form} {v : ℕ}
    (p : plan ≡ candidate_use m t n i) (q : form ≡ candidate_form i) (w : v ≡ candidate_variable n i) where
  pub cost_case : cost_by plan form t n (2 ^ v) ≡ cost m t n i
  unfolding cost
  cost_case = rw (p, q, w)

  pub split_case : (x : Plan) → plan ≡ Some x → ◌≡◌ {A = Split} (record { form = form; variable = v; plan = x }) (split_taken m t n i)
  unfolding split_taken
  split_case x e = rw (← p, e) (rw (q, w))

pub split_none : (m : Holder) (t : Table) (n i : ℕ) {plan : Option Plan} {form : Form} → plan ≡ candidate_use m t n i → plan ≡ None → form ≡ top_form m t
    → ◌≡◌ {A = Split} (record { form = form; variable = n; plan = Plain }) (split_taken m t n i)
unfolding split_taken
split_none m t n i p e q = rw (← p, e, q)

module _ (m : Holder) (t : Table) (n i : ℕ) where
  module _ {form : Form} {v : ℕ} (q : form ≡ candidate_form i) (w : v ≡ candidate_variable n i) where
    pub candidate_none : use_of m form t n v ≡ None → None ≡ candidate m t n i
    unfolding candidate_use
    candidate_none e = rw (← q, ← w, e)

    pub candidate_some : {plan : Plan} → use_of m form t n v ≡ Some plan → ◌≡◌ {A = Option Split} (Some (record { form = form; variable = v; plan = plan })) (candidate m t n i)
    unfolding candidate_use
    candidate_some e = rw (← q, ← w, e) (rw (q, w))

  -- and by what it costs
  pub cost_none : candidate m t n i ≡ None → cost m t n i ≡ never
  unfolding cost
  cost_none = go (candidate_use m t n i)
    where
      go : (u : Option Plan) → candidate_by u n i ≡ None → cost_by u (candidate_form i) t n (2 ^ candidate_variable n i) ≡ never
      go None e = refl
      go (Some p) e = cc

  pub cost_some : {s : Split} → candidate m t n i ≡ Some s → cost_by (Some s.plan) s.form t n (2 ^ s.variable) ≡ cost m t n i
  unfolding cost
  cost_some {s} = go (candidate_use m t n i)
    where
      go : (u : Option Plan) → candidate_by u n i ≡ Some s → cost_by (Some s.plan) s.form t n (2 ^ s.variable) ≡ cost_by u (candidate_form i) t n (2 ^ candidate_variable n i)
      go None e = cc
      go (Some p) e = cc

  pub cost_small : {s : Split} → n ≤ most_groups → candidate m t n i ≡ Some s → cost m t n i < never
  cost_small {s} h e = omega (arith, cost_below s.plan s.form t n (2 ^ s.variable) h, cost_some e)

  pub cost_most : n ≤ most_groups → cost m t n i ≤ never
  cost_most h = go (candidate m t n i) refl
    where
      go : (o : Option Split) → candidate m t n i ≡ o → cost m t n i ≤ never
      go None e = omega (arith, cost_none e)
      go (Some s) e = omega (arith, cost_small h e)

-- ---- the least number: one turn of the scan
pub least_start : (f : ℕ → ℕ) → least f 1 ≡ 0
unfolding least
least_start f = go (ltb (f 0) (f 0))
  where
    go : (b : Bool) → cond {A = ℕ} b 0 0 ≡ 0
    go true = refl
    go false = refl

pub least_new : (f : ℕ → ℕ) (i : ℕ) → f i < f (least f i) → least f (i + 1) ≡ i
unfolding least
least_new f i h = rw (add-one i, lt-ltb (f i) (f (least f i)) h)

pub least_old : (f : ℕ → ℕ) (i : ℕ) → f (least f i) ≤ f i → least f (i + 1) ≡ least f i
unfolding least
least_old f i h = rw (add-one i, le-ltb (f i) (f (least f i)) h)

-- the leaves after the best split, or more than any tree's where there is none
abbrev pub LeastIs : Option Split → ℕ → ℕ → Type 0
LeastIs None leaves c = never ≤ leaves
LeastIs (Some s) leaves c = leaves ≡ c

-- the best of the first i candidates
pub record Best (m : Holder) (t : Table) (n i : ℕ) (best : Option Split) (leaves : ℕ) : Type 0 where
  pub first : i ≡ 0 → best ≡ None
  pub is : 0 < i → best ≡ candidate m t n (least (cost m t n) i)
  pub least : LeastIs best leaves (cost m t n (least (cost m t n) i))

pub best_start : (m : Holder) (t : Table) (n leaves : ℕ) → never ≤ leaves → Best m t n 0 None leaves
best_start m t n leaves h = record { first = λ e. refl; is = λ l. absurd (omega arith); least = h }

best_was : (m : Holder) (t : Table) (n i : ℕ) {best : Option Split} {leaves : ℕ} → Best m t n i best leaves → candidate m t n i ≡ None → best ≡ candidate m t n (least (cost m t n) i)
unfolding least
best_was m t n zero B e = B.first refl ∙ sym e
best_was m t n (suc i) B e = B.is (omega arith)

best_is_new : (m : Holder) (t : Table) (n i : ℕ) (best : Option Split) {leaves : ℕ} {s : Split} → n ≤ most_groups → Best m t n i best leaves → candidate m t n i ≡ Some s
    → cost m t n i < leaves → least (cost m t n) (i + 1) ≡ i
best_is_new m t n zero best few B e h = least_start (cost m t n)
best_is_new m t n (suc i) None few B e h = least_new (cost m t n) (suc i) (omega (arith, cost_none m t n (least (cost m t n) (suc i)) (sym (B.is (omega arith))), cost_small m t n (suc i) few e))
best_is_new m t n (suc i) (Some x) few B e h = least_new (cost m t n) (suc i) (omega (arith, B.least))

module _ (m : Holder) (t : Table) (n i : ℕ) (few : n ≤ most_groups) {leaves : ℕ} where
  pub best_none : {best : Option Split} → Best m t n i best leaves → candidate m t n i ≡ None → Best m t n (i + 1) best leaves
  best_none {best} B e =
      let old = least_old (cost m t n) i (omega (arith, cost_none m t n i e, cost_most m t n (least (cost m t n) i) few)) in
      record {
        first = λ z. absurd (omega arith);
        is = λ z. best_was m t n i B e ∙ ap (candidate m t n) (sym old);
        least = subst (λ (j : ℕ). LeastIs best leaves (cost m t n j)) (sym old) B.least;
      }

  pub best_new : {best : Option Split} {s : Split} {c : ℕ} → Best m t n i best leaves → candidate m t n i ≡ Some s → c ≡ cost m t n i → c < leaves → Best m t n (i + 1) (Some s) c
  best_new {best} B e q h =
      let new = best_is_new m t n i best few B e (omega arith) in
      record { first = λ z. absurd (omega arith); is = λ z. sym e ∙ ap (candidate m t n) (sym new); least = q ∙ ap (cost m t n) (sym new) }

  pub best_old : (best : Option Split) {s : Split} {c : ℕ} → Best m t n i best leaves → candidate m t n i ≡ Some s → c ≡ cost m t n i → leaves ≤ c → Best m t n (i + 1) best leaves
  best_old None B e q h = absurd (omega (arith, B.least, cost_small m t n i few e))
  best_old (Some x) B e q h =
      let old = least_old (cost m t n) i (omega (arith, B.least)) in
      let pos : 0 < i = go i B.first in
      record { first = λ z. absurd (omega arith); is = λ z. B.is pos ∙ ap (candidate m t n) (sym old); least = B.least ∙ ap (cost m t n) (sym old) }
    where
      go : (k : ℕ) → (k ≡ 0 → Some x ≡ None) → 0 < k
      go zero f = let z = f refl in cc
      go (suc k) f = omega arith

pub choose_is : (m : Holder) (t : Table) (n i b : ℕ) → b ≡ least (cost m t n) i → i ≡ form_count * (n + 1) → b ≡ choose m t n
unfolding choose
choose_is m t n i b e q = e ∙ ap (least (cost m t n)) q

pub best_all : (m : Holder) (t : Table) (n i : ℕ) {best : Option Split} {leaves : ℕ} → Best m t n i best leaves → i ≡ form_count * (n + 1) → best ≡ candidate m t n (choose m t n)
unfolding choose
best_all m t n i B e = B.is (omega arith) ∙ ap (λ (k : ℕ). candidate m t n (least (cost m t n) k)) e
