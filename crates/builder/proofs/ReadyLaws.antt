-- Every split that is taken is allowed: it leaves tables that trees can be built for, and room.
use mathlib.Core.Path.{◌≡◌, refl, sym, ap, ap₂, subst, ◌∙◌}
use mathlib.Core.Bool.{Bool, true, false, cond, ◌&&◌, false≢true}
use mathlib.Core.Logic.{◌⊎◌, inl, inr}
use mathlib.Core.List.{List, [], ◌∷◌, ◌++◌, append_assoc, append-nil}
use mathlib.Core.Option.{Option, some}
use Prim.Native.Nat.{ℕ, zero, suc, ◌+◌, ◌-◌, ◌*◌, ◌^◌, ◌<◌, ◌≤◌}
use native.Mathlib.Omega.{arith}
use lib.Pow.{pow_pos}
use lib.Dec.{eqb, ltb}
use borrow.Author.Tests.{ne_eqb, ltb-true, ltb-false}
use lib.ListN.{length, get_or, take, drop, length-append, drop_of_length-le, get_or-append, get_or-eq_default}
use lib.Seq.{get_or_at, take-append_seam, take-append-le, drop-append-le}
use Rattle.tree.specs.Tree.{Tree, leaf, is_group, is_in}
use Rattle.tree.proofs.TreeLaws.{or_cases, is_in_append, in_left, in_right}
use Rattle.tree.proofs.GroupLaws.{is_in_here, in_later}
use Rattle.forms.specs.InnerForms.{free, first_row, second_row}
use Rattle.free_tables.specs.InnerTables.{Table, half, row_at, low_row, at_pair, split_by, first_part, second_part, usable}
use Rattle.forms.specs.declared.Row.{Row}
use Rattle.forms.specs.declared.Form.{Form}
use Rattle.forms.specs.declared.Form.TheVariants.{Drop, Less, Plus, ReducedPlus, JoinedLess, LessOutside, ReducedUnion, JoinedDifference}
use Rattle.forms.proofs.TestLaws.{both}
use Rattle.forms.proofs.FormLaws.{leaf_count, consistent_rows}
use Rattle.table.proofs.TableLaws.{length_tabulate}
use Rattle.forms.proofs.HolderLaws.{keeps_once}
use Rattle.splits.specs.InnerSplits.{form_count, form_of, is_drop, keeps_holder, allowed_top, first_top, first_holder, second_holder, split_taken}
use Rattle.splits.specs.declared.Holder.{Holder}
use Rattle.splits.specs.declared.Holder.TheVariants.{Absent, Dropped, Held}
use Rattle.splits.specs.declared.Plan.{Plan}
use Rattle.splits.specs.declared.Plan.TheVariants.{Plain, First, Second}
use Rattle.splits.specs.declared.Split.{Split}
use Rattle.builder.specs.InnerBuilding.{single, variable_tree, without, most_built, most_for, most_formed, Variables, HolderReady, Buildable, HolderTree}
use Rattle.builder.proofs.JoinLaws.{group_holds, single_leaf}
use Rattle.builder.proofs.RowLaws.{around, without_counts, split_row, half_rows, split_rows, may_use_lem, usable_by, low_zero}
use Rattle.builder.proofs.TakenLaws.{first_allowed, some_allowed, BelowSays, Top, Taken, is_taken}

-- the nodes of a variable's tree, with a holder of z nodes
abbrev pub variable_size : ℕ → ℕ → ℕ
variable_size z x = cond (eqb x 0) z 1

-- a split s of a table t over the variables gs
pub record SplitBuildable (m : Holder) (t : Table) (gs : List ℕ) (s : Split) : Type 0 where
  pub below : s.variable < length gs
  pub may : usable s.form t (2 ^ s.variable) ≡ true
  pub variable : (get_or gs s.variable 0 ≡ 0) ⊎ (is_group (get_or gs s.variable 0) ≡ true)
  pub tree : (h : Option Tree) → HolderTree m h → (x : Tree) × (variable_tree h (get_or gs s.variable 0) ≡ some x)
  pub holders : (h : Option Tree) → HolderTree m h → HolderTree (first_holder s.plan) h × HolderTree (second_holder s.plan) h
  pub first : Buildable (first_holder s.plan) (first_part s.form t (2 ^ s.variable)) (without s.variable gs)
  pub second : Buildable (second_holder s.plan) (second_part s.form t (2 ^ s.variable)) (without s.variable gs)
  pub room : (n z : ℕ) → length gs ≡ suc n
      → most_formed s.form (variable_size z (get_or gs s.variable 0)) (most_for (first_holder s.plan) n z) (most_for (second_holder s.plan) n z) ≤ most_for m (suc n) z

-- ---- how large a form's tree is
formed_most : (form : Form) (x a b : ℕ) → most_formed form x a b ≤ a + (x + x) + b + 3
formed_most Drop x a b = omega arith
formed_most Less x a b = omega arith
formed_most Plus x a b = omega arith
formed_most ReducedPlus x a b = omega arith
formed_most JoinedLess x a b = omega arith
formed_most LessOutside x a b = omega arith
formed_most ReducedUnion x a b = omega arith
formed_most JoinedDifference x a b = omega arith

once_most : (form : Form) (x a b : ℕ) → leaf_count form ≡ 1 → most_formed form x a b ≤ a + x + b + 2
once_most Drop x a b e = absurd (omega arith)
once_most Less x a b e = omega arith
once_most Plus x a b e = omega arith
once_most ReducedPlus x a b e = absurd (omega arith)
once_most JoinedLess x a b e = absurd (omega arith)
once_most LessOutside x a b e = omega arith
once_most ReducedUnion x a b e = omega arith
once_most JoinedDifference x a b e = omega arith

dropped_most : (form : Form) (x a b : ℕ) → is_drop form ≡ true → most_formed form x a b ≡ a
dropped_most Drop x a b e = refl
dropped_most Less x a b e = absurd (false≢true e)
dropped_most Plus x a b e = absurd (false≢true e)
dropped_most ReducedPlus x a b e = absurd (false≢true e)
dropped_most JoinedLess x a b e = absurd (false≢true e)
dropped_most LessOutside x a b e = absurd (false≢true e)
dropped_most ReducedUnion x a b e = absurd (false≢true e)
dropped_most JoinedDifference x a b e = absurd (false≢true e)

-- ---- the variables without one
module _ (gs : List ℕ) (v : ℕ) (h : v < length gs) where
  pub in_without : (g : ℕ) → is_in (without v gs) g ≡ true → is_in gs g ≡ true
  in_without g e =
      ap (λ (ys : List ℕ). is_in ys g) (around gs v h)
      ∙ or_cases (is_in (take v gs) g) (is_in (drop (v + 1) gs) g) (sym (is_in_append (take v gs) (drop (v + 1) gs) g) ∙ e)
      (λ a. in_left (take v gs) (get_or gs v 0 ∷ drop (v + 1) gs) g a)
      (λ b. in_right (take v gs) (get_or gs v 0 ∷ drop (v + 1) gs) g (in_later (get_or gs v 0) (drop (v + 1) gs) g b))

  pub variable_in : is_in gs (get_or gs v 0) ≡ true
  variable_in = ap (λ (ys : List ℕ). is_in ys (get_or gs v 0)) (around gs v h) ∙ in_right (take v gs) (get_or gs v 0 ∷ drop (v + 1) gs) (get_or gs v 0) (is_in_here (get_or gs v 0) (drop (v + 1) gs))

-- the holder is the last
module _ (us : List ℕ) where
  pub last_variable : get_or (us ++ (0 ∷ [])) (length us) 0 ≡ 0
  last_variable = get_or_at us 0 [] 0 (length us) refl

  pub without_last : without (length us) (us ++ (0 ∷ [])) ≡ us
  without_last =
      ap₂ ◌++◌ (take-append_seam us (0 ∷ [])) (drop_of_length-le (us ++ (0 ∷ [])) (let z : length (us ++ (0 ∷ [])) ≤ length us + 1 = omega (arith, length-append us (0 ∷ [])) in z)) ∙ append-nil us

  pub without_below : (v : ℕ) → v < length us → without v (us ++ (0 ∷ [])) ≡ without v us ++ (0 ∷ [])
  without_below v h =
      ap₂ ◌++◌ (take-append-le v us (0 ∷ []) (omega arith)) (drop-append-le (v + 1) us (0 ∷ []) (omega arith)) ∙ sym (append_assoc (take v us) (drop (v + 1) us) (0 ∷ []))

-- ---- some form may split the highest variable
top_usable : (m : Holder) (form : Form) (t : Table) → allowed_top m form t ≡ true → usable form t (half t) ≡ true
top_usable Absent form t e = e
top_usable Dropped form t e = (both _ _ e).0
top_usable Held form t e = (both _ _ e).0

module _ (t : Table) (zero_row : (row_at t 0).on ≡ false) (ok : (i : ℕ) → ((row_at t i).on && (row_at t i).off) ≡ false) where
  start : (row_at t (low_row (half t) 0)).on ≡ false
  start = ap (λ (i : ℕ). (row_at t i).on) (low_zero (half t)) ∙ zero_row

  absent_top : first_top Absent t < form_count
  absent_top = go (row_at t (low_row (half t) 0 + half t)).on refl
    where
      go : (b : Bool) → (row_at t (low_row (half t) 0 + half t)).on ≡ b → first_top Absent t < form_count
      go true e = some_allowed Absent t 3 (omega arith) (usable_by (record { pairs = λ r h. refl; first = start; second = sym (ap (λ (b : Bool). b && (row_at t (low_row (half t) 0 + half t)).off) e) ∙ ok (low_row (half t) 0 + half t) }))
      go false e = some_allowed Absent t 4 (omega arith) (usable_by (record { pairs = λ r h. refl; first = start; second = e }))

pub top_may : {m : Holder} {t : Table} {gs : List ℕ} → Buildable m t gs → allowed_top m (form_of (first_top m t)) t ≡ true
top_may {m} {t} {gs} r = first_allowed m t (go m r.holder)
  where
    go : (k : Holder) → HolderReady k t → first_top k t < form_count
    go Absent h = absent_top t r.first r.consistent
    go Dropped h = some_allowed Dropped t 0 (omega arith) (rw h)
    go Held h = ltb-true _ _ h

-- ---- the parts
module _ (f : Row → Row → Row) (t : Table) (step : ℕ) where
  split_first : 0 < half t → (at_pair f t step 0).on ≡ false → (row_at (split_by f t step) 0).on ≡ false
  split_first h e = ap (λ (x : Row). x.on) (split_row f t step 0 h) ∙ e

  split_consistent : ((r : ℕ) → r < half t → ((at_pair f t step r).on && (at_pair f t step r).off) ≡ false) → (i : ℕ)
      → ((row_at (split_by f t step) i).on && (row_at (split_by f t step) i).off) ≡ false
  split_consistent h i = go (ltb i (half t)) refl
    where
      go : (b : Bool) → ltb i (half t) ≡ b → ((row_at (split_by f t step) i).on && (row_at (split_by f t step) i).off) ≡ false
      go true e = let l = ltb-true i (half t) e in ap (λ (x : Row). x.on && x.off) (split_row f t step i l) ∙ h i l
      go false e =
          let l : half t ≤ i = ltb-false i (half t) e in
          ap (λ (x : Row). x.on && x.off) (get_or-eq_default (split_by f t step) free (omega (arith, length_tabulate (at_pair f t step) (half t) 0)))

module _ {m : Holder} {t : Table} {gs : List ℕ} (n : ℕ) (e : length gs ≡ suc n) (r : Buildable m t gs) where
  all_rows : length t ≡ 2 ^ suc n
  all_rows = r.rows ∙ ap (λ (k : ℕ). 2 ^ k) e

  some_row : 0 < half t
  some_row = omega (arith, half_rows t n all_rows, pow_pos n)

  module _ (form : Form) (v : ℕ) (below : v < length gs) (may : usable form t (2 ^ v) ≡ true) (k : Holder) (vs : Variables k (without v gs)) where
    rows : (i : ℕ) → i < half t → (((at_pair (first_row form) t (2 ^ v) i).on && (at_pair (first_row form) t (2 ^ v) i).off) ≡ false)
        × (((at_pair (second_row form) t (2 ^ v) i).on && (at_pair (second_row form) t (2 ^ v) i).off) ≡ false)
    rows i h = consistent_rows form (row_at t (low_row (2 ^ v) i)) (row_at t (low_row (2 ^ v) i + 2 ^ v)) ((may_use_lem may).pairs i h) (r.consistent (low_row (2 ^ v) i)) (r.consistent (low_row (2 ^ v) i + 2 ^ v))

    first_ready : HolderReady k (first_part form t (2 ^ v)) → Buildable k (first_part form t (2 ^ v)) (without v gs)
    unfolding first_part
    first_ready h = record {
      rows = split_rows (first_row form) t (2 ^ v) n all_rows ∙ ap (λ (k : ℕ). 2 ^ k) (sym (without_counts gs v below n e));
      first = split_first (first_row form) t (2 ^ v) some_row (may_use_lem may).first;
      consistent = split_consistent (first_row form) t (2 ^ v) (λ i l. (rows i l).0);
      variables = vs;
      holder = h;
    }

    second_ready : HolderReady k (second_part form t (2 ^ v)) → Buildable k (second_part form t (2 ^ v)) (without v gs)
    unfolding second_part
    second_ready h = record {
      rows = split_rows (second_row form) t (2 ^ v) n all_rows ∙ ap (λ (k : ℕ). 2 ^ k) (sym (without_counts gs v below n e));
      first = split_first (second_row form) t (2 ^ v) some_row (may_use_lem may).second;
      consistent = split_consistent (second_row form) t (2 ^ v) (λ i l. (rows i l).1);
      variables = vs;
      holder = h;
    }

-- ---- the variables of the parts
abbrev AreGroups : List ℕ → Type 0
AreGroups us = (g : ℕ) → is_in us g ≡ true → is_group g ≡ true

pub group_not_zero : (x : ℕ) → is_group x ≡ true → eqb x 0 ≡ false
group_not_zero x h = ne_eqb x 0 (λ e. false≢true (sym (ap is_group e) ∙ h))

last_groups : (us gs : List ℕ) (n : ℕ) → length gs ≡ suc n → gs ≡ us ++ (0 ∷ []) → AreGroups us → AreGroups (without n gs)
last_groups us gs n e q vs =
    let l : n ≡ length us = omega (arith, ap length q, length-append us (0 ∷ [])) in
    subst AreGroups (sym (ap₂ without l q ∙ without_last us)) vs

last_zero : (us gs : List ℕ) (n : ℕ) → length gs ≡ suc n → gs ≡ us ++ (0 ∷ []) → get_or gs n 0 ≡ 0
last_zero us gs n e q =
    let l : n ≡ length us = omega (arith, ap length q, length-append us (0 ∷ [])) in
    ap₂ (λ (ys : List ℕ) (k : ℕ). get_or ys k 0) q l ∙ last_variable us

top_variables : (m : Holder) (gs : List ℕ) (n : ℕ) → length gs ≡ suc n → Variables m gs → AreGroups (without n gs)
top_variables Absent gs n e vs = λ g q. vs g (in_without gs n (omega arith) g q)
top_variables Dropped gs n e (us, q, vs) = last_groups us gs n e q vs
top_variables Held gs n e (us, q, vs) = last_groups us gs n e q vs

below_variables : (gs us : List ℕ) (n v : ℕ) → length gs ≡ suc n → v < n → gs ≡ us ++ (0 ∷ []) → AreGroups us
    → (ys : List ℕ) × (without v gs ≡ ys ++ (0 ∷ [])) × AreGroups ys
below_variables gs us n v e h q vs =
    let l : v < length us = omega (arith, ap length q, length-append us (0 ∷ [])) in
    (without v us, ap (without v) q ∙ without_below us v l, λ g w. vs g (in_without us v l g w))

-- the variable itself: a group, or the holder
abbrev Kind : Holder → ℕ → ℕ → Type 0
Kind Absent x z = is_group x ≡ true
Kind Dropped x z = x ≡ z
Kind Held x z = x ≡ z

top_kind : (m : Holder) (gs : List ℕ) (n : ℕ) → length gs ≡ suc n → Variables m gs → Kind m (get_or gs n 0) 0
top_kind Absent gs n e vs = vs (get_or gs n 0) (variable_in gs n (omega arith))
top_kind Dropped gs n e (us, q, vs) = last_zero us gs n e q
top_kind Held gs n e (us, q, vs) = last_zero us gs n e q

below_group : (gs us : List ℕ) (n v : ℕ) → length gs ≡ suc n → v < n → gs ≡ us ++ (0 ∷ []) → AreGroups us → is_group (get_or gs v 0) ≡ true
below_group gs us n v e h q vs =
    let l : v < length us = omega (arith, ap length q, length-append us (0 ∷ [])) in
    ap (λ (ys : List ℕ). is_group (get_or ys v 0)) q ∙ ap is_group (get_or-append us (0 ∷ []) 0 v l) ∙ vs (get_or us v 0) (variable_in us v l)

-- ---- what the variable's kind says
kind_either : (m : Holder) (x : ℕ) → Kind m x 0 → (x ≡ 0) ⊎ (is_group x ≡ true)
kind_either Absent x k = inr k
kind_either Dropped x k = inl k
kind_either Held x k = inl k

pub group_tree : (h : Option Tree) (x : ℕ) → is_group x ≡ true → (y : Tree) × (variable_tree h x ≡ some y)
group_tree h x e = (leaf x (group_holds x e), ap (λ (b : Bool). cond b h (single x)) (group_not_zero x e) ∙ single_leaf x e)

kind_tree : (m : Holder) (x : ℕ) → Kind m x 0 → (h : Option Tree) → HolderTree m h → (y : Tree) × (variable_tree h x ≡ some y)
kind_tree Absent x k h q = group_tree h x k
kind_tree Dropped x k h (y, q) = (y, ap (variable_tree h) k ∙ q)
kind_tree Held x k h (y, q) = (y, ap (variable_tree h) k ∙ q)

size_one : (z x : ℕ) → is_group x ≡ true → variable_size z x ≡ 1
size_one z x e = ap (λ (b : Bool). cond b z 1) (group_not_zero x e)

-- ---- room
pub less_one : (k : ℕ) → most_built (suc k - 1) ≡ most_built k
less_one k = ap most_built (let e : suc k - 1 ≡ k = omega arith in e)

group_room : (form : Form) (k z x : ℕ) → is_group x ≡ true → most_formed form (variable_size z x) (most_built k) (most_built k) ≤ most_built (suc k)
unfolding most_built
group_room form k z x q = omega (arith, formed_most form (variable_size z x) (most_built k) (most_built k), size_one z x q)

top_room : (m : Holder) (form : Form) (t : Table) (k z x : ℕ) → Kind m x 0 → allowed_top m form t ≡ true
    → most_formed form (variable_size z x) (most_built k) (most_built k) ≤ most_for m (suc k) z
unfolding most_built
top_room Absent form t k z x q a = group_room form k z x q
top_room Dropped form t k z x q a = omega (arith, dropped_most form (variable_size z x) (most_built k) (most_built k) (both (usable form t (half t)) (is_drop form) a).1, less_one k)
top_room Held form t k z x q a = omega (arith, once_most form (variable_size z x) (most_built k) (most_built k) (keeps_once form _ _ (both (usable form t (half t)) (keeps_holder form t) a).1), ap (variable_size z) q, less_one k)

below_room : (form : Form) (j z x a b : ℕ) → is_group x ≡ true → a + b ≤ z + 3 * most_built j + 2 → most_formed form (variable_size z x) a b ≤ most_for Held (suc (suc j)) z
unfolding most_built
below_room form j z x a b q h = omega (arith, formed_most form (variable_size z x) a b, size_one z x q, less_one (suc j))

beside_room : (form : Form) (n k v z x : ℕ) → v < n → suc k ≡ suc n → is_group x ≡ true
    → (most_formed form (variable_size z x) (most_for Held k z) (most_for Dropped k z) ≤ most_for Held (suc k) z)
    × (most_formed form (variable_size z x) (most_for Dropped k z) (most_for Held k z) ≤ most_for Held (suc k) z)
beside_room form n zero v z x h e q = absurd (omega arith)
beside_room form n (suc j) v z x h e q = (
  below_room form j z x (most_for Held (suc j) z) (most_for Dropped (suc j) z) q (omega (arith, less_one j)),
  below_room form j z x (most_for Dropped (suc j) z) (most_for Held (suc j) z) q (omega (arith, less_one j)),
)

-- ---- the split
module _ {m : Holder} {t : Table} {gs : List ℕ} (n : ℕ) (e : length gs ≡ suc n) (r : Buildable m t gs) where
  top_ready : (s : Split) → Top m t n s → SplitBuildable m t gs s
  top_ready s T =
      let b : s.variable < length gs = omega (arith, T.at) in
      let may : usable s.form t (2 ^ s.variable) ≡ true
      = subst (λ (k : ℕ). usable s.form t k ≡ true) (half_rows t n (all_rows n e r) ∙ ap (λ (k : ℕ). 2 ^ k) (sym T.at)) (top_usable m s.form t T.may) in
      let vs : AreGroups (without s.variable gs) = subst (λ (k : ℕ). AreGroups (without k gs)) (sym T.at) (top_variables m gs n e r.variables) in
      let kind : Kind m (get_or gs s.variable 0) 0 = subst (λ (k : ℕ). Kind m (get_or gs k 0) 0) (sym T.at) (top_kind m gs n e r.variables) in
      record {
        below = b;
        may = may;
        variable = kind_either m (get_or gs s.variable 0) kind;
        tree = kind_tree m (get_or gs s.variable 0) kind;
        holders = λ h q. subst (λ (u : Plan). HolderTree (first_holder u) h × HolderTree (second_holder u) h) (sym T.plain) (tt, tt);
        first = subst (λ (u : Plan). Buildable (first_holder u) (first_part s.form t (2 ^ s.variable)) (without s.variable gs)) (sym T.plain)
            (first_ready n e r s.form s.variable b may Absent vs tt);
        second = subst (λ (u : Plan). Buildable (second_holder u) (second_part s.form t (2 ^ s.variable)) (without s.variable gs)) (sym T.plain)
            (second_ready n e r s.form s.variable b may Absent vs tt);
        room = λ k z q. subst (λ (u : Plan). most_formed s.form (variable_size z (get_or gs s.variable 0)) (most_for (first_holder u) k z) (most_for (second_holder u) k z) ≤ most_for m (suc k) z)
            (sym T.plain) (top_room m s.form t k z (get_or gs s.variable 0) kind T.may);
      }

  below_by : (form : Form) (v : ℕ) → v < n → (u : Plan) → BelowSays m form t (2 ^ v) u → SplitBuildable m t gs (record { form = form; variable = v; plan = u })
  below_by form v h Plain (p, may) =
      let l : v < length gs = omega arith in
      let groups : AreGroups gs = subst (λ (k : Holder). Variables k gs) p r.variables in
      let vs : AreGroups (without v gs) = λ g q. groups g (in_without gs v l g q) in
      let g : is_group (get_or gs v 0) ≡ true = groups (get_or gs v 0) (variable_in gs v l) in
      record {
        below = l;
        may = may;
        variable = inr g;
        tree = λ h q. group_tree h (get_or gs v 0) g;
        holders = λ h q. (tt, tt);
        first = first_ready n e r form v l may Absent vs tt;
        second = second_ready n e r form v l may Absent vs tt;
        room = λ k z q. subst (λ (x : Holder). most_formed form (variable_size z (get_or gs v 0)) (most_built k) (most_built k) ≤ most_for x (suc k) z) (sym p) (group_room form k z (get_or gs v 0) g);
      }
  below_by form v h First (p, may, d, a) =
      let l : v < length gs = omega arith in
      let vars = subst (λ (k : Holder). Variables k gs) p r.variables in
      let rest = below_variables gs vars.0 n v e h vars.1 vars.2 in
      let g = below_group gs vars.0 n v e h vars.1 vars.2 in
      record {
        below = l;
        may = may;
        variable = inr g;
        tree = λ h q. group_tree h (get_or gs v 0) g;
        holders = λ h q. let z = subst (λ (k : Holder). HolderTree k h) p q in (z, z);
        first = first_ready n e r form v l may Held rest a;
        second = second_ready n e r form v l may Dropped rest d;
        room = λ k z q. subst (λ (x : Holder). most_formed form (variable_size z (get_or gs v 0)) (most_for Held k z) (most_for Dropped k z) ≤ most_for x (suc k) z) (sym p)
            (beside_room form n k v z (get_or gs v 0) h (sym q ∙ e) g).0;
      }
  below_by form v h Second (p, may, d, a, stays) =
      let l : v < length gs = omega arith in
      let vars = subst (λ (k : Holder). Variables k gs) p r.variables in
      let rest = below_variables gs vars.0 n v e h vars.1 vars.2 in
      let g = below_group gs vars.0 n v e h vars.1 vars.2 in
      record {
        below = l;
        may = may;
        variable = inr g;
        tree = λ h q. group_tree h (get_or gs v 0) g;
        holders = λ h q. let z = subst (λ (k : Holder). HolderTree k h) p q in (z, z);
        first = first_ready n e r form v l may Dropped rest (both _ _ d).0;
        second = second_ready n e r form v l may Held rest a;
        room = λ k z q. subst (λ (x : Holder). most_formed form (variable_size z (get_or gs v 0)) (most_for Dropped k z) (most_for Held k z) ≤ most_for x (suc k) z) (sym p)
            (beside_room form n k v z (get_or gs v 0) h (sym q ∙ e) g).1;
      }

  taken_ready : (s : Split) → Taken m t n s → SplitBuildable m t gs s
  taken_ready s (inl T) = top_ready s T
  taken_ready s (inr B) = below_by s.form s.variable B.less s.plan B.says

pub split_buildable : {m : Holder} {t : Table} {gs : List ℕ} (n i : ℕ) → length gs ≡ suc n → Buildable m t gs → SplitBuildable m t gs (split_taken m t n i)
split_buildable {m} {t} n i e r = taken_ready n e r (split_taken m t n i) (is_taken m t n i (top_may r))
