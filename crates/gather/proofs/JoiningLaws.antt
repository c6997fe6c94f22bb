-- The tables of the columns: a tree can be built for each, and what it selects.
use mathlib.Core.Path.{◌≡◌, refl, sym, ap, ap₂, ◌∙◌}
use mathlib.Core.Bool.{Bool, true, false, not, cond, ◌&&◌, false≢true}
use mathlib.Core.List.{List, [], ◌∷◌, ◌++◌}
use mathlib.Core.Option.{Option}
use Prim.Native.Nat.{ℕ, suc, ◌+◌, ◌-◌, ◌*◌, ◌%◌, ◌^◌, ◌<◌, ◌≤◌}
use native.Mathlib.Nat.{mod-eq_of_lt, pow-suc, mul-one, mul-zero}
use native.Mathlib.Omega.{arith}
use lib.Pow.{pow_pos}
use lib.Dec.{ltb}
use borrow.Author.Tests.{lt-ltb, le-ltb, ltb-true, ltb-false}
use lib.ListN.{length, length-append, get_or-eq_default}
use Rattle.tree.specs.Tree.{Tree, is_group, is_in}
use Rattle.table.proofs.TableLaws.{row_of, row_below, row_agree, row_append, tabulate_at, length_tabulate}
use Rattle.forms.specs.InnerForms.{free, may_use, first_row, second_row}
use Rattle.free_tables.specs.InnerTables.{Table, row_at, low_row, half, at_pair, first_part, second_part, usable, some_on}
use Rattle.forms.specs.declared.Row.{Row}
use Rattle.forms.specs.declared.Form.{Form}
use Rattle.forms.specs.declared.Form.TheVariants.{Less, Plus, LessOutside}
use Rattle.splits.specs.InnerSplits.{form_count, form_of, keeps_holder, first_top, can_hold}
use Rattle.splits.specs.declared.Holder.{Holder}
use Rattle.splits.specs.declared.Holder.TheVariants.{Absent, Held}
use Rattle.builder.specs.InnerBuilding.{build, Buildable}
use Rattle.builder.proofs.JoinLaws.{selects_optional}
use Rattle.forms.proofs.FormLaws.{fits}
use Rattle.builder.proofs.RowLaws.{split_row, half_rows, split_rows, usable_by, some_on_lem}
use Rattle.builder.proofs.TakenLaws.{some_allowed}
use Rattle.builder.proofs.ReadyLaws.{group_not_zero}
use Rattle.builder.proofs.BuildLaws.{filled, build_agrees}
use Rattle.columns.specs.InnerJoining.{exact_row, exact_table, held_row, held_table}

-- ---- exact tables
not_both : (b : Bool) → (b && not b) ≡ false
not_both true = refl
not_both false = refl

fits_exact : (b x : Bool) → fits (exact_row b) x ≡ true → x ≡ b
fits_exact true true e = refl
fits_exact true false e = absurd (false≢true e)
fits_exact false true e = absurd (false≢true e)
fits_exact false false e = refl

module _ (f : ℕ → Bool) (count : ℕ) where
  exact_row_lem : (i : ℕ) → i < count → row_at (exact_table f count) i ≡ exact_row (f i)
  exact_row_lem i h = tabulate_at (λ k. exact_row (f k)) count 0 i free h ∙ ap (λ (k : ℕ). exact_row (f k)) (omega arith)

  exact_consistent : (i : ℕ) → ((row_at (exact_table f count) i).on && (row_at (exact_table f count) i).off) ≡ false
  exact_consistent i = go (ltb i count) refl
    where
      go : (b : Bool) → ltb i count ≡ b → ((row_at (exact_table f count) i).on && (row_at (exact_table f count) i).off) ≡ false
      go true e = ap (λ (x : Row). x.on && x.off) (exact_row_lem i (ltb-true i count e)) ∙ not_both (f i)
      go false e =
          let l : count ≤ i = ltb-false i count e in
          ap (λ (x : Row). x.on && x.off) (get_or-eq_default (exact_table f count) free (omega (arith, length_tabulate (λ k. exact_row (f k)) count 0)))

  exact_first : 0 < count → f 0 ≡ false → (row_at (exact_table f count) 0).on ≡ false
  exact_first h e = ap (λ (x : Row). x.on) (exact_row_lem 0 h) ∙ e

-- a table over groups
pub plain_buildable : (f : ℕ → Bool) (gs : List ℕ) → ((g : ℕ) → is_in gs g ≡ true → is_group g ≡ true) → f 0 ≡ false → Buildable Absent (exact_table f (2 ^ length gs)) gs
plain_buildable f gs groups e = record {
  rows = length_tabulate (λ k. exact_row (f k)) (2 ^ length gs) 0;
  first = exact_first f (2 ^ length gs) (pow_pos (length gs)) e;
  consistent = exact_consistent f (2 ^ length gs);
  variables = groups;
  holder = tt;
}

filled_row : (v : ℕ → Bool) (h : Option Tree) (gs : List ℕ) → ((g : ℕ) → is_in gs g ≡ true → is_group g ≡ true) → row_of (filled v h) gs ≡ row_of v gs
filled_row v h gs groups = row_agree (filled v h) v gs (λ g q. ap (λ (b : Bool). cond b (selects_optional v h) (v g)) (group_not_zero g (groups g q)))

-- its tree selects by it
pub plain_selects : (f : ℕ → Bool) (gs : List ℕ) (groups : (g : ℕ) → is_in gs g ≡ true → is_group g ≡ true) → f 0 ≡ false → (choice : Holder → Table → ℕ → ℕ) (h : Option Tree) (v : ℕ → Bool)
    → selects_optional v (build choice (length gs) Absent (exact_table f (2 ^ length gs)) gs h) ≡ f (row_of v gs)
plain_selects f gs groups e choice h v =
    let row : row_of (filled v h) gs ≡ row_of v gs = filled_row v h gs groups in
    fits_exact (f (row_of v gs)) _
    (ap (λ (x : Row). fits x (selects_optional v (build choice (length gs) Absent (exact_table f (2 ^ length gs)) gs h)))
    (sym (exact_row_lem f (2 ^ length gs) (row_of v gs) (row_below v gs)) ∙ ap (row_at (exact_table f (2 ^ length gs))) (sym row))
    ∙ build_agrees v h choice (length gs) refl (plain_buildable f gs groups e))

pub plain_some_on : (f : ℕ → Bool) (count i : ℕ) → i < count → f i ≡ true → some_on (exact_table f count) ≡ true
plain_some_on f count i h e = some_on_lem (exact_table f count) i (omega (arith, length_tabulate (λ k. exact_row (f k)) count 0)) (ap (λ (x : Row). x.on) (exact_row_lem f count i h) ∙ e)

-- ---- the table with the holder
both_true : (a b : Bool) → a ≡ true → b ≡ true → (a && b) ≡ true
both_true a b e f = rw (e, f)

false_by : (a b : Bool) → (b ≡ true → a ≡ true) → a ≡ false → b ≡ false
false_by a true h e = absurd (false≢true (sym e ∙ h refl))
false_by a false h e = refl

less_may : (a b : Bool) → (b ≡ true → a ≡ true) → may_use Less (exact_row a) (exact_row b) ≡ true
less_may true b h = refl
less_may false true h = h refl
less_may false false h = refl

plus_may : (a b : Bool) → (a ≡ true → b ≡ true) → may_use Plus (exact_row a) (exact_row b) ≡ true
plus_may true true h = refl
plus_may true false h = h refl
plus_may false b h = refl

module _ (Ta : ℕ → Bool) (ms us : List ℕ) (p : ℕ) where
  abbrev w : ℕ
  w = 2 ^ length ms

  abbrev n : ℕ
  n = 2 ^ length us

  abbrev held : Table
  held = held_table Ta ms us p

  held_rows : length held ≡ 2 ^ suc (length us)
  held_rows = length_tabulate (λ k. exact_row (held_row Ta ms us p k)) (2 ^ suc (length us)) 0

  half_held : half held ≡ n
  half_held = half_rows held (length us) held_rows

  low_value : (r : ℕ) → r < n → held_row Ta ms us p r ≡ Ta (w * r)
  low_value r h = ap (λ (b : Bool). Ta (cond b (w * r) (w * (r - n) + p))) (lt-ltb r n h)

  high_value : (r : ℕ) → held_row Ta ms us p (r + n) ≡ Ta (w * r + p)
  high_value r = ap (λ (b : Bool). Ta (cond b (w * (r + n)) (w * (r + n - n) + p))) (le-ltb (r + n) n (omega arith)) ∙ ap (λ (k : ℕ). Ta (w * k + p)) (let e : r + n - n ≡ r = omega arith in e)

  -- the two rows of a column
  held_pair : {A : Type 0} (f : Row → Row → A) (r : ℕ) → r < n → at_pair f held (half held) r ≡ f (exact_row (Ta (w * r))) (exact_row (Ta (w * r + p)))
  held_pair f r h =
      let m : r % n ≡ r = mod-eq_of_lt h in
      let l : low_row (half held) r ≡ r = ap (λ (k : ℕ). low_row k r) half_held ∙ omega arith in
      let u : low_row (half held) r + half held ≡ r + n = ap₂ ◌+◌ l half_held in
      ap₂ f
      (ap (row_at held) l ∙ exact_row_lem (held_row Ta ms us p) (2 ^ suc (length us)) r (omega (arith, pow-suc 2 (length us))) ∙ ap exact_row (low_value r h))
      (ap (row_at held) u ∙ exact_row_lem (held_row Ta ms us p) (2 ^ suc (length us)) (r + n) (omega (arith, pow-suc 2 (length us))) ∙ ap exact_row (high_value r))

  first_on : (form : Form) (r : ℕ) → r < n → (first_row form (exact_row (Ta (w * r))) (exact_row (Ta (w * r + p)))).on ≡ true → some_on (first_part form held (half held)) ≡ true
  unfolding first_part
  first_on form r h e = some_on_lem (first_part form held (half held)) r (omega (arith, split_rows (first_row form) held (half held) (length us) held_rows))
      (ap (λ (x : Row). x.on) (split_row (first_row form) held (half held) r (omega (arith, half_held)) ∙ held_pair (first_row form) r h) ∙ e)

  second_on : (form : Form) (r : ℕ) → r < n → (second_row form (exact_row (Ta (w * r))) (exact_row (Ta (w * r + p)))).on ≡ true → some_on (second_part form held (half held)) ≡ true
  unfolding second_part
  second_on form r h e = some_on_lem (second_part form held (half held)) r (omega (arith, split_rows (second_row form) held (half held) (length us) held_rows))
      (ap (λ (x : Row). x.on) (split_row (second_row form) held (half held) r (omega (arith, half_held)) ∙ held_pair (second_row form) r h) ∙ e)

  usable_held : (form : Form) → ((r : ℕ) → r < n → may_use form (exact_row (Ta (w * r))) (exact_row (Ta (w * r + p))) ≡ true)
      → (first_row form (exact_row (Ta (w * 0))) (exact_row (Ta (w * 0 + p)))).on ≡ false → (second_row form (exact_row (Ta (w * 0))) (exact_row (Ta (w * 0 + p)))).on ≡ false
      → usable form held (half held) ≡ true
  usable_held form pairs a b = usable_by (record {
    pairs = λ r h. let l : r < n = omega (arith, half_held) in held_pair (may_use form) r l ∙ pairs r l;
    first = ap (λ (x : Row). x.on) (held_pair (first_row form) 0 (pow_pos (length us))) ∙ a;
    second = ap (λ (x : Row). x.on) (held_pair (second_row form) 0 (pow_pos (length us))) ∙ b;
  })

  allowed_held : (k : ℕ) → k < form_count → usable (form_of k) held (half held) ≡ true → keeps_holder (form_of k) held ≡ true → can_hold held ≡ true
  allowed_held k h e q = lt-ltb (first_top Held held) form_count (some_allowed Held held k h (both_true _ _ e q))

  -- no column rises, and one falls
  pub falls_held : Ta 0 ≡ false → ((r : ℕ) → r < n → Ta (w * r + p) ≡ true → Ta (w * r) ≡ true) → (r : ℕ) → r < n → Ta (w * r) ≡ true → can_hold held ≡ true
  falls_held z inside r h e =
      let a : Ta (w * 0) ≡ false = ap Ta (mul-zero w) ∙ z in
      let b : Ta (w * 0 + p) ≡ false = false_by _ _ (inside 0 (pow_pos (length us))) a in
      allowed_held 1 (omega arith) (usable_held Less (λ i l. less_may (Ta (w * i)) (Ta (w * i + p)) (inside i l)) (rw (a, b)) b) (first_on Less r h (rw e))

  -- no column falls, and one rises
  module _ (z : Ta 0 ≡ false) (inside : (r : ℕ) → r < n → Ta (w * r) ≡ true → Ta (w * r + p) ≡ true) (r : ℕ) (h : r < n) (off : Ta (w * r) ≡ false) (on : Ta (w * r + p) ≡ true) where
    zero_low : Ta (w * 0) ≡ false
    zero_low = ap Ta (mul-zero w) ∙ z

    pub rises_held : can_hold held ≡ true
    rises_held = go (Ta (w * 0 + p)) refl
      where
        go : (b : Bool) → Ta (w * 0 + p) ≡ b → can_hold held ≡ true
        go true e = allowed_held 2 (omega arith) (usable_held Plus (λ i l. plus_may (Ta (w * i)) (Ta (w * i + p)) (inside i l)) zero_low (ap not e)) refl
        go false e =
            allowed_held 5 (omega arith) (usable_held LessOutside (λ i l. plus_may (Ta (w * i)) (Ta (w * i + p)) (inside i l)) (rw (zero_low, e)) (rw (zero_low, e)))
            (both_true _ _ (first_on LessOutside r h (rw (off, on))) (second_on LessOutside r h (rw (off, on))))

  pub held_buildable : ((g : ℕ) → is_in us g ≡ true → is_group g ≡ true) → Ta 0 ≡ false → can_hold held ≡ true → Buildable Held held (us ++ (0 ∷ []))
  held_buildable groups z c = record {
    rows = held_rows ∙ ap (λ (k : ℕ). 2 ^ k) (let e : suc (length us) ≡ length (us ++ (0 ∷ [])) = omega (arith, length-append us (0 ∷ [])) in e);
    first = exact_first (held_row Ta ms us p) (2 ^ suc (length us)) (pow_pos (suc (length us))) (low_value 0 (pow_pos (length us)) ∙ ap Ta (mul-zero w) ∙ z);
    consistent = exact_consistent (held_row Ta ms us p) (2 ^ suc (length us));
    variables = (us, refl, groups);
    holder = c;
  }

  -- what the tree selects: the column's first row, or its row p where the holder selects
  row_last : (v : ℕ → Bool) → row_of v (us ++ (0 ∷ [])) ≡ cond (v 0) (row_of v us + n) (row_of v us)
  unfolding row_of
  row_last v = row_append v us (0 ∷ []) ∙ go (v 0)
    where
      go : (b : Bool) → row_of v us + 2 ^ length us * (cond b 1 0 + 2 * 0) ≡ cond b (row_of v us + n) (row_of v us)
      go true = omega (arith, mul-one (2 ^ length us))
      go false = omega (arith, mul-zero (2 ^ length us))

  pub held_selects : Buildable Held held (us ++ (0 ∷ [])) → ((g : ℕ) → is_in us g ≡ true → is_group g ≡ true) → (choice : Holder → Table → ℕ → ℕ) (h : Option Tree) (v : ℕ → Bool)
      → selects_optional v (build choice (suc (length us)) Held held (us ++ (0 ∷ [])) h) ≡ cond (selects_optional v h) (Ta (w * row_of v us + p)) (Ta (w * row_of v us))
  held_selects b groups choice h v = go (selects_optional v h) refl
    where
      l : length (us ++ (0 ∷ [])) ≡ suc (length us)
      l = omega (arith, length-append us (0 ∷ []))

      at : (i : ℕ) → row_of (filled v h) (us ++ (0 ∷ [])) ≡ i → i < 2 ^ suc (length us)
          → selects_optional v (build choice (suc (length us)) Held held (us ++ (0 ∷ [])) h) ≡ held_row Ta ms us p i
      at i e k = fits_exact (held_row Ta ms us p i) _
          (ap (λ (x : Row). fits x (selects_optional v (build choice (suc (length us)) Held held (us ++ (0 ∷ [])) h)))
          (sym (exact_row_lem (held_row Ta ms us p) (2 ^ suc (length us)) i k) ∙ ap (row_at held) (sym e))
          ∙ build_agrees v h choice (suc (length us)) l b)

      go : (x : Bool) → selects_optional v h ≡ x → selects_optional v (build choice (suc (length us)) Held held (us ++ (0 ∷ [])) h) ≡ cond x (Ta (w * row_of v us + p)) (Ta (w * row_of v us))
      go true e = at (row_of v us + n) (row_last (filled v h) ∙ ap (λ (b : Bool). cond b (row_of (filled v h) us + n) (row_of (filled v h) us)) e ∙ ap (λ (k : ℕ). k + n) (filled_row v h us groups))
          (omega (arith, row_below v us, pow-suc 2 (length us))) ∙ high_value (row_of v us)
      go false e = at (row_of v us) (row_last (filled v h) ∙ ap (λ (b : Bool). cond b (row_of (filled v h) us + n) (row_of (filled v h) us)) e ∙ filled_row v h us groups)
          (omega (arith, row_below v us, pow-suc 2 (length us))) ∙ low_value (row_of v us) (row_below v us)
