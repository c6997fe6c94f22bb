-- What a choice means. If every row agrees with A ∪ (B ∩ h), the tree built is equivalent and gathered; if a row does not, its
-- column and the chosen one are different and neither is constant, which gives the five fillings.
use Rattle.std.specs.Prelude.{Some, None}
use mathlib.Core.Path.{◌≡◌, refl, sym, ap, ap₂, subst, ◌∙◌}
use mathlib.Core.Bool.{Bool, true, false, not, cond, beq, ◌&&◌, ◌||◌, true≢false}
use mathlib.Core.Logic.{◌⊎◌, inl, inr}
use mathlib.Core.List.{List, [], ◌∷◌, ◌++◌}
use mathlib.Core.Option.{some, none}
use Prim.Native.Nat.{ℕ, suc, ◌+◌, ◌-◌, ◌*◌, ◌/◌, ◌%◌, ◌^◌, ◌<◌, ◌≤◌}
use native.Mathlib.Nat.{mul-suc, mul-zero, mul-le-mul_left, mod-eq_of_lt, mod-lt, mod-le, mod-add-div, add-mul-mod_self_left}
use native.Mathlib.Omega.{arith}
use lib.Pow.{pow_pos}
use lib.Dec.{eqb, ltb}
use borrow.Author.Tests.{eqb-true, ltb-true, ltb-false}
use lib.ListN.{length, get_or, length-append}
use Rattle.tree.specs.Tree.{difference, plus, minus, Tree, leaf, node, is_group, size, selects, Over, WithoutIntersection, Equivalent, is_in}
use Rattle.tree.proofs.TreeLaws.{or_false, is_in_append, or_cases, in_left, in_right, selects_equivalent}
use Rattle.table.specs.InnerTable.{filling}
use Rattle.table.proofs.TableLaws.{row_of, Tabled, row_below, row_append, row_agree, row_filling, selects_row, value_zero}
use Rattle.free_tables.proofs.SearchLaws.{Fails, first_fails}
use Rattle.splits.specs.InnerSplits.{choose, can_hold}
use Rattle.builder.specs.InnerBuilding.{join, single, variable_tree, build, Buildable}
use Rattle.builder.proofs.JoinLaws.{selects_optional, OverOptional, PlainOptional, join_selects, join_over, single_leaf, single_over, group_holds}
use Rattle.forms.proofs.TestLaws.{beq_true}
use Rattle.builder.proofs.ReadyLaws.{variable_in}
use Rattle.builder.proofs.BuildLaws.{group_over, build_over, build_some}
use Rattle.columns.proofs.ColumnLaws.{plus_not, row_column, tree_for_plain}
use Rattle.columns.specs.InnerJoining.{differs, column_table, held_table, first_rows, holder_tree, columns_tree, constant_tree, tree_for}
use Rattle.splits.specs.declared.Holder.TheVariants.{Absent, Held}
use Rattle.columns.specs.InnerChoosing.{Allowed, agrees, failing, settled, chosen_at, choice}
use Rattle.columns.specs.declared.Choice.TheVariants.{Constant, Columns}
use Rattle.gather.specs.Gathering.{Gathered}
use Rattle.gather.proofs.Criterion.{mixed, FiveFillings}
use Rattle.gather.specs.Inner.{MarkedParts}
use Rattle.gather.proofs.GatheringLaws.{gathered_whole}
use Rattle.gather.proofs.HeldLaws.{GatheredSome, join_right, Others, plain_over, held_gathered}
use Rattle.gather.proofs.JoiningLaws.{plain_buildable, plain_selects, plain_some_on, falls_held, rises_held, held_buildable, held_selects}

-- ---- rows of columns of w rows
place_below : (w k p n : ℕ) → p < w → k < n → p + w * k < w * n
place_below w k p n h l = let e = mul-le-mul_left w l in omega (arith, mul-suc w k)

place_mod : (w k p : ℕ) → p < w → (p + w * k) % w ≡ p
place_mod w k p h = add-mul-mod_self_left p w k ∙ mod-eq_of_lt h

-- the columns chosen: the one of the other groups' row `other` has row `low` false and row `high` true, and one of the two is row 0
pub record Chosen (Ta : ℕ → Bool) (ms us : List ℕ) (low high start : ℕ) : Type 0 where
  pub low_below : low < 2 ^ length ms
  pub high_below : high < 2 ^ length ms
  pub other : ℕ
  pub other_below : other < 2 ^ length us
  pub starts : start ≡ 2 ^ length ms * other
  pub zero_row : Ta 0 ≡ false
  pub one_zero : (low ≡ 0) ⊎ (high ≡ 0)
  pub low_value : Ta (start + low) ≡ false
  pub high_value : Ta (start + high) ≡ true

-- the tables that its trees are built for
pub record ColumnTables (Ta : ℕ → Bool) (ms us : List ℕ) (p start : ℕ) : Type 0 where
  pub row : p < 2 ^ length ms
  pub inside : start + 2 ^ length ms ≤ 2 ^ length ms * 2 ^ length us
  pub column : Buildable Absent (column_table Ta ms us start) ms
  pub held : Buildable Held (held_table Ta ms us p) (us ++ (0 ∷ []))
  pub holder : (h : Tree) × (holder_tree Ta ms us start ≡ some h)

abbrev pub Tables : (ℕ → Bool) → List ℕ → List ℕ → Allowed → Type 0
Tables Ta ms us None = Unit {0}
Tables Ta ms us (Some Constant) = Buildable Absent (first_rows Ta ms us) us
Tables Ta ms us (Some (Columns low high start)) = ColumnTables Ta ms us (low + high) start

-- what a tree built by a choice is
pub record Result (m Ta : ℕ → Bool) (ms us : List ℕ) (t : Tree) (c : Allowed) : Type 0 where
  pub tree : Tree
  pub is : tree_for Ta ms us c ≡ some tree
  pub equivalent : Equivalent t tree
  pub position : ℕ
  pub gathered : Gathered m tree position
  pub own : Over (is_in (ms ++ us)) tree
  pub plain : WithoutIntersection tree
  pub tables : Tables Ta ms us c

abbrev pub Verdict : (ℕ → Bool) → (ℕ → Bool) → List ℕ → List ℕ → Tree → Allowed → Type 0
Verdict m Ta ms us t None = FiveFillings m t
Verdict m Ta ms us t (Some Constant) = Result m Ta ms us t (Some Constant)
Verdict m Ta ms us t (Some (Columns low high start)) = Result m Ta ms us t (Some (Columns low high start))

nothing : (x : Bool) → x && not x ≡ false
nothing true = refl
nothing false = refl

absorbed : (a b : Bool) → (a || (a && b)) ≡ a
absorbed true b = refl
absorbed false b = refl

-- a column that rises, and one that falls, by its two values
by_rise : (a b h : Bool) → (a ≡ true → b ≡ true) → cond (differs h false) b a ≡ (a || (b && h))
by_rise true b true e = e refl
by_rise true b false e = refl
by_rise false true true e = refl
by_rise false false true e = refl
by_rise false true false e = refl
by_rise false false false e = refl

by_fall : (a b h : Bool) → (a ≡ true → b ≡ true) → cond (differs h true) a b ≡ (a || (b && h))
by_fall true b true e = e refl
by_fall true b false e = refl
by_fall false true true e = refl
by_fall false false true e = refl
by_fall false true false e = refl
by_fall false false false e = refl

only_zero : (g : ℕ) → is_in (0 ∷ []) g ≡ true → g ≡ 0
unfolding is_in
only_zero g e = eqb-true g 0 (sym (or_false (eqb g 0)) ∙ e)

same_not : (b : Bool) → differs b b ≡ false
same_not true = refl
same_not false = refl

pub both_false : (a b : Bool) → (a || b) ≡ false → (a ≡ false) × (b ≡ false)
both_false true b e = absurd (true≢false e)
both_false false b e = (refl, e)

module _ (Ta : ℕ → Bool) (ms us : List ℕ) {m : ℕ → Bool} (parts : MarkedParts m ms us) where
  abbrev w : ℕ
  w = 2 ^ length ms

  abbrev n : ℕ
  n = 2 ^ length us

  -- ---- the parts
  others : Others m us
  others = record { groups = parts.other_groups; unmarked = parts.unmarked; once = parts.others }

  holder_over : (p : ℕ → Bool) → ((g : ℕ) → is_in ms g ≡ true → p g ≡ true) → (start : ℕ) → Buildable Absent (column_table Ta ms us start) ms → OverOptional p (holder_tree Ta ms us start)
  unfolding holder_tree
  holder_over p h start b = build_over p none choose (length ms) refl b (λ g q. group_over p none g (parts.mark_groups g q) (h g q))

  module _ (t : Tree) (tabled : Tabled Ta (ms ++ us) t) (over : Over (is_in (ms ++ us)) t) where
    -- the tree's value by the rows of its two lists of groups
    selects_place : (v : ℕ → Bool) → selects v t ≡ Ta (row_of v ms + w * row_of v us)
    selects_place v = selects_row (ms ++ us) t tabled over v ∙ ap Ta (row_append v ms us)

    -- ---- every row agrees
    by_columns : (low high start : ℕ) → ((i : ℕ) → i < w * n → agrees Ta w low high start i ≡ true) → (p k : ℕ) → p < w → k < n
        → Ta (p + w * k) ≡ (Ta (low + w * k) || (Ta (high + w * k) && Ta (start + p)))
    by_columns low high start all p k hp hk =
        let e : (p + w * k) % w ≡ p = place_mod w k p hp in
        let a : p + w * k - p + low ≡ low + w * k = omega arith in
        let b : p + w * k - p + high ≡ high + w * k = omega arith in
        beq_true _ _ (all (p + w * k) (place_below w k p n hp hk)) ∙ rw (e, a, b)

    module _ (low high start : ℕ) (c : Chosen Ta ms us low high start) (all : (i : ℕ) → i < w * n → agrees Ta w low high start i ≡ true) where
      -- A is within B
      inside : (k : ℕ) → k < n → Ta (low + w * k) ≡ true → Ta (high + w * k) ≡ true
      inside k h e = by_columns low high start all high k c.high_below h ∙ rw e

      -- ---- which of the two rows is the column's first
      place : (k : ℕ) → low ≡ 0 → (Ta (w * k) ≡ Ta (low + w * k)) × (Ta (w * k + (low + high)) ≡ Ta (high + w * k))
      place k e = (ap Ta (omega arith), ap Ta (omega arith))

      place' : (k : ℕ) → high ≡ 0 → (Ta (w * k) ≡ Ta (high + w * k)) × (Ta (w * k + (low + high)) ≡ Ta (low + w * k))
      place' k e = (ap Ta (omega arith), ap Ta (omega arith))

      start_rises : low ≡ 0 → Ta start ≡ false
      start_rises e = ap Ta (omega arith) ∙ c.low_value

      start_falls : high ≡ 0 → Ta start ≡ true
      start_falls e = ap Ta (omega arith) ∙ c.high_value

      row_varies : differs (Ta (start + (low + high))) (Ta start) ≡ true
      row_varies = go c.one_zero
        where
          go : (low ≡ 0) ⊎ (high ≡ 0) → differs (Ta (start + (low + high))) (Ta start) ≡ true
          go (inl e) = ap₂ differs (ap Ta (omega arith) ∙ c.high_value) (start_rises e)
          go (inr e) = ap₂ differs (ap Ta (omega arith) ∙ c.low_value) (start_falls e)

      row_inside : low + high < w
      row_inside = go c.one_zero
        where
          go : (low ≡ 0) ⊎ (high ≡ 0) → low + high < w
          go (inl e) = omega (arith, c.high_below)
          go (inr e) = omega (arith, c.low_below)

      can : can_hold (held_table Ta ms us (low + high)) ≡ true
      can = go c.one_zero
        where
          go : (low ≡ 0) ⊎ (high ≡ 0) → can_hold (held_table Ta ms us (low + high)) ≡ true
          go (inl e) = rises_held Ta ms us (low + high) c.zero_row (λ r h q. (place r e).1 ∙ inside r h (sym (place r e).0 ∙ q)) c.other c.other_below
              (ap Ta (sym c.starts) ∙ start_rises e) ((place c.other e).1 ∙ ap Ta (omega (arith, c.starts)) ∙ c.high_value)
          go (inr e) = falls_held Ta ms us (low + high) c.zero_row (λ r h q. (place' r e).0 ∙ inside r h (sym (place' r e).1 ∙ q)) c.other c.other_below
              (ap Ta (sym c.starts) ∙ start_falls e)

      -- ---- the tables and their trees
      column_ready : Buildable Absent (column_table Ta ms us start) ms
      column_ready = plain_buildable (λ j. differs (Ta (start + j)) (Ta start)) ms parts.mark_groups first_same
        where
          first_same : differs (Ta (start + 0)) (Ta start) ≡ false
          first_same = ap (λ (k : ℕ). differs (Ta k) (Ta start)) (let e : start + 0 ≡ start = omega arith in e) ∙ same_not (Ta start)

      held_ready : Buildable Held (held_table Ta ms us (low + high)) (us ++ (0 ∷ []))
      held_ready = held_buildable Ta ms us (low + high) parts.other_groups c.zero_row can

      holder_some : (h : Tree) × (holder_tree Ta ms us start ≡ some h)
      unfolding holder_tree
      holder_some = build_some none choose column_ready parts.marks (plain_some_on (λ j. differs (Ta (start + j)) (Ta start)) (2 ^ length ms) (low + high) row_inside row_varies)

      holder_gathered : GatheredSome m (holder_tree Ta ms us start)
      holder_gathered = record {
        tree = holder_some.0;
        is = holder_some.1;
        position = size holder_some.0 - 1;
        gathered = gathered_whole holder_some.0 (subst (OverOptional m) holder_some.1 (holder_over m parts.marked start column_ready));
      }

      columns_gathered : GatheredSome m (columns_tree Ta ms us (low + high) start)
      unfolding columns_tree
      columns_gathered = held_gathered (holder_tree Ta ms us start) choose (length us) us refl held_ready others holder_gathered

      columns_own : OverOptional (is_in (ms ++ us)) (columns_tree Ta ms us (low + high) start)
      unfolding columns_tree is_in
      columns_own = build_over (is_in (ms ++ us)) (holder_tree Ta ms us start) choose (suc (length us)) (omega (arith, length-append us (0 ∷ []))) held_ready
          (λ g q. or_cases (is_in us g) (is_in (0 ∷ []) g) (sym (is_in_append us (0 ∷ []) g) ∙ q)
          (λ e. group_over (is_in (ms ++ us)) (holder_tree Ta ms us start) g (parts.other_groups g e) (in_right ms us g e))
          (λ e. subst (λ (x : ℕ). OverOptional (is_in (ms ++ us)) (variable_tree (holder_tree Ta ms us start) x)) (sym (only_zero g e))
          (holder_over (is_in (ms ++ us)) (in_left ms us) start column_ready)))

      -- ---- what it selects
      holder_selects : (v : ℕ → Bool) → selects_optional v (holder_tree Ta ms us start) ≡ differs (Ta (start + row_of v ms)) (Ta start)
      unfolding holder_tree
      holder_selects v = plain_selects (λ j. differs (Ta (start + j)) (Ta start)) ms parts.mark_groups
          (ap (λ (k : ℕ). differs (Ta k) (Ta start)) (let e : start + 0 ≡ start = omega arith in e) ∙ same_not (Ta start)) choose none v

      column_value : (p k : ℕ) → p < w → k < n → cond (differs (Ta (start + p)) (Ta start)) (Ta (w * k + (low + high))) (Ta (w * k)) ≡ Ta (p + w * k)
      column_value p k hp hk = go c.one_zero
        where
          go : (low ≡ 0) ⊎ (high ≡ 0) → cond (differs (Ta (start + p)) (Ta start)) (Ta (w * k + (low + high))) (Ta (w * k)) ≡ Ta (p + w * k)
          go (inl e) = rw (start_rises e, (place k e).0, (place k e).1) (by_rise (Ta (low + w * k)) (Ta (high + w * k)) (Ta (start + p)) (inside k hk)) ∙ sym (by_columns low high start all p k hp hk)
          go (inr e) = rw (start_falls e, (place' k e).0, (place' k e).1) (by_fall (Ta (low + w * k)) (Ta (high + w * k)) (Ta (start + p)) (inside k hk)) ∙ sym (by_columns low high start all p k hp hk)

      columns_selects : (v : ℕ → Bool) → selects_optional v (columns_tree Ta ms us (low + high) start) ≡ selects v t
      unfolding columns_tree
      columns_selects v =
          held_selects Ta ms us (low + high) held_ready parts.other_groups choose (holder_tree Ta ms us start) v
          ∙ ap (λ (b : Bool). cond b (Ta (w * row_of v us + (low + high))) (Ta (w * row_of v us))) (holder_selects v)
          ∙ column_value (row_of v ms) (row_of v us) (row_below v ms) (row_below v us)
          ∙ sym (selects_place v)

      built : Result m Ta ms us t (Some (Columns low high start))
      built = record {
        tree = columns_gathered.tree;
        is = columns_gathered.is;
        position = columns_gathered.position;
        gathered = columns_gathered.gathered;
        own = subst (OverOptional (is_in (ms ++ us))) columns_gathered.is columns_own;
        plain = subst PlainOptional columns_gathered.is (tree_for_plain Ta ms us (Some (Columns low high start)));
        tables = record {
          row = row_inside;
          inside = let l = mul-le-mul_left w c.other_below in omega (arith, mul-suc w c.other, c.starts);
          column = column_ready;
          held = held_ready;
          holder = holder_some;
        };
        equivalent = selects_equivalent t columns_gathered.tree (λ v. sym (columns_selects v) ∙ ap (selects_optional v) columns_gathered.is);
      }

    -- ---- all columns are constant
    module _ (z : Ta 0 ≡ false) (all : (i : ℕ) → i < w * n → agrees Ta w 0 0 0 i ≡ true) where
      first_ready : Buildable Absent (first_rows Ta ms us) us
      first_ready = plain_buildable (λ r. Ta (w * r)) us parts.other_groups (ap Ta (mul-zero w) ∙ z)

      mark_in : is_in ms (get_or ms 0 0) ≡ true
      mark_in = variable_in ms 0 parts.some_mark

      mark_group : is_group (get_or ms 0 0) ≡ true
      mark_group = parts.mark_groups (get_or ms 0 0) mark_in

      nothing_gathered : GatheredSome m (join minus (single (get_or ms 0 0)) (single (get_or ms 0 0)))
      unfolding Over
      nothing_gathered =
          let l = leaf (get_or ms 0 0) (group_holds (get_or ms 0 0) mark_group) in
          let e = single_leaf (get_or ms 0 0) mark_group in
          let o = parts.marked (get_or ms 0 0) mark_in in
          record { tree = node difference l l; is = ap₂ (join minus) e e; position = size (node difference l l) - 1; gathered = gathered_whole (node difference l l) (o, o) }

      constant_gathered : GatheredSome m (constant_tree Ta ms us)
      unfolding constant_tree
      constant_gathered = join_right plus (build choose (length us) Absent (first_rows Ta ms us) us none) (join minus (single (get_or ms 0 0)) (single (get_or ms 0 0)))
          (λ e. plus_not e) (plain_over none choose (length us) refl first_ready parts.unmarked) nothing_gathered

      constant_own : OverOptional (is_in (ms ++ us)) (constant_tree Ta ms us)
      unfolding constant_tree
      constant_own =
          let s : OverOptional (is_in (ms ++ us)) (single (get_or ms 0 0)) = single_over (is_in (ms ++ us)) (get_or ms 0 0) mark_group (in_left ms us (get_or ms 0 0) mark_in) in
          join_over (is_in (ms ++ us)) plus (build choose (length us) Absent (first_rows Ta ms us) us none) (join minus (single (get_or ms 0 0)) (single (get_or ms 0 0)))
          (build_over (is_in (ms ++ us)) none choose (length us) refl first_ready (λ g q. group_over (is_in (ms ++ us)) none g (parts.other_groups g q) (in_right ms us g q)))
          (join_over (is_in (ms ++ us)) minus (single (get_or ms 0 0)) (single (get_or ms 0 0)) s s)

      constant_selects : (v : ℕ → Bool) → selects_optional v (constant_tree Ta ms us) ≡ selects v t
      unfolding constant_tree
      constant_selects v =
          join_selects v plus (build choose (length us) Absent (first_rows Ta ms us) us none) (join minus (single (get_or ms 0 0)) (single (get_or ms 0 0)))
          ∙ ap₂ ◌||◌ (plain_selects (λ r. Ta (w * r)) us parts.other_groups (ap Ta (mul-zero w) ∙ z) choose none v)
          (join_selects v minus (single (get_or ms 0 0)) (single (get_or ms 0 0)) ∙ nothing (selects_optional v (single (get_or ms 0 0))))
          ∙ or_false _
          ∙ sym (by_columns 0 0 0 all (row_of v ms) (row_of v us) (row_below v ms) (row_below v us) ∙ absorbed (Ta (0 + w * row_of v us)) (Ta (0 + row_of v ms)) ∙ ap Ta (omega arith))
          ∙ sym (selects_place v)

      built_constant : Result m Ta ms us t (Some Constant)
      built_constant = record {
        tree = constant_gathered.tree;
        is = constant_gathered.is;
        position = constant_gathered.position;
        gathered = constant_gathered.gathered;
        own = subst (OverOptional (is_in (ms ++ us))) constant_gathered.is constant_own;
        plain = subst PlainOptional constant_gathered.is (tree_for_plain Ta ms us (Some Constant));
        tables = first_ready;
        equivalent = selects_equivalent t constant_gathered.tree (λ v. sym (constant_selects v) ∙ ap (selects_optional v) constant_gathered.is);
      }

    -- ---- a row fails
    -- the marked groups filled as their row p, the others as their row k
    abbrev at : ℕ → ℕ → ℕ → Bool
    at p k = mixed m (filling ms p) (filling us k)

    at_row : (p k : ℕ) → p < w → k < n → selects (at p k) t ≡ Ta (p + w * k)
    at_row p k hp hk =
        let em : row_of (at p k) ms ≡ p = row_agree (at p k) (filling ms p) ms (λ g e. rw (parts.marked g e)) ∙ row_filling ms p parts.marks hp in
        let eu : row_of (at p k) us ≡ k = row_agree (at p k) (filling us k) us (λ g e. rw (parts.unmarked g e)) ∙ row_filling us k parts.others hk in
        selects_place (at p k) ∙ rw (em, eu)

    five : (p q x k s : ℕ) → selects (at q k) t ≡ true → selects (at x s) t ≡ true → selects (at p k) t ≡ false → selects (at q s) t ≡ false → FiveFillings m t
    five p q x k s a b c d = record {
      p = filling ms p;
      q = filling ms q;
      w = filling ms x;
      r = filling us k;
      s = filling us s;
      qr = a;
      ws = b;
      pr = c;
      qs = d;
    }

    clash : (low high other p k : ℕ) (a A B h : Bool) → selects (at p k) t ≡ a → selects (at low k) t ≡ A → selects (at high k) t ≡ B → selects (at p other) t ≡ h
        → selects (at low other) t ≡ false → selects (at high other) t ≡ true → beq a (A || (B && h)) ≡ false → FiveFillings m t
    clash low high o p k true true B h ea e_a e_b eh e₀ e₁ q = absurd (true≢false q)
    clash low high o p k true false true true ea e_a e_b eh e₀ e₁ q = absurd (true≢false q)
    clash low high o p k true false true false ea e_a e_b eh e₀ e₁ q = five low p high k o ea e₁ e_a eh
    clash low high o p k true false false h ea e_a e_b eh e₀ e₁ q = five low high p o k e₁ ea e₀ e_b
    clash low high o p k false true B h ea e_a e_b eh e₀ e₁ q = five p low high k o e_a e₁ ea e₀
    clash low high o p k false false true true ea e_a e_b eh e₀ e₁ q = five low p high o k eh e_b e₀ ea
    clash low high o p k false false true false ea e_a e_b eh e₀ e₁ q = absurd (true≢false q)
    clash low high o p k false false false h ea e_a e_b eh e₀ e₁ q = absurd (true≢false q)

    refused : (low high start i : ℕ) → Chosen Ta ms us low high start → i < w * n → agrees Ta w low high start i ≡ false → FiveFillings m t
    refused low high start i c hi bad =
        let pos : 0 < w = pow_pos (length ms) in
        let hp : i % w < w = mod-lt i pos in
        let hk : i / w < n = row_column w n i pos hi in
        let e : i % w + w * (i / w) ≡ i = mod-add-div i w in
        clash low high c.other (i % w) (i / w) (Ta i) (Ta (i - i % w + low)) (Ta (i - i % w + high)) (Ta (start + i % w))
        (at_row (i % w) (i / w) hp hk ∙ ap Ta e)
        (at_row low (i / w) c.low_below hk ∙ ap Ta (omega arith))
        (at_row high (i / w) c.high_below hk ∙ ap Ta (omega arith))
        (at_row (i % w) c.other hp c.other_below ∙ ap Ta (omega (arith, c.starts)))
        (at_row low c.other c.low_below c.other_below ∙ ap Ta (omega (arith, c.starts)) ∙ c.low_value)
        (at_row high c.other c.high_below c.other_below ∙ ap Ta (omega (arith, c.starts)) ∙ c.high_value)
        bad

    -- ---- the choice
    judged : (low high start : ℕ) → Chosen Ta ms us low high start → Verdict m Ta ms us t (settled Ta w (w * n) low high start)
    judged low high start c = go (ltb (failing Ta w (w * n) low high start) (w * n)) refl (first_fails (agrees Ta w low high start) (w * n) 0)
      where
        go : (b : Bool) → ltb (failing Ta w (w * n) low high start) (w * n) ≡ b → Fails (agrees Ta w low high start) (w * n) 0 (failing Ta w (w * n) low high start)
            → Verdict m Ta ms us t (cond b None (Some (Columns low high start)))
        go true e f =
            let h : failing Ta w (w * n) low high start < w * n = ltb-true _ _ e in
            refused low high start (failing Ta w (w * n) low high start) c h (f.fails (omega arith))
        go false e f =
            let h : w * n ≤ failing Ta w (w * n) low high start = ltb-false _ _ e in
            built low high start c (λ i l. f.passed i (omega arith) (omega arith))

    differs_first : (a x h : Bool) → beq a (x || (x && h)) ≡ false → x ≡ not a
    differs_first true true h e = absurd (true≢false e)
    differs_first true false h e = refl
    differs_first false true h e = refl
    differs_first false false h e = absurd (true≢false e)

    -- the first row that differs from its column's first row
    module _ (z : Ta 0 ≡ false) (i : ℕ) (hi : i < w * n) (bad : agrees Ta w 0 0 0 i ≡ false) where
      first_value : Ta (i - i % w + 0) ≡ not (Ta i)
      first_value = differs_first (Ta i) (Ta (i - i % w + 0)) (Ta (0 + i % w)) bad

      own_value : Ta (i - i % w + i % w) ≡ Ta i
      own_value = ap Ta (omega (arith, mod-le i w))

      start_place : i - i % w ≡ w * (i / w)
      start_place = omega (arith, mod-add-div i w)

      chosen_true : Ta i ≡ true → Chosen Ta ms us 0 (i % w) (i - i % w)
      chosen_true e = record {
        low_below = pow_pos (length ms);
        high_below = mod-lt i (pow_pos (length ms));
        other = i / w;
        other_below = row_column w n i (pow_pos (length ms)) hi;
        starts = start_place;
        zero_row = z;
        one_zero = inl refl;
        low_value = first_value ∙ ap not e;
        high_value = own_value ∙ e;
      }

      chosen_false : Ta i ≡ false → Chosen Ta ms us (i % w) 0 (i - i % w)
      chosen_false e = record {
        low_below = mod-lt i (pow_pos (length ms));
        high_below = pow_pos (length ms);
        other = i / w;
        other_below = row_column w n i (pow_pos (length ms)) hi;
        starts = start_place;
        zero_row = z;
        one_zero = inr refl;
        low_value = own_value ∙ e;
        high_value = first_value ∙ ap not e;
      }

      judged_at : Verdict m Ta ms us t (chosen_at Ta w (w * n) i)
      judged_at = go (Ta i) refl
        where
          go : (b : Bool) → Ta i ≡ b → Verdict m Ta ms us t (cond b (settled Ta w (w * n) 0 (i % w) (i - i % w)) (settled Ta w (w * n) (i % w) 0 (i - i % w)))
          go true e = judged 0 (i % w) (i - i % w) (chosen_true e)
          go false e = judged (i % w) 0 (i - i % w) (chosen_false e)

    -- the choice is right: with it comes the gathered tree, or the five fillings
    pub verdict : Verdict m Ta ms us t (choice Ta w (w * n))
    unfolding choice
    verdict = go (ltb (failing Ta w (w * n) 0 0 0) (w * n)) refl (first_fails (agrees Ta w 0 0 0) (w * n) 0)
      where
        z : Ta 0 ≡ false
        z = tabled.rows 0 (pow_pos (length (ms ++ us))) ∙ value_zero (ms ++ us) t

        go : (b : Bool) → ltb (failing Ta w (w * n) 0 0 0) (w * n) ≡ b → Fails (agrees Ta w 0 0 0) (w * n) 0 (failing Ta w (w * n) 0 0 0)
            → Verdict m Ta ms us t (cond b (chosen_at Ta w (w * n) (failing Ta w (w * n) 0 0 0)) (Some Constant))
        go true e f =
            let h : failing Ta w (w * n) 0 0 0 < w * n = ltb-true _ _ e in
            judged_at z (failing Ta w (w * n) 0 0 0) h (f.fails (omega arith))
        go false e f =
            let h : w * n ≤ failing Ta w (w * n) 0 0 0 = ltb-false _ _ e in
            built_constant z (λ i l. f.passed i (omega arith) (omega arith))
