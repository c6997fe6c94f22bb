-- The scans over a table, the exact tables to build by, and what is written for them.
use Rattle.std.specs.Prelude.{Some, None}
use mathlib.Core.Path.{◌≡◌, refl, sym, ap, ap₂, fun_ext, ◌∙◌}
use mathlib.Core.Bool.{Bool, true, false, cond}
use mathlib.Core.List.{List, [], ◌∷◌, ◌++◌}
use mathlib.Core.Option.{Option, none}
use Prim.Native.Nat.{ℕ, zero, suc, ◌+◌, ◌-◌, ◌*◌, ◌/◌, ◌%◌, ◌^◌, ◌<◌, ◌≤◌}
use native.Mathlib.Nat.{mul-suc, mul_comm, mul-le-mul_left, mul-le-mul_right, one-mul, mod-lt, mod-add-div, div-lt_iff_lt-mul, two-pow-succ, pow-succ', zero-add}
use native.Mathlib.Omega.{arith}
use lib.Pow.{pow-add, pow_mono, pow_pos}
use lib.Dec.{ltb}
use lib.ListN.{length, get_or, take, length-take, length-append}
use lib.Seq.{length-take-le}
use borrow.Author.Tests.{lt-ltb, le-ltb}
use Rattle.tree.specs.Tree.{union, difference, sign, plus, minus, Tree, is_group, postfix, most_groups}
use Rattle.tree.specs.InnerWriting.{Wrote}
use Rattle.tree.proofs.WritingLaws.{wrote_then, wrote_as, wrote_take}
use Rattle.table.specs.InnerTable.{row_count}
use Rattle.free_tables.specs.InnerTables.{Table}
use Rattle.splits.specs.InnerSplits.{choose}
use Rattle.splits.specs.declared.Holder.TheVariants.{Absent, Held}
use Rattle.builder.specs.InnerBuilding.{postfix_optional, join, single, build, most_built, most_for, Ready, between, Holding, Built}
use Rattle.builder.proofs.ReadyLaws.{variable_in}
use Rattle.builder.proofs.JoinLaws.{PlainOptional, join_plain, single_leaf, single_plain}
use Rattle.builder.proofs.BuildLaws.{build_plain}
use Rattle.builder.proofs.WritingLaws.{optional_length, wrote_join}
use Rattle.builder.proofs.SizeLaws.{build_size}
use Rattle.columns.specs.InnerChoosing.{Allowed, failing, settled, choice}
use Rattle.columns.specs.InnerJoining.{exact_table, differs, first_rows, column_table, held_table, holder_tree, columns_tree, constant_tree, tree_for}
use Rattle.columns.specs.Inner.{Scanned, Room, ColumnsReady, ConstantReady}
use Rattle.columns.specs.declared.Choice.TheVariants.{Constant, Columns}

-- ---- rows of a column
pub row_column : (w n i : ℕ) → 0 < w → i < w * n → i / w < n
row_column w n i pos h = (div-lt_iff_lt-mul {k = w} {x = i} {y = n} pos).1 (rw (mul_comm n w) h)

column_end : (w n i total : ℕ) → 0 < w → total ≡ w * n → i < total → i - i % w + w ≤ total
column_end w n i total pos e h =
    let k = row_column w n i pos (omega arith) in
    let l = mul-le-mul_left w k in
    omega (arith, mod-add-div i w, mul-suc w (i / w))

pub agrees_inside : (w total low high start i : ℕ) → Scanned w total low high start → i < total
    → (0 < w) × (i < row_count) × (i - i % w + low < row_count) × (i - i % w + high < row_count) × (start + i % w < row_count)
agrees_inside w total low high start i s h =
    let e = column_end w s.whole.0 i total s.positive s.whole.1 h in
    let m = mod-lt i s.positive in
    (s.positive, omega (arith, s.most), omega (arith, s.low_below, s.most), omega (arith, s.high_below, s.most), omega (arith, s.inside, s.most))

-- a row's own column
pub scanned_at : (w total i low high : ℕ) → Scanned w total 0 0 0 → i < total → low < w → high < w → Scanned w total low high (i - i % w)
scanned_at w total i low high s h l k =
    let n = s.whole.0 in
    let b = mul-le-mul_left w (row_column w n i s.positive (omega (arith, s.whole.1))) in
    record {
      positive = s.positive;
      whole = s.whole;
      most = s.most;
      low_below = l;
      high_below = k;
      inside = omega (arith, b, s.whole.1, mod-add-div i w, mul-suc w (i / w));
    }

-- ---- the choice
module _ (Ta : ℕ → Bool) (w total i : ℕ) (e : i ≡ failing Ta w total 0 0 0) where
  pub choice_constant : total ≤ i → Some Constant ≡ choice Ta w total
  unfolding choice
  choice_constant h = rw (← e, le-ltb i total h)

  pub choice_true : (c : Allowed) → i < total → Ta i ≡ true → c ≡ settled Ta w total 0 (i % w) (i - i % w) → c ≡ choice Ta w total
  unfolding choice
  choice_true c h b q = rw (← e, lt-ltb i total h, b) q

  pub choice_false : (c : Allowed) → i < total → Ta i ≡ false → c ≡ settled Ta w total (i % w) 0 (i - i % w) → c ≡ choice Ta w total
  unfolding choice
  choice_false c h b q = rw (← e, lt-ltb i total h, b) q

-- ---- the rows from, from + step, .. of a table
pub step_below : (w n i : ℕ) → i < n → w * i + w ≤ w * n
step_below w n i h = omega (arith, mul-le-mul_left w h, mul-suc w i)

-- not more of them than rows
pub steps_most : (w n : ℕ) → 1 ≤ w → n ≤ w * n
steps_most w n h = omega (arith, mul-le-mul_right n h, one-mul n)

-- ---- the variables, in an array
pub written_after_lem : {zs o₁ o₂ xs : List ℕ} {i j x : ℕ} → length xs + 1 ≤ length zs → Wrote zs 0 o₁ i xs → Wrote o₁ i o₂ j (x ∷ []) → take (length xs + 1) o₂ ≡ xs ++ (x ∷ [])
written_after_lem {zs} {o₁} {o₂} {xs} {i} {j} {x} h f g =
    let w = wrote_then f g in
    let l = length-append xs (x ∷ []) in
    let e : length xs + 1 ≡ j = omega (arith, w.ends) in
    rw e (wrote_take w (omega arith))

pub after_length : (us : List ℕ) {gs : List ℕ} → gs ≡ us ++ (0 ∷ []) → length us + 1 ≡ length gs
after_length us e = omega (arith, ap length e, length-append us (0 ∷ []))

-- ---- columns of w rows, where there are so many marks and others
pub record Shape (ms us : List ℕ) (w columns : ℕ) : Type 0 where
  pub width : w ≡ 2 ^ length ms
  pub count : columns ≡ 2 ^ length us
  pub most : w * columns ≤ row_count

pub shape : {ms us : List ℕ} {w columns room : ℕ} → Room ms us room → w ≡ 2 ^ length ms → columns ≡ 2 ^ length us → Shape ms us w columns
shape {ms} {us} s e q = record { width = e; count = q; most = omega (arith, ap₂ ◌*◌ e q, pow-add 2 (length ms) (length us), pow_mono {i = length ms + length us} {j = most_groups} s.few) }

pub width_positive : {ms us : List ℕ} {w columns : ℕ} → Shape ms us w columns → 1 ≤ w
width_positive {ms} s = omega (arith, s.width, pow_pos (length ms))

-- ---- the tables to build by
-- a table of the rows of f, said in another way
rows_table : {r : Table} {n : ℕ} {f : ℕ → Bool} (g : ℕ → Bool) (k : ℕ) → r ≡ exact_table f n → ((i : ℕ) → f i ≡ g i) → n ≡ k → r ≡ exact_table g k
rows_table g k h e q = h ∙ ap₂ exact_table (fun_ext e) q

differs_false : (b : Bool) → differs b false ≡ b
differs_false true = refl
differs_false false = refl

double : {ms us : List ℕ} {w columns : ℕ} → Shape ms us w columns → 2 * columns ≡ 2 ^ suc (length us)
double {us = us} s = ap (λ (x : ℕ). 2 * x) s.count ∙ sym (pow-succ' 2 (length us))

module _ (T : ℕ → Bool) {ms us : List ℕ} {w columns : ℕ} (s : Shape ms us w columns) {r : Table} where
  -- the first rows of the columns
  first_table : r ≡ exact_table (λ i. differs (T (0 + w * i)) false) columns → r ≡ first_rows T ms us
  first_table h = rows_table _ _ h (λ i. differs_false (T (0 + w * i)) ∙ ap T (zero-add (w * i) ∙ ap (λ (x : ℕ). x * i) s.width)) s.count

  -- the column at `start`
  column_table_lem : (start : ℕ) → r ≡ exact_table (λ i. differs (T (start + 1 * i)) (T start)) w → r ≡ column_table T ms us start
  column_table_lem start h = rows_table _ _ h (λ i. ap (λ (x : ℕ). differs (T (start + x)) (T start)) (one-mul i)) s.width

  -- the columns' first rows and their rows p
  held_table_lem : (p : ℕ) → r ≡ exact_table (λ i. T (cond (ltb i columns) (w * i) (w * (i - columns) + p))) (2 * columns) → r ≡ held_table T ms us p
  held_table_lem p h = rows_table _ _ h (λ i. ap₂ (λ (x y : ℕ). T (cond (ltb i y) (x * i) (x * (i - y) + p))) s.width s.count) (double s)

-- an array is as long as its front
pub longer : {A : Type 0} (n : ℕ) (xs : List A) → n ≡ length (take n xs) → n ≤ length xs
longer n xs e = omega (arith, length-take n xs)

-- ---- room
most_power : (k : ℕ) → most_built k + 5 ≡ 5 * 2 ^ k
unfolding most_built
most_power zero = refl
most_power (suc k) = omega (arith, most_power k, two-pow-succ k)

most_small : (k : ℕ) → k ≤ most_groups → most_built k ≤ 1275
most_small k h = let z : 2 ^ k ≤ 2 ^ most_groups = pow_mono h in omega (arith, most_power k)

-- ---- the constant columns' tree
mark_twice : (x : ℕ) → is_group x ≡ true → x ∷ x ∷ sign difference ∷ [] ≡ postfix_optional (join minus (single x) (single x))
unfolding postfix
mark_twice x g = sym (ap (λ (s : Option Tree). postfix_optional (join minus s s)) (single_leaf x g))

pub plus_not : {X : Type 0} → plus ≡ minus → X
plus_not e = absurd (let z : ◌≡◌ {A = ℕ} 0 1 = cc in omega arith)

-- the rows r are the columns' first ones
module _ (T : ℕ → Bool) {ms us : List ℕ} {w columns room : ℕ} (z : Room ms us room) (s : Shape ms us w columns) (q : ConstantReady T ms us)
    {r : Table} (h : r ≡ exact_table (λ i. differs (T (0 + w * i)) false) columns) where
  pub first_ready : Ready Absent r us
  first_ready = rw (first_table T s h) q.table

  abbrev A : Option Tree
  A = build choose (length us) Absent (first_rows T ms us) us none

  -- and their tree was written, up to a
  module _ {out o₁ : List ℕ} {a : ℕ} (f : Built Absent r us [] out 0 o₁ a) where
    first_wrote : Wrote out 0 o₁ a (postfix_optional A)
    first_wrote = rw (first_table T s h) at (f.wrote none refl tt)

    pub first_room : a + 4 ≤ room
    first_room = omega (arith, first_wrote.ends, optional_length A, build_size choose (length us) none q.table.table refl tt, z.space)

    pub constant_wrote : {o₂ o₃ : List ℕ} {b e : ℕ} → Wrote o₁ a o₂ b (get_or ms 0 0 ∷ get_or ms 0 0 ∷ sign difference ∷ [])
        → Wrote o₂ b o₃ e (between 0 a b (sign union)) → Wrote out 0 o₃ e (postfix_optional (constant_tree T ms us))
    unfolding constant_tree
    constant_wrote g k =
        let x = get_or ms 0 0 in
        wrote_join plus A (join minus (single x) (single x)) (λ e z. plus_not e) first_wrote
        (wrote_as g (mark_twice x (q.mark_groups x (variable_in ms 0 z.some_mark)))) k

-- ---- the columns' tree
module _ (T : ℕ → Bool) {ms us : List ℕ} {w columns room p start : ℕ} (z : Room ms us room) (s : Shape ms us w columns) (q : ColumnsReady T ms us p start) where
  pub row_below : p < w
  row_below = omega (arith, q.row, s.width)

  pub column_inside : start + w ≤ row_count
  column_inside = omega (arith, q.inside, ap₂ ◌*◌ s.width s.count, s.width, s.most)

  pub marks_small : most_built (length ms) ≤ 1275
  marks_small = most_small (length ms) q.column.few

  one_more : length (us ++ (0 ∷ [])) ≡ suc (length us)
  one_more = omega (arith, after_length us refl)

  pub others_few : length us + 1 ≤ most_groups
  others_few = omega (arith, q.table.few, one_more)

  pub columns_few : 2 * columns ≤ row_count
  columns_few = let l : suc (length us) ≤ most_groups = omega (arith, others_few) in omega (arith, double s, pow_mono {j = most_groups} l)

  -- the rows r are those of the column at `start`
  module _ {r : Table} (h : r ≡ exact_table (λ i. differs (T (start + 1 * i)) (T start)) w) where
    pub column_ready : Ready Absent r ms
    column_ready = rw (column_table_lem T s start h) q.column

    -- and their tree was written into zs, up to n, which left hs: it is the holder's
    module _ {zs hs : List ℕ} {n : ℕ} (f : Built Absent r ms [] zs 0 hs n) (long : length zs ≡ 1275) where
      abbrev H : Option Tree
      H = holder_tree T ms us start

      holder_wrote : Wrote zs 0 hs n (postfix_optional H)
      unfolding holder_tree
      holder_wrote = rw (column_table_lem T s start h) at (f.wrote none refl tt)

      holder_most : n ≤ most_built (length ms)
      unfolding holder_tree
      holder_most = omega (arith, holder_wrote.ends, optional_length H, build_size choose (length ms) none q.column.table refl tt)

      pub holder_inside : n ≤ length hs
      holder_inside = omega (arith, holder_most, marks_small, holder_wrote.same)

      pub holder_length : n ≡ length (take n hs)
      holder_length = sym (length-take-le n hs holder_inside)

      holder_list : take n hs ≡ postfix_optional H
      holder_list = wrote_take holder_wrote (omega (arith, holder_most, marks_small, holder_wrote.ends))

      pub holding : Holding Held (take n hs)
      holding = (H, holder_list, q.holder)

      -- the rows k are those over the others and the holder, and gs these variables
      module _ {k : Table} (g : k ≡ exact_table (λ i. T (cond (ltb i columns) (w * i) (w * (i - columns) + p))) (2 * columns))
          {gs : List ℕ} (v : gs ≡ us ++ (0 ∷ [])) where
        pub held_count : 2 * columns ≡ 2 ^ length gs
        held_count = double s ∙ ap (λ (x : ℕ). 2 ^ x) (sym (ap length v ∙ one_more))

        pub held_ready : Ready Held k gs
        held_ready = rw (held_table_lem T s p g, v) q.table

        pub held_room : most_for Held (length gs) (length (take n hs)) ≤ room
        held_room =
            let e : length gs - 1 ≡ length us = omega (arith, ap length v, one_more) in
            omega (arith, ap most_built e, holder_length, holder_most, z.space)

        pub columns_wrote : {out o : List ℕ} {e : ℕ} → Built Held k gs (take n hs) out 0 o e
            → Wrote out 0 o e (postfix_optional (columns_tree T ms us p start))
        unfolding columns_tree
        columns_wrote {out} {o} {e} b = rw one_more at (rw (held_table_lem T s p g, v) at (b.wrote H holder_list q.holder))

-- ---- no such tree has an `I`
pub tree_for_plain : (T : ℕ → Bool) (ms us : List ℕ) (c : Allowed) → PlainOptional (tree_for T ms us c)
unfolding constant_tree columns_tree holder_tree
tree_for_plain T ms us None = tt
tree_for_plain T ms us (Some Constant) =
    join_plain plus (build choose (length us) Absent (first_rows T ms us) us none) (join minus (single (get_or ms 0 0)) (single (get_or ms 0 0)))
    (build_plain none tt choose (length us) Absent (first_rows T ms us) us)
    (join_plain minus (single (get_or ms 0 0)) (single (get_or ms 0 0)) (single_plain (get_or ms 0 0)) (single_plain (get_or ms 0 0)))
tree_for_plain T ms us (Some (Columns low high start)) =
    build_plain (build choose (length ms) Absent (column_table T ms us start) ms none) (build_plain none tt choose (length ms) Absent (column_table T ms us start) ms)
    choose (suc (length us)) Held (held_table T ms us (low + high)) (us ++ (0 ∷ []))
