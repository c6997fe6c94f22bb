-- A built tree agrees with its table, whichever splits are chosen; it is over the variables' groups; and a row that is 1 needs a tree.
use mathlib.Core.Path.{◌≡◌, refl, sym, ap, ap₂, subst, ◌∙◌}
use mathlib.Core.Bool.{Bool, true, false, not, cond, ◌&&◌, ◌||◌, false≢true}
use mathlib.Core.Logic.{◌⊎◌, inl, inr}
use mathlib.Core.List.{List, [], ◌∷◌}
use mathlib.Core.Option.{Option, some, none}
use Prim.Native.Nat.{ℕ, zero, suc, ◌+◌, ◌^◌, ◌<◌}
use native.Mathlib.Omega.{arith}
use lib.Dec.{eqb}
use lib.ListN.{length, get_or}
use Rattle.tree.specs.Tree.{Basic, plus, minus, Tree, is_group, is_in}
use Rattle.tree.specs.InnerGroups.{Distinct}
use Rattle.table.specs.InnerTable.{filling}
use Rattle.table.proofs.TableLaws.{row_of, row_below, row_agree, row_filling}
use Rattle.forms.specs.InnerForms.{first_row, second_row}
use Rattle.free_tables.specs.InnerTables.{Table, half, row_at, low_row, first_part, second_part, usable, some_on}
use Rattle.forms.specs.declared.Row.{Row}
use Rattle.forms.specs.declared.Form.{Form}
use Rattle.forms.specs.declared.Form.TheVariants.{Drop, Less, Plus, ReducedPlus, JoinedLess, LessOutside, ReducedUnion, JoinedDifference}
use Rattle.forms.proofs.TestLaws.{both}
use Rattle.forms.proofs.FormLaws.{fits, form_value, forms_law}
use Rattle.splits.specs.InnerSplits.{is_drop, first_holder, second_holder, split_taken}
use Rattle.splits.specs.declared.Holder.{Holder}
use Rattle.splits.specs.declared.Holder.TheVariants.{Absent, Dropped, Held}
use Rattle.splits.specs.declared.Plan.{Plan}
use Rattle.splits.specs.declared.Plan.TheVariants.{Plain, First, Second}
use Rattle.splits.specs.declared.Split.{Split}
use Rattle.builder.specs.InnerBuilding.{join, single, left_tree, right_tree, outer, variable_tree, formed, without, build, Buildable}
use Rattle.builder.proofs.JoinLaws.{selects_optional, OverOptional, PlainOptional, join_plain, join_over, single_selects, single_over, single_plain}
use Rattle.builder.proofs.FormLaws.{formed_selects}
use Rattle.builder.proofs.RowLaws.{without_counts, row_around, split_row, half_rows, some_row, may_use_lem}
use Rattle.builder.proofs.TakenLaws.{BelowSays, Taken, is_taken}
use Rattle.builder.proofs.ReadyLaws.{SplitBuildable, split_buildable, top_may, in_without, variable_in, group_not_zero}

-- the variables' values where the groups are filled by v: the holder's is what its tree selects
abbrev pub filled : (ℕ → Bool) → Option Tree → ℕ → Bool
filled v h x = cond (eqb x 0) (selects_optional v h) (v x)

row_cond : (t : Table) (b : Bool) (i j : ℕ) → row_at t (cond b i j) ≡ cond b (row_at t i) (row_at t j)
row_cond t true i j = refl
row_cond t false i j = refl

module _ (v : ℕ → Bool) (h : Option Tree) where
  variable_selects : (x : ℕ) → (x ≡ 0) ⊎ (is_group x ≡ true) → selects_optional v (variable_tree h x) ≡ filled v h x
  variable_selects x (inl e) = ap (λ (k : ℕ). selects_optional v (variable_tree h k)) e ∙ sym (ap (filled v h) e)
  variable_selects x (inr g) =
      ap (λ (b : Bool). selects_optional v (cond b h (single x))) (group_not_zero x g) ∙ single_selects v x g ∙ sym (ap (λ (b : Bool). cond b (selects_optional v h) (v x)) (group_not_zero x g))

  -- row R of a part, and the row of the table with the variable's bit
  agree_split : {m : Holder} {t : Table} {gs : List ℕ} (n : ℕ) → length gs ≡ suc n → Buildable m t gs → (s : Split) → SplitBuildable m t gs s → (a b : Option Tree)
      → fits (row_at (first_part s.form t (2 ^ s.variable)) (row_of (filled v h) (without s.variable gs))) (selects_optional v a) ≡ true
      → fits (row_at (second_part s.form t (2 ^ s.variable)) (row_of (filled v h) (without s.variable gs))) (selects_optional v b) ≡ true
      → fits (row_at t (row_of (filled v h) gs)) (selects_optional v (formed s.form (variable_tree h (get_or gs s.variable 0)) a b)) ≡ true
  unfolding first_part second_part
  agree_split {m} {t} {gs} n e r s S a b p q =
      let R = row_of (filled v h) (without s.variable gs) in
      let inside : R < half t = omega (arith, half_rows t n (r.rows ∙ ap (λ (k : ℕ). 2 ^ k) e), row_below (filled v h) (without s.variable gs), ap (λ (k : ℕ). 2 ^ k) (without_counts gs s.variable S.below n e)) in
      let l = row_at t (low_row (2 ^ s.variable) R) in
      let u = row_at t (low_row (2 ^ s.variable) R + 2 ^ s.variable) in
      let x = get_or gs s.variable 0 in
      let law = forms_law s.form l u (filled v h x) (selects_optional v a) (selects_optional v b) ((may_use_lem S.may).pairs R inside)
      (subst (λ (y : Row). fits y (selects_optional v a) ≡ true) (split_row (first_row s.form) t (2 ^ s.variable) R inside) p)
      (subst (λ (y : Row). fits y (selects_optional v b) ≡ true) (split_row (second_row s.form) t (2 ^ s.variable) R inside) q) in
      ap₂ (λ (y : Row) (z : Bool). fits y z)
      (ap (row_at t) (row_around gs s.variable S.below (filled v h)) ∙ row_cond t (filled v h x) (low_row (2 ^ s.variable) R + 2 ^ s.variable) (low_row (2 ^ s.variable) R))
      (formed_selects v (variable_tree h x) a b s.form ∙ ap (λ (y : Bool). form_value s.form y (selects_optional v a) (selects_optional v b)) (variable_selects x S.variable))
      ∙ law

  no_variable : (t : Table) (gs : List ℕ) → length gs ≡ 0 → (row_at t 0).on ≡ false → fits (row_at t (row_of (filled v h) gs)) false ≡ true
  unfolding row_of
  no_variable t [] e q = rw q (go (row_at t 0).off)
    where
      go : (b : Bool) → (not b || true) ≡ true
      go true = refl
      go false = refl
  no_variable t (x ∷ gs) e q = absurd (omega arith)

  -- THE AGREEMENT, for every chooser
  pub build_agrees : (choice : Holder → Table → ℕ → ℕ) (k : ℕ) {m : Holder} {t : Table} {gs : List ℕ} → length gs ≡ k → Buildable m t gs
      → fits (row_at t (row_of (filled v h) gs)) (selects_optional v (build choice k m t gs h)) ≡ true
  unfolding build
  build_agrees choice zero {m} {t} {gs} e r = no_variable t gs e r.first
  build_agrees choice (suc n) {m} {t} {gs} e r =
      let s = split_taken m t n (choice m t n) in
      let S = split_buildable n (choice m t n) e r in
      let l = without_counts gs s.variable S.below n e in
      agree_split n e r s S _ _ (build_agrees choice n l S.first) (build_agrees choice n l S.second)

-- ---- what holds where there is no tree, and of two trees' join if of both, holds of the tree built if of the variables' trees
module _ (P : Option Tree → Type 0) (nothing : P none) (joins : (o : Basic) (a b : Option Tree) → P a → P b → P (join o a b)) where
  pub left_holds : (x a : Option Tree) → P x → P a → (form : Form) → P (left_tree form x a)
  left_holds x a q p Drop = p
  left_holds x a q p Less = p
  left_holds x a q p Plus = p
  left_holds x a q p ReducedPlus = joins minus a x p q
  left_holds x a q p JoinedLess = joins plus a x p q
  left_holds x a q p LessOutside = p
  left_holds x a q p ReducedUnion = joins minus a x p q
  left_holds x a q p JoinedDifference = joins plus a x p q

  pub right_holds : (x b : Option Tree) → P x → P b → (form : Form) → P (right_tree form x b)
  right_holds x b q r Drop = nothing
  right_holds x b q r Less = joins minus x b q r
  right_holds x b q r Plus = joins minus x b q r
  right_holds x b q r ReducedPlus = joins minus x b q r
  right_holds x b q r JoinedLess = joins minus x b q r
  right_holds x b q r LessOutside = joins minus b x r q
  right_holds x b q r ReducedUnion = r
  right_holds x b q r JoinedDifference = r

  -- whatever the tables are, if of every number's tree
  build_each : (h : Option Tree) → ((g : ℕ) → P (variable_tree h g)) → (choice : Holder → Table → ℕ → ℕ) (k : ℕ) (m : Holder) (t : Table) (gs : List ℕ) → P (build choice k m t gs h)
  unfolding build
  build_each h own choice zero m t gs = nothing
  build_each h own choice (suc n) m t gs =
      let s = split_taken m t n (choice m t n) in
      let x = own (get_or gs s.variable 0) in
      joins (outer s.form) _ _ (left_holds _ _ x (build_each h own choice n _ _ _) s.form) (right_holds _ _ x (build_each h own choice n _ _ _) s.form)

  -- of buildable ones, if of their own variables' trees
  build_holds : (h : Option Tree) (choice : Holder → Table → ℕ → ℕ) (k : ℕ) {m : Holder} {t : Table} {gs : List ℕ} → length gs ≡ k → Buildable m t gs
      → ((g : ℕ) → is_in gs g ≡ true → P (variable_tree h g)) → P (build choice k m t gs h)
  unfolding build
  build_holds h choice zero e r own = nothing
  build_holds h choice (suc n) {m} {t} {gs} e r own =
      let s = split_taken m t n (choice m t n) in
      let S = split_buildable n (choice m t n) e r in
      let l = without_counts gs s.variable S.below n e in
      let rest : (g : ℕ) → is_in (without s.variable gs) g ≡ true → P (variable_tree h g) = λ g q. own g (in_without gs s.variable S.below g q) in
      let x = own (get_or gs s.variable 0) (variable_in gs s.variable S.below) in
      joins (outer s.form) _ _ (left_holds _ _ x (build_holds h choice n l S.first rest) s.form) (right_holds _ _ x (build_holds h choice n l S.second rest) s.form)

-- over which groups
pub group_over : (p : ℕ → Bool) (h : Option Tree) (x : ℕ) → is_group x ≡ true → p x ≡ true → OverOptional p (variable_tree h x)
group_over p h x g e = subst (λ (b : Bool). OverOptional p (cond b h (single x))) (sym (group_not_zero x g)) (single_over p x g e)

pub build_over : (p : ℕ → Bool) (h : Option Tree) (choice : Holder → Table → ℕ → ℕ) (k : ℕ) {m : Holder} {t : Table} {gs : List ℕ} → length gs ≡ k → Buildable m t gs
    → ((g : ℕ) → is_in gs g ≡ true → OverOptional p (variable_tree h g)) → OverOptional p (build choice k m t gs h)
build_over p = build_holds (OverOptional p) tt (join_over p)

-- without an `I`, where the holder has none
pub build_plain : (h : Option Tree) → PlainOptional h → (choice : Holder → Table → ℕ → ℕ) (k : ℕ) (m : Holder) (t : Table) (gs : List ℕ) → PlainOptional (build choice k m t gs h)
build_plain h p = build_each PlainOptional tt join_plain h (λ x. go x (eqb x 0))
  where
    go : (x : ℕ) (b : Bool) → PlainOptional (cond b h (single x))
    go x true = p
    go x false = single_plain x

-- ---- a row that is 1 needs a tree
fits_some : (r : Row) (v : ℕ → Bool) (o : Option Tree) → r.on ≡ true → fits r (selects_optional v o) ≡ true → (u : Tree) × (o ≡ some u)
fits_some r v (some u) e q = (u, refl)
fits_some r v none e q = absurd (false≢true (sym (ap (λ (b : Bool). (not b || false) && (not r.off || true)) e) ∙ q))

pub build_some : (h : Option Tree) (choice : Holder → Table → ℕ → ℕ) {t : Table} {gs : List ℕ} → Buildable Absent t gs → Distinct gs → some_on t ≡ true
    → (u : Tree) × (build choice (length gs) Absent t gs h ≡ some u)
build_some h choice {t} {gs} r d e =
    let F = some_row t e in
    let i = F.0 in
    let v = filling gs i in
    let row : row_of (filled v h) gs ≡ i
    = row_agree (filled v h) v gs (λ g q. ap (λ (b : Bool). cond b (selects_optional v h) (v g)) (group_not_zero g (r.variables g q)))
    ∙ row_filling gs i d (omega (arith, F.1, r.rows)) in
    fits_some (row_at t i) v _ F.2
    (ap (λ (k : ℕ). fits (row_at t k) (selects_optional v (build choice (length gs) Absent t gs h))) (sym row) ∙ build_agrees v h choice (length gs) refl r)

-- ---- a table whose holder is dropped: the tree is that of its part without the holder
drop_form : (form : Form) → is_drop form ≡ true → form ≡ Drop
drop_form Drop e = refl
drop_form Less e = absurd (false≢true e)
drop_form Plus e = absurd (false≢true e)
drop_form ReducedPlus e = absurd (false≢true e)
drop_form JoinedLess e = absurd (false≢true e)
drop_form LessOutside e = absurd (false≢true e)
drop_form ReducedUnion e = absurd (false≢true e)
drop_form JoinedDifference e = absurd (false≢true e)

not_absent : Dropped ≡ Absent → ⊥
not_absent e = let z : ◌≡◌ {A = ℕ} 0 1 = cc in omega arith

not_held : Dropped ≡ Held → ⊥
not_held e = let z : ◌≡◌ {A = ℕ} 0 1 = cc in omega arith

never_below : (form : Form) (t : Table) (step : ℕ) (u : Plan) → BelowSays Dropped form t step u → ⊥
never_below form t step Plain b = not_absent b.0
never_below form t step First b = not_held b.0
never_below form t step Second b = not_held b.0

dropped_split : (t : Table) (n : ℕ) (s : Split) → Taken Dropped t n s → s ≡ record { form = Drop; variable = n; plan = Plain }
dropped_split t n s (inl T) =
    ap (λ (f : Form). record { form = f; variable = s.variable; plan = s.plan }) (drop_form s.form (both (usable s.form t (half t)) (is_drop s.form) T.may).1)
    ∙ ap₂ (λ (v : ℕ) (u : Plan). record { form = Drop; variable = v; plan = u }) T.at T.plain
dropped_split t n s (inr B) = absurd (never_below s.form t (2 ^ s.variable) s.plan B.says)

pub build_dropped : (h : Option Tree) (choice : Holder → Table → ℕ → ℕ) (n : ℕ) {t : Table} {gs : List ℕ} → Buildable Dropped t gs
    → build choice (suc n) Dropped t gs h ≡ join plus (build choice n Absent (first_part Drop t (2 ^ n)) (without n gs) h) none
unfolding build
build_dropped h choice n {t} {gs} r =
    ap (λ (s : Split). formed s.form (variable_tree h (get_or gs s.variable 0))
    (build choice n (first_holder s.plan) (first_part s.form t (2 ^ s.variable)) (without s.variable gs) h)
    (build choice n (second_holder s.plan) (second_part s.form t (2 ^ s.variable)) (without s.variable gs) h))
    (dropped_split t n (split_taken Dropped t n (choice Dropped t n)) (is_taken Dropped t n (choice Dropped t n) (top_may r)))

pub dropped_part : (n : ℕ) {t : Table} {gs : List ℕ} → length gs ≡ suc n → Buildable Dropped t gs → Buildable Absent (first_part Drop t (2 ^ n)) (without n gs)
dropped_part n {t} {gs} e r =
    subst (λ (s : Split). Buildable (first_holder s.plan) (first_part s.form t (2 ^ s.variable)) (without s.variable gs))
    (dropped_split t n (split_taken Dropped t n 0) (is_taken Dropped t n 0 (top_may r))) (split_buildable n 0 e r).first
