-- Fillings and rows are inverse to each other, so a tree over the groups is known by its table:
-- two trees over these groups are equivalent exactly when their tables agree.
use mathlib.Core.Path.{◌≡◌, refl, sym, ap, ap₂, fun_ext, ◌∙◌}
use mathlib.Core.Bool.{Bool, true, false, not, cond, ◌||◌, true≢false, false≢true}
use mathlib.Core.List.{List, [], ◌∷◌, ◌++◌}
use Prim.Native.Nat.{ℕ, zero, suc, ◌+◌, ◌*◌, ◌/◌, ◌%◌, ◌^◌, min, ◌<◌, ◌≤◌}
use native.Mathlib.Nat.{mul_assoc, mul_comm, pow-suc, div-one, div-eq_of_lt}
use native.Mathlib.Omega.{arith}
use lib.Pow.{pow_mono, shr-shr}
use lib.Dec.{eqb, leb, ltb}
use borrow.Author.Tests.{eqb-true, eqb-false, eq-eqb, ne_eqb, leb-true, leb-false, ltb-true, lt-ltb}
use lib.ListN.{length, get_or, take, length-take}
use lib.Seq.{take-length}
use Rattle.std.specs.Prelude.{Some, None, ◌==◌}
use Rattle.std.specs.Option.{unwrap_or}
use Rattle.std.specs.List.{position, position_or_len}
use Rattle.std.proofs.lemmas.Bool.Decides.{nat_tests}
use Rattle.tree.specs.Tree.{Tree, selects, Over, Equivalent, is_in, most_groups}
use Rattle.tree.specs.InnerGroups.{Distinct}
use Rattle.tree.proofs.TreeLaws.{selects_agree, selects_nothing, equivalent_selects, selects_equivalent}
use Rattle.tree.proofs.GroupLaws.{is_in_here, in_later}
use Rattle.table.specs.InnerTable.{row_count, filling, value_at, tabulate, table, IsPlace}

-- the row of a filling v: its bit k is 1 where v has group k of the list in
unfoldable pub row_of : (ℕ → Bool) → List ℕ → ℕ
row_of v [] = 0
row_of v (x ∷ gs) = cond (v x) 1 0 + 2 * row_of v gs

-- T has, at every row that the groups gs have, what the tree t selects there
pub record Tabled (T : ℕ → Bool) (gs : List ℕ) (t : Tree) : Type 0 where
  pub rows : (i : ℕ) → i < 2 ^ length gs → T i ≡ value_at gs t i

-- ---- rows and fillings
pub row_below : (v : ℕ → Bool) (gs : List ℕ) → row_of v gs < 2 ^ length gs
unfolding row_of
row_below v [] = omega arith
row_below v (x ∷ gs) = go (v x) (row_below v gs)
  where
    go : (b : Bool) → row_of v gs < 2 ^ length gs → cond b 1 0 + 2 * row_of v gs < 2 ^ suc (length gs)
    go true h = omega (arith, pow-suc 2 (length gs))
    go false h = omega (arith, pow-suc 2 (length gs))

pub row_agree : (v w : ℕ → Bool) (gs : List ℕ) → ((g : ℕ) → is_in gs g ≡ true → v g ≡ w g) → row_of v gs ≡ row_of w gs
unfolding row_of
row_agree v w [] h = refl
row_agree v w (x ∷ gs) h =
    ap₂ (λ (b : Bool) (r : ℕ). cond b 1 0 + 2 * r) (h x (is_in_here x gs)) (row_agree v w gs (λ g e. h g (in_later x gs g e)))

pub row_append : (v : ℕ → Bool) (ms us : List ℕ) → row_of v (ms ++ us) ≡ row_of v ms + 2 ^ length ms * row_of v us
unfolding row_of
row_append v [] us = omega arith
row_append v (x ∷ ms) us =
    ap (λ (r : ℕ). cond (v x) 1 0 + 2 * r) (row_append v ms us)
    ∙ (let e : 2 ^ suc (length ms) * row_of v us ≡ 2 * (2 ^ length ms * row_of v us)
    = ap (λ (k : ℕ). k * row_of v us) (pow-suc 2 (length ms) ∙ mul_comm (2 ^ length ms) 2) ∙ mul_assoc 2 (2 ^ length ms) (row_of v us) in
    omega arith)

odd : (b : Bool) (n : ℕ) → eqb ((cond b 1 0 + 2 * n) % 2) 1 ≡ b
odd true n = eq-eqb ((1 + 2 * n) % 2) 1 (omega arith)
odd false n = ne_eqb ((0 + 2 * n) % 2) 1 (λ e. omega arith)

half : (b : Bool) (n : ℕ) → (cond b 1 0 + 2 * n) / 2 ≡ n
half true n = omega arith
half false n = omega arith

-- the row of a filling is filled as that filling
pub filling_row : (v : ℕ → Bool) (gs : List ℕ) (g : ℕ) → is_in gs g ≡ true → filling gs (row_of v gs) g ≡ v g
unfolding filling row_of is_in
filling_row v [] g h = absurd (false≢true h)
filling_row v (x ∷ gs) g h = rw (odd (v x), half (v x)) (go (eqb g x) refl h (filling_row v gs g))
  where
    go : (b : Bool) → eqb g x ≡ b → b || is_in gs g ≡ true → (is_in gs g ≡ true → filling gs (row_of v gs) g ≡ v g)
        → cond b (v x) (filling gs (row_of v gs) g) ≡ v g
    go true e k i = ap v (sym (eqb-true g x e))
    go false e k i = i k

-- and the filling of a row has that row, where no group stands twice
pub row_filling : (gs : List ℕ) (i : ℕ) → Distinct gs → i < 2 ^ length gs → row_of (filling gs i) gs ≡ i
unfolding filling row_of Distinct
row_filling [] i d h = omega arith
row_filling (x ∷ gs) i d h =
    let b : i / 2 < 2 ^ length gs = omega (arith, pow-suc 2 (length gs)) in
    let r : row_of (filling (x ∷ gs) i) gs ≡ i / 2 = row_agree (filling (x ∷ gs) i) (filling gs (i / 2)) gs other ∙ row_filling gs (i / 2) d.1 b in
    rw (r, eq-eqb x x refl) (low (eqb (i % 2) 1) refl)
  where
    other : (g : ℕ) → is_in gs g ≡ true → filling (x ∷ gs) i g ≡ filling gs (i / 2) g
    other g e = rw (ne_eqb g x (λ q. true≢false (sym e ∙ (ap (is_in gs) q ∙ d.0))))

    low : (b : Bool) → eqb (i % 2) 1 ≡ b → cond b 1 0 + 2 * (i / 2) ≡ i
    low true e = omega (arith, eqb-true (i % 2) 1 e)
    low false e = let q : i % 2 ≡ 1 → ⊥ = eqb-false (i % 2) 1 e in omega arith

filling_zero : (gs : List ℕ) (g : ℕ) → filling gs 0 g ≡ false
unfolding filling
filling_zero [] g = refl
filling_zero (x ∷ gs) g = go (eqb g x) (filling_zero gs g)
  where
    go : (b : Bool) → filling gs 0 g ≡ false → cond b false (filling gs 0 g) ≡ false
    go true e = refl
    go false e = e

-- no tree selects anything at row 0
pub value_zero : (gs : List ℕ) (t : Tree) → value_at gs t 0 ≡ false
value_zero gs t = ap (λ (v : ℕ → Bool). selects v t) (fun_ext (filling_zero gs)) ∙ selects_nothing t

-- ---- a tree over the groups is known by its rows
pub selects_row : {T : ℕ → Bool} (gs : List ℕ) (t : Tree) → Tabled T gs t → Over (is_in gs) t → (v : ℕ → Bool) → selects v t ≡ T (row_of v gs)
selects_row gs t tabled over v =
    selects_agree (is_in gs) v (filling gs (row_of v gs)) (λ g e. sym (filling_row v gs g e)) t over ∙ sym (tabled.rows (row_of v gs) (row_below v gs))

pub length_tabulate : {A : Type 0} (f : ℕ → A) (n i : ℕ) → length (tabulate f n i) ≡ n
unfolding tabulate
length_tabulate f zero i = refl
length_tabulate f (suc n) i = ap suc (length_tabulate f n (suc i))

pub tabulate_at : {A : Type 0} (f : ℕ → A) (n i j : ℕ) (d : A) → j < n → get_or (tabulate f n i) j d ≡ f (i + j)
unfolding tabulate
tabulate_at f zero i j d h = absurd (omega arith)
tabulate_at f (suc n) i zero d h = ap f (omega arith)
tabulate_at f (suc n) i (suc j) d h = tabulate_at f n (suc i) j d (omega arith) ∙ ap f (omega arith)

pub length_table : (gs : List ℕ) (t : Tree) → length (table gs t) ≡ row_count
unfolding table
length_table gs t = length_tabulate (value_at gs t) row_count 0

pub table_at : (gs : List ℕ) (t : Tree) (i : ℕ) → i < row_count → get_or (table gs t) i false ≡ value_at gs t i
unfolding table
table_at gs t i h = tabulate_at (value_at gs t) row_count 0 i false h ∙ ap (value_at gs t) (omega arith)

-- at most eight groups have at most 256 rows
pub rows_most : (k : ℕ) → k ≤ most_groups → 2 ^ k ≤ row_count
rows_most k h = pow_mono h

-- two trees over these groups are equivalent exactly when their tables agree
pub record SameTable (gs : List ℕ) (t u : Tree) : Type 0 where
  pub equivalent_tables : Equivalent t u → table gs t ≡ table gs u
  pub tables_equivalent : table gs t ≡ table gs u → Equivalent t u

pub table_law : (gs : List ℕ) (t u : Tree) → length gs ≤ most_groups → Over (is_in gs) t → Over (is_in gs) u → SameTable gs t u
unfolding table
table_law gs t u h p q = record {
  equivalent_tables = λ e. ap (λ (f : ℕ → Bool). tabulate f row_count 0) (fun_ext (λ i. equivalent_selects e (filling gs i)));
  tables_equivalent = λ e. selects_equivalent t u (λ v.
      let b : row_of v gs < row_count = omega (arith, row_below v gs, rows_most (length gs) h) in
      selects_row gs t (record { rows = λ i l. table_at gs t i (omega (arith, rows_most (length gs) h)) }) p v
      ∙ ap (λ (r : List Bool). get_or r (row_of v gs) false) e
      ∙ sym (selects_row gs u (record { rows = λ i l. table_at gs u i (omega (arith, rows_most (length gs) h)) }) q v));
}

-- ---- the search for a group's place: among how many numbers it is not, before the first that is it
abbrev first : List ℕ → ℕ → ℕ
first gs g = position_or_len (λ x. x == g) gs

filling_first : (gs : List ℕ) (g row : ℕ) → filling gs row g ≡ cond (ltb (first gs g) (length gs)) (eqb (row / 2 ^ first gs g % 2) 1) false
unfolding filling
filling_first [] g row = refl
filling_first (x ∷ gs) g row = go (eqb x g) refl (filling_first gs g (row / 2))
  where
    past : (m n : ℕ) → ltb (1 + m) (suc n) ≡ ltb m n
    past m n = grind (arith, nat_tests)

    go : (b : Bool) → eqb x g ≡ b → filling gs (row / 2) g ≡ cond (ltb (first gs g) (length gs)) (eqb (row / 2 / 2 ^ first gs g % 2) 1) false
        → cond (eqb g x) (eqb (row % 2) 1) (filling gs (row / 2) g)
        ≡ cond (ltb (cond (not b) (1 + first gs g) 0) (suc (length gs))) (eqb (row / 2 ^ cond (not b) (1 + first gs g) 0 % 2) 1) false
    go true e ih = rw (eq-eqb g x (sym (eqb-true x g e)), div-one row, lt-ltb 0 (suc (length gs)) (omega arith))
    go false e ih = rw (ne_eqb g x (λ q. eqb-false x g e (sym q)), ih, shr-shr row 1 (first gs g), past (first gs g) (length gs))

-- that place, or the bit after the last where it is beyond a row's bits or there is none
pub place_is : (gs : List ℕ) (g : ℕ) → IsPlace gs g (min (unwrap_or (position (λ x. x == g) gs) most_groups) most_groups)
place_is gs g = go (ltb (first gs g) (length gs)) refl
  where
    far : (n row : ℕ) → most_groups ≤ n → row < row_count → row / 2 ^ n ≡ 0
    far n row h r = let p : 2 ^ 8 ≤ 2 ^ n = pow_mono h in div-eq_of_lt (omega arith)

    near : (n row : ℕ) → row < row_count → row / 2 ^ min n most_groups ≡ row / 2 ^ n
    near n row r = elim (leb n most_groups) as (λ b. leb n most_groups ≡ b → row / 2 ^ min n most_groups ≡ row / 2 ^ n) [
      | true ↦ λ e. let l = leb-true n most_groups e in let m : min n most_groups ≡ n = omega arith in rw m
      | false ↦ λ e. let l = leb-false n most_groups e in let m : min n most_groups ≡ most_groups = omega arith in rw (m, far most_groups row (omega arith) r, far n row (omega arith) r)
    ] refl

    go : (b : Bool) → ltb (first gs g) (length gs) ≡ b → IsPlace gs g (min (unwrap_or (cond b (Some (first gs g)) None) most_groups) most_groups)
    go true e = record { small = omega arith; says = λ row r. rw (filling_first gs g row, e, near (first gs g) row r) }
    go false e = record { small = omega arith; says = λ row r. rw (filling_first gs g row, e, far most_groups row (omega arith) r) }

-- groups after those that a row has bits for are in none
filling_take : (n : ℕ) (gs : List ℕ) (row g : ℕ) → row < 2 ^ n → filling (take n gs) row g ≡ filling gs row g
unfolding filling
filling_take zero gs row g h = let z : row ≡ 0 = omega arith in rw (z, filling_zero gs g)
filling_take (suc n) [] row g h = refl
filling_take (suc n) (x ∷ gs) row g h = ap (cond (eqb g x) (eqb (row % 2) 1)) (filling_take n gs (row / 2) g (omega (arith, pow-suc 2 n)))

place_taken : (gs : List ℕ) (g m p : ℕ) → m ≡ min (length gs) most_groups → IsPlace (take m gs) g p → IsPlace gs g p
place_taken gs g m p s h = record { small = h.small; says = λ row r. h.says row r ∙ kept row r }
  where
    kept : (row : ℕ) → row < row_count → filling (take m gs) row g ≡ filling gs row g
    kept row r = elim (leb (length gs) most_groups) as (λ b. leb (length gs) most_groups ≡ b → filling (take m gs) row g ≡ filling gs row g) [
      | true ↦ λ e. let q : m ≡ length gs = omega (arith, leb-true (length gs) most_groups e) in rw (q, take-length gs)
      | false ↦ λ e. let q : m ≡ most_groups = omega (arith, leb-false (length gs) most_groups e) in rw q (filling_take most_groups gs row g (omega arith))
    ] refl

-- so the place is found among the first eight
pub place_among : (gs : List ℕ) (g m : ℕ) → m ≡ min (length gs) most_groups → IsPlace gs g (unwrap_or (position (λ x. x == g) (take m gs)) most_groups)
place_among gs g m s = go (ltb (first (take m gs) g) (length (take m gs))) refl (place_taken gs g m _ s (place_is (take m gs) g))
  where
    go : (b : Bool) → ltb (first (take m gs) g) (length (take m gs)) ≡ b
        → IsPlace gs g (min (unwrap_or (cond b (Some (first (take m gs) g)) None) most_groups) most_groups)
        → IsPlace gs g (unwrap_or (cond b (Some (first (take m gs) g)) None) most_groups)
    go true e h =
        let l = ltb-true (first (take m gs) g) (length (take m gs)) e in
        let q : min (first (take m gs) g) most_groups ≡ first (take m gs) g = omega (arith, length-take m gs) in
        rw q at h
    go false e h = h
