-- A tree built with the holder as a variable is gathered: the holder's tree stands in it once, and all other leaves are unmarked.
use mathlib.Core.Path.{◌≡◌, refl, sym, ap, ap₂, subst, ◌∙◌}
use mathlib.Core.Bool.{Bool, true, false, not, true≢false, false≢true}
use mathlib.Core.Logic.{inl, inr}
use mathlib.Core.List.{List, [], ◌∷◌, ◌++◌}
use mathlib.Core.Option.{Option, some, none}
use Prim.Native.Nat.{ℕ, zero, suc, ◌+◌, ◌^◌, ◌<◌}
use native.Mathlib.Omega.{arith}
use lib.ListN.{length, get_or, take, drop, length-append, get_or-append}
use lib.Seq.{get_or_at}
use Rattle.tree.specs.Tree.{union, difference, Basic, plus, minus, Tree, node, is_group, is_in}
use Rattle.tree.specs.InnerGroups.{Distinct}
use Rattle.table.specs.InnerTable.{tabulate}
use Rattle.forms.specs.InnerForms.{free}
use Rattle.free_tables.specs.InnerTables.{Table, half, low_row, first_part, second_part, usable, some_on}
use Rattle.forms.specs.declared.Form.{Form}
use Rattle.forms.specs.declared.Form.TheVariants.{Drop, Less, Plus, ReducedPlus, JoinedLess, LessOutside, ReducedUnion, JoinedDifference}
use Rattle.splits.specs.InnerSplits.{keeps_holder, allowed_top, drops_in_first, first_holder, second_holder, split_taken}
use Rattle.splits.specs.declared.Holder.{Holder}
use Rattle.splits.specs.declared.Holder.TheVariants.{Absent, Dropped, Held}
use Rattle.splits.specs.declared.Plan.{Plan}
use Rattle.splits.specs.declared.Plan.TheVariants.{Plain, First, Second}
use Rattle.splits.specs.declared.Split.{Split}
use Rattle.builder.specs.InnerBuilding.{join, left_tree, right_tree, outer, formed, variable_tree, without, build, Buildable}
use Rattle.forms.proofs.TestLaws.{both}
use Rattle.builder.proofs.JoinLaws.{OverOptional, join_over}
use Rattle.builder.proofs.RowLaws.{half_rows, without_counts, usable_by}
use Rattle.builder.proofs.TakenLaws.{BelowSays, Taken, is_taken}
use Rattle.builder.proofs.ReadyLaws.{SplitBuildable, split_buildable, top_may, in_without, variable_in, group_tree, without_last, without_below}
use Rattle.builder.proofs.BuildLaws.{left_holds, right_holds, group_over, build_over, build_some, build_dropped, dropped_part}
use Rattle.columns.proofs.ColumnLaws.{plus_not}
use Rattle.gather.specs.Gathering.{Gathered}
use Rattle.gather.proofs.GatheringLaws.{unmarked, gathered_left, gathered_right}

-- ---- gathered, of no tree or a tree
pub record GatheredSome (m : ℕ → Bool) (o : Option Tree) : Type 0 where
  pub tree : Tree
  pub is : o ≡ some tree
  pub position : ℕ
  pub gathered : Gathered m tree position

abbrev pub Some : Option Tree → Type 0
Some o = (t : Tree) × (o ≡ some t)

no_tree : {t : Tree} → none ≡ some t → ⊥
no_tree e = let z : ◌≡◌ {A = ℕ} 0 1 = cc in omega arith

module _ {m : ℕ → Bool} where
  gathered_some : {t : Tree} {p : ℕ} → Gathered m t p → GatheredSome m (some t)
  gathered_some {t} {p} g = record { tree = t; is = refl; position = p; gathered = g }

  some_left : (o : Basic) {u : Tree} {p : ℕ} (b : Option Tree) → Gathered m u p → OverOptional (unmarked m) b → GatheredSome m (join o (some u) b)
  some_left plus none g h = gathered_some g
  some_left plus (some b) g h = gathered_some (gathered_left union b g h)
  some_left minus none g h = gathered_some g
  some_left minus (some b) g h = gathered_some (gathered_left difference b g h)

  some_right : (o : Basic) (a : Option Tree) {u : Tree} {p : ℕ} → (o ≡ minus → Some a) → OverOptional (unmarked m) a → Gathered m u p → GatheredSome m (join o a (some u))
  some_right plus none n h g = gathered_some g
  some_right plus (some a) n h g = gathered_some (gathered_right union a h g)
  some_right minus none n h g = absurd (no_tree (n refl).1)
  some_right minus (some a) n h g = gathered_some (gathered_right difference a h g)

  pub join_left : (o : Basic) (a b : Option Tree) → GatheredSome m a → OverOptional (unmarked m) b → GatheredSome m (join o a b)
  join_left o a b g h = subst (λ (x : Option Tree). GatheredSome m (join o x b)) (sym g.is) (some_left o b g.gathered h)

  pub join_right : (o : Basic) (a b : Option Tree) → (o ≡ minus → Some a) → OverOptional (unmarked m) a → GatheredSome m b → GatheredSome m (join o a b)
  join_right o a b n h g = subst (λ (x : Option Tree). GatheredSome m (join o a x)) (sym g.is) (some_right o a n h g.gathered)

-- ---- a form's tree with the holder as its variable
abbrev Keeps : Form → Option Tree → Option Tree → Type 0
Keeps Drop a b = ⊥
Keeps Less a b = Some a
Keeps Plus a b = Unit {0}
Keeps ReducedPlus a b = ⊥
Keeps JoinedLess a b = ⊥
Keeps LessOutside a b = Some a × Some b
Keeps ReducedUnion a b = Some a
Keeps JoinedDifference a b = Unit {0}

-- .. and with the holder in b
abbrev Kept : Form → Option Tree → Type 0
Kept Drop a = ⊥
Kept Less a = Some a
Kept Plus a = Unit {0}
Kept ReducedPlus a = Unit {0}
Kept JoinedLess a = Unit {0}
Kept LessOutside a = Some a
Kept ReducedUnion a = Unit {0}
Kept JoinedDifference a = Unit {0}

joined_some : (a x : Option Tree) → Some x → Some (join plus a x)
joined_some none x s = s
joined_some (some a) x (t, e) = (node union a t, ap (join plus (some a)) e)

left_some : (x a : Option Tree) (form : Form) → Kept form a → Some x → outer form ≡ minus → Some (left_tree form x a)
left_some x a Drop k s e = absurd k
left_some x a Less k s e = k
left_some x a Plus k s e = plus_not e
left_some x a ReducedPlus k s e = plus_not e
left_some x a JoinedLess k s e = joined_some a x s
left_some x a LessOutside k s e = k
left_some x a ReducedUnion k s e = plus_not e
left_some x a JoinedDifference k s e = joined_some a x s

module _ {m : ℕ → Bool} (x a b : Option Tree) where
  formed_variable : (form : Form) → Keeps form a b → GatheredSome m x → OverOptional (unmarked m) a → OverOptional (unmarked m) b → GatheredSome m (formed form x a b)
  formed_variable Drop k g p q = absurd k
  formed_variable Less k g p q = join_right minus a (join minus x b) (λ e. k) p (join_left minus x b g q)
  formed_variable Plus k g p q = join_right plus a (join minus x b) (λ e. plus_not e) p (join_left minus x b g q)
  formed_variable ReducedPlus k g p q = absurd k
  formed_variable JoinedLess k g p q = absurd k
  formed_variable LessOutside k g p q = join_right minus a (join minus b x) (λ e. k.0) p (join_right minus b x (λ e. k.1) q g)
  formed_variable ReducedUnion k g p q = join_left plus (join minus a x) b (join_right minus a x (λ e. k) p g) q
  formed_variable JoinedDifference k g p q = join_left minus (join plus a x) b (join_right plus a x (λ e. plus_not e) p g) q

  -- the holder in a
  left_first_lem : (form : Form) → GatheredSome m a → OverOptional (unmarked m) x → GatheredSome m (left_tree form x a)
  left_first_lem Drop g p = g
  left_first_lem Less g p = g
  left_first_lem Plus g p = g
  left_first_lem ReducedPlus g p = join_left minus a x g p
  left_first_lem JoinedLess g p = join_left plus a x g p
  left_first_lem LessOutside g p = g
  left_first_lem ReducedUnion g p = join_left minus a x g p
  left_first_lem JoinedDifference g p = join_left plus a x g p

  formed_first : (form : Form) → GatheredSome m a → OverOptional (unmarked m) x → OverOptional (unmarked m) b → GatheredSome m (formed form x a b)
  formed_first form g p q = join_left (outer form) (left_tree form x a) (right_tree form x b) (left_first_lem form g p) (right_holds (OverOptional (unmarked m)) tt (join_over (unmarked m)) x b p q form)

  -- the holder in b
  second_gathered : (form : Form) → Kept form a → GatheredSome m b → Some x → OverOptional (unmarked m) x → GatheredSome m (right_tree form x b)
  second_gathered Drop k g s p = absurd k
  second_gathered Less k g s p = join_right minus x b (λ e. s) p g
  second_gathered Plus k g s p = join_right minus x b (λ e. s) p g
  second_gathered ReducedPlus k g s p = join_right minus x b (λ e. s) p g
  second_gathered JoinedLess k g s p = join_right minus x b (λ e. s) p g
  second_gathered LessOutside k g s p = join_left minus b x g p
  second_gathered ReducedUnion k g s p = g
  second_gathered JoinedDifference k g s p = g

  formed_second : (form : Form) → Kept form a → GatheredSome m b → Some x → OverOptional (unmarked m) x → OverOptional (unmarked m) a → GatheredSome m (formed form x a b)
  formed_second form k g s p q =
      join_right (outer form) (left_tree form x a) (right_tree form x b) (left_some x a form k s) (left_holds (OverOptional (unmarked m)) tt (join_over (unmarked m)) x a p q form) (second_gathered form k g s p)

keeps_by_lem : (form : Form) (t : Table) (a b : Option Tree) → keeps_holder form t ≡ true → (some_on (first_part form t (half t)) ≡ true → Some a) → (some_on (second_part form t (half t)) ≡ true → Some b)
    → Keeps form a b
keeps_by_lem Drop t a b k p q = absurd (false≢true k)
keeps_by_lem Less t a b k p q = p k
keeps_by_lem Plus t a b k p q = tt
keeps_by_lem ReducedPlus t a b k p q = absurd (false≢true k)
keeps_by_lem JoinedLess t a b k p q = absurd (false≢true k)
keeps_by_lem LessOutside t a b k p q = let z = both (some_on (first_part LessOutside t (half t))) (some_on (second_part LessOutside t (half t))) k in (p z.0, q z.1)
keeps_by_lem ReducedUnion t a b k p q = p k
keeps_by_lem JoinedDifference t a b k p q = tt

held_not_absent : Held ≡ Absent → ⊥
held_not_absent e = let z : ◌≡◌ {A = ℕ} 0 1 = cc in omega arith

-- ---- each variable stays once
outside : (b : Bool) → (b ≡ true → ⊥) → b ≡ false
outside true n = absurd (n refl)
outside false n = refl

without_later : (v x : ℕ) (us : List ℕ) → without (suc v) (x ∷ us) ≡ x ∷ without v us
without_later v x us = ap (λ (k : ℕ). x ∷ (take v us ++ drop k (x ∷ us))) (let e : suc v + 1 ≡ suc (v + 1) = omega arith in e)

distinct_without : (v : ℕ) (us : List ℕ) → v < length us → Distinct us → Distinct (without v us)
unfolding Distinct
distinct_without v [] h d = absurd (omega arith)
distinct_without zero (x ∷ us) h d = d.1
distinct_without (suc v) (x ∷ us) h d =
    subst Distinct (sym (without_later v x us))
    (outside (is_in (without v us) x) (λ q. true≢false (sym (in_without us v (omega arith) x q) ∙ d.0)), distinct_without v us (omega arith) d.1)

-- b's table of Drop is free, so the holder can be dropped there
dark : (n k i : ℕ) → get_or (tabulate (λ r. free) n k) i free ≡ free
unfolding tabulate
dark zero k i = refl
dark (suc n) k zero = refl
dark (suc n) k (suc i) = dark n (suc k) i

free_drops : (t : Table) (step : ℕ) → usable Drop (second_part Drop t step) (half (second_part Drop t step)) ≡ true
unfolding second_part
free_drops t step =
    let w = second_part Drop t step in
    let d : (i : ℕ) → get_or w i free ≡ free = dark (half t) 0 in
    usable_by {t = w} (record {
      pairs = λ r l. rw (d (low_row (half w) r));
      first = rw (d (low_row (half w) 0), d (low_row (half w) 0 + half w));
      second = refl;
    })

kept_by : (form : Form) (t : Table) (step : ℕ) (a : Option Tree) → drops_in_first form (first_part form t step) ≡ true
    → usable Drop (second_part form t step) (half (second_part form t step)) ≡ false → (some_on (first_part Drop (first_part form t step) (half (first_part form t step))) ≡ true → Some a) → Kept form a
kept_by Drop t step a d f s = absurd (true≢false (sym (free_drops t step) ∙ f))
kept_by Less t step a d f s = s (both (usable Drop (first_part Less t step) (half (first_part Less t step))) (some_on (first_part Drop (first_part Less t step) (half (first_part Less t step)))) d).1
kept_by Plus t step a d f s = tt
kept_by ReducedPlus t step a d f s = tt
kept_by JoinedLess t step a d f s = tt
kept_by LessOutside t step a d f s =
    s (both (usable Drop (first_part LessOutside t step) (half (first_part LessOutside t step))) (some_on (first_part Drop (first_part LessOutside t step) (half (first_part LessOutside t step)))) d).1
kept_by ReducedUnion t step a d f s = tt
kept_by JoinedDifference t step a d f s = tt

-- ---- the holder is the last variable
module _ (us : List ℕ) (n : ℕ) (e : length us ≡ n) where
  end_length : length (us ++ (0 ∷ [])) ≡ suc n
  end_length = omega (arith, length-append us (0 ∷ []))

  end_without : without n (us ++ (0 ∷ [])) ≡ us
  end_without = ap (λ (k : ℕ). without k (us ++ (0 ∷ []))) (sym e) ∙ without_last us

-- ---- the induction
-- variables: the others, which are unmarked groups, each once, and the holder
pub record Others (m : ℕ → Bool) (us : List ℕ) : Type 0 where
  pub groups : (g : ℕ) → is_in us g ≡ true → is_group g ≡ true
  pub unmarked : (g : ℕ) → is_in us g ≡ true → m g ≡ false
  pub once : Distinct us

module _ (h : Option Tree) (choice : Holder → Table → ℕ → ℕ) where
  absent_some : (n : ℕ) {t : Table} (gs us : List ℕ) → gs ≡ us → length us ≡ n → Buildable Absent t gs → Distinct us → some_on t ≡ true → Some (build choice n Absent t gs h)
  absent_some n {t} gs us w e r d s =
      subst (λ (k : ℕ). Some (build choice k Absent t gs h)) (ap length w ∙ e) (build_some h choice r (subst Distinct (sym w) d) s)

  dropped_some : (n : ℕ) {t : Table} (us : List ℕ) → length us ≡ n → Buildable Dropped t (us ++ (0 ∷ [])) → Distinct us → some_on (first_part Drop t (half t)) ≡ true
      → Some (build choice (suc n) Dropped t (us ++ (0 ∷ [])) h)
  dropped_some n {t} us e r d s =
      let l = end_length us n e in
      let w = end_without us n e in
      let half_is : half t ≡ 2 ^ n = half_rows t n (r.rows ∙ ap (λ (k : ℕ). 2 ^ k) l) in
      let a = absent_some n (without n (us ++ (0 ∷ []))) us w e (dropped_part n l r) d (subst (λ (k : ℕ). some_on (first_part Drop t k) ≡ true) half_is s) in
      (a.0, build_dropped h choice n r ∙ ap (λ (x : Option Tree). join plus x none) a.1)

module _ {m : ℕ → Bool} (h : Option Tree) (choice : Holder → Table → ℕ → ℕ) where
  -- a tree over unmarked groups
  pub plain_over : (k : ℕ) {t : Table} {gs : List ℕ} → length gs ≡ k → Buildable Absent t gs → ((g : ℕ) → is_in gs g ≡ true → m g ≡ false) → OverOptional (unmarked m) (build choice k Absent t gs h)
  plain_over k e r un = build_over (unmarked m) h choice k e r (λ g q. group_over (unmarked m) h g (r.variables g q) (ap not (un g q)))

  dropped_over : (n : ℕ) {t : Table} (us : List ℕ) → length us ≡ n → Buildable Dropped t (us ++ (0 ∷ [])) → Others m us
      → OverOptional (unmarked m) (build choice (suc n) Dropped t (us ++ (0 ∷ [])) h)
  dropped_over n {t} us e r o =
      let l = end_length us n e in
      let w = end_without us n e in
      subst (OverOptional (unmarked m)) (sym (build_dropped h choice n r))
      (join_over (unmarked m) plus (build choice n Absent (first_part Drop t (2 ^ n)) (without n (us ++ (0 ∷ []))) h) none
      (plain_over n (ap length w ∙ e) (dropped_part n l r) (λ g q. o.unmarked g (ap (λ (ys : List ℕ). is_in ys g) (sym w) ∙ q))) tt)

  -- the holder is split
  top_held : (n : ℕ) {t : Table} (us : List ℕ) → length us ≡ n → Buildable Held t (us ++ (0 ∷ [])) → Others m us → GatheredSome m h → (form : Form) → allowed_top Held form t ≡ true
      → SplitBuildable Held t (us ++ (0 ∷ [])) (record { form = form; variable = n; plan = Plain })
      → GatheredSome m (formed form (variable_tree h (get_or (us ++ (0 ∷ [])) n 0))
      (build choice n Absent (first_part form t (2 ^ n)) (without n (us ++ (0 ∷ []))) h)
      (build choice n Absent (second_part form t (2 ^ n)) (without n (us ++ (0 ∷ []))) h))
  top_held n {t} us e r o g form may S =
      let l = end_length us n e in
      let w = end_without us n e in
      let half_is : half t ≡ 2 ^ n = half_rows t n (r.rows ∙ ap (λ (k : ℕ). 2 ^ k) l) in
      let un : (g : ℕ) → is_in (without n (us ++ (0 ∷ []))) g ≡ true → m g ≡ false = λ g q. o.unmarked g (ap (λ (ys : List ℕ). is_in ys g) (sym w) ∙ q) in
      let a = build choice n Absent (first_part form t (2 ^ n)) (without n (us ++ (0 ∷ []))) h in
      let b = build choice n Absent (second_part form t (2 ^ n)) (without n (us ++ (0 ∷ []))) h in
      let keeps : Keeps form a b = keeps_by_lem form t a b (both (usable form t (half t)) (keeps_holder form t) may).1
      (λ s. absent_some h choice n (without n (us ++ (0 ∷ []))) us w e S.first o.once (subst (λ (k : ℕ). some_on (first_part form t k) ≡ true) half_is s))
      (λ s. absent_some h choice n (without n (us ++ (0 ∷ []))) us w e S.second o.once (subst (λ (k : ℕ). some_on (second_part form t k) ≡ true) half_is s)) in
      subst (λ (x : ℕ). GatheredSome m (formed form (variable_tree h x) a b)) (sym (get_or_at us 0 [] 0 n e))
      (formed_variable h a b form keeps g (plain_over n (ap length w ∙ e) S.first un) (plain_over n (ap length w ∙ e) S.second un))

  -- a variable below it is
  module _ (n : ℕ) {t : Table} (us : List ℕ) (e : length us ≡ suc n) (r : Buildable Held t (us ++ (0 ∷ []))) (o : Others m us) (form : Form) (v : ℕ) (less : v < suc n) where
    inside : v < length us
    inside = omega arith

    rest : without v (us ++ (0 ∷ [])) ≡ without v us ++ (0 ∷ [])
    rest = without_below us v inside

    rest_length : length (without v us) ≡ n
    rest_length = without_counts us v inside n e

    rest_others : Others m (without v us)
    rest_others = record {
      groups = λ g q. o.groups g (in_without us v inside g q);
      unmarked = λ g q. o.unmarked g (in_without us v inside g q);
      once = distinct_without v us inside o.once;
    }

    here_is : get_or (us ++ (0 ∷ [])) v 0 ≡ get_or us v 0
    here_is = get_or-append us (0 ∷ []) 0 v inside

    variable_over : OverOptional (unmarked m) (variable_tree h (get_or (us ++ (0 ∷ [])) v 0))
    variable_over = subst (λ (x : ℕ). OverOptional (unmarked m) (variable_tree h x)) (sym here_is)
        (group_over (unmarked m) h (get_or us v 0) (o.groups (get_or us v 0) (variable_in us v inside)) (ap not (o.unmarked (get_or us v 0) (variable_in us v inside))))

    below_held : (u : Plan) → BelowSays Held form t (2 ^ v) u → SplitBuildable Held t (us ++ (0 ∷ [])) (record { form = form; variable = v; plan = u }) → GatheredSome m h
        → ((t' : Table) → Buildable Held t' (without v us ++ (0 ∷ [])) → GatheredSome m (build choice (suc n) Held t' (without v us ++ (0 ∷ [])) h))
        → GatheredSome m (formed form (variable_tree h (get_or (us ++ (0 ∷ [])) v 0))
        (build choice (suc n) (first_holder u) (first_part form t (2 ^ v)) (without v (us ++ (0 ∷ []))) h)
        (build choice (suc n) (second_holder u) (second_part form t (2 ^ v)) (without v (us ++ (0 ∷ []))) h))
    below_held Plain b S g again = absurd (held_not_absent b.0)
    below_held First b S g again =
        let A = again (first_part form t (2 ^ v)) (subst (Buildable Held (first_part form t (2 ^ v))) rest S.first) in
        let B = dropped_over n (without v us) rest_length (subst (Buildable Dropped (second_part form t (2 ^ v))) rest S.second) rest_others in
        subst (λ (ys : List ℕ). GatheredSome m (formed form (variable_tree h (get_or (us ++ (0 ∷ [])) v 0)) (build choice (suc n) Held (first_part form t (2 ^ v)) ys h) (build choice (suc n) Dropped (second_part form t (2 ^ v)) ys h)))
        (sym rest) (formed_first (variable_tree h (get_or (us ++ (0 ∷ [])) v 0)) _ _ form A variable_over B)
    below_held Second b S g again =
        let A = subst (Buildable Dropped (first_part form t (2 ^ v))) rest S.first in
        let B = again (second_part form t (2 ^ v)) (subst (Buildable Held (second_part form t (2 ^ v))) rest S.second) in
        let x = group_tree h (get_or (us ++ (0 ∷ [])) v 0) (ap is_group here_is ∙ o.groups (get_or us v 0) (variable_in us v inside)) in
        subst (λ (ys : List ℕ). GatheredSome m (formed form (variable_tree h (get_or (us ++ (0 ∷ [])) v 0)) (build choice (suc n) Dropped (first_part form t (2 ^ v)) ys h) (build choice (suc n) Held (second_part form t (2 ^ v)) ys h)))
        (sym rest) (formed_second (variable_tree h (get_or (us ++ (0 ∷ [])) v 0)) _ _ form
        (kept_by form t (2 ^ v) (build choice (suc n) Dropped (first_part form t (2 ^ v)) (without v us ++ (0 ∷ [])) h) b.2 b.4 (dropped_some h choice n (without v us) rest_length A rest_others.once))
        B x variable_over (dropped_over n (without v us) rest_length A rest_others))

  taken_held : (n : ℕ) {t : Table} (us : List ℕ) → length us ≡ n → Buildable Held t (us ++ (0 ∷ [])) → Others m us → GatheredSome m h → (s : Split) → Taken Held t n s
      → SplitBuildable Held t (us ++ (0 ∷ [])) s
      → ((k : ℕ) → n ≡ suc k → (v : ℕ) → v < n → (t' : Table) → Buildable Held t' (without v us ++ (0 ∷ [])) → GatheredSome m (build choice n Held t' (without v us ++ (0 ∷ [])) h))
      → GatheredSome m (formed s.form (variable_tree h (get_or (us ++ (0 ∷ [])) s.variable 0))
      (build choice n (first_holder s.plan) (first_part s.form t (2 ^ s.variable)) (without s.variable (us ++ (0 ∷ []))) h)
      (build choice n (second_holder s.plan) (second_part s.form t (2 ^ s.variable)) (without s.variable (us ++ (0 ∷ []))) h))
  taken_held n {t} us e r o g s (inl T) S again =
      let q : s ≡ record { form = s.form; variable = n; plan = Plain } = ap₂ (λ (v : ℕ) (u : Plan). record { form = s.form; variable = v; plan = u }) T.at T.plain in
      subst (λ (k : Split). GatheredSome m (formed k.form (variable_tree h (get_or (us ++ (0 ∷ [])) k.variable 0))
      (build choice n (first_holder k.plan) (first_part k.form t (2 ^ k.variable)) (without k.variable (us ++ (0 ∷ []))) h)
      (build choice n (second_holder k.plan) (second_part k.form t (2 ^ k.variable)) (without k.variable (us ++ (0 ∷ []))) h)))
      (sym q) (top_held n us e r o g s.form T.may (subst (SplitBuildable Held t (us ++ (0 ∷ []))) q S))
  taken_held zero {t} us e r o g s (inr B) S again = absurd (omega (arith, B.less))
  taken_held (suc n) {t} us e r o g s (inr B) S again =
      below_held n us e r o s.form s.variable B.less s.plan B.says S g (again n refl s.variable B.less)

  pub held_gathered : (n : ℕ) {t : Table} (us : List ℕ) → length us ≡ n → Buildable Held t (us ++ (0 ∷ [])) → Others m us → GatheredSome m h
      → GatheredSome m (build choice (suc n) Held t (us ++ (0 ∷ [])) h)
  unfolding build
  held_gathered zero {t} us e r o g =
      taken_held zero us e r o g (split_taken Held t zero (choice Held t zero)) (is_taken Held t zero (choice Held t zero) (top_may r)) (split_buildable zero (choice Held t zero) (end_length us zero e) r)
      (λ k q. absurd (omega arith))
  held_gathered (suc n) {t} us e r o g =
      taken_held (suc n) us e r o g (split_taken Held t (suc n) (choice Held t (suc n))) (is_taken Held t (suc n) (choice Held t (suc n)) (top_may r)) (split_buildable (suc n) (choice Held t (suc n)) (end_length us (suc n) e) r)
      (λ k q v l t' b. held_gathered n (without v us) (without_counts us v (omega arith) n e) b (rest_others n us e r o Drop v l) g)
