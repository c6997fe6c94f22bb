-- A line without fault leads from a sound state to a sound state.
use Rattle.std.proofs.Common.{Option, Some, None}
use mathlib.Core.Path.{◌≡◌, refl, sym, ap, ◌∙◌}
use mathlib.Core.Bool.{Bool, true, false, not, cond, ◌&&◌, true≢false}
use mathlib.Core.List.{List, [], ◌∷◌, ◌++◌}
use Prim.Native.Nat.{ℕ, suc, ◌-◌, ◌≤◌, ◌<◌}
use native.Mathlib.Omega.{arith}
use borrow.Author.Tests.{ltb-false, leb-false, eqb-true, eqb-false, eq-eqb, ne_eqb, lt-ltb}
use lib.Dec.{eqb, leb, ltb}
use lib.ListN.{length, length-append}
use Rattle.tree.specs.Tree.{Operator as TreeOperator, sign, is_group, is_in, with_new, collect, most_groups}
use Rattle.tree.specs.InnerGroups.{Distinct, leaves_in}
use Rattle.tree.specs.Pass.{pass}
use Rattle.tree.proofs.GroupLaws.{end_cases, is_in_new, collect_append, distinct_end, leaves_append, leaves_one, leaves_sign}
use Rattle.sheet.specs.Rules.{Rules}
use Rattle.sheet.specs.Reading.{LiftLine, ReadingState, place, ended, trees, first_fault, form_fault, place_fault, order_fault, is_full, kind_fault, fault_of, entered, state_after, nothing_read}
use Rattle.sheet.specs.InnerHolding.{InRange, Sound}
use Rattle.sheet.specs.declared.Line.{Line}
use Rattle.sheet.specs.declared.Line.TheVariants.{Group, Operator, Lift, Mark, End}
use Rattle.sheet.proofs.EntriesLaws.{More, more_group, more_operator}

-- ---- the first of two faults
pub first_none : (f g : ℕ) → first_fault f g ≡ 0 → (f ≡ 0) × (g ≡ 0)
first_none f g e = go (eqb f 0) refl e
  where
    go : (b : Bool) → eqb f 0 ≡ b → cond b g f ≡ 0 → (f ≡ 0) × (g ≡ 0)
    go true q e = (eqb-true f 0 q, e)
    go false q e = absurd (eqb-false f 0 q e)

pub first_some : (f g : ℕ) → (f ≡ 0 → ⊥) → first_fault f g ≡ f
first_some f g h = rw (ne_eqb f 0 h)

pub first_second : (f g : ℕ) → f ≡ 0 → first_fault f g ≡ g
first_second f g h = rw (eq-eqb f 0 h)

-- a test that gave no fault
off : (b : Bool) (f g : ℕ) → cond b (suc f) g ≡ 0 → (b ≡ false) × (g ≡ 0)
off true f g e = absurd (omega arith)
off false f g e = (refl, e)

-- a line without fault is in its place, and the first after the tree lines follows one tree
pub order_none : (phase many place : ℕ) → order_fault phase many place ≡ 0 → (phase ≤ place) × (phase ≡ 0 → 0 < place → many ≡ 1)
order_none phase many place e =
    let a = off (ltb place phase) 2 _ e in
    let b = off (eqb phase 0 && ltb 0 place && not (eqb many 1)) 6 0 a.1 in
    (ltb-false place phase a.0, λ z h. go (eqb many 1) refl (rw (eq-eqb phase 0 z, lt-ltb 0 place h) at b.0))
  where
    go : (b : Bool) → eqb many 1 ≡ b → not b ≡ false → many ≡ 1
    go true q e = eqb-true many 1 q
    go false q e = absurd (true≢false e)

-- a line without fault has none of order and none of its kind
pub none_of : (rules : Rules) (st : ReadingState) (l : Option Line) → fault_of rules st l ≡ 0 → (order_fault st.phase (length (trees st.entries)) (place l) ≡ 0) × (kind_fault rules st l ≡ 0)
unfolding fault_of
none_of rules st l e =
    let o = order_fault st.phase (length (trees st.entries)) (place l) in
    let f = first_fault o (kind_fault rules st l) in
    first_none o (kind_fault rules st l) (first_none (place_fault rules.tasks l) f (first_none (form_fault l) (first_fault (place_fault rules.tasks l) f) e).1).1

pub bad_fault : (rules : Rules) (st : ReadingState) → fault_of rules st None ≡ 0 → ⊥
unfolding fault_of
bad_fault rules st e = let z : ◌≡◌ {A = ℕ} 2 0 = e in omega arith

-- request 6, "4 covers `I`": with fewer than two trees waiting, every operator has this fault
pub too_few_trees : (rules : Rules) (st : ReadingState) (o : TreeOperator) → length (trees st.entries) < 2 → kind_fault rules st (Some (Operator (sign o))) ≡ 4
too_few_trees rules st o h = rw (lt-ltb (length (trees st.entries)) 2 h)

-- a tree that is not full has room for a node
not_full : (rules : Rules) (st : ReadingState) → is_full rules st ≡ false → length st.entries < rules.nodes
not_full rules st e = omega (arith, leb-false)

-- a tree line without fault has it
pub group_none : (rules : Rules) (st : ReadingState) (g : ℕ) → kind_fault rules st (Some (Group g)) ≡ 0
    → (length st.entries < rules.nodes) × ((not (is_in st.groups g) && leb most_groups (length st.groups)) ≡ false)
group_none rules st g e =
    let a = off (is_full rules st) 4 _ e in
    (not_full rules st a.0, (off (not (is_in st.groups g) && leb most_groups (length st.groups)) 5 0 a.1).0)

pub operator_none : (rules : Rules) (st : ReadingState) (x : ℕ) → kind_fault rules st (Some (Operator x)) ≡ 0
    → (length st.entries < rules.nodes) × (2 ≤ length (trees st.entries))
operator_none rules st x e =
    let a = off (ltb (length (trees st.entries)) 2) 3 _ e in
    (not_full rules st (off (is_full rules st) 4 0 a.1).0, ltb-false (length (trees st.entries)) 2 a.0)

collect_one : (xs : List ℕ) (g : ℕ) → collect xs (g ∷ []) ≡ with_new xs g
unfolding collect
collect_one xs g = refl

collect_none : (xs : List ℕ) → collect xs [] ≡ xs
unfolding collect
collect_none xs = refl

module _ (rules : Rules) (st : ReadingState) (S : Sound rules st) where
  -- after a line that is no tree line one tree waits
  one_waits : (place : ℕ) → 0 < place → order_fault st.phase (length (trees st.entries)) place ≡ 0 → length (trees st.entries) ≡ 1
  one_waits place h e = go (eqb st.phase 0) refl
    where
      go : (b : Bool) → eqb st.phase 0 ≡ b → length (trees st.entries) ≡ 1
      go true q = (order_none st.phase (length (trees st.entries)) place e).1 (eqb-true st.phase 0 q) h
      go false q = S.one (eqb-false st.phase 0 q)

  -- one entry more
  sound_entered : (x after many : ℕ) (gs : List ℕ) → st.phase ≤ 0 → length st.entries < rules.nodes → More (st.entries ++ (x ∷ [])) many
      → gs ≡ collect (collect [] (leaves_in st.entries)) (leaves_in (x ∷ [])) → length gs ≤ most_groups
      → ((g : ℕ) → is_in st.groups g ≡ true → is_in gs g ≡ true) → Sound rules (entered st x gs after)
  sound_entered x after many gs p h m e k keep = record {
    forest = m.forest;
    nodes = omega (arith, length-append st.entries (x ∷ []));
    known = e ∙ sym (collect_append [] (leaves_in st.entries) (leaves_in (x ∷ []))) ∙ ap (collect []) (sym (leaves_append st.entries (x ∷ [])));
    different = k;
    once = S.once;
    marked = λ g i. keep g (S.marked g i);
    one = λ n. absurd (n (omega arith));
  }

  sound_group : (g after : ℕ) → is_group g ≡ true → order_fault st.phase (length (trees st.entries)) 0 ≡ 0 → kind_fault rules st (Some (Group g)) ≡ 0
      → Sound rules (state_after st (Some (Group g)) after)
  sound_group g after r o e =
      let p = (order_none st.phase (length (trees st.entries)) 0 o).0 in
      let a = group_none rules st g e in
      sound_entered g after (suc (length (trees st.entries))) (with_new st.groups g) p a.0 (more_group st.entries g r S.forest)
      (known_more g r) (few (is_in st.groups g) a.1) (λ x i. is_in_new st.groups g x ∙ rw i)
    where
      few : (b : Bool) → (not b && leb most_groups (length st.groups)) ≡ false → length (cond b st.groups (st.groups ++ (g ∷ []))) ≤ most_groups
      few true e = S.different
      few false e = omega (arith, leb-false most_groups (length st.groups) e, length-append st.groups (g ∷ []))

      known_more : (g : ℕ) → is_group g ≡ true → with_new st.groups g ≡ collect (collect [] (leaves_in st.entries)) (leaves_in (g ∷ []))
      known_more g r = ap (λ (l : List ℕ). with_new l g) S.known ∙ sym (ap (collect (collect [] (leaves_in st.entries))) (leaves_one g (rw r tt)) ∙ collect_one (collect [] (leaves_in st.entries)) g)

  sound_operator : (x after : ℕ) → InRange (Some (Operator x)) → order_fault st.phase (length (trees st.entries)) 0 ≡ 0 → kind_fault rules st (Some (Operator x)) ≡ 0
      → Sound rules (state_after st (Some (Operator x)) after)
  sound_operator x after r o e =
      let p = (order_none st.phase (length (trees st.entries)) 0 o).0 in
      let a = operator_none rules st x e in
      sound_entered x after (length (trees st.entries) - 1) st.groups p a.0
      (more_operator st.entries x r.0 r.1 a.1 S.forest)
      (S.known ∙ sym (ap (λ (y : ℕ). collect (collect [] (leaves_in st.entries)) (leaves_in (y ∷ []))) r.1 ∙ ap (collect (collect [] (leaves_in st.entries))) (leaves_sign r.0) ∙ collect_none (collect [] (leaves_in st.entries))))
      S.different (λ g i. i)

  -- the tree is over
  sound_over : (phase start : ℕ) (ms : List ℕ) (ls : List LiftLine) → length (trees st.entries) ≡ 1 → Distinct ms → ((g : ℕ) → is_in ms g ≡ true → is_in st.groups g ≡ true)
      → Sound rules (record { phase = phase; entries = st.entries; groups = st.groups; marks = ms; start = start; lifts = ls })
  sound_over phase start ms ls h d k = record {
    forest = S.forest;
    nodes = S.nodes;
    known = S.known;
    different = S.different;
    once = d;
    marked = k;
    one = λ n. h;
  }

  pub sound_mark : (g after : ℕ) → order_fault st.phase (length (trees st.entries)) 2 ≡ 0 → kind_fault rules st (Some (Mark g)) ≡ 0 → Sound rules (state_after st (Some (Mark g)) after)
  sound_mark g after o e = go (is_in st.groups g) (is_in st.marks g) refl refl e
    where
      go : (a b : Bool) → is_in st.groups g ≡ a → is_in st.marks g ≡ b → ◌≡◌ {A = ℕ} (cond a (cond b 9 0) 8) 0 → Sound rules (state_after st (Some (Mark g)) after)
      go false b p q e = absurd (omega arith)
      go true true p q e = absurd (omega arith)
      go true false p q e =
          sound_over 2 st.start (st.marks ++ (g ∷ [])) st.lifts (one_waits 2 (omega arith) o) (distinct_end st.marks g S.once q)
          (λ x i. end_cases _ st.marks g x i (S.marked x) (λ r. ap (is_in st.groups) r ∙ p))

  pub sound_lift : (p n after : ℕ) → order_fault st.phase (length (trees st.entries)) 1 ≡ 0 → Sound rules (state_after st (Some (Lift p n)) after)
  sound_lift p n after o = sound_over 1 st.start st.marks _ (one_waits 1 (omega arith) o) S.once S.marked

  pub sound_end : (after : ℕ) → order_fault st.phase (length (trees st.entries)) 3 ≡ 0 → Sound rules (state_after st (Some End) after)
  sound_end after o = sound_over ended st.start st.marks st.lifts (one_waits 3 (omega arith) o) S.once S.marked

  pub sound_next : (l : Option Line) (after : ℕ) → InRange l → fault_of rules st l ≡ 0 → Sound rules (state_after st l after)
  sound_next None after r e = absurd (bad_fault rules st e)
  sound_next (Some (Group g)) after r e = let z = none_of rules st (Some (Group g)) e in sound_group g after r z.0 z.1
  sound_next (Some (Operator x)) after r e = let z = none_of rules st (Some (Operator x)) e in sound_operator x after r z.0 z.1
  sound_next (Some (Lift p n)) after r e = sound_lift p n after (none_of rules st (Some (Lift p n)) e).0
  sound_next (Some (Mark g)) after r e = let z = none_of rules st (Some (Mark g)) e in sound_mark g after z.0 z.1
  sound_next (Some End) after r e = sound_end after (none_of rules st (Some End) e).0

pub sound_nothing_read : (rules : Rules) → Sound rules nothing_read
unfolding trees pass leaves_in collect Distinct is_in
sound_nothing_read rules = record {
  forest = refl;
  nodes = omega arith;
  known = refl;
  different = omega arith;
  once = tt;
  marked = λ g e. e;
  one = λ n. absurd (n refl);
}
