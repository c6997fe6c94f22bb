-- THE THEOREM, stated in proofs/Criterion.antt: whichever tree and whichever marks of at least one group, no tree of the three
-- operators, of any size and over any groups, is equivalent and gathered exactly when two columns are different and neither is
-- constant. That such columns rule every gathered tree out stands in proofs/GatheringLaws.antt, and that without them one can be
-- built, without `I`, in proofs/ChoosingLaws.antt, for a list of marked groups and a list of others. Here the lists are taken from
-- the tree. So the verdict is the same as by trees without `I` alone.
use Rattle.std.specs.Prelude.{Some, None}
use mathlib.Core.Path.{◌≡◌, refl, sym, ap, ◌∙◌}
use mathlib.Core.Bool.{Bool, true, false, not, cond, ◌&&◌, ◌||◌, false≢true}
use mathlib.Core.List.{List, [], ◌∷◌, ◌++◌}
use Prim.Native.Nat.{ℕ, ◌*◌, ◌^◌}
use lib.Dec.{eqb}
use borrow.Author.Tests.{eqb-true, not-true}
use lib.ListN.{length}
use Rattle.common.specs.Exactly.{Exactly}
use Rattle.tree.specs.Tree.{Tree, leaf, node, is_group, Over, leaves, is_in, collect}
use Rattle.tree.specs.InnerGroups.{Distinct}
use Rattle.tree.proofs.TreeLaws.{or_right, or_cases, in_left, in_right, over_leaves, over_implies}
use Rattle.tree.proofs.GroupLaws.{is_in_here, in_collect, distinct_collect, collect_longer, leaves_groups}
use Rattle.table.specs.InnerTable.{value_at}
use Rattle.forms.proofs.TestLaws.{both}
use Rattle.columns.specs.InnerChoosing.{Allowed, choice}
use Rattle.columns.specs.declared.Choice.TheVariants.{Constant, Columns}
use Rattle.gather.specs.Gathering.{CannotBeGathered}
use Rattle.gather.proofs.Criterion.{FiveFillings, Criterion, CannotBeGatheredWithoutIntersection}
use Rattle.gather.specs.Inner.{MarkedParts}
use Rattle.gather.proofs.GatheringLaws.{unmarked, fillings_cannot, fillings_columns, columns_fillings}
use Rattle.gather.proofs.ChoosingLaws.{Verdict, verdict}

-- the numbers of a list that pass a test
unfoldable keep : (ℕ → Bool) → List ℕ → List ℕ
keep f [] = []
keep f (x ∷ gs) = cond (f x) (x ∷ keep f gs) (keep f gs)

and_none : (a : Bool) → (a && false) ≡ false
and_none true = refl
and_none false = refl

in_keep : (f : ℕ → Bool) (gs : List ℕ) (g : ℕ) → is_in (keep f gs) g ≡ (is_in gs g && f g)
unfolding keep is_in
in_keep f [] g = refl
in_keep f (x ∷ gs) g = go (f x) refl (eqb g x) refl (in_keep f gs g)
  where
    go : (c : Bool) → f x ≡ c → (e : Bool) → eqb g x ≡ e → is_in (keep f gs) g ≡ (is_in gs g && f g) → is_in (cond c (x ∷ keep f gs) (keep f gs)) g ≡ ((e || is_in gs g) && f g)
    go true p true q i = ap (λ (a : Bool). a || is_in (keep f gs) g) q ∙ sym (ap f (eqb-true g x q) ∙ p)
    go true p false q i = ap (λ (a : Bool). a || is_in (keep f gs) g) q ∙ i
    go false p true q i = i ∙ (ap (λ (a : Bool). is_in gs g && a) (ap f (eqb-true g x q) ∙ p) ∙ (and_none (is_in gs g) ∙ sym (ap f (eqb-true g x q) ∙ p)))
    go false p false q i = i

module _ (m : ℕ → Bool) (x : ℕ) (group : is_group x ≡ true) (marked : m x ≡ true) (t : Tree) where
  -- the marked groups, x and those of the tree, and the tree's others
  ms : List ℕ
  ms = collect (x ∷ []) (keep m (leaves t))

  us : List ℕ
  us = collect [] (keep (unmarked m) (leaves t))

  in_marks : {X : Type 0} (g : ℕ) → is_in ms g ≡ true → (g ≡ x → X) → (is_in (leaves t) g ≡ true → m g ≡ true → X) → X
  unfolding ms is_in
  in_marks g e f k = or_cases (is_in (x ∷ []) g) (is_in (keep m (leaves t)) g) (sym (in_collect (x ∷ []) (keep m (leaves t)) g) ∙ e)
      (λ q. or_cases (eqb g x) false q (λ r. f (eqb-true g x r)) (λ r. absurd (false≢true r)))
      (λ q. let z = both (is_in (leaves t) g) (m g) (sym (in_keep m (leaves t) g) ∙ q) in k z.0 z.1)

  in_others : (g : ℕ) → is_in us g ≡ true → (is_in (leaves t) g ≡ true) × (m g ≡ false)
  unfolding us is_in
  in_others g e =
      let z = both (is_in (leaves t) g) (not (m g)) (sym (in_keep (unmarked m) (leaves t) g) ∙ sym (in_collect [] (keep (unmarked m) (leaves t)) g) ∙ e) in
      (z.0, not-true (m g) z.1)

  parts : MarkedParts m ms us
  unfolding ms us Distinct is_in
  parts = record {
    marks = distinct_collect (x ∷ []) (keep m (leaves t)) (refl, tt);
    others = distinct_collect [] (keep (unmarked m) (leaves t)) tt;
    marked = λ g e. in_marks g e (λ q. ap m q ∙ marked) (λ a b. b);
    unmarked = λ g e. (in_others g e).1;
    mark_groups = λ g e. in_marks g e (λ q. ap is_group q ∙ group) (λ a b. leaves_groups t g a);
    other_groups = λ g e. leaves_groups t g (in_others g e).0;
    some_mark = collect_longer (x ∷ []) (keep m (leaves t));
  }

  over : Over (is_in (ms ++ us)) t
  unfolding ms us is_in
  over = over_implies (λ g e. go g e (m g) refl) t (over_leaves t)
    where
      go : (g : ℕ) → is_in (leaves t) g ≡ true → (b : Bool) → m g ≡ b → is_in (ms ++ us) g ≡ true
      go g e true q = in_left ms us g (in_collect (x ∷ []) (keep m (leaves t)) g ∙ or_right (is_in (x ∷ []) g) (is_in (keep m (leaves t)) g) (in_keep m (leaves t) g ∙ rw (e, q)))
      go g e false q = in_right ms us g (in_collect [] (keep (unmarked m) (leaves t)) g ∙ in_keep (unmarked m) (leaves t) g ∙ rw (e, q))

  -- a gathered tree without `I`, or five fillings
  cannot_five : CannotBeGatheredWithoutIntersection m t → FiveFillings m t
  cannot_five n = go (choice (value_at (ms ++ us) t) (2 ^ length ms) (2 ^ length ms * 2 ^ length us))
      (verdict (value_at (ms ++ us) t) ms us parts t (record { rows = λ i h. refl }) over)
    where
      go : (c : Allowed) → Verdict m (value_at (ms ++ us) t) ms us t c → FiveFillings m t
      go None f = f
      go (Some Constant) r = absurd (n.never r.tree _ r.plain r.equivalent r.gathered)
      go (Some (Columns low high start)) r = absurd (n.never r.tree _ r.plain r.equivalent r.gathered)

-- a marked group, where all leaves of a tree are marked
marked_leaf : {m : ℕ → Bool} (t : Tree) → Over m t → (x : ℕ) × (is_group x ≡ true) × (m x ≡ true)
unfolding Over leaves
marked_leaf (leaf g h) e = (g, leaves_groups (leaf g h) g (is_in_here g []), e)
marked_leaf (node o l r) e = marked_leaf l e.0

-- Request 6: "Gathering is now judged against trees that may use all three operators, and the verdict on an older sheet must be
-- unchanged; that is to be shown." For every tree and any marks, no gathered equivalent tree exists exactly when none exists without `I`.
pub verdict_unchanged : (m : ℕ → Bool) (t : Tree) → Exactly (CannotBeGathered m t) (CannotBeGatheredWithoutIntersection m t)
verdict_unchanged m t = record {
  only = λ n. record { never = λ u p w e g. n.never u p e g };
  always = λ n. record {
    never = λ u p e g.
        let x = marked_leaf g.holder g.marked in
        (fillings_cannot (cannot_five m x.0 x.1 x.2 t n)).never u p e g;
  };
}

-- THE THEOREM, for any tree t and any marks m; x is a group that they mark
pub theorem : (m : ℕ → Bool) (x : ℕ) → is_group x ≡ true → m x ≡ true → (t : Tree) → Criterion m t
theorem m x group marked t = record {
  cannot_columns = λ n. fillings_columns (cannot_five m x group marked t ((verdict_unchanged m t).only n));
  columns_cannot = λ c. fillings_cannot (columns_fillings c);
  cannot_fillings = λ n. cannot_five m x group marked t ((verdict_unchanged m t).only n);
  fillings_cannot = λ f. fillings_cannot f;
}
