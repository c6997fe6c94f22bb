-- The status of a tree is right: where it names a holder the tree is gathered with that holder, and a gathered tree's status
-- names its holder. So a status that names one says of a list that it is a gathered tree.
use mathlib.Core.Path.{◌≡◌, refl, sym, ap, ap₂, subst, ◌∙◌}
use mathlib.Core.Bool.{Bool, true, false, cond, not, false≢true}
use mathlib.Core.List.{List, [], ◌∷◌, ◌++◌}
use mathlib.Core.Option.{some}
use Prim.Native.Nat.{ℕ, ◌+◌, ◌-◌}
use native.Mathlib.Omega.{arith}
use borrow.Author.Tests.{not-true}
use lib.ListN.{length, length-append}
use Rattle.std.specs.Prelude.{Option, Some, None, is_some}
use Rattle.std.proofs.lemmas.Option.{none-some, same_Some}
use Rattle.common.specs.Exactly.{Exactly}
use Rattle.tree.specs.Tree.{Operator, Tree, leaf, node, postfix, size, Over, is_in}
use Rattle.tree.specs.Context.{left, right, Frame, frame, plug, before, OverAbove}
use Rattle.tree.specs.InnerPass.{fold}
use Rattle.tree.specs.Parse.{tree_of, is_some as has_tree}
use Rattle.tree.proofs.TreeLaws.{postfix_length, size_positive}
use Rattle.tree.proofs.ParseLaws.{IsTree}
use Rattle.gather.specs.Gathering.{Gathered}
use Rattle.gather.specs.Inner.{GatheredList}
use Rattle.holding.specs.InnerHolding.{holder, merged, status}
use Rattle.holding.specs.declared.Status.{Status}
use Rattle.holding.specs.declared.Status.TheVariants.{Free, Mixed, All, Held}
use Rattle.gather.proofs.GatheringLaws.{unmarked, gathered_whole, gathered_left, gathered_right}

-- ---- what a status says
abbrev Sound : (ℕ → Bool) → ℕ → Tree → Status → Type 0
Sound m i t Free = Over (unmarked m) t
Sound m i t Mixed = Unit {0}
Sound m i t (All k) = Over m t × (k ≡ i + (size t - 1))
Sound m i t (Held k) = (j : ℕ) × Gathered m t j × (k ≡ i + j)

merged_sound : (m : ℕ → Bool) (i : ℕ) (o : Operator) (l r : Tree) (a b : Status) → Sound m i l a → Sound m (i + size l) r b
    → Sound m i (node o l r) (merged (i + size l + size r) a b)
unfolding Over size
merged_sound m i o l r Mixed b p q = tt
merged_sound m i o l r Free Free p q = (p, q)
merged_sound m i o l r Free Mixed p q = tt
merged_sound m i o l r Free (All k) p q = (_, gathered_right o l p (gathered_whole r q.0), q.1 ∙ omega arith)
merged_sound m i o l r Free (Held k) p q = (_, gathered_right o l p q.1, q.2 ∙ omega arith)
merged_sound m i o l r (All j) Free p q = (_, gathered_left o r (gathered_whole l p.0) q, p.1)
merged_sound m i o l r (All j) Mixed p q = tt
merged_sound m i o l r (All j) (All k) p q = ((p.0, q.0), omega arith)
merged_sound m i o l r (All j) (Held k) p q = tt
merged_sound m i o l r (Held j) Free p q = (p.0, gathered_left o r p.1 q, p.2)
merged_sound m i o l r (Held j) Mixed p q = tt
merged_sound m i o l r (Held j) (All k) p q = tt
merged_sound m i o l r (Held j) (Held k) p q = tt

status_sound : (m : ℕ → Bool) (i : ℕ) (t : Tree) → Sound m i t (status m i t)
unfolding fold Over size
status_sound m i (leaf g h) = go (m g) refl
  where
    go : (b : Bool) → m g ≡ b → Sound m i (leaf g h) (cond b (All i) Free)
    go true e = (e, omega arith)
    go false e = ap not e
status_sound m i (node o l r) = merged_sound m i o l r (status m i l) (status m (i + size l) r) (status_sound m i l) (status_sound m (i + size l) r)

-- ---- a status that names the holder at k
abbrev pub Names : Status → ℕ → Type 0
Names s k = holder s ≡ Some k

pub status_gathered : (m : ℕ → Bool) (t : Tree) (k : ℕ) → Names (status m 0 t) k → Gathered m t k
status_gathered m t k e = go (status m 0 t) (status_sound m 0 t) e
  where
    go : (s : Status) → Sound m 0 t s → Names s k → Gathered m t k
    go Free z e = absurd (none-some k e)
    go Mixed z e = absurd (none-some k e)
    go (All j) z e = subst (Gathered m t) (sym (z.1 ∙ omega arith) ∙ same_Some j k e) (gathered_whole t z.0)
    go (Held j) z e = subst (Gathered m t) (sym (z.2 ∙ omega arith) ∙ same_Some j k e) z.1

-- ---- a gathered tree's status
status_free : (m : ℕ → Bool) (i : ℕ) (t : Tree) → Over (unmarked m) t → status m i t ≡ Free
unfolding fold Over
status_free m i (leaf g h) e = rw (not-true (m g) e)
status_free m i (node o l r) e = ap₂ (merged (i + size l + size r)) (status_free m i l e.0) (status_free m (i + size l) r e.1)

status_all : (m : ℕ → Bool) (i : ℕ) (t : Tree) → Over m t → status m i t ≡ All (i + (size t - 1))
unfolding fold Over size
status_all m i (leaf g h) e = rw e (ap All (omega arith))
status_all m i (node o l r) e =
    ap₂ (merged (i + size l + size r)) (status_all m i l e.0) (status_all m (i + size l) r e.1) ∙ ap All (omega arith)

named_left : (p k : ℕ) (s : Status) → Names s k → Names (merged p s Free) k
named_left p k Free e = e
named_left p k Mixed e = e
named_left p k (All j) e = e
named_left p k (Held j) e = e

named_right : (p k : ℕ) (s : Status) → Names s k → Names (merged p Free s) k
named_right p k Free e = e
named_right p k Mixed e = e
named_right p k (All j) e = e
named_right p k (Held j) e = e

-- the name goes up through frames over unmarked groups
named_plug : (m : ℕ → Bool) (c : List Frame) (t : Tree) (k : ℕ) → OverAbove (unmarked m) c → Names (status m (length (before c)) t) k → Names (status m 0 (plug t c)) k
unfolding fold plug before OverAbove
named_plug m [] t k h s = s
named_plug m (frame left o b ∷ c) t k h s =
    let i = length (before c) in
    named_plug m c (node o t b) k h.1
    (subst (λ (x : Status). Names (merged (i + size t + size b) (status m i t) x) k) (sym (status_free m (i + size t) b h.0)) (named_left (i + size t + size b) k (status m i t) s))
named_plug m (frame right o b ∷ c) t k h s =
    let i = length (before c) in
    let e : length (before c ++ postfix b) ≡ i + size b = length-append (before c) (postfix b) ∙ ap (λ (n : ℕ). i + n) (postfix_length b) in
    named_plug m c (node o b t) k h.1
    (subst (λ (x : Status). Names (merged (i + size b + size t) x (status m (i + size b) t)) k) (sym (status_free m i b h.0))
    (named_right (i + size b + size t) k (status m (i + size b) t) (subst (λ (n : ℕ). Names (status m n t) k) e s)))

pub gathered_status : {m : ℕ → Bool} {t : Tree} {p : ℕ} → Gathered m t p → Names (status m 0 t) p
gathered_status {m} {t} {p} g =
    let i = length (before g.above) in
    let e : i + (size g.holder - 1) ≡ p = omega (arith, g.at, size_positive g.holder) in
    subst (λ (x : Tree). Names (status m 0 x) p) (sym g.whole)
    (named_plug m g.above g.holder p g.others (ap holder (status_all m i g.holder g.marked) ∙ ap Some e))

-- a status that names none: the tree is not gathered
pub status_not : {m : ℕ → Bool} {t : Tree} {p : ℕ} → holder (status m 0 t) ≡ None → Gathered m t p → ⊥
status_not {m} {t} {p} e g = none-some p (sym e ∙ gathered_status g)

-- ---- whether a list is a gathered tree
-- a tree's status says it
pub says_gathered : {list marks : List ℕ} (T : IsTree list) (o : Option ℕ) → o ≡ holder (status (is_in marks) 0 T.tree) → Exactly (is_some o ≡ true) (GatheredList list marks)
says_gathered {list} {marks} T o e = record { only = λ q. only o e q; always = always }
  where
    only : (o : Option ℕ) → o ≡ holder (status (is_in marks) 0 T.tree) → is_some o ≡ true → GatheredList list marks
    only None e q = absurd (false≢true q)
    only (Some k) e q = record { tree = T.tree; is = T.is; holder = k; gathered = status_gathered (is_in marks) T.tree k (sym e) }

    always : GatheredList list marks → is_some o ≡ true
    always G =
        let k : some G.tree ≡ some T.tree = sym G.is ∙ T.is in
        let u : G.tree ≡ T.tree = cc in
        ap (λ (r : Option ℕ). is_some r) (e ∙ ap (λ (t : Tree). holder (status (is_in marks) 0 t)) (sym u) ∙ gathered_status G.gathered)

-- a list that is no tree is none
pub says_none : {list marks : List ℕ} → has_tree (tree_of list) ≡ false → Exactly (false ≡ true) (GatheredList list marks)
says_none e = record { only = λ q. absurd (false≢true q); always = λ G. sym e ∙ ap has_tree G.is }
