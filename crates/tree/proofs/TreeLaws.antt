-- Laws of trees, their lists and what they select.
use mathlib.Core.Path.{◌≡◌, refl, sym, ap, ap₂, ◌∙◌}
use mathlib.Core.Bool.{Bool, true, false, not, ◌&&◌, ◌||◌, false≢true}
use mathlib.Core.List.{List, [], ◌∷◌, ◌++◌}
use Prim.Native.Nat.{ℕ, ◌≤◌, ◌<◌}
use native.Mathlib.Omega.{arith}
use borrow.Author.Tests.{eq-eqb, eqb-true}
use lib.Dec.{T, eqb, leb, leb→le}
use lib.ListN.{length, length-append}
use Rattle.tree.specs.Tree.{Operator, union, difference, intersection, sign, Tree, leaf, node, is_group, most_group, postfix, size, apply, selects, Equivalent, Over, leaves, is_in}

-- ---- both halves of a conjunction
pub and_left : (x y : Bool) → T (x && y) → T x
and_left true y t = tt
and_left false y t = t

pub and_right : (x y : Bool) → T (x && y) → T y
and_right true y t = t
and_right false y t = absurd t

-- a group is below the operators
pub group_least : (g : ℕ) → T (is_group g) → 1 ≤ g
group_least g h = leb→le 1 g (and_left (leb 1 g) (leb g most_group) h)

pub group_most : (g : ℕ) → T (is_group g) → g ≤ most_group
group_most g h = leb→le g most_group (and_right (leb 1 g) (leb g most_group) h)

-- union has the lowest of the operators' numbers
pub sign_least : (o : Operator) → sign union ≤ sign o
sign_least union = omega arith
sign_least difference = omega arith
sign_least intersection = omega arith

-- ---- size and length
pub size_positive : (t : Tree) → 0 < size t
unfolding size
size_positive (leaf g h) = omega arith
size_positive (node o l r) = omega arith

pub postfix_length : (t : Tree) → length (postfix t) ≡ size t
unfolding postfix size
postfix_length (leaf g h) = refl
postfix_length (node o l r) = simp (length-append, postfix_length l, postfix_length r) (omega arith)

-- ---- equivalence
pub equivalent_refl : (t : Tree) → Equivalent t t
equivalent_refl t = record { same = λ rig lamp. refl }

pub equivalent_sym : {t u : Tree} → Equivalent t u → Equivalent u t
equivalent_sym e = record { same = λ rig lamp. sym (e.same rig lamp) }

pub equivalent_trans : {t u w : Tree} → Equivalent t u → Equivalent u w → Equivalent t w
equivalent_trans e f = record { same = λ rig lamp. e.same rig lamp ∙ f.same rig lamp }

-- equivalent trees agree under every filling of the groups, and trees that do are equivalent
pub equivalent_selects : {t u : Tree} → Equivalent t u → (v : ℕ → Bool) → selects v t ≡ selects v u
equivalent_selects e v = e.same (λ g n. v g) 0

pub selects_equivalent : (t u : Tree) → ((v : ℕ → Bool) → selects v t ≡ selects v u) → Equivalent t u
selects_equivalent t u e = record { same = λ rig lamp. e (λ g. rig g lamp) }

-- ---- a tree's own groups
pub over_implies : {m n : ℕ → Bool} → ((g : ℕ) → m g ≡ true → n g ≡ true) → (t : Tree) → Over m t → Over n t
unfolding Over
over_implies f (leaf g h) o = f g o
over_implies f (node o l r) p = (over_implies f l p.0, over_implies f r p.1)

-- selection depends on the tree's own groups only
pub selects_agree : (m v w : ℕ → Bool) → ((g : ℕ) → m g ≡ true → v g ≡ w g) → (t : Tree) → Over m t → selects v t ≡ selects w t
unfolding Over selects
selects_agree m v w h (leaf g k) o = h g o
selects_agree m v w h (node o l r) p = ap₂ (apply o) (selects_agree m v w h l p.0) (selects_agree m v w h r p.1)

-- no tree selects a lamp that is in no group
pub selects_nothing : (t : Tree) → selects (λ g. false) t ≡ false
unfolding selects
selects_nothing (leaf g h) = refl
selects_nothing (node union l r) = ap₂ ◌||◌ (selects_nothing l) (selects_nothing r)
selects_nothing (node difference l r) = ap (λ (x : Bool). x && not (selects (λ g. false) r)) (selects_nothing l)
selects_nothing (node intersection l r) = ap (λ (x : Bool). x && selects (λ g. false) r) (selects_nothing l)

-- ---- membership
pub or_false : (x : Bool) → (x || false) ≡ x
or_false true = refl
or_false false = refl

pub or_right : (x y : Bool) → y ≡ true → (x || y) ≡ true
or_right true y e = refl
or_right false y e = e

pub or_cases : (x y : Bool) {A : Type 0} → (x || y) ≡ true → (x ≡ true → A) → (y ≡ true → A) → A
or_cases true y e f g = f refl
or_cases false y e f g = g e

pub is_in_append : (xs ys : List ℕ) (x : ℕ) → is_in (xs ++ ys) x ≡ (is_in xs x || is_in ys x)
unfolding is_in
is_in_append [] ys x = refl
is_in_append (z ∷ xs) ys x = rw (is_in_append xs ys x) (or_assoc (eqb x z) (is_in xs x) (is_in ys x))
  where
    or_assoc : (a b c : Bool) → (a || (b || c)) ≡ ((a || b) || c)
    or_assoc true b c = refl
    or_assoc false b c = refl

pub in_left : (xs ys : List ℕ) (x : ℕ) → is_in xs x ≡ true → is_in (xs ++ ys) x ≡ true
in_left xs ys x e = is_in_append xs ys x ∙ ap (λ (b : Bool). b || is_in ys x) e

pub in_right : (xs ys : List ℕ) (x : ℕ) → is_in ys x ≡ true → is_in (xs ++ ys) x ≡ true
in_right xs ys x e = is_in_append xs ys x ∙ or_right (is_in xs x) (is_in ys x) e

-- every leaf's group is among the tree's leaves
over_leaves_of : (t : Tree) (m : ℕ → Bool) → ((g : ℕ) → is_in (leaves t) g ≡ true → m g ≡ true) → Over m t
unfolding Over leaves is_in
over_leaves_of (leaf g h) m f = f g (rw (eq-eqb g g refl))
over_leaves_of (node o l r) m f = (
  over_leaves_of l m (λ g e. f g (in_left (leaves l) (leaves r) g e)),
  over_leaves_of r m (λ g e. f g (in_right (leaves l) (leaves r) g e)),
)

pub over_leaves : (t : Tree) → Over (is_in (leaves t)) t
over_leaves t = over_leaves_of t (is_in (leaves t)) (λ g e. e)

-- and every group among them has the property that all leaves have
pub leaves_over : (m : ℕ → Bool) (t : Tree) → Over m t → (g : ℕ) → is_in (leaves t) g ≡ true → m g ≡ true
unfolding Over leaves is_in
leaves_over m (leaf x h) o g e = or_cases (eqb g x) false e (λ q. rw (eqb-true g x q) o) (λ q. absurd (false≢true q))
leaves_over m (node o l r) p g e =
    or_cases (is_in (leaves l) g) (is_in (leaves r) g) (sym (is_in_append (leaves l) (leaves r) g) ∙ e) (leaves_over m l p.0 g) (leaves_over m r p.1 g)
