-- Laws of the different groups of a tree: which they are, that each stands once and is a group, that what was collected first comes
-- first, that they are the groups among its entries, and that a list of different numbers that all stand in another list is no longer
-- than it.
use mathlib.Core.Path.{◌≡◌, refl, sym, ap, ap₂, subst, ◌∙◌}
use mathlib.Core.Bool.{Bool, true, false, cond, ◌||◌, true≢false, false≢true}
use mathlib.Core.List.{List, [], ◌∷◌, ◌++◌, append_assoc, append-nil}
use Prim.Native.Nat.{ℕ, suc, ◌+◌, ◌≤◌, ◌<◌}
use native.Mathlib.Omega.{arith}
use borrow.Author.Tests.{eqb-true, eqb-false, eq-eqb, ne_eqb, lt-ltb}
use lib.Dec.{T, eqb, ltb}
use lib.ListN.{length, length-append, get_or, drop, drop_of_length-le}
use Rattle.std.specs.List.{list_any}
use Rattle.std.proofs.lemmas.Bool.Decides.{nat_tests}
use Rattle.tree.specs.Tree.{Operator, union, difference, intersection, sign, Tree, leaf, node, is_group, postfix, leaves, is_in, with_new, collect, groups, Over}
use Rattle.tree.specs.InnerGroups.{Distinct, leaves_in}
use Rattle.tree.proofs.PassLaws.{here}
use Rattle.tree.proofs.TreeLaws.{group_most, is_in_append, in_left, in_right, over_leaves, leaves_over, over_implies, or_false, or_right, or_cases}

-- ---- membership
is_in_one : (y x : ℕ) → is_in (y ∷ []) x ≡ eqb x y
unfolding is_in
is_in_one y x = or_false (eqb x y)

pub is_in_here : (x : ℕ) (xs : List ℕ) → is_in (x ∷ xs) x ≡ true
unfolding is_in
is_in_here x xs = rw (eq-eqb x x refl)

pub in_later : (x : ℕ) (xs : List ℕ) (z : ℕ) → is_in xs z ≡ true → is_in (x ∷ xs) z ≡ true
unfolding is_in
in_later x xs z e = or_right (eqb z x) (is_in xs z) e

-- in a list with one number more at its end
is_in_end : (xs : List ℕ) (y x : ℕ) → is_in (xs ++ (y ∷ [])) x ≡ (is_in xs x || eqb x y)
is_in_end xs y x = is_in_append xs (y ∷ []) x ∙ ap (λ (b : Bool). is_in xs x || b) (is_in_one y x)

-- what is in such a list stood there before or is the number added
pub end_cases : (P : Type 0) (xs : List ℕ) (y x : ℕ) → is_in (xs ++ (y ∷ [])) x ≡ true → (is_in xs x ≡ true → P) → (x ≡ y → P) → P
end_cases P xs y x e p q = or_cases (is_in xs x) (eqb x y) (sym (is_in_end xs y x) ∙ e) p (λ s. q (eqb-true x y s))

-- in a list with one number more where it is not in it yet
pub is_in_new : (xs : List ℕ) (y x : ℕ) → is_in (with_new xs y) x ≡ (is_in xs x || eqb x y)
is_in_new xs y x = go (is_in xs y) refl
  where
    absorb : (b : Bool) → eqb x y ≡ b → is_in xs y ≡ true → is_in xs x ≡ (is_in xs x || b)
    absorb true e h = rw (eqb-true x y e, h)
    absorb false e h = sym (or_false (is_in xs x))

    go : (b : Bool) → is_in xs y ≡ b → is_in (cond b xs (xs ++ (y ∷ []))) x ≡ (is_in xs x || eqb x y)
    go true e = absorb (eqb x y) refl e
    go false e = is_in_end xs y x

pub in_collect : (xs ys : List ℕ) (x : ℕ) → is_in (collect xs ys) x ≡ (is_in xs x || is_in ys x)
unfolding collect is_in
in_collect xs [] x = sym (or_false (is_in xs x))
in_collect xs (y ∷ ys) x = in_collect (with_new xs y) ys x ∙ ap (λ (b : Bool). b || is_in ys x) (is_in_new xs y x) ∙ or_assoc (is_in xs x) (eqb x y) (is_in ys x)
  where
    or_assoc : (a b c : Bool) → ((a || b) || c) ≡ (a || (b || c))
    or_assoc true b c = refl
    or_assoc false b c = refl

-- the numbers of two lists, one after the other
pub collect_append : (xs ys zs : List ℕ) → collect xs (ys ++ zs) ≡ collect (collect xs ys) zs
unfolding collect
collect_append xs [] zs = refl
collect_append xs (y ∷ ys) zs = collect_append (with_new xs y) ys zs

-- the groups of a tree are those of its leaves
pub groups_leaves : (t : Tree) (g : ℕ) → is_in (groups t) g ≡ is_in (leaves t) g
groups_leaves t g = in_collect [] (leaves t) g ∙ (unfold is_in in refl)

-- ---- lists of different numbers
-- one different number more
pub distinct_end : (xs : List ℕ) (y : ℕ) → Distinct xs → is_in xs y ≡ false → Distinct (xs ++ (y ∷ []))
unfolding Distinct is_in
distinct_end [] y d e = (refl, tt)
distinct_end (x ∷ xs) y d e = go (eqb y x) refl e (distinct_end xs y d.1)
  where
    go : (b : Bool) → eqb y x ≡ b → (b || is_in xs y) ≡ false → (is_in xs y ≡ false → Distinct (xs ++ (y ∷ []))) → (is_in (xs ++ (y ∷ [])) x ≡ false) × Distinct (xs ++ (y ∷ []))
    go true q f ih = absurd (true≢false f)
    go false q f ih =
        (is_in_append xs (y ∷ []) x ∙ ap (λ (b : Bool). b || is_in (y ∷ []) x) d.0 ∙ is_in_one y x ∙ ne_eqb x y (λ s. eqb-false y x q (sym s)), ih f)

distinct_new : (xs : List ℕ) (y : ℕ) → Distinct xs → Distinct (with_new xs y)
distinct_new xs y d = go (is_in xs y) refl
  where
    go : (b : Bool) → is_in xs y ≡ b → Distinct (cond b xs (xs ++ (y ∷ [])))
    go true e = d
    go false e = distinct_end xs y d e

pub distinct_collect : (xs ys : List ℕ) → Distinct xs → Distinct (collect xs ys)
unfolding collect
distinct_collect xs [] d = d
distinct_collect xs (y ∷ ys) d = distinct_collect (with_new xs y) ys (distinct_new xs y d)

pub groups_distinct : (t : Tree) → Distinct (groups t)
groups_distinct t = distinct_collect [] (leaves t) (unfold Distinct in tt)

-- ---- a list without a number
unfoldable without : ℕ → List ℕ → List ℕ
without x [] = []
without x (y ∷ ys) = cond (eqb x y) ys (y ∷ without x ys)

without_length : (x : ℕ) (ys : List ℕ) → is_in ys x ≡ true → length ys ≡ suc (length (without x ys))
unfolding is_in without
without_length x [] e = absurd (false≢true e)
without_length x (y ∷ ys) e = go (eqb x y) refl e (without_length x ys)
  where
    go : (b : Bool) → eqb x y ≡ b → (b || is_in ys x) ≡ true → (is_in ys x ≡ true → length ys ≡ suc (length (without x ys)))
        → suc (length ys) ≡ suc (length (cond b ys (y ∷ without x ys)))
    go true q f ih = refl
    go false q f ih = ap suc (ih f)

without_other : (x z : ℕ) (ys : List ℕ) → (z ≡ x → ⊥) → is_in ys z ≡ true → is_in (without x ys) z ≡ true
unfolding is_in without
without_other x z [] n e = e
without_other x z (y ∷ ys) n e = go (eqb x y) refl (eqb z y) refl e (without_other x z ys n)
  where
    go : (b : Bool) → eqb x y ≡ b → (d : Bool) → eqb z y ≡ d → (d || is_in ys z) ≡ true → (is_in ys z ≡ true → is_in (without x ys) z ≡ true)
        → is_in (cond b ys (y ∷ without x ys)) z ≡ true
    go true q true r f ih = absurd (n (eqb-true z y r ∙ sym (eqb-true x y q)))
    go true q false r f ih = f
    go false q true r f ih = rw r
    go false q false r f ih = rw r (ih f)

-- different numbers that all stand in another list are no more than that list has
pub distinct_most : (xs ys : List ℕ) → Distinct xs → ((x : ℕ) → is_in xs x ≡ true → is_in ys x ≡ true) → length xs ≤ length ys
unfolding Distinct
distinct_most [] ys d f = omega arith
distinct_most (x ∷ xs) ys d f =
    let h : length ys ≡ suc (length (without x ys)) = without_length x ys (f x (is_in_here x xs)) in
    let r : length xs ≤ length (without x ys) =
    distinct_most xs (without x ys) d.1 (λ z e. without_other x z ys (λ s. true≢false (sym e ∙ ap (is_in xs) s ∙ d.0)) (f z (in_later x xs z e))) in
    omega arith

-- a tree over the groups of another has no more different groups
pub groups_most : (t u : Tree) → Over (is_in (groups t)) u → length (groups u) ≤ length (groups t)
groups_most t u o =
    distinct_most (groups u) (groups t) (groups_distinct u) (λ g e. leaves_over (is_in (groups t)) u o g (sym (groups_leaves u g) ∙ e))

-- a tree is over what its leaves are collected into, so over its groups
pub over_collect : (xs : List ℕ) (t : Tree) → Over (is_in (collect xs (leaves t))) t
over_collect xs t = over_implies (λ g e. in_collect xs (leaves t) g ∙ or_right (is_in xs g) (is_in (leaves t) g) e) t (over_leaves t)

pub over_groups : (t : Tree) → Over (is_in (groups t)) t
over_groups t = over_collect [] t

-- they are groups
pub over_is_group : (t : Tree) → Over is_group t
unfolding Over
over_is_group (leaf g h) = holds (is_group g) h
  where
    holds : (b : Bool) → T b → b ≡ true
    holds true h = refl
    holds false h = absurd h
over_is_group (node o l r) = (over_is_group l, over_is_group r)

pub leaves_groups : (t : Tree) (g : ℕ) → is_in (leaves t) g ≡ true → is_group g ≡ true
leaves_groups t = leaves_over is_group t (over_is_group t)

-- ---- what was there comes first
pub collect_begins : (xs ys : List ℕ) → (rest : List ℕ) × (collect xs ys ≡ xs ++ rest)
unfolding collect
collect_begins xs [] = ([], sym (append-nil xs))
collect_begins xs (y ∷ ys) = go (is_in xs y) (collect_begins xs ys) (collect_begins (xs ++ (y ∷ [])) ys)
  where
    go : (b : Bool) → (rest : List ℕ) × (collect xs ys ≡ xs ++ rest) → (rest : List ℕ) × (collect (xs ++ (y ∷ [])) ys ≡ (xs ++ (y ∷ [])) ++ rest)
        → (rest : List ℕ) × (collect (cond b xs (xs ++ (y ∷ []))) ys ≡ xs ++ rest)
    go true p q = p
    go false p q = (y ∷ q.0, q.1 ∙ append_assoc xs (y ∷ []) q.0)

pub collect_longer : (xs ys : List ℕ) → length xs ≤ length (collect xs ys)
collect_longer xs ys = let b = collect_begins xs ys in omega (arith, ap length b.1, length-append xs b.0)

-- ---- two lists that together hold nothing twice
pub record Split (xs ys : List ℕ) : Type 0 where
  pub first : Distinct xs
  pub second : Distinct ys
  pub apart : (g : ℕ) → is_in ys g ≡ true → is_in xs g ≡ false

not_in : (b : Bool) → (b ≡ true → ⊥) → b ≡ false
not_in true h = absurd (h refl)
not_in false h = refl

pub distinct_split : (xs ys : List ℕ) → Distinct (xs ++ ys) → Split xs ys
unfolding Distinct is_in
distinct_split [] ys d = record { first = tt; second = d; apart = λ g e. refl }
distinct_split (x ∷ xs) ys d =
    let S = distinct_split xs ys d.1 in
    record {
      first = (not_in _ (λ e. true≢false (sym (in_left xs ys x e) ∙ d.0)), S.first);
      second = S.second;
      apart = λ g e. not_in _ (λ q. or_cases (eqb g x) (is_in xs g) q
          (λ r. true≢false (sym (in_right xs ys x (ap (is_in ys) (sym (eqb-true g x r)) ∙ e)) ∙ d.0))
          (λ r. true≢false (sym r ∙ S.apart g e)));
    }

pub collect_distinct : (xs ys : List ℕ) → Distinct (xs ++ ys) → collect xs ys ≡ xs ++ ys
unfolding collect
collect_distinct xs [] d = sym (append-nil xs)
collect_distinct xs (y ∷ ys) d =
    let out : is_in xs y ≡ false = (distinct_split xs (y ∷ ys) d).apart y (is_in_here y ys) in
    ap (λ (b : Bool). collect (cond b xs (xs ++ (y ∷ []))) ys) out
    ∙ collect_distinct (xs ++ (y ∷ [])) ys (subst Distinct (sym (append_assoc xs (y ∷ []) ys)) d)
    ∙ append_assoc xs (y ∷ []) ys

-- ---- a search, from the number at index i on
module _ (xs : List ℕ) (i x : ℕ) where
  pub in_here : i < length xs → x ≡ get_or xs i 0 → is_in (drop i xs) x ≡ true
  unfolding is_in
  in_here h e = rw (here xs i h, eq-eqb x (get_or xs i 0) e)

  pub in_on : i < length xs → (x ≡ get_or xs i 0 → ⊥) → is_in (drop i xs) x ≡ is_in (drop (i + 1) xs) x
  unfolding is_in
  in_on h e = rw (here xs i h, ne_eqb x (get_or xs i 0) e)

  pub in_none : length xs ≤ i → is_in (drop i xs) x ≡ false
  unfolding is_in
  in_none h = rw (drop_of_length-le xs h)

-- ---- and in std's words
pub is_in_any : (xs : List ℕ) (x : ℕ) → is_in xs x ≡ list_any (λ y. eqb y x) xs
unfolding is_in
is_in_any [] x = refl
is_in_any (y ∷ xs) x = ap₂ (λ (a b : Bool). a || b) (flipped x y) (is_in_any xs x)
  where
    flipped : (x y : ℕ) → eqb x y ≡ eqb y x
    flipped x y = grind (arith, nat_tests)

-- ---- the groups among entries
pub leaves_append : (xs ys : List ℕ) → leaves_in (xs ++ ys) ≡ leaves_in xs ++ leaves_in ys
unfolding leaves_in
leaves_append [] ys = refl
leaves_append (x ∷ xs) ys = go (ltb x (sign union)) (leaves_append xs ys)
  where
    go : (b : Bool) → leaves_in (xs ++ ys) ≡ leaves_in xs ++ leaves_in ys → cond b (x ∷ leaves_in (xs ++ ys)) (leaves_in (xs ++ ys)) ≡ cond b (x ∷ leaves_in xs) (leaves_in xs) ++ leaves_in ys
    go true e = ap (λ (zs : List ℕ). x ∷ zs) e
    go false e = e

pub leaves_one : (g : ℕ) → T (is_group g) → leaves_in (g ∷ []) ≡ g ∷ []
unfolding leaves_in
leaves_one g h = rw (lt-ltb g (sign union) (let z : g < 65001 = omega (arith, group_most g h) in z))

pub leaves_sign : (o : Operator) → leaves_in (sign o ∷ []) ≡ []
unfolding leaves_in
leaves_sign union = refl
leaves_sign difference = refl
leaves_sign intersection = refl

-- those of a tree's list are its leaves
pub leaves_postfix : (t : Tree) → leaves_in (postfix t) ≡ leaves t
unfolding postfix leaves
leaves_postfix (leaf g h) = leaves_one g h
leaves_postfix (node o l r) =
    leaves_append (postfix l) (postfix r ++ (sign o ∷ []))
    ∙ rw (leaves_append (postfix r) (sign o ∷ []), leaves_postfix l, leaves_postfix r, leaves_sign o) (ap (λ (zs : List ℕ). leaves l ++ zs) (append-nil (leaves r)))
