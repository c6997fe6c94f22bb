-- The entries of a tree's list are groups and operators, so a pass with a stack goes through: the laws of the loop of `holding`, and of
-- the entries in that of `eval`.
use mathlib.Core.Path.{◌≡◌, refl, sym, ap, subst, ◌∙◌}
use mathlib.Core.Bool.{Bool, true, false}
use mathlib.Core.Logic.{◌⊎◌, inl, inr}
use mathlib.Core.List.{List, [], ◌∷◌, ◌++◌}
use Prim.Native.Nat.{ℕ, zero, suc, ◌+◌, ◌-◌, ◌<◌, ◌≤◌}
use native.Mathlib.Omega.{arith}
use lib.Dec.{T, ltb}
use borrow.Author.Tests.{ltb-true, ltb-false}
use lib.ListN.{length, get_or, set, length-append, get_or-append}
use lib.Seq.{get_or-append-add}
use Rattle.tree.specs.Tree.{Operator, union, sign, Tree, leaf, node, is_group, postfix}
use Rattle.tree.specs.InnerPass.{fold}
use Rattle.tree.proofs.TreeLaws.{group_most, sign_least}
use Rattle.tree.proofs.PassLaws.{Passing, passing_group, passing_operator, passing_two, passing_end}

-- a number that is a group's or an operator's
abbrev Known : ℕ → Type 0
Known x = T (is_group x) ⊎ ((o : Operator) × (x ≡ sign o))

abbrev KnownAll : List ℕ → Type 0
KnownAll xs = (i : ℕ) → i < length xs → Known (get_or xs i 0)

known_append : (xs ys : List ℕ) → KnownAll xs → KnownAll ys → KnownAll (xs ++ ys)
known_append xs ys f g i h = go (ltb i (length xs)) refl
  where
    go : (b : Bool) → ltb i (length xs) ≡ b → Known (get_or (xs ++ ys) i 0)
    go true e = let l : i < length xs = ltb-true i (length xs) e in rw (get_or-append xs ys 0 i l) (f i l)
    go false e =
        let l : length xs ≤ i = ltb-false i (length xs) e in
        let q : i ≡ length xs + (i - length xs) = omega arith in
        subst (λ (k : ℕ). Known (get_or (xs ++ ys) k 0)) (sym q)
        (rw (get_or-append-add xs ys (i - length xs) 0) (g (i - length xs) (omega (arith, length-append xs ys))))

known_one : (x : ℕ) → Known x → KnownAll (x ∷ [])
known_one x h zero l = h
known_one x h (suc i) l = absurd (omega arith)

pub known_entries : (t : Tree) → KnownAll (postfix t)
unfolding postfix
known_entries (leaf g h) = known_one g (inl h)
known_entries (node o l r) = known_append (postfix l) _ (known_entries l) (known_append (postfix r) (sign o ∷ []) (known_entries r) (known_one (sign o) (inr (o, refl))))

group_below : (x : ℕ) → Known x → x < sign union → T (is_group x)
group_below x (inl h) l = h
group_below x (inr (o, e)) l = absurd (omega (arith, sign_least o))

operator_above : (x : ℕ) → Known x → sign union ≤ x → (o : Operator) × (x ≡ sign o)
operator_above x (inl h) l = absurd (omega (arith, group_most x h))
operator_above x (inr p) l = p

-- ---- an entry of a list that is the tree's
module _ (list : List ℕ) (t : Tree) (e : list ≡ postfix t) (i : ℕ) (h : i < length list) where
  entry : Known (get_or list i 0)
  entry = subst KnownAll (sym e) (known_entries t) i h

  pub group_at : get_or list i 0 < sign union → T (is_group (get_or list i 0))
  group_at = group_below (get_or list i 0) entry

  pub operator_at : sign union ≤ get_or list i 0 → (o : Operator) × (get_or list i 0 ≡ sign o)
  operator_at = operator_above (get_or list i 0) entry

-- ---- the loop's turns, at a list that is the tree's
module _ {A : Type 0} (at_leaf : ℕ → (g : ℕ) → T (is_group g) → A) (at_node : ℕ → Operator → A → A → A) (z : A) (list : List ℕ) (t : Tree) (e : list ≡ postfix t) where
  at_list : (i : ℕ) → get_or (postfix t) i 0 ≡ get_or list i 0
  at_list i = ap (λ (xs : List ℕ). get_or xs i 0) (sym e)

  in_list : (i : ℕ) → i < length list → i < length (postfix t)
  in_list i h = subst (λ (xs : List ℕ). i < length xs) e h

  pub turn_group : (i : ℕ) (a : List A) (k : ℕ) (b : A) → i < length list → get_or list i 0 < sign union → k < length a
      → ((h : T (is_group (get_or list i 0))) → b ≡ at_leaf i (get_or list i 0) h) → Passing at_leaf at_node z t i a k → Passing at_leaf at_node z t (i + 1) (set a k b) (k + 1)
  turn_group i a k b h l r v p =
      let g = group_at list t e i h l in
      passing_group at_leaf at_node z t i a k (get_or list i 0) g b (in_list i h) (at_list i) r (v g) p

  pub turn_operator : (i : ℕ) (a : List A) (k : ℕ) (b : A) → i < length list → sign union ≤ get_or list i 0 → k ≤ length a
      → ((o : Operator) → get_or list i 0 ≡ sign o → b ≡ at_node i o (get_or a (k - 2) z) (get_or a (k - 1) z))
      → Passing at_leaf at_node z t i a k → Passing at_leaf at_node z t (i + 1) (set a (k - 2) b) (k - 1)
  turn_operator i a k b h l r v p =
      let o = operator_at list t e i h l in
      let q = at_list i ∙ o.1 in
      passing_operator at_leaf at_node z t i a k o.0 b (in_list i h) q (passing_two at_leaf at_node z t i a k o.0 (in_list i h) q p) r (v o.0 o.1) p

  pub turn_two : (i : ℕ) (a : List A) (k : ℕ) → i < length list → sign union ≤ get_or list i 0 → Passing at_leaf at_node z t i a k → 2 ≤ k
  turn_two i a k h l p = let o = operator_at list t e i h l in passing_two at_leaf at_node z t i a k o.0 (in_list i h) (at_list i ∙ o.1) p

  pub turn_end : (i : ℕ) (a : List A) (k : ℕ) → length list ≤ i → Passing at_leaf at_node z t i a k → get_or a 0 z ≡ fold at_leaf at_node 0 t
  turn_end i a k h p = passing_end at_leaf at_node z t i a k (subst (λ (xs : List ℕ). length xs ≤ i) e h) p
