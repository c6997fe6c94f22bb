-- Laws of need and of the order of nodes, for any device: one induction over the order; 2 to the power need is at most the tree's nodes
-- plus 1.
use mathlib.Core.Path.{◌≡◌, refl}
use mathlib.Core.Bool.{Bool, true, false, cond}
use Prim.Native.Nat.{ℕ, ◌+◌, ◌^◌, ◌≤◌, ◌<◌, max}
use native.Mathlib.Decide.{ℕ_discrete}
use native.Mathlib.Omega.{arith}
use native.Mathlib.Nat.{pow-suc}
use native.Mathlib.Numerals.{add-one}
use lib.Dec.{T, leb}
use lib.Pow.{pow-lt}
use borrow.Author.Tests.{eq-eqb, ne_eqb, leb-true, leb-false}
use Rattle.tree.specs.Tree.{Operator, Tree, leaf, node, is_group, size, most_nodes}
use Rattle.code.specs.Need.{need_of, need, left_first, in_order}

abbrev pub first : Tree → Tree → Tree
first l r = cond (left_first l r) l r

abbrev pub second : Tree → Tree → Tree
second l r = cond (left_first l r) r l

-- ---- the order of nodes
module _ {S A : Type 0} (at_leaf : S → ℕ → A) (at_node : S → Operator → Bool → A → A → A) (leaves : S → A → S) where
  abbrev value : S → Tree → A
  value s t = in_order at_leaf at_node leaves s t

  pub in_order_node : (s : S) (o : Operator) (l r : Tree) → value s (node o l r)
      ≡ at_node s o (left_first l r) (value s (first l r)) (value (leaves s (value s (first l r))) (second l r))
  unfolding in_order
  in_order_node s o l r = go (left_first l r)
    where
      go : (f : Bool) → cond f (at_node s o true (value s l) (value (leaves s (value s l)) r)) (at_node s o false (value s r) (value (leaves s (value s r)) l))
          ≡ at_node s o f (value s (cond f l r)) (value (leaves s (value s (cond f l r))) (cond f r l))
      go true = refl
      go false = refl

  -- what holds of every leaf's value, and of a node's if of its children's, holds of every tree's
  module _ (P : S → Tree → A → Type 0)
      (on-leaf : (s : S) (g : ℕ) (h : T (is_group g)) → P s (leaf g h) (at_leaf s g))
      (on-node : (s : S) (o : Operator) (l r : Tree) (x y : A) → P s (first l r) x → P (leaves s x) (second l r) y → P s (node o l r) (at_node s o (left_first l r) x y)) where
    either : (f : Bool) (s : S) (l r : Tree) → P s l (value s l) → P s r (value s r) → P s (cond f l r) (value s (cond f l r))
    either true s l r p q = p
    either false s l r p q = q

    pub in_order_by : (s : S) (t : Tree) → P s t (value s t)
    in_order_by s (leaf g h) = unfold in_order in on-leaf s g h
    in_order_by s (node o l r) =
        let u : S = leaves s (value s (first l r)) in
        rw (in_order_node s o l r)
        (on-node s o l r _ _ (either (left_first l r) s l r (in_order_by s l) (in_order_by s r)) (either (left_first l r) u r l (in_order_by u r) (in_order_by u l)))

-- ---- need
pub need_by : (P : ℕ → Type 0) (a b : ℕ) → (a ≡ b → P (a + 1)) → ((a ≡ b → ⊥) → P (max a b)) → P (need_of a b)
need_by P a b same other =
    elim (ℕ_discrete a b) [
      | yes e ↦ let z : need_of a b ≡ a + 1 = rw (eq-eqb a b e) (omega arith) in rw z (same e)
      | no n ↦ let z : need_of a b ≡ max a b = rw (ne_eqb a b n) (omega arith) in rw z (other n)
    ]

-- the first child's need, or one more than the second's
pub need_node : (o : Operator) (l r : Tree) → need (node o l r) ≡ max (need (first l r)) (need (second l r) + 1)
unfolding need
need_node o l r = go (left_first l r) refl
  where
    go : (f : Bool) → left_first l r ≡ f → need_of (need l) (need r) ≡ max (need (cond f l r)) (need (cond f r l) + 1)
    go true e = need_by (λ n. n ≡ max (need l) (need r + 1)) (need l) (need r) (λ q. omega (arith, leb-true)) (λ q. omega (arith, leb-true))
    go false e = need_by (λ n. n ≡ max (need r) (need l + 1)) (need l) (need r) (λ q. omega (arith, leb-false)) (λ q. omega (arith, leb-false))

pub need_positive : (t : Tree) → 0 < need t
need_positive (leaf g h) = unfold need in omega arith
need_positive (node o l r) = omega (arith, need_node o l r)

pow_max : (a b m : ℕ) → 2 ^ a ≤ m → 2 ^ b ≤ m → 2 ^ max a b ≤ m
pow_max a b m p q = go (leb a b) refl
  where
    go : (x : Bool) → leb a b ≡ x → 2 ^ max a b ≤ m
    go true e = let z : max a b ≡ b = omega (arith, leb-true a b e) in rw z q
    go false e = let z : max a b ≡ a = omega (arith, leb-false a b e) in rw z p

pub need_power : (t : Tree) → 2 ^ need t ≤ size t + 1
unfolding need size
need_power (leaf g h) = omega arith
need_power (node o l r) =
    let p = need_power l in
    let q = need_power r in
    need_by (λ n. 2 ^ n ≤ size l + size r + 1 + 1) (need l) (need r)
    (λ e. rw (add-one (need l), pow-suc 2 (need l)) (let z : 2 ^ need l ≤ size r + 1 = rw e q in omega arith))
    (λ e. pow_max (need l) (need r) (size l + size r + 1 + 1) (omega arith) (omega arith))

-- so a tree within the limit needs 13 at most
pub need_most : (t : Tree) → size t ≤ most_nodes → need t ≤ 13
need_most t h = go (leb (need t) 13) refl
  where
    go : (x : Bool) → leb (need t) 13 ≡ x → need t ≤ 13
    go true e = leb-true (need t) 13 e
    go false e = absurd (omega (arith, need_power t, pow-lt (leb-false (need t) 13 e)))
