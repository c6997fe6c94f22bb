-- In whatever order the nodes of a tree are done, children first, there is a moment at which `need` of them are live: done, and the parent
-- not. Nothing here knows an instruction or a register.
use mathlib.Core.Path.{◌≡◌, refl}
use Prim.Native.Nat.{ℕ, ◌+◌, ◌-◌, ◌≤◌, ◌<◌, max}
use native.Mathlib.Decide.{dec_le}
use native.Mathlib.Omega.{arith}
use Rattle.tree.specs.Tree.{Operator, Tree, leaf, node, size}
use Rattle.code.specs.Need.{need_of, need}
use Rattle.code.proofs.NeedLaws.{need_by, need_positive}
use Rattle.schedules.proofs.PartLaws.{At, root, at_left, at_right, OfChildren}

-- how many nodes of the part u at i are live, where `done p` is 1 if the node at p is done, else 0, and b is that of the root's parent
unfoldable pub live : (ℕ → ℕ) → Tree → ℕ → ℕ → ℕ
live done (leaf g h) i b = done (root (leaf g h) i) - b
live done (node o l r) i b =
    done (root (node o l r) i) - b + (live done l i (done (root (node o l r) i)) + live done r (i + size l) (done (root (node o l r) i)))

need_bound : (a b : ℕ) → need_of a b ≤ max a b + 1
need_bound a b = need_by (λ n. n ≤ max a b + 1) a b (λ e. omega arith) (λ e. omega arith)

need_unequal : (a b : ℕ) → (a ≡ b → ⊥) → need_of a b ≡ max a b
need_unequal a b n = need_by (λ n. n ≡ max a b) a b (λ e. absurd (n e)) (λ e. refl)

-- `done m p`: at the moment m; what is done stays so
module _ (done : ℕ → ℕ → ℕ) (stays : (m n p : ℕ) → m ≤ n → done m p ≤ done n p) where
  -- a part with a live node has one as long as its root's parent is not done
  stays_live : (u : Tree) (i b m n : ℕ) → m ≤ n → 0 < live (done m) u i b → 0 < live (done n) u i 0
  unfolding live
  stays_live (leaf g h) i b m n k e = omega (arith, stays m n (root (leaf g h) i) k)
  stays_live (node o l r) i b m n k e =
      let p : ℕ = root (node o l r) i in
      elim (dec_le 1 (done n p)) [
        | yes f ↦ omega arith
        | no f ↦
            let z : done n p ≡ 0 = omega arith in
            rw z
            (elim (dec_le 1 (live (done m) l i (done m p))) [
              | yes x ↦ omega (arith, stays_live l i (done m p) m n k x)
              | no x ↦ omega (arith, stays_live r (i + size l) (done m p) m n k (omega (arith, stays m n p k)))
            ])
      ]

  -- a moment at which the node at q is not done, and as many nodes of the part are live as it needs, if its root's parent is not done
  pub record Peak (q : ℕ) (u : Tree) (i : ℕ) : Type 0 where
    pub moment : ℕ
    pub early : done moment q ≡ 0
    pub enough : need u ≤ live (done moment) u i 0

  -- of a node that is not done: the moment of the child of larger need; on a tie the later of both, when the other child's part has a live
  -- node
  module _ (o : Operator) (l r : Tree) (i : ℕ) where
    peak_at : (m : ℕ) → done m (root (node o l r) i) ≡ 0 → need_of (need l) (need r) ≤ live (done m) l i 0 + live (done m) r (i + size l) 0
        → Peak (root (node o l r) i) (node o l r) i
    unfolding live need
    peak_at m e h = record { moment = m; early = e; enough = rw e (omega arith) }

    peak_node : Peak (root (node o l r) i) l i → Peak (root (node o l r) i) r (i + size l) → Peak (root (node o l r) i) (node o l r) i
    peak_node x y =
        let one_more = need_bound (need l) (need r) in
        let larger = need_unequal (need l) (need r) in
        elim (dec_le x.moment y.moment) [
          | yes e ↦
              elim (dec_le (need l) (need r)) [
                | yes k ↦ peak_at y.moment y.early (omega (arith, stays_live l i 0 x.moment y.moment e (omega (arith, need_positive l))))
                | no k ↦ peak_at x.moment x.early (omega (arith, larger (λ z. omega arith)))
              ]
          | no e ↦
              elim (dec_le (need r) (need l)) [
                | yes k ↦ peak_at x.moment x.early (omega (arith, stays_live r (i + size l) 0 y.moment x.moment (omega arith) (omega (arith, need_positive r))))
                | no k ↦ peak_at y.moment y.early (omega (arith, larger (λ z. omega arith)))
              ]
        ]

  -- the child at c is done whenever its parent at p is, and at some moment before
  pub record Sooner (c p : ℕ) : Type 0 where
    pub always : (m : ℕ) → done m p ≤ done m c
    pub moment : ℕ
    pub own : done moment c ≡ 1
    pub early : done moment p ≡ 0

  -- of a part that is no leaf, while its root is not done
  unfoldable pub PartPeak : Tree → ℕ → Type 0
  PartPeak (leaf g h) i = Unit {0}
  PartPeak (node o l r) i = Peak (root (node o l r) i) (node o l r) i

  peak_child : (u : Tree) (i p : ℕ) → Sooner (root u i) p → PartPeak u i → Peak p u i
  unfolding live need PartPeak
  peak_child (leaf g h) i p s x = record { moment = s.moment; early = s.early; enough = omega (arith, s.own) }
  peak_child (node o l r) i p s x = record { moment = x.moment; early = omega (arith, s.always x.moment, x.early); enough = x.enough }

  pub peaks : (t : Tree) → OfChildren t Sooner → (u : Tree) (i : ℕ) → At t u i → PartPeak u i
  unfolding PartPeak
  peaks t sooner (leaf g h) i a = tt
  peaks t sooner (node o l r) i a =
      let p : ℕ = root (node o l r) i in
      let s = sooner o l r i a in
      peak_node o l r i (peak_child l i p s.0 (peaks t sooner l i (at_left a))) (peak_child r (i + size l) p s.1 (peaks t sooner r (i + size l) (at_right a)))
