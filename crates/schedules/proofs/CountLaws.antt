-- Counting: nodes that stand at one time in some of a list of registers are no more than the list has, and registers below n are at most n
-- different ones.
use mathlib.Core.Path.{◌≡◌, refl, sym, ap, ◌∙◌}
use mathlib.Core.Bool.{true, cond, false≢true}
use mathlib.Core.Option.{Option, some, none}
use mathlib.Core.List.{List, [], ◌∷◌}
use Prim.Native.Nat.{ℕ, zero, suc, ◌+◌, ◌-◌, ◌≤◌, ◌<◌, min}
use native.Mathlib.Decide.{ℕ_discrete, dec_le}
use native.Mathlib.Omega.{arith}
use borrow.Author.Tests.{eqb-true, eq-eqb, ne_eqb}
use lib.Dec.{eqb}
use lib.ListN.{length}
use Rattle.tree.specs.Tree.{Tree, leaf, node, size, is_in, collect}
use Rattle.tree.specs.InnerGroups.{Distinct}
use Rattle.tree.proofs.TreeLaws.{or_cases, size_positive}
use Rattle.tree.proofs.GroupLaws.{is_in_here, in_later, in_collect, distinct_collect, distinct_most}
use Rattle.code.specs.Effects.{Effect}
use Rattle.schedules.specs.Schedules.{Contents, Stands, registers, different}
use Rattle.schedules.proofs.PartLaws.{At, root, at_whole, at_left, at_right, at_most, OfChildren}
use Rattle.schedules.proofs.LiveLaws.{live}

-- 1 if p is below b, else 0
unfoldable pub below : ℕ → ℕ → ℕ
below b p = min 1 (b - p)

-- a part's root comes last: the positions before it are those below j
pub below_root : (u : Tree) (i j p : ℕ) → j ≡ root u i → cond (eqb p (root u i)) 1 0 + below j p ≡ below (i + size u) p
unfolding below
below_root u i j p e =
    let last : j + 1 ≡ i + size u = omega (arith, size_positive u) in
    elim (ℕ_discrete p (root u i)) [ yes f ↦ rw (eq-eqb p (root u i) f) (omega arith) | no n ↦ rw (ne_eqb p (root u i) n) (omega arith) ]

-- ---- the nodes in registers
-- the same of the node in a register, 0 if there is none
abbrev under : ℕ → Option ℕ → ℕ
under b none = 0
under b (some p) = below b p

under_next : (b : ℕ) (x : Option ℕ) → under b x ≤ under (b + 1) x
unfolding below
under_next b none = omega arith
under_next b (some p) = omega arith

under_most : (b : ℕ) (x : Option ℕ) → under b x ≤ 1
unfolding below
under_most b none = omega arith
under_most b (some p) = omega arith

module _ (C : Contents) where
  -- how many of the registers hold a node at a position below b
  unfoldable filled : ℕ → List ℕ → ℕ
  filled b [] = 0
  filled b (r ∷ rs) = under b (C r) + filled b rs

  filled_next : (b : ℕ) (rs : List ℕ) → filled b rs ≤ filled (b + 1) rs
  unfolding filled
  filled_next b [] = omega arith
  filled_next b (r ∷ rs) = omega (arith, under_next b (C r), filled_next b rs)

  filled_own : (b : ℕ) (rs : List ℕ) (r : ℕ) → is_in rs r ≡ true → C r ≡ some b → filled b rs + 1 ≤ filled (b + 1) rs
  unfolding filled is_in below
  filled_own b [] r k e = absurd (false≢true k)
  filled_own b (q ∷ rs) r k e =
      or_cases (eqb r q) (is_in rs r) k
      (λ f. rw (← eqb-true r q f, e) (omega (arith, filled_next b rs)))
      (λ f. omega (arith, under_next b (C q), filled_own b rs r f e))

  filled_most : (b : ℕ) (rs : List ℕ) → filled b rs ≤ length rs
  unfolding filled
  filled_most b [] = omega arith
  filled_most b (r ∷ rs) = omega (arith, under_most b (C r), filled_most b rs)

  module _ (t : Tree) (done : ℕ → ℕ) (rs : List ℕ) (most : (p : ℕ) → p < size t → done p ≤ 1) (stand : OfChildren t (λ c p. 0 < done c - done p → Stands C rs c)) where
    -- a part's root fills one register more, if it is live
    filled_root : (u : Tree) (i b j : ℕ) → At t u i → (0 < done (root u i) - b → Stands C rs (root u i)) → j ≡ root u i
        → done (root u i) - b + filled j rs ≤ filled (i + size u) rs
    filled_root u i b j a own e =
        let last : root u i + 1 ≡ i + size u = omega (arith, size_positive u) in
        rw e
        (elim (dec_le 1 (done (root u i) - b)) [
          | yes k ↦ let S = own k in omega (arith, most (root u i) (at_most a), rw last at (filled_own (root u i) rs S.register S.listed S.holds))
          | no k ↦ omega (arith, rw last at (filled_next (root u i) rs))
        ])

    -- the live nodes of a part fill registers with positions from its first entry on and below its end
    filled_part : (u : Tree) (i b : ℕ) → At t u i → (0 < done (root u i) - b → Stands C rs (root u i)) → live done u i b + filled i rs ≤ filled (i + size u) rs
    unfolding live size
    filled_part (leaf g h) i b a own = filled_root (leaf g h) i b i a own (omega arith)
    filled_part (node o l r) i b a own =
        let s = stand o l r i a in
        let x = filled_part l i (done (root (node o l r) i)) (at_left a) s.0 in
        let y = filled_part r (i + size l) (done (root (node o l r) i)) (at_right a) s.1 in
        omega (arith, filled_root (node o l r) i b (i + size l + size r) a own (omega arith))

    pub live_most : (0 < done (root t 0) → Stands C rs (root t 0)) → live done t 0 0 ≤ length rs
    live_most own = omega (arith, filled_part t 0 0 (at_whole t) (λ e. own (omega arith)), filled_most (0 + size t) rs)

-- ---- different numbers below n
unfoldable up_to : ℕ → List ℕ
up_to zero = []
up_to (suc n) = n ∷ up_to n

length_up_to : (n : ℕ) → length (up_to n) ≡ n
unfolding up_to
length_up_to zero = refl
length_up_to (suc n) = ap suc (length_up_to n)

in_up_to : (n x : ℕ) → x < n → is_in (up_to n) x ≡ true
unfolding up_to
in_up_to zero x h = absurd (omega arith)
in_up_to (suc n) x h = elim (ℕ_discrete x n) [ yes e ↦ rw e (is_in_here n (up_to n)) | no e ↦ in_later n (up_to n) x (in_up_to n x (omega arith)) ]

pub different_most : (n : ℕ) (es : List Effect) → ((r : ℕ) → is_in (registers es) r ≡ true → r < n) → different es ≤ n
unfolding is_in
different_most n es below =
    let xs : List ℕ = registers es in
    let h = distinct_most (collect [] xs) (up_to n) (distinct_collect [] xs (unfold Distinct in tt)) (λ x e. in_up_to n x (below x (sym (in_collect [] xs x) ∙ e))) in
    omega (arith, length_up_to n)
