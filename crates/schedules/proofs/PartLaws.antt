-- The parts of a tree by where they begin, the positions of their roots, and the children of these.
use mathlib.Core.Path.{◌≡◌, refl, ◌∙◌}
use mathlib.Core.Bool.{true}
use mathlib.Core.List.{List, [], ◌∷◌}
use Prim.Native.Nat.{ℕ, ◌+◌, ◌-◌, ◌<◌}
use native.Mathlib.Omega.{arith}
use lib.ListN.{length, length-append}
use Rattle.tree.specs.Tree.{Operator, Tree, node, postfix, size, is_in}
use Rattle.tree.specs.Context.{left, right, Frame, frame, plug, before}
use Rattle.tree.proofs.TreeLaws.{postfix_length, size_positive}
use Rattle.tree.proofs.GroupLaws.{is_in_here, in_later}
use Rattle.tree.proofs.ContextLaws.{locate_plug, size_plug}
use Rattle.schedules.specs.Schedules.{children_of, children}

-- the tree t has the part u, whose first entry is at i
pub record At (t u : Tree) (i : ℕ) : Type 0 where
  pub above : List Frame
  pub whole : plug u above ≡ t
  pub begins : length (before above) ≡ i

-- the position of that part's root
abbrev pub root : Tree → ℕ → ℕ
root u i = i + size u - 1

pub at_whole : (t : Tree) → At t t 0
unfolding plug before
at_whole t = record { above = []; whole = refl; begins = refl }

module _ {t u : Tree} {i : ℕ} (a : At t u i) where
  pub at_most : root u i < size t
  at_most = rw (← a.whole) (omega (arith, a.begins, size_plug u a.above, size_positive u))

  pub at_place : children t (root u i) ≡ children_of u a.above
  at_place = rw (← a.whole, ← a.begins, locate_plug)

module _ {t : Tree} {o : Operator} {l r : Tree} {i : ℕ} (a : At t (node o l r) i) where
  pub at_left : At t l i
  unfolding plug before
  at_left = record { above = frame left o r ∷ a.above; whole = a.whole; begins = a.begins }

  pub at_right : At t r (i + size l)
  unfolding plug before
  at_right = record {
    above = frame right o l ∷ a.above;
    whole = a.whole;
    begins = omega (arith, a.begins, length-append (before a.above) (postfix l), postfix_length l);
  }

  pub at_children : children t (root (node o l r) i) ≡ root l i ∷ root r (i + size l) ∷ []
  unfolding before
  at_children = at_place a ∙ simp (length-append, postfix_length, a.begins)

-- the node at c is a child of the node at p
pub record Child (t : Tree) (c p : ℕ) : Type 0 where
  pub listed : is_in (children t p) c ≡ true
  pub sooner : c < p
  pub most : p < size t

-- P holds of each child and its parent
abbrev pub OfChildren : Tree → (ℕ → ℕ → Type 0) → Type 0
OfChildren t P =
    (o : Operator) (l r : Tree) (i : ℕ) → At t (node o l r) i → P (root l i) (root (node o l r) i) × P (root r (i + size l)) (root (node o l r) i)

pub of_children : (t : Tree) (P : ℕ → ℕ → Type 0) → ((c p : ℕ) → Child t c p → P c p) → OfChildren t P
unfolding size
of_children t P f o l r i a = (
  f (root l i) (root (node o l r) i) (record {
    listed = rw (at_children a) (is_in_here _ _);
    sooner = omega (arith, size_positive l, size_positive r);
    most = at_most a;
  }),
  f (root r (i + size l)) (root (node o l r) i) (record {
    listed = rw (at_children a) (in_later _ _ _ (is_in_here _ _));
    sooner = omega (arith, size_positive r);
    most = at_most a;
  }),
)
