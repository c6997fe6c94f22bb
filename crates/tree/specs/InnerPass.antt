-- What a pass over a tree's list leaves: a value of the tree. proofs/PassLaws.antt says so.
use Rattle.std.specs.Prelude.{ℕ, ◌+◌, T}
use Rattle.tree.specs.Tree.{Operator, Tree, leaf, node, is_group, size}

module _ {A : Type 0} (at_leaf : ℕ → (g : ℕ) → T (is_group g) → A) (at_node : ℕ → Operator → A → A → A) where
  -- the value of the tree whose first entry is at i
  unfoldable pub fold : ℕ → Tree → A
  fold i (leaf g h) = at_leaf i g h
  fold i (node o l r) = at_node (i + size l + size r) o (fold i l) (fold (i + size l) r)
