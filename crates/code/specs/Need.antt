-- Need, and the order of nodes. 01, "The instructions". Nothing here knows an instruction or a register.
use Rattle.std.specs.Prelude.{Bool, true, false, not, cond, List, [], ◌∷◌, ℕ, ◌+◌, max, eqb, leb}
use Rattle.tree.specs.Tree.{Operator, Tree, leaf, node, size}
use Rattle.tree.specs.Context.{Side, left, right, Frame, frame, sided}

-- "of a node with unequal children, the larger need; with equal ones, one more"
abbrev pub need_of : ℕ → ℕ → ℕ
need_of a b = cond (eqb a b) (a + 1) (max a b)

-- "Need of a leaf is 1"
unfoldable pub need : Tree → ℕ
need (leaf g h) = 1
need (node o l r) = need_of (need l) (need r)

-- "the child of larger need first, left on a tie"
abbrev pub left_first : Tree → Tree → Bool
left_first l r = leb (need r) (need l)

-- "the child of larger need first, left on a tie": the first child's nodes, the second's, the node itself. What a device makes of this
-- is a value for each node: of a leaf, by the state that it comes in, and its group; of another node, by the state, the operator, whether
-- the left child came first, and the values of the first child and of the second, which comes in the state that the first one leaves.
module _ {S A : Type 0} (at_leaf : S → ℕ → A) (at_node : S → Operator → Bool → A → A → A) (leaves : S → A → S) where
  unfoldable pub in_order : S → Tree → A
  in_order s (leaf g h) = at_leaf s g
  in_order s (node o l r) =
      cond (left_first l r)
      (at_node s o true (in_order s l) (in_order (leaves s (in_order s l)) r))
      (at_node s o false (in_order s r) (in_order (leaves s (in_order s r)) l))

-- whether a child on this side, h, comes before its sibling b
abbrev pub comes_first : Side → Tree → Tree → Bool
comes_first left h b = left_first h b
comes_first right h b = not (left_first b h)

-- how many nodes of the whole tree come before those of the part h with the context c
unfoldable pub nodes_before : Tree → List Frame → ℕ
nodes_before h [] = 0
nodes_before h (frame s o b ∷ c) = nodes_before (sided s (node o) h b) c + cond (comes_first s h b) 0 (size b)
