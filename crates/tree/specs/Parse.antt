-- The tree that a list is, and the node at a position.
use Rattle.std.specs.Prelude.{Bool, true, false, cond, List, [], ◌∷◌, ℕ, ◌+◌, ◌-◌, leb, ltb, length}
use Rattle.std.proofs.Math.Option.{Option, some, none}
use Rattle.tree.specs.Tree.{Tree, leaf, node, size, most_nodes}
use Rattle.tree.specs.Context.{left, right, Frame, frame, Place}
use Rattle.tree.specs.Pass.{pass}

-- the one tree of a stack
abbrev pub alone : Option (List Tree) → Option Tree
alone none = none
alone (some []) = none
alone (some (t ∷ [])) = some t
alone (some (t ∷ (u ∷ s))) = none

-- the trees that wait after the entries of a list, the latest first
abbrev pub waiting : ℕ → List ℕ → List Tree → Option (List Tree)
waiting i xs s = pass (λ i g h. leaf g h) (λ i o l r. node o l r) i xs s

-- the tree whose list this is, or none
unfoldable pub parse : List ℕ → Option Tree
parse l = alone (waiting 0 l [])

-- the same within 01's limit: none is 01's number 12, "the list isn't a tree"
unfoldable pub tree_of : List ℕ → Option Tree
tree_of l = cond (leb (length l) most_nodes) (parse l) none

-- whether there is one
abbrev pub is_some : {A : Type 0} → Option A → Bool
is_some none = false
is_some (some t) = true

-- the node at position p of the tree t, whose own context is c
unfoldable pub locate : Tree → List Frame → ℕ → Place
locate (leaf g h) c p = record { part = leaf g h; above = c }
locate (node o l r) c p =
    cond (ltb p (size l)) (locate l (frame left o r ∷ c) p)
    (cond (ltb p (size l + size r)) (locate r (frame right o l ∷ c) (p - size l)) (record { part = node o l r; above = c }))
