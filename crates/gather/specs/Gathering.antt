-- Document 01, "The gathering": gathered trees, and when no tree is gathered.
use Rattle.std.specs.Prelude.{◌≡◌, Bool, not, List, ℕ}
use Rattle.tree.specs.Tree.{Tree, Over, Equivalent}
use Rattle.tree.specs.Context.{Frame, plug, position, OverAbove}

-- "A tree is gathered for some marked groups if it has a node whose leaves are all marked, and no other leaf of the tree
-- is marked; that node is the holder." m says which groups are marked, p is the holder's position.
pub record Gathered (m : ℕ → Bool) (t : Tree) (p : ℕ) : Type 0 where
  pub holder : Tree
  pub above : List Frame
  pub whole : t ≡ plug holder above
  pub marked : Over m holder
  pub others : OverAbove (λ g. not (m g)) above
  pub at : p ≡ position holder above

-- "19 exactly when no gathered equivalent tree exists; here trees of any size and over any groups count"; request 6: "Gathering is now
-- judged against trees that may use all three operators"
pub record CannotBeGathered (m : ℕ → Bool) (t : Tree) : Type 0 where
  pub never : (u : Tree) (p : ℕ) → Equivalent t u → Gathered m u p → ⊥
