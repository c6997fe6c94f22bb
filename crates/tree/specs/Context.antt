-- A node's place in a tree: its context, the frames from the node up to the root, innermost first.
-- "Level means the number of nodes above; the root has 0": the level is the number of frames, `length`.
use Rattle.std.specs.Prelude.{Bool, List, [], ◌∷◌, ◌++◌, ℕ, ◌+◌, ◌-◌, length}
use Rattle.tree.specs.Tree.{Operator, Tree, node, postfix, size, Over}

-- the earlier and the later operand of an operator
pub data Side : Type 0 where
  left : Side
  right : Side

-- the node is the operand on this side of this operator, and this tree is the other operand
pub data Frame : Type 0 where
  frame : Side → Operator → Tree → Frame

-- f x y with x on this side
abbrev pub sided : {X Y : Type 0} → Side → (X → X → Y) → X → X → Y
sided left f x y = f x y
sided right f x y = f y x

-- the whole tree, of a part and its context
unfoldable pub plug : Tree → List Frame → Tree
plug t [] = t
plug t (frame s o b ∷ c) = plug (sided s (node o) t b) c

-- what stands before and after the part in the whole tree's list: "a node's part is the stretch that ends at it"
unfoldable pub before : List Frame → List ℕ
before [] = []
before (frame left o b ∷ c) = before c
before (frame right o b ∷ c) = before c ++ postfix b

-- "An entry is a node; its position counts from 0": where the node's own entry stands, the last of its part
abbrev pub position : Tree → List Frame → ℕ
position t c = length (before c) + size t - 1

-- every leaf outside the part passes the test m
unfoldable pub OverAbove : (ℕ → Bool) → List Frame → Type 0
OverAbove m [] = Unit {0}
OverAbove m (frame s o b ∷ c) = Over m b × OverAbove m c

-- the node at a position below the size: the part that ends there, and its context
pub record Place : Type 0 where
  pub part : Tree
  pub above : List Frame
