-- The way down to a node by the notes of a tree's nodes, and what it takes to write a node's code. Only contracts of private functions
-- cite it.
use Rattle.std.specs.Prelude.{◌≡◌, cond, List, ℕ, ◌+◌, ◌-◌, ◌*◌, ◌≤◌, ltb, length}
use Rattle.tree.specs.Tree.{Tree, size}
use Rattle.player.specs.Limits.{register_count}
use Rattle.code.specs.Need.{need}
use Rattle.notes.specs.declared.Note.{Note}
use Rattle.notes.specs.InnerNotes.{NodeAt, note_at, middle, left_is_first}

-- one step down: the entry of the child that has the position in its part, and how many instructions stand before that
-- child's own in the code of the node
pub record StepsDown (notes : List Note) (end position : ℕ) (next before : ℕ) : Type 0 where
  pub child : next ≡ cond (ltb position (middle notes end)) (middle notes end - 1) (end - 1)
  pub passed : before ≡ cond (ltb position (middle notes end))
      (cond (left_is_first notes end) 0 (end - middle notes end))
      (cond (left_is_first notes end) (middle notes end - (note_at notes (middle notes end - 1)).start) 0)

-- the code of the node at `end` can be written at `at`
pub record Writable (list : List ℕ) (end target : ℕ) (out : List ℕ) (at : ℕ) : Type 0 where
  pub part : Tree
  pub root : NodeAt list end part
  pub registers : target + need part ≤ register_count
  pub room : at + 4 * size part ≤ length out
