-- How the code notes a tree's nodes, where each node's part begins and what it needs; what it finds by these notes, a node's
-- children.
use Rattle.std.specs.Prelude.{◌≡◌, Bool, cond, List, ℕ, ◌+◌, ◌-◌, ◌≤◌, ◌<◌, leb, length, get_or}
use Rattle.tree.specs.Tree.{Tree, most_nodes}
use Rattle.tree.specs.Context.{Frame}
use Rattle.tree.specs.InnerPart.{Part}
use Rattle.code.specs.Need.{need}
use Rattle.notes.specs.declared.Note.{Note}

-- the list is a tree in which the node at the position `end` is the root of the part a
pub record NodeAt (list : List ℕ) (end : ℕ) (a : Tree) : Type 0 where
  pub from : ℕ
  pub above : List Frame
  pub is : Part list from (end + 1) a above

-- the note of the node with this entry; zeros where there is none
abbrev pub no_note : Note
no_note = record { start = 0; need = 0 }

abbrev pub note_at : List Note → ℕ → Note
note_at notes end = get_or notes end no_note

-- of every node below position n, its note says where its part begins, and what it needs
pub record NotedBelow (list : List ℕ) (notes : List Note) (n : ℕ) : Type 0 where
  pub start : (end : ℕ) (a : Tree) (v : NodeAt list end a) → end < n → (note_at notes end).start ≡ v.from
  pub needed : (end : ℕ) (a : Tree) (v : NodeAt list end a) → end < n → (note_at notes end).need ≡ need a

-- the same of every node of a list within the limit
pub record Noted (list : List ℕ) (notes : List Note) : Type 0 where
  pub all : NotedBelow list notes (length list)
  pub few : length list ≤ most_nodes

-- ---- the children of the node at `end`, by the notes: the right one's entry is the one before `end`, the left one's the one
-- before the right part's start, which is `middle`
abbrev pub middle : List Note → ℕ → ℕ
middle notes end = (note_at notes (end - 1)).start

-- "the child of larger need first, left on a tie": the left child comes first
abbrev pub left_is_first : List Note → ℕ → Bool
left_is_first notes end = leb (note_at notes (end - 1)).need (note_at notes (middle notes end - 1)).need

-- the node has two children: both their entries lie before it, and the left part begins no later than the right one
pub record HasChildren (notes : List Note) (end : ℕ) : Type 0 where
  pub high : end < most_nodes
  pub left : 1 ≤ middle notes end
  pub right : middle notes end < end
  pub low : (note_at notes (middle notes end - 1)).start ≤ middle notes end

-- the entries of the children in the order of their code, and whether the left one comes first
pub record ChildrenInOrder (notes : List Note) (end : ℕ) (first second : ℕ) (left : Bool) : Type 0 where
  pub one : first ≡ cond (left_is_first notes end) (middle notes end - 1) (end - 1)
  pub two : second ≡ cond (left_is_first notes end) (end - 1) (middle notes end - 1)
  pub side : left ≡ left_is_first notes end
