-- What the functions of this crate ask and promise. Their contracts cite this, and those of `key`.
use Rattle.std.specs.Prelude.{◌≡◌, List, ℕ, ◌+◌, ◌*◌, ◌≤◌, length, take}
use Rattle.tree.specs.Tree.{Tree, postfix, size, most_nodes}
use Rattle.tree.specs.InnerWriting.{Wrote}
use Rattle.text.specs.Line.{lines}
use Rattle.moves.specs.Moves.{MoveTable}
use Rattle.moves.specs.InnerEntries.{TableIs}
use Rattle.sheet.specs.Form.{most_position, most_levels}
use Rattle.sheet.specs.Reading.{LiftLine}
use Rattle.sheet.specs.Rules.{sheet_rules}
use Rattle.sheet.specs.InnerLines.{LiftsTo}
use Rattle.printing.specs.Key.{lift_row, lift_rows}
use Rattle.printing.specs.Inner.{row_text}
use Rattle.lift_lines.specs.Lifting.{lifting, tree_left, lift_answer, tree_after, lift_answers}
use Rattle.lift_lines.specs.declared.Progress.{Progress}

-- bytes that a LIFT line has at most
abbrev pub lift_bytes : ℕ
lift_bytes = 16

-- a list is the tree's list, within the limit
pub record IsList (entries : List ℕ) (t : Tree) : Type 0 where
  pub list : entries ≡ postfix t
  pub most : size t ≤ most_nodes

-- ---- `lift_one`
-- the first `nodes` entries of an array are the list of a tree, and every tree has room in the array
abbrev pub InArray : List ℕ → ℕ → Type 0
InArray array nodes = ((t : Tree) × IsList (take nodes array) t) × (nodes ≤ length array) × (most_nodes ≤ length array)

-- a lift line's numbers are in their ranges, and the line of its answer has room
pub record LiftRoom (position levels : ℕ) (out : List ℕ) (at : ℕ) : Type 0 where
  pub near : position ≤ most_position
  pub few : levels ≤ most_levels
  pub room : at + lift_bytes ≤ length out

-- one lift in the tree t by the table m, and its line
pub record LiftedOne (m : MoveTable) (t : Tree) (l : LiftLine) (tree' : List ℕ) (r : Progress) (out : List ℕ) (at : ℕ) (out' : List ℕ) : Type 0 where
  pub holds : IsList (take r.nodes tree') (tree_left t (lifting m t l))
  pub fits : r.nodes ≤ most_nodes
  pub wrote : Wrote out at out' r.next (row_text (lift_row (lift_answer l (lifting m t l))))
  pub most : r.next ≤ at + lift_bytes

-- .. by whichever table it is whose words these are, in whichever tree the array's entries are
abbrev pub LiftsOne : (tree : List ℕ) (nodes position levels : ℕ) (tree' : List ℕ) (r : Progress) (out : List ℕ) (at : ℕ) (out' signs lengths : List ℕ) → Type 0
LiftsOne tree nodes position levels tree' r out at out' signs lengths =
    (m : MoveTable) → TableIs m signs lengths → (t : Tree) → IsList (take nodes tree) t → LiftedOne m t (record { position = position; levels = levels }) tree' r out at out'

-- ---- `lift_all`
-- the lines at `start` ask for these lifts
pub record Asked (sheet : List ℕ) (start count : ℕ) (ls : List LiftLine) : Type 0 where
  pub end : ℕ
  pub lines : LiftsTo sheet_rules sheet start ls end
  pub counted : count ≡ length ls

-- all lifts, from the tree t, and their lines
pub record LiftedAll (m : MoveTable) (t : Tree) (ls : List LiftLine) (tree' : List ℕ) (r : Progress) (out out' : List ℕ) : Type 0 where
  pub holds : IsList (take r.nodes tree') (tree_after m t ls)
  pub fits : r.nodes ≤ most_nodes
  pub wrote : Wrote out 0 out' r.next (lines (lift_rows (lift_answers m t ls)))
  pub most : r.next ≤ lift_bytes * length ls

abbrev pub LiftsAll : (sheet : List ℕ) (start count : ℕ) (tree : List ℕ) (nodes : ℕ) (tree' : List ℕ) (r : Progress) (out out' signs lengths : List ℕ) → Type 0
LiftsAll sheet start count tree nodes tree' r out out' signs lengths =
    (m : MoveTable) → TableIs m signs lengths → (t : Tree) (ls : List LiftLine) → IsList (take nodes tree) t → Asked sheet start count ls → LiftedAll m t ls tree' r out out'
