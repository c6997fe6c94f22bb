-- A part of a list that is a tree, and what is above it: what `part_start` and `above_part` require and answer.
use Rattle.std.specs.Prelude.{◌≡◌, Bool, true, false, List, [], ◌∷◌, ℕ, ◌+◌, ◌-◌, length, Option, Some, None}
use Rattle.tree.specs.Tree.{Operator, union, difference, intersection, Basic, plus, minus, Tree, postfix, size}
use Rattle.tree.specs.Context.{Side, left, right, Frame, frame, plug, before}
use Rattle.tree.specs.declared.Stretch.{Stretch}
use Rattle.tree.specs.declared.Operand.{Operand}
use Rattle.tree.specs.declared.Operand.TheVariants.{LeftOfUnion, LeftOfDifference, RightOfUnion, RightOfDifference}
use Rattle.tree.specs.declared.Above.{Above}

-- the list is a tree in which the entries from `from` up to, not including, `to` are those of the part a, and c is its context
pub record Part (list : List ℕ) (from to : ℕ) (a : Tree) (c : List Frame) : Type 0 where
  pub whole : list ≡ postfix (plug a c)
  pub begins : from ≡ length (before c)
  pub ends : to ≡ from + size a

-- the list is a tree in which those entries are a part
abbrev pub Located : List ℕ → ℕ → ℕ → Type 0
Located list from to = (a : Tree) × (c : List Frame) × Part list from to a c

-- which operand a part is, on a side of one of 01's operators
abbrev pub basic_kind : Side → Basic → Operand
basic_kind left plus = LeftOfUnion
basic_kind left minus = LeftOfDifference
basic_kind right plus = RightOfUnion
basic_kind right minus = RightOfDifference

-- .. of any operator: none of an `I`
abbrev pub kind_of : Side → Operator → Option Operand
kind_of s union = Some (basic_kind s plus)
kind_of s difference = Some (basic_kind s minus)
kind_of s intersection = None

-- the side of a part that is on the right, or is not
abbrev pub side_of : Bool → Side
side_of false = left
side_of true = right

-- what `above_part` answers for a part with this context: its frame, the sibling's stretch and the parent's
unfoldable pub above_of : Stretch → List Frame → Option Above
above_of part [] = None
above_of part (frame left o b ∷ c) = Some (record {
  operand = kind_of left o;
  sibling = record { from = part.to; to = part.to + size b };
  parent = record { from = part.from; to = part.to + size b + 1 };
})
above_of part (frame right o b ∷ c) = Some (record {
  operand = kind_of right o;
  sibling = record { from = part.from - size b; to = part.from };
  parent = record { from = part.from - size b; to = part.to + 1 };
})
