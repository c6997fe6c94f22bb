-- A node as the code's functions see it: its part's entries and its state. No contract of one of 01's calls cites this file.
use Rattle.std.specs.Prelude.{◌≡◌, List, ℕ, Option}
use Rattle.tree.specs.Tree.{Tree}
use Rattle.tree.specs.Context.{Frame}
use Rattle.tree.specs.InnerPart.{Part}
use Rattle.moves.specs.NextState.{state_in}
use Rattle.moves.specs.InnerEntries.{number_of}
use Rattle.step.specs.declared.Node.{Node}

-- n is the number of A's state, nothing where A has none
abbrev pub StateIs : List Frame → Option ℕ → Type 0
StateIs c n = n ≡ number_of (state_in c)

-- the node is the part a with the context c in the list of a tree
pub record Standing (list : List ℕ) (n : Node) (a : Tree) (c : List Frame) : Type 0 where
  pub part : Part list n.part.from n.part.to a c
  pub state : StateIs c n.state

-- the node is a part of the list of a tree
abbrev pub Stands : List ℕ → Node → Type 0
Stands list n = (a : Tree) × (c : List Frame) × Standing list n a c
