-- What it takes to write a node's code, and what is written. Only contracts of private functions cite it.
use Rattle.std.specs.Prelude.{◌≡◌, Bool, List, [], ◌∷◌, ℕ, zero, suc, ◌+◌, ◌-◌, ◌*◌, ◌/◌, ◌%◌, ◌≤◌, eqb, length}
use Rattle.tree.specs.Tree.{Tree, size}
use Rattle.tree.specs.InnerWriting.{Wrote}
use Rattle.player.specs.Limits.{register_count}
use Rattle.older_player.specs.Instructions.{numbers_of}
use Rattle.code.specs.Need.{need}
use Rattle.code.specs.Devices.{part_code, older_player}
use Rattle.code.specs.InnerWaiting.{waiting}
use Rattle.notes.specs.declared.Note.{Note}
use Rattle.notes.specs.InnerNotes.{NodeAt, note_at}

-- where operands wait, of so many registers, by a number whose bit r is 1 if none waits in register r
unfoldable pub flags : ℕ → ℕ → List Bool
flags zero free = []
flags (suc n) free = eqb (free % 2) 0 ∷ flags n (free / 2)

abbrev pub waiting_in : ℕ → List Bool
waiting_in free = flags register_count free

-- the code of the node at `end` can be written at `at`, while operands wait where `busy` says
pub record Writable (list : List ℕ) (end : ℕ) (busy : List Bool) (out : List ℕ) (at : ℕ) : Type 0 where
  pub part : Tree
  pub root : NodeAt list end part
  pub registers : waiting busy + need part ≤ register_count
  pub room : at + 4 * size part ≤ length out

-- the index behind the code of the node at `end`, which begins at `at`: four numbers for each node of its part, by the notes
abbrev pub behind : List Note → ℕ → ℕ → ℕ
behind notes end at = at + 4 * (end + 1 - (note_at notes end).start)

-- the numbers of the part's code are written, and its result waits in this register
pub record WrotePart (out : List ℕ) (at : ℕ) (out' : List ℕ) (register : ℕ) (busy : List Bool) (a : Tree) : Type 0 where
  pub code : Wrote out at out' (at + 4 * size a) (numbers_of (part_code older_player busy a).own)
  pub result : register ≡ (part_code older_player busy a).register
