-- What the functions answer that replace a stretch of a list by a word. No contract of one of 01's calls cites this file.
use Rattle.std.specs.Prelude.{◌≡◌, List, ℕ, ◌+◌, ◌≤◌, ◌<◌, length, take, Option, Some, None}
use Rattle.tree.specs.Tree.{most_nodes}
use Rattle.tree.specs.declared.Stretch.{Stretch}
use Rattle.words.specs.InnerWords.{spell, leading, replaced}
use Rattle.words.specs.declared.Replacement.{Replacement}

-- the buffer begins with the new list xs, which has so many entries and is within the limit
pub record Written (xs : List ℕ) (nodes : ℕ) (out : List ℕ) : Type 0 where
  pub length_is : nodes ≡ length xs
  pub short : nodes ≤ most_nodes
  pub entries : take nodes out ≡ xs

-- what is answered of a new list in which A begins at `start`, and what the buffer then holds: "16 the result passes 8,191 nodes"
abbrev pub ReplacedBy : List ℕ → ℕ → Option Replacement → List ℕ → Type 0
ReplacedBy xs start None out = most_nodes < length xs
ReplacedBy xs start (Some r) out = (r.from ≡ start) × Written xs r.nodes out

-- a stretch is replaced by what a word stands for
pub record Replaced (list : List ℕ) (parts : List Stretch) (w : List ℕ) (old : Stretch) (r : Option Replacement) (out : List ℕ) : Type 0 where
  pub by_word : ReplacedBy (replaced list parts w old) (old.from + length (spell list parts (leading w))) r out
