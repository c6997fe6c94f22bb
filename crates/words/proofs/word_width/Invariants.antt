use mathlib.Core.Path.{◌≡◌}
use mathlib.Core.List.{List}
use Prim.Native.Nat.{ℕ, ◌*◌, ◌≤◌}
use lib.ListN.{length, take}
use Rattle.tree.specs.Tree.{most_nodes}
use Rattle.words.specs.InnerWords.{Within, spell}
use Rattle.words.proofs.word_width.Given as goal

abbrev pub invariant-loop-sign : goal.invariant-loop-sign
invariant-loop-sign l = (l.width ≤ most_nodes * l.sign-index) × ((m : List ℕ) → Within m l.parts → l.width ≡ length (spell m l.parts (take l.sign-index l.word)))
