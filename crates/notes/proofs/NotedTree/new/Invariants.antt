use mathlib.Core.Path.{◌≡◌}
use Prim.Native.Nat.{◌≤◌}
use lib.ListN.{length}
use Rattle.notes.specs.InnerNotes.{NotedBelow}
use Rattle.notes.proofs.NotedTree.new.Given as goal

abbrev pub invariant-loop-i : goal.invariant-loop-i
invariant-loop-i l = (length l.tree ≤ 8191) × (length l.notes ≡ 8191) × NotedBelow l.tree l.notes l.i
