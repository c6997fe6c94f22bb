use mathlib.Core.Path.{◌≡◌}
use Prim.Native.Nat.{◌≤◌}
use lib.ListN.{drop}
use Rattle.words.specs.InnerAbove.{kinds_after}
use Rattle.words.proofs.frame_after.Given as goal

abbrev pub invariant-loop-i : goal.invariant-loop-i
invariant-loop-i l = (l.operands ≤ l.i) × (kinds_after 0 (drop l.from l.word) ≡ kinds_after l.operands (drop l.i l.word))
