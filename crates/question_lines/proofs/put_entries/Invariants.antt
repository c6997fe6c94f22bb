use mathlib.Core.Path.{◌≡◌}
use Prim.Native.Nat.{◌+◌, ◌*◌}
use lib.ListN.{take}
use Rattle.tree.specs.InnerWriting.{Wrote}
use Rattle.question_lines.specs.InnerFields.{entries_after}
use Rattle.question_lines.proofs.put_entries.Given as goal

abbrev pub invariant-loop-x : goal.invariant-loop-x
invariant-loop-x l = (l.next ≡ l.at + 2 * l.x-index) × Wrote l.initial.out l.at l.out l.next (entries_after (take l.x-index l.list))
