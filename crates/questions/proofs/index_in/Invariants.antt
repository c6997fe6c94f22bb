use Prim.Native.Nat.{◌+◌, ◌*◌, ◌≤◌}
use Rattle.questions.proofs.TurnLaws.{Reading}
use Rattle.questions.proofs.index_in.Given as goal

abbrev pub invariant-loop-i : goal.invariant-loop-i
invariant-loop-i l = (l.waiting ≤ l.i) × (l.index ≤ 65535 + 327675 * l.i) × Reading l.list l.index l.waiting l.i
