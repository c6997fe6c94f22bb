use Prim.Native.Nat.{◌≤◌}
use Rattle.questions.proofs.TurnLaws.{Writing}
use Rattle.questions.proofs.list_at.Given as goal

abbrev pub invariant-loop-i : goal.invariant-loop-i
invariant-loop-i l = (l.waiting ≤ l.i) × Writing l.length l.k l.entries l.waiting l.rest l.i
