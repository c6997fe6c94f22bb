-- `count_behind` meets its contract, by the row.
use mathlib.Core.Path.{sym, ◌∙◌}
use Prim.Native.Nat.{◌+◌, ◌-◌}
use native.Mathlib.Omega.{arith}
use borrow.Author.Tests.{lt-ltb, le-ltb}
use Rattle.questions.proofs.count_behind.Goals as goal

pub returns-then-waiting-lt2 : goal.returns-then-waiting-lt2
returns-then-waiting-lt2 c = let at = c.row-counts.ensures.at in let w = c.args.waiting in (at (w + 1) (omega arith), sym (rw (lt-ltb w 2 c.if-waiting-lt2.true)))

pub returns : goal.returns
returns c = let at = c.row-counts.ensures.at in let w = c.args.waiting in (at (w + 1) (omega arith), at (w - 1) (omega arith) ∙ sym (rw (le-ltb w 2 c.if-waiting-lt2.false)))
