-- `beginning` meets its contract: each test leaves one part behind.
use Prim.Native.Nat.{◌-◌, ◌*◌}
use native.Mathlib.Omega.{arith}
use Rattle.questions.proofs.CountLaws.{first, later}
use Rattle.questions.proofs.beginning.Goals as goal

pub returns-then-k-a : goal.returns-then-k-a
returns-then-k-a c = first (omega arith)

pub returns-then-k-a-2 : goal.returns-then-k-a-2
returns-then-k-a-2 c = let a = c.args.behind.group in let k = c.args.k in later (k - a) (omega arith) (first (omega arith))

pub returns-then-k-a-3 : goal.returns-then-k-a-3
returns-then-k-a-3 c = let a = c.args.behind.group in let k = c.args.k in later (k - a) (omega arith) (later (k - 2 * a) (omega arith) (first (omega arith)))

pub returns-then-k-a-4 : goal.returns-then-k-a-4
returns-then-k-a-4 c = let a = c.args.behind.group in let k = c.args.k in later (k - a) (omega arith) (later (k - 2 * a) (omega arith) (later (k - 3 * a) (omega arith) (first (omega arith))))

pub returns : goal.returns
returns c = let a = c.args.behind.group in let b = c.args.behind.operator in let k = c.args.k in later (k - a) (omega arith) (later (k - 2 * a) (omega arith) (later (k - 3 * a) (omega arith) (later (k - 3 * a - b) (omega arith) (first (omega arith)))))
