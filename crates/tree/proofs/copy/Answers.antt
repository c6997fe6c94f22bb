-- `tree::copy` meets its contract: after i turns the first i entries of `source` are written.
use Rattle.std.proofs.Common.{◌≡◌, ◌+◌, arith}
use Rattle.tree.proofs.WritingLaws.{wrote_more}
use Rattle.tree.proofs.copy.Goals as goal

pub loop-i-preserved : goal.loop-i-preserved
loop-i-preserved g c =
    let l = c.loop-i in
    let next : c.args.at + (l.i + 1) ≡ c.args.at + l.i + 1 = omega arith in
    rw next (wrote_more c.args.source.now l.i c.index-source-i.result c.loop-i-test.true c.index-source-i.is l.invariant)
