-- `put_refusal`: the numbers have at most 3, 20 and 1 digits.
use Prim.Native.Nat.{◌<◌}
use native.Mathlib.Omega.{arith}
use borrow.Author.Rules.{rules}
use Rattle.marking.specs.Text.{mark_line_of}
use Rattle.marking.proofs.TextLaws.{file_small, refusal_fits}
use Rattle.marking.proofs.put_refusal.Goals as goal

pub put-requires : goal.put-requires
put-requires c =
    let r = c.args.refusal in
    let n : r.number < 256 = search rules in
    let l : r.line < 18446744073709551616 = search rules in
    rw c.from.ensures (refusal_fits r.number r.line _ (omega arith) (omega arith) (file_small r.file))

pub returns : goal.returns
unfolding mark_line_of
returns c = rw c.from.ensures at c.put.ensures
