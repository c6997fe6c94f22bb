-- `tree::above_part` meets its contract: the scan onward finds the operator, and it is the part's neighbour exactly where the
-- part is a right operand.
use native.Mathlib.Omega.{arith}
use Rattle.tree.proofs.PartLaws.{part_length, is_root, is_left, is_right}
use Rattle.tree.proofs.above_part.Goals as goal

pub scan_onward-requires : goal.scan_onward-requires
scan_onward-requires c = omega (arith, part_length c.requires.2)

pub returns-in_err-place : goal.returns-in_err-place
returns-in_err-place c = λ a k P. rw c.from_residual.ensures (is_root c.args.part a k P c.in_err-place.ensures)

pub returns-then-place-part : goal.returns-then-place-part
returns-then-place-part c =
    let found = c.in_ok-place.ensures in
    λ a k P. is_right c.args.part _ _ a k P found.0 found.1 c.if-place-part.true c.scan_backward-from.ensures _ c.operand_of.ensures

pub returns : goal.returns
returns c =
    let found = c.in_ok-place.ensures in
    λ a k P. is_left c.args.part _ a k P found.0 found.1 c.if-place-part.false _ c.operand_of-2.ensures
