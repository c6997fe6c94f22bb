-- `encode` has room, so it answers done with the code of the tree that the list is, or the list is no tree.
use mathlib.Core.Path.{sym}
use Prim.Native.Nat.{◌*◌}
use native.Mathlib.Omega.{arith}
use lib.ListN.{replicate}
use lib.Seq.{length-take-le}
use Rattle.tree.proofs.WritingLaws.{wrote_as, wrote_nothing}
use Rattle.common.proofs.ListLaws.{zeros_length}
use Rattle.key.proofs.EncodingLaws.{encoded, not_encoded}
use Rattle.key.proofs.put_tree_code.Goals as goal

pub returns-in_default : goal.returns-in_default
returns-in_default c =
    let args = c.args in
    let encode = c.encode_for in
    wrote_as (wrote_nothing _ _) (sym (not_encoded args.device args.tree.now (replicate 32768 0) encode.result encode.new.out (zeros_length 32768) encode.ensures c.in_default.field-0 c.in_default.is))

pub overflow_mul-code : goal.overflow_mul-code
overflow_mul-code c =
    let pre = c.requires in
    let args = c.args in
    let encode = c.encode_for in
    let e = encoded args.device args.tree.now (replicate 32768 0) encode.result encode.new.out (zeros_length 32768) encode.ensures c.in-Ok.count c.in-Ok.is in
    omega (arith, e.small)

pub slice_bounds-code-end : goal.slice_bounds-code-end
slice_bounds-code-end c =
    let pre = c.requires in
    let args = c.args in
    let encode = c.encode_for in
    (encoded args.device args.tree.now (replicate 32768 0) encode.result encode.new.out (zeros_length 32768) encode.ensures c.in-Ok.count c.in-Ok.is).long

pub slice_bounds-put_code-end : goal.slice_bounds-put_code-end
slice_bounds-put_code-end c =
    let pre = c.requires in
    let args = c.args in
    let encode = c.encode_for in
    sym (length-take-le (4 * c.in-Ok.count) encode.new.out (encoded args.device args.tree.now (replicate 32768 0) encode.result encode.new.out (zeros_length 32768) encode.ensures c.in-Ok.count c.in-Ok.is).long)

pub put_code-requires : goal.put_code-requires
put_code-requires c =
    let pre = c.requires in
    let args = c.args in
    let encode = c.encode_for in
    let e = encoded args.device args.tree.now (replicate 32768 0) encode.result encode.new.out (zeros_length 32768) encode.ensures c.in-Ok.count c.in-Ok.is in
    omega (arith, e.room, pre)

pub returns : goal.returns
returns c =
    let args = c.args in
    let encode = c.encode_for in
    wrote_as c.put_code.ensures (encoded args.device args.tree.now (replicate 32768 0) encode.result encode.new.out (zeros_length 32768) encode.ensures c.in-Ok.count c.in-Ok.is).text
