-- The loop's invariant: the bytes of the words passed are written, and the others are as they were.
use mathlib.Core.Path.{◌≡◌, refl, ◌∙◌}
use Prim.Native.Nat.{◌+◌, ◌*◌}
use native.Mathlib.Omega.{arith}
use Rattle.player.specs.Bytes.{bytes_from}
use Rattle.player.proofs.PackingLaws.{word_bytes, word_written}
use Rattle.player.proofs.write_bytes.Goals as goal

pub loop-i-init : goal.loop-i-init
unfolding bytes_from
loop-i-init c f held = refl

pub loop-i-preserved : goal.loop-i-preserved
loop-i-preserved c f held =
    let v = c.loop-i in
    let word : c.copy_from_slice.new.self ≡ bytes_from f (64 * v.i + 1) 8 =
    c.copy_from_slice.ensures.after ∙ c.to_le_bytes.ensures ∙ rw (held.entry v.i (omega arith)) (word_bytes f (64 * v.i + 1)) in
    word_written f c.args.lamps.now v.lamps _ v.i _ (omega arith) (omega arith) (omega arith) (v.invariant f held) word

pub returns : goal.returns
returns c f held =
    let all : c.loop-i.i ≡ 8 = omega arith in
    rw all at (c.loop-i.invariant f held)
