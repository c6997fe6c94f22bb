-- The loop's invariant: the words passed are those of the two sets combined.
use mathlib.Core.Path.{◌≡◌}
use Prim.Native.Nat.{◌+◌, ◌*◌, ◌<◌}
use native.Mathlib.Omega.{arith}
use lib.ListN.{length-set}
use Rattle.player.specs.Instructions.{combined, operation_with}
use Rattle.player.specs.InnerWords.{word_width, word}
use Rattle.player.proofs.HoldingLaws.{written}
use Rattle.player.proofs.combine.Goals as goal

pub loop-i-preserved : goal.loop-i-preserved
loop-i-preserved c =
    let v = c.loop-i in (
      simp length-set v.invariant.0,
      λ f g x y. written (λ k word-k. k < v.i + 1 → word-k ≡ word (combined (operation_with c.args.kind) f g) (word_width * k + 1)) v.word-items v.i _ 0
          (omega arith)
          (λ _. c.combine_words.ensures f g (word_width * v.i + 1) (x.entry v.i (omega arith)) (y.entry v.i (omega arith)))
          (λ k n lt. v.invariant.1 f g x y k (omega arith)),
    )

pub returns : goal.returns
returns c f g x y =
    record { size = c.loop-i.invariant.0; entry = λ k lt. c.loop-i.invariant.1 f g x y k (omega arith) }
