use mathlib.Core.Path.{◌≡◌}
use Prim.Native.Nat.{ℕ, ◌+◌, ◌*◌, ◌<◌}
use lib.ListN.{length, get_or}
use Rattle.player.specs.Instructions.{Lamps, combined, operation_with}
use Rattle.player.specs.InnerWords.{word_width, word_count, word, HoldsSet}
use Rattle.player.proofs.combine.Given as goal

abbrev pub invariant-loop-i : goal.invariant-loop-i
invariant-loop-i l =
    (length l.word-items ≡ word_count)
    × ((f g : Lamps) → HoldsSet l.x f → HoldsSet l.y g → (k : ℕ) → k < l.i → get_or l.word-items k 0 ≡ word (combined (operation_with l.kind) f g) (word_width * k + 1))
