use mathlib.Core.Path.{◌≡◌}
use mathlib.Core.List.{◌++◌}
use Prim.Native.Nat.{◌*◌}
use lib.ListN.{drop}
use Rattle.player.specs.Instructions.{Lamps}
use Rattle.player.specs.Bytes.{bytes_from}
use Rattle.player.specs.InnerWords.{HoldsSet}
use Rattle.player.proofs.write_bytes.Given as goal

abbrev pub invariant-loop-i : goal.invariant-loop-i
invariant-loop-i l = (f : Lamps) → HoldsSet l.word-items f → l.lamps ≡ bytes_from f 1 (8 * l.i) ++ drop (8 * l.i) l.initial.lamps
