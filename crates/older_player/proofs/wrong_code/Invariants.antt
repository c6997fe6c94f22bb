use mathlib.Core.Path.{◌≡◌}
use Prim.Native.Nat.{◌*◌}
use lib.ListN.{drop}
use Rattle.older_player.specs.Playing.{wrong_code}
use Rattle.older_player.proofs.wrong_code.Given as goal

abbrev pub invariant-loop-i : goal.invariant-loop-i
invariant-loop-i l = wrong_code l.code ≡ wrong_code (drop (4 * l.i) l.code)
