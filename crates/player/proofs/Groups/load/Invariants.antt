use Prim.Native.Nat.{◌*◌, ◌≤◌}
use lib.ListN.{take}
use Rattle.player.specs.Patches.{rig}
use Rattle.player.specs.InnerWords.{Placed}
use Rattle.player.proofs.Groups.load.Given as goal

abbrev pub invariant-loop-group : goal.invariant-loop-group
invariant-loop-group l = (l.self.given ≤ l.group-index) × Placed (rig (take (2 * l.group-index) l.patch)) l.self.index l.self.sets l.self.given
