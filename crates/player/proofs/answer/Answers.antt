-- No place is given in a new index.
use mathlib.Core.Path.{refl}
use Prim.Native.Nat.{◌+◌}
use Rattle.player.specs.Limits.{last_group}
use Rattle.player.specs.InnerWords.{place_count}
use Rattle.player.proofs.HoldingLaws.{new_set, holds_empty}
use Rattle.player.proofs.PlaceLaws.{no_place}
use Rattle.player.proofs.answer.Goals as goal

pub invariant_of-groups : goal.invariant_of-groups
invariant_of-groups c = record { indexed = (no_place (last_group + 1) place_count new_set refl refl holds_empty).indexed }

pub load-requires : goal.load-requires
load-requires c =
    let pre = c.requires in
    (pre.1, pre.2, no_place (last_group + 1) place_count new_set refl refl holds_empty, refl)
