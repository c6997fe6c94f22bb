-- What a patch gives each group. 01, "The player".
use Rattle.std.specs.Prelude.{false, ◌&&◌, ◌||◌, List, [], ◌∷◌, ℕ, eqb}
use Rattle.player.specs.Instructions.{Rig}

-- "A patch is pairs of group and lamp": its numbers go two by two. A group holds the lamps that a pair gives it, so that
-- "a group that it doesn't name has no lamps; a pair given twice counts once". Fault 24 leaves no odd number at the end.
unfoldable pub rig : List ℕ → Rig
rig [] group lamp = false
rig (g ∷ []) group lamp = false
rig (g ∷ n ∷ rest) group lamp = (eqb g group && eqb n lamp) || rig rest group lamp
