-- The set at the group's place has the lamp too, and no other group has that place.
use mathlib.Core.Path.{◌∙◌}
use Rattle.player.proofs.PlaceLaws.{place_put}
use Rattle.player.proofs.Groups.add.Goals as goal

pub returns : goal.returns
returns c =
    let e = c.place-place.ensures in (
      e.2,
      λ G placed.
          let after = e.3 G placed in
          rw e.0 (place_put after c.args.group c.requires.0 (λ z. e.1 (e.0 ∙ z)) (c.light.ensures (G c.args.group) (rw e.0 (after.holds c.args.group c.requires.0)))),
    )
