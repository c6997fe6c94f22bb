-- A group without a place gets the next one, which is not 0.
use mathlib.Core.Path.{sym, ◌∙◌}
use Prim.Native.Nat.{◌<◌}
use native.Mathlib.Omega.{arith}
use lib.ListN.{length}
use lib.Seq.{get_or-set_same}
use Rattle.player.proofs.PlaceLaws.{place_given}
use Rattle.player.proofs.Groups.place.Goals as goal
use Rattle.player.proofs.Groups.place.Goals.{then-self-group-eq0, else-self-group-eq0}

pub returns : goal.returns
returns c =
    let pre = c.requires in
    elim c.if-self-group-eq0.branch [
      | then-self-group-eq0 w ↦
          let groups = c.args.self.now in
          let within : c.args.group < length groups.index = omega arith in
          let e = rw (w.self-is, get_or-set_same) at c.from.ensures in
          rw w.self-is (rw get_or-set_same e, λ z. omega arith, omega arith, λ G placed. place_given placed c.args.group pre.0 pre.1 w.if-self-group-eq0.true)
      | else-self-group-eq0 w ↦
          let e = rw w.self-is at c.from.ensures in
          rw w.self-is (e, λ z. w.if-self-group-eq0.false (sym e ∙ z), omega arith, λ G placed. placed)
    ]
