-- The loop's invariant: the places hold what the pairs passed give each group, and each of them gave one place at most.
use Prim.Native.Nat.{◌/◌, ◌<◌}
use native.Mathlib.Omega.{arith}
use lib.ListN.{length}
use Rattle.player.proofs.FaultLaws.{right_pairs, right_pair}
use Rattle.player.proofs.ListLaws.{rig_none, rig_more, pair_right}
use Rattle.player.proofs.Groups.load.Goals as goal

pub loop-group-init : goal.loop-group-init
loop-group-init c = let pre = c.requires in rw (pre.3, ← rig_none) (omega arith, pre.2)

pub add-requires : goal.add-requires
add-requires c =
    let p = c.args.patch.now in
    let front = c.as_chunks.ensures.front in
    let h : c.loop-group.group-index < length p / 2 = omega (arith, c.as_chunks.ensures.front_len) in
    let pair = right_pair _ _ (pair_right p c.loop-group.group-index h c.requires.1) in
    rw (c.from.ensures, c.from-in-loop-group.ensures, front) (pair.0, pair.1, pair.2, omega (arith, right_pairs (length p) c.requires.0))

pub loop-group-preserved : goal.loop-group-preserved
loop-group-preserved c =
    let p = c.args.patch.now in
    let v = c.loop-group in
    let h : v.group-index < length p / 2 = omega (arith, c.as_chunks.ensures.front_len) in (
      omega arith,
      rw (← rig_more p v.group-index h) (rw (c.from.ensures, c.from-in-loop-group.ensures, c.as_chunks.ensures.front) at (c.add.ensures.1 _ v.invariant.1)),
    )
