-- A digit cleared.
use Rattle.older_coder.proofs.FlagLaws.{also_flags, one_bit}
use Rattle.player.specs.Limits.{register_count}
use Rattle.older_coder.proofs.also_in.Goals as goal

pub overflow_sub-result : goal.overflow_sub-result
overflow_sub-result c =
    let pre = c.requires in
    rw (one_bit c.args.r pre.0) (also_flags register_count c.args.free c.args.r pre.0 pre.1).0

pub returns : goal.returns
returns c =
    let pre = c.requires in
    rw (one_bit c.args.r pre.0) (also_flags register_count c.args.free c.args.r pre.0 pre.1).1
