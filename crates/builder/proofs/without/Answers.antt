use mathlib.Core.Path.{sym}
use native.Mathlib.Omega.{arith}
use Rattle.builder.proofs.WritingLaws.{before_length, after_length, without_wrote}
use Rattle.builder.proofs.without.Goals as goal

pub slice_bounds-copy-end : goal.slice_bounds-copy-end
slice_bounds-copy-end c = sym (before_length _ _ c.requires.0)

pub copy-next-requires : goal.copy-next-requires
copy-next-requires c = omega (arith, before_length c.args.groups.now c.args.v c.requires.0, c.requires.1)

pub copy-requires : goal.copy-requires
copy-requires c = let gs = c.args.groups.now in let v = c.args.v in let w = c.copy-next.ensures in omega (arith, before_length gs v c.requires.0, after_length gs v c.requires.0, c.requires.1, w.ends, w.same)

pub returns : goal.returns
returns c = without_wrote _ _ c.requires.0 c.requires.1 c.copy-next.ensures c.copy.ensures
