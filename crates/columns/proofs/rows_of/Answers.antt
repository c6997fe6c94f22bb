use mathlib.Core.Path.{refl}
use native.Mathlib.Omega.{arith}
use Rattle.free_tables.proofs.SplitLaws.{filled_none, filled_more, filled_all}
use Rattle.columns.proofs.ColumnLaws.{steps_most}
use Rattle.columns.proofs.rows_of.Goals as goal

pub loop-i-init : goal.loop-i-init
loop-i-init c = filled_none _ _ refl

pub loop-i-preserved : goal.loop-i-preserved
loop-i-preserved c = filled_more _ c.loop-i.invariant (omega (arith, steps_most _ c.args.count c.requires.0)) c.exact_row.ensures

pub returns : goal.returns
returns c = filled_all _ c.loop-i.invariant c.loop-i-test.false (omega (arith, steps_most _ c.args.count c.requires.0))
