use mathlib.Core.Path.{refl, ap, ◌∙◌}
use native.Mathlib.Omega.{arith}
use Rattle.table.specs.InnerTable.{rows_of}
use Rattle.free_tables.proofs.SplitLaws.{filled_none, filled_more, filled_all}
use Rattle.columns.specs.InnerJoining.{exact_row}
use Rattle.columns.proofs.held_rows.Goals as goal

pub loop-i-init : goal.loop-i-init
loop-i-init c = filled_none _ _ refl

pub loop-i-preserved : goal.loop-i-preserved
loop-i-preserved c =
    filled_more _ c.loop-i.invariant (omega arith) (c.exact_row.ensures ∙ ap (λ k. exact_row (rows_of c.args.t.now k)) c.held_place.ensures.0)

pub returns : goal.returns
returns c = filled_all _ c.loop-i.invariant c.loop-i-test.false (omega arith)
