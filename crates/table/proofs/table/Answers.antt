use mathlib.Core.Path.{sym, ◌∙◌}
use mathlib.Core.Bool.{false}
use native.Mathlib.Omega.{arith}
use lib.Seq.{ext_get_or}
use Rattle.table.specs.InnerTable.{table}
use Rattle.table.proofs.TableLaws.{length_table, table_at}
use Rattle.table.proofs.table.Goals as goal

pub returns : goal.returns
returns c =
    let rows = c.loop-row.value-items in
    let groups = c.args.groups.now in
    λ t e. ext_get_or false rows (table groups t) (c.loop-row-test.array_long ∙ sym (length_table groups t))
    (λ i h. c.loop-row.invariant t e i (omega arith) ∙ sym (table_at groups t i (omega arith)))
