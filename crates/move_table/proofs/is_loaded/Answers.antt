-- `is_loaded`: the rows from a place on are a table's exactly when all are.
use mathlib.Core.Path.{sym, ◌∙◌}
use native.Mathlib.Omega.{arith}
use borrow.Author.Rules.{rules}
use Rattle.move_table.proofs.PackingLaws.{table_from_first, table_row, table_from_last}
use Rattle.move_table.proofs.is_loaded.Goals as goal

pub loop-place-init : goal.loop-place-init
loop-place-init c = (search rules, search rules, table_from_first _ _)

pub returns-then-not-is_row : goal.returns-then-not-is_row
returns-then-not-is_row c =
    let loop = c.loop-place in
    let table = c.args.table in
    sym (loop.invariant.2 ∙ table_row loop.place table.signs table.lengths c.loop-place-test.true loop.invariant.1 _ c.from.ensures _ c.is_row.ensures _ c.if-not-is_row.true)

pub loop-place-preserved : goal.loop-place-preserved
loop-place-preserved c =
    let loop = c.loop-place in
    let table = c.args.table in
    (loop.invariant.0, loop.invariant.1, loop.invariant.2 ∙ table_row loop.place table.signs table.lengths c.loop-place-test.true loop.invariant.1 _ c.from.ensures _ c.is_row.ensures _ c.if-not-is_row.false)

pub returns : goal.returns
returns c =
    let loop = c.loop-place in
    let table = c.args.table in
    sym (loop.invariant.2 ∙ table_from_last loop.place table.signs table.lengths (omega (arith, loop.auto.place-end, c.loop-place-test.false)))
