use mathlib.Core.Path.{refl}
use native.Mathlib.Omega.{arith}
use Rattle.columns.proofs.ColumnLaws.{shape, width_positive, row_below, column_inside, marks_small, columns_few, holder_inside, holder_length, holding, held_ready, held_room, columns_wrote}
use Rattle.columns.proofs.build_columns.Goals as goal

pub bounds-t-start : goal.bounds-t-start
bounds-t-start c =
    let p = c.requires in
    let s = shape p.room c.power-w.ensures c.power-columns.ensures in
    omega (arith, column_inside _ p.room s p.columns_ready, width_positive s)

pub rows_of-column-requires : goal.rows_of-column-requires
rows_of-column-requires c =
    let p = c.requires in
    let s = shape p.room c.power-w.ensures c.power-columns.ensures in
    (omega arith, omega (arith, column_inside _ p.room s p.columns_ready))

pub build-nodes-requires-clause-holder_in_bounds : goal.build-nodes-requires-clause-holder_in_bounds
build-nodes-requires-clause-holder_in_bounds c =
    let p = c.requires in
    let s = shape p.room c.power-w.ensures c.power-columns.ensures in
    omega (arith, marks_small _ p.room s p.columns_ready)

pub held_rows-rows-requires : goal.held_rows-rows-requires
held_rows-rows-requires c =
    let p = c.requires in
    let s = shape p.room c.power-w.ensures c.power-columns.ensures in
    (row_below _ p.room s p.columns_ready, s.most, columns_few _ p.room s p.columns_ready)

pub slice_bounds-holder-end : goal.slice_bounds-holder-end
slice_bounds-holder-end c =
    let p = c.requires in
    let s = shape p.room c.power-w.ensures c.power-columns.ensures in
    holder_inside _ p.room s p.columns_ready c.rows_of-column.ensures c.build-nodes.ensures refl

pub slice_bounds-build-end-6 : goal.slice_bounds-build-end-6
slice_bounds-build-end-6 c =
    let p = c.requires in
    let s = shape p.room c.power-w.ensures c.power-columns.ensures in
    holder_length _ p.room s p.columns_ready c.rows_of-column.ensures c.build-nodes.ensures refl

pub build-requires-clause-ready : goal.build-requires-clause-ready
build-requires-clause-ready c =
    let p = c.requires in
    let s = shape p.room c.power-w.ensures c.power-columns.ensures in
    held_ready _ p.room s p.columns_ready c.rows_of-column.ensures c.build-nodes.ensures refl c.held_rows-rows.ensures c.with_holder-variables.ensures

pub build-requires-clause-holding : goal.build-requires-clause-holding
build-requires-clause-holding c =
    let p = c.requires in
    let s = shape p.room c.power-w.ensures c.power-columns.ensures in
    holding _ p.room s p.columns_ready c.rows_of-column.ensures c.build-nodes.ensures refl

pub build-requires-clause-holder_in_bounds : goal.build-requires-clause-holder_in_bounds
build-requires-clause-holder_in_bounds c =
    let p = c.requires in
    let s = shape p.room c.power-w.ensures c.power-columns.ensures in
    omega (arith, held_room _ p.room s p.columns_ready c.rows_of-column.ensures c.build-nodes.ensures refl c.held_rows-rows.ensures c.with_holder-variables.ensures)

pub returns : goal.returns
returns c =
    let p = c.requires in
    let s = shape p.room c.power-w.ensures c.power-columns.ensures in
    columns_wrote _ p.room s p.columns_ready c.rows_of-column.ensures c.build-nodes.ensures refl c.held_rows-rows.ensures c.with_holder-variables.ensures c.build.ensures
