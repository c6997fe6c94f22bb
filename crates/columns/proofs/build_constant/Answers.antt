use native.Mathlib.Omega.{arith}
use Rattle.columns.proofs.ColumnLaws.{shape, width_positive, first_room, constant_wrote}
use Rattle.columns.proofs.build_constant.Goals as goal

pub rows_of-rows-requires : goal.rows_of-rows-requires
rows_of-rows-requires c =
    let s = shape c.requires.room c.power-w.ensures c.power-columns.ensures in
    (width_positive s, omega (arith, s.most))

pub copy-h-requires : goal.copy-h-requires
copy-h-requires c =
    let p = c.requires in
    let s = shape p.room c.power-w.ensures c.power-columns.ensures in
    omega (arith, first_room _ p.room s p.constant_ready c.rows_of-rows.ensures c.build-a.ensures)

pub operate-requires : goal.operate-requires
operate-requires c =
    let p = c.requires in
    let s = shape p.room c.power-w.ensures c.power-columns.ensures in
    omega (arith, first_room _ p.room s p.constant_ready c.rows_of-rows.ensures c.build-a.ensures, c.copy-h.ensures.ends)

pub returns : goal.returns
returns c =
    let p = c.requires in
    let s = shape p.room c.power-w.ensures c.power-columns.ensures in
    constant_wrote _ p.room s p.constant_ready c.rows_of-rows.ensures c.build-a.ensures c.copy-h.ensures c.operate.ensures
