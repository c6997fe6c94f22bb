-- Request 7 of 02: a lift by a school's table that is handed over by value.
use Rattle.std.proofs.Math.Option.{Option, some, none}
use Rattle.std.specs.Prelude.{List, ℕ}
use Rattle.moves.specs.Moves.{MoveTable}
use Rattle.move_table.specs.Packing.{unpacked, table_of}
use Rattle.move_table.specs.declared.LoadedTable.{LoadedTable}
use Rattle.lift.specs.Lift.{Result, refused, lift_of}

-- by the table that it is: one that loading could not have made is refused with 29, before everything else
abbrev pub lift_by : Option MoveTable → ℕ → List ℕ → ℕ → ℕ → Result
lift_by none room list p k = refused 29
lift_by (some m) room list p k = lift_of m room list p k

abbrev pub lift_with : LoadedTable → ℕ → List ℕ → ℕ → ℕ → Result
lift_with t room list p k = lift_by (table_of (unpacked t)) room list p k
