use Rattle.free_tables.proofs.SplitLaws.{usable_first, usable_second, usable_all}
use Rattle.free_tables.proofs.usable.Goals as goal
use Rattle.free_tables.proofs.usable.Goals.{then-first_row-via-then-first_row, then-first_row-via-else-first_row+then-second_row}

pub returns-then-first_row : goal.returns-then-first_row
returns-then-first_row c =
    elim c.then-first_row.branch [
      | then-first_row-via-then-first_row w ↦ usable_first _ _ _ c.first_row.ensures w.if-first_row.true
      | then-first_row-via-else-first_row+then-second_row w ↦ usable_second _ _ _ c.first_row.ensures w.second_row.ensures w.if-second_row.true
    ]

pub returns : goal.returns
returns c = usable_all _ _ _ c.first_row.ensures c.second_row.ensures _ c.may_use_all.ensures c.if-first_row.false c.if-second_row.false
