-- Tables whose rows are 0, 1 or free, and the tables of a form's parts, which have a variable less. No caller has to believe any of
-- this.
use Rattle.std.specs.Prelude.{◌≡◌, Bool, not, ◌&&◌, List, ℕ, ◌+◌, ◌-◌, ◌*◌, ◌/◌, ◌%◌, ◌<◌, ◌≤◌, length, get_or, take}
use Rattle.std.specs.List.{list_any}
use Rattle.table.specs.InnerTable.{row_count, tabulate}
use Rattle.forms.specs.InnerForms.{free, may_use, first_row, second_row}
use Rattle.forms.specs.declared.Row.{Row}
use Rattle.forms.specs.declared.Form.{Form}
use Rattle.free_tables.specs.InnerSearch.{all_pass}
use Rattle.free_tables.specs.declared.Parts.{Parts}

-- ---- a table is its rows: bit v of a row's number is the variable v's
abbrev pub Table : Type 0
Table = List Row

abbrev pub row_at : Table → ℕ → Row
row_at t i = get_or t i free

-- row r of the tables without the variable of step 2 ^ v: the row of the table where that bit is 0
abbrev pub low_row : ℕ → ℕ → ℕ
low_row step r = r + (r - r % step)

-- half as many rows
abbrev pub half : Table → ℕ
half t = length t / 2

-- a rule for rows without and with the variable, at row r
abbrev pub at_pair : {A : Type 0} → (Row → Row → A) → Table → ℕ → ℕ → A
at_pair f t step r = f (row_at t (low_row step r)) (row_at t (low_row step r + step))

abbrev pub split_by : (Row → Row → Row) → Table → ℕ → Table
split_by f t step = tabulate (at_pair f t step) (half t) 0

-- a's table and b's
unfoldable pub first_part : Form → Table → ℕ → Table
first_part form t step = split_by (first_row form) t step

unfoldable pub second_part : Form → Table → ℕ → Table
second_part form t step = split_by (second_row form) t step

-- whether the form may be used at every row,
abbrev pub may_use_all : Form → Table → ℕ → Bool
may_use_all form t step = all_pass (at_pair (may_use form) t step) (half t)

-- .. and neither part is 1 at its row 0, where no tree selects anything
unfoldable pub usable : Form → Table → ℕ → Bool
usable form t step =
    (may_use_all form t step && not (at_pair (first_row form) t step 0).on) && not (at_pair (second_row form) t step 0).on

-- whether some row is 1
abbrev pub some_on : Table → Bool
some_on t = list_any (λ r. r.on) t

-- ---- what the functions say of each other
-- a table that a variable of this step splits
pub record Splits (t : Table) (step : ℕ) : Type 0 where
  pub positive : 0 < step
  pub blocks : ℕ
  pub some : 0 < blocks
  pub count : length t ≡ 2 * (step * blocks)
  pub most : length t ≤ row_count

-- both parts' tables, at the front of arrays
pub record Parted (r : Parts) (form : Form) (t : Table) (step : ℕ) : Type 0 where
  pub first : take (half t) r.first ≡ first_part form t step
  pub second : take (half t) r.second ≡ second_part form t step
