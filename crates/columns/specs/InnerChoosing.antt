-- How the columns are chosen from a table, or refused, by two scans. `gather` proofs/ChoosingLaws.antt says what a choice means.
use Rattle.std.specs.Prelude.{Option, Some, None, Bool, cond, ◌&&◌, ◌||◌, ℕ, ◌+◌, ◌-◌, ◌%◌, ltb}
use Rattle.std.specs.Bool.{beq}
use Rattle.free_tables.specs.InnerSearch.{first_failing}
use Rattle.columns.specs.declared.Choice.{Choice}
use Rattle.columns.specs.declared.Choice.TheVariants.{Constant, Columns}

-- the tree by some columns, or none
abbrev pub Allowed : Type 0
Allowed = Option Choice

-- whether the value at row i of columns of w rows is A ∪ (B ∩ h): by its column's rows `low` and `high`, and by the column at `start`
abbrev pub agrees : (ℕ → Bool) → ℕ → ℕ → ℕ → ℕ → ℕ → Bool
agrees T w low high start i = beq (T i) (T (i - i % w + low) || (T (i - i % w + high) && T (start + i % w)))

-- the first of `total` rows that does not agree; `total` if all do
abbrev pub failing : (ℕ → Bool) → ℕ → ℕ → ℕ → ℕ → ℕ → ℕ
failing T w total low high start = first_failing (agrees T w low high start) total 0

-- with a column that is not constant at `start`, its row `low` false and its row `high` true
abbrev pub settled : (ℕ → Bool) → ℕ → ℕ → ℕ → ℕ → ℕ → Allowed
settled T w total low high start = cond (ltb (failing T w total low high start) total) None (Some (Columns low high start))

-- row i is the first that differs from its column's first row
abbrev pub chosen_at : (ℕ → Bool) → ℕ → ℕ → ℕ → Allowed
chosen_at T w total i = cond (T i) (settled T w total 0 (i % w) (i - i % w)) (settled T w total (i % w) 0 (i - i % w))

-- the first scan compares each row with its column's first row: it finds a column that is not constant, or all are
unfoldable pub choice : (ℕ → Bool) → ℕ → ℕ → Allowed
choice T w total = let i = failing T w total 0 0 0 in cond (ltb i total) (chosen_at T w total i) (Some Constant)
