-- What the functions ask and promise. No caller has to believe any of this.
use Rattle.std.specs.Prelude.{Some, None, ◌≡◌, Bool, true, List, [], ◌∷◌, ◌++◌, ℕ, ◌+◌, ◌*◌, ◌^◌, ◌<◌, ◌≤◌, length}
use Rattle.std.proofs.Math.Option.{some}
use Rattle.tree.specs.Tree.{Tree, is_group, is_in, most_groups}
use Rattle.table.specs.InnerTable.{row_count, rows_of}
use Rattle.splits.specs.declared.Holder.TheVariants.{Absent, Held}
use Rattle.builder.specs.InnerBuilding.{postfix_optional, most_built, Ready}
use Rattle.columns.specs.InnerJoining.{first_rows, column_table, held_table, holder_tree, columns_tree, constant_tree}
use Rattle.columns.specs.InnerChoosing.{Allowed, failing}
use Rattle.columns.specs.declared.Scan.{Scan}
use Rattle.columns.specs.declared.Choice.TheVariants.{Constant, Columns}

-- the rows that a scan reads: columns of w rows, `low` and `high` rows of a column, a column at `start`
pub record Scanned (w total low high start : ℕ) : Type 0 where
  pub positive : 0 < w
  pub whole : (n : ℕ) × (total ≡ w * n)
  pub most : total ≤ row_count
  pub low_below : low < w
  pub high_below : high < w
  pub inside : start + w ≤ total

abbrev pub ScannedBy : Scan → Type 0
ScannedBy s = Scanned s.w s.total s.low s.high s.start

-- the first of the rows that does not agree
abbrev pub failing_by : (ℕ → Bool) → Scan → ℕ
failing_by T s = failing T s.w s.total s.low s.high s.start

-- the trees' lists, by the array of a table's rows
abbrev pub constant_list : List Bool → List ℕ → List ℕ → List ℕ
constant_list t ms us = postfix_optional (constant_tree (rows_of t) ms us)

abbrev pub columns_list : List Bool → List ℕ → List ℕ → ℕ → ℕ → List ℕ
columns_list t ms us p start = postfix_optional (columns_tree (rows_of t) ms us p start)

-- as many groups as a table has, and room for the trees
pub record Room (ms us : List ℕ) (room : ℕ) : Type 0 where
  pub few : length ms + length us ≤ most_groups
  pub some_mark : 0 < length ms
  pub space : 2 * most_built (length us) + most_built (length ms) + 5 ≤ room

-- there is a tree for each choice
pub record ColumnsReady (T : ℕ → Bool) (ms us : List ℕ) (p start : ℕ) : Type 0 where
  pub row : p < 2 ^ length ms
  pub inside : start + 2 ^ length ms ≤ 2 ^ length ms * 2 ^ length us
  pub column : Ready Absent (column_table T ms us start) ms
  pub table : Ready Held (held_table T ms us p) (us ++ (0 ∷ []))
  pub holder : (h : Tree) × (holder_tree T ms us start ≡ some h)

pub record ConstantReady (T : ℕ → Bool) (ms us : List ℕ) : Type 0 where
  pub mark_groups : (g : ℕ) → is_in ms g ≡ true → is_group g ≡ true
  pub table : Ready Absent (first_rows T ms us) us

abbrev pub ReadyFor : (ℕ → Bool) → List ℕ → List ℕ → Allowed → Type 0
ReadyFor T ms us None = Unit {0}
ReadyFor T ms us (Some Constant) = ConstantReady T ms us
ReadyFor T ms us (Some (Columns low high start)) = ColumnsReady T ms us (low + high) start
