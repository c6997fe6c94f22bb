-- The gathered tree, by the columns of a truth table over the marked groups and the others: w = 2 ^ marks rows make a column.
-- No caller has to believe any of this: that it is gathered and what it selects is proved in `gather` proofs/.
use Rattle.std.specs.Prelude.{Some, None, Bool, not, cond, List, [], ◌∷◌, ◌++◌, ℕ, suc, ◌+◌, ◌-◌, ◌*◌, ◌^◌, ltb, length, get_or}
use Rattle.std.specs.Bool.{beq}
use Rattle.std.proofs.Math.Option.{Option, none}
use Rattle.tree.specs.Tree.{plus, minus, Tree}
use Rattle.table.specs.InnerTable.{tabulate}
use Rattle.forms.specs.declared.Row.{Row}
use Rattle.free_tables.specs.InnerTables.{Table}
use Rattle.splits.specs.InnerSplits.{choose}
use Rattle.splits.specs.declared.Holder.TheVariants.{Absent, Held}
use Rattle.builder.specs.InnerBuilding.{join, single, build}
use Rattle.columns.specs.InnerChoosing.{Allowed}
use Rattle.columns.specs.declared.Choice.TheVariants.{Constant, Columns}

-- a row that is not free
abbrev pub exact_row : Bool → Row
exact_row b = record { on = b; off = not b }

-- a table of so many rows, none of them free
abbrev pub exact_table : (ℕ → Bool) → ℕ → Table
exact_table f count = tabulate (λ i. exact_row (f i)) count 0

abbrev pub differs : Bool → Bool → Bool
differs a b = not (beq a b)

module _ (T : ℕ → Bool) (marks others : List ℕ) where
  -- the first row of each column
  abbrev pub first_rows : Table
  first_rows = exact_table (λ r. T (2 ^ length marks * r)) (2 ^ length others)

  -- the column at `start`, where it differs from its first row
  abbrev pub column_table : ℕ → Table
  column_table start = exact_table (λ j. differs (T (start + j)) (T start)) (2 ^ length marks)

  -- over the others and the holder: each column's first row where the holder selects nothing, and its row p where it does
  abbrev pub held_row : ℕ → ℕ → Bool
  held_row p i = T (cond (ltb i (2 ^ length others)) (2 ^ length marks * i) (2 ^ length marks * (i - 2 ^ length others) + p))

  abbrev pub held_table : ℕ → Table
  held_table p = exact_table (held_row p) (2 ^ suc (length others))

  -- the holder: the column's tree
  unfoldable pub holder_tree : ℕ → Option Tree
  holder_tree start = build choose (length marks) Absent (column_table start) marks none

  unfoldable pub columns_tree : ℕ → ℕ → Option Tree
  columns_tree p start = build choose (suc (length others)) Held (held_table p) (others ++ (0 ∷ [])) (holder_tree start)

  -- all columns are constant: A ∪ (m − m) for a mark m
  unfoldable pub constant_tree : Option Tree
  constant_tree = join plus (build choose (length others) Absent first_rows others none) (join minus (single (get_or marks 0 0)) (single (get_or marks 0 0)))

  -- the tree for a choice; of `low` and `high` one is 0, and the other is the row p
  abbrev pub tree_for : Allowed → Option Tree
  tree_for None = none
  tree_for (Some Constant) = constant_tree
  tree_for (Some (Columns low high start)) = columns_tree (low + high) start
