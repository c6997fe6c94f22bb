-- "The meaning of a tree is a table of 256 rows, one for each filling of up to eight groups with in or out."
use Rattle.std.specs.Prelude.{◌≡◌, Bool, false, cond, List, [], ◌∷◌, ℕ, zero, suc, ◌/◌, ◌%◌, ◌^◌, ◌≤◌, ◌<◌, eqb, length, get_or}
use Rattle.tree.specs.Tree.{Tree, postfix, most_nodes, most_groups, selects}

-- "256 rows"
abbrev pub row_count : ℕ
row_count = 256

-- the filling of row i: group k of the list is in where bit k of i is 1
unfoldable pub filling : List ℕ → ℕ → ℕ → Bool
filling [] i g = false
filling (x ∷ gs) i g = cond (eqb g x) (eqb (i % 2) 1) (filling gs (i / 2) g)

-- what the tree selects at row i
abbrev pub value_at : List ℕ → Tree → ℕ → Bool
value_at gs t i = selects (filling gs i) t

-- f i, f (i + 1) .. : n values
unfoldable pub tabulate : {A : Type 0} → (ℕ → A) → ℕ → ℕ → List A
tabulate f zero i = []
tabulate f (suc n) i = f i ∷ tabulate f n (suc i)

-- the tree's table over the groups gs
unfoldable pub table : List ℕ → Tree → List Bool
table gs t = tabulate (value_at gs t) row_count 0

-- an array's values as a table
abbrev pub rows_of : List Bool → ℕ → Bool
rows_of r i = get_or r i false

-- ---- what the functions say of each other
-- the list is a tree's, of 01's size
abbrev pub Listed : List ℕ → Type 0
Listed list = (t : Tree) × (list ≡ postfix t) × (length list ≤ most_nodes)

-- p is the bit of a row that says whether the group g is in
pub record IsPlace (gs : List ℕ) (g p : ℕ) : Type 0 where
  pub small : p ≤ most_groups
  pub says : (row : ℕ) → row < row_count → eqb (row / 2 ^ p % 2) 1 ≡ filling gs row g

-- these are the places of a list's entries
pub record ArePlaces (list groups places : List ℕ) : Type 0 where
  pub each : (i : ℕ) → i < length list → IsPlace groups (get_or list i 0) (get_or places i 0)
