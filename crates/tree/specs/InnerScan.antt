-- What the scans of the code compute on a postfix list, and the kinds that the code gives to entries. The laws in
-- proofs/ScanLaws.antt say what the scans find in a tree.
use Rattle.std.specs.Prelude.{Bool, cond, List, [], ◌∷◌, ℕ, ◌+◌, ◌-◌, leb, length}
use Rattle.tree.specs.Tree.{union, sign}
use Rattle.tree.specs.Pass.{Entry, group, operator, neither}
use Rattle.tree.specs.declared.EntryKind.{EntryKind}
use Rattle.tree.specs.declared.EntryKind.TheVariants.{Group, Operator, Neither}

-- an entry's kind in the code
abbrev pub entry_kind : Entry → EntryKind
entry_kind (group g h) = Group
entry_kind (operator o) = Operator
entry_kind neither = Neither

-- in a tree's list, the operators are the numbers from union's on
abbrev pub is_operator : ℕ → Bool
is_operator x = leb (sign union) x

-- how many entries stand before the operator that takes the operand just passed, where k operands stand after it already;
-- all of them if there is no such operator
unfoldable pub onward : ℕ → List ℕ → ℕ
onward k [] = 0
onward k (x ∷ xs) = cond (is_operator x) (cond (leb k 1) 0 (onward (k - 1) xs + 1)) (onward (k + 1) xs + 1)

-- how many entries are left of a reversed list after n operands, of n at least 1
unfoldable pub backward : ℕ → List ℕ → ℕ
backward n [] = 0
backward n (x ∷ xs) = cond (is_operator x) (backward (n + 1) xs) (cond (leb n 1) (length xs) (backward (n - 1) xs))
