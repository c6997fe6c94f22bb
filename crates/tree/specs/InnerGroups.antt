-- Lists of groups, as contracts of inner functions of this crate and of those above speak of them: each once, those among a tree's
-- entries, and a list that holds up to eight.
use Rattle.std.specs.Prelude.{◌≡◌, false, cond, List, [], ◌∷◌, ℕ, ◌<◌, ltb, length, take, Option, Some, None}
use Rattle.tree.specs.Tree.{union, sign, is_in, most_groups}
use Rattle.tree.specs.declared.group_list.Groups.{Groups}

-- no number stands in a list twice
unfoldable pub Distinct : List ℕ → Type 0
Distinct [] = Unit {0}
Distinct (x ∷ xs) = (is_in xs x ≡ false) × Distinct xs

-- the groups among the entries of a tree's list: the numbers below the operators
unfoldable pub leaves_in : List ℕ → List ℕ
leaves_in [] = []
leaves_in (x ∷ xs) = cond (ltb x (sign union)) (x ∷ leaves_in xs) (leaves_in xs)

-- the groups found are gs; where none are answered, gs are more than eight
abbrev pub Collected : List ℕ → Option Groups → Type 0
Collected gs None = most_groups < length gs
Collected gs (Some found) = take found.count found.list ≡ gs
