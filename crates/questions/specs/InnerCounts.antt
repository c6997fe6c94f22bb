-- How many lists there are of each kind, and how a list is found by these numbers: what the code counts by.
use Rattle.std.specs.Prelude.{◌≡◌, Bool, true, cond, ◌&&◌, List, [], ◌∷◌, ℕ, zero, suc, ◌+◌, ◌-◌, ◌*◌, ◌<◌, eqb, leb, ltb, length, get_or}
use Rattle.tree.specs.Tree.{union, sign, is_in}
use Rattle.tree.specs.Parse.{tree_of, is_some}
use Rattle.questions.specs.Questions.{entries}
use Rattle.questions.specs.Answer.{most_entries}

-- whether every number of a list is one of the five entries
unfoldable pub are_entries : List ℕ → Bool
are_entries [] = true
are_entries (x ∷ xs) = is_in entries x && are_entries xs

-- whether a list is a question
abbrev pub is_question : List ℕ → Bool
is_question l = leb (length l) most_entries && (are_entries l && is_some (tree_of l))

-- how many lists of n entries make w waiting trees one tree
unfoldable pub count : ℕ → ℕ → ℕ
count zero w = cond (eqb w 1) 1 0
count (suc n) w = 3 * count n (w + 1) + 2 * cond (ltb w 2) 0 (count n (w - 1))

-- how many of them there are behind an operator, before which w trees wait
abbrev pub behind_operator : ℕ → ℕ → ℕ
behind_operator n w = cond (ltb w 2) 0 (count n (w - 1))

-- how many trees wait behind an entry
abbrev pub after : ℕ → ℕ → ℕ
after x w = cond (ltb x (sign union)) (w + 1) (w - 1)

-- a behind each group, b behind each operator
abbrev pub by_kind : ℕ → ℕ → ℕ → ℕ
by_kind a b x = cond (ltb x (sign union)) a b

-- Of lists that stand one part after the other, a part for each of xs and c many in it: how many come before the part of x,
unfoldable pub ahead : List ℕ → (ℕ → ℕ) → ℕ → ℕ
ahead [] c x = 0
ahead (y ∷ ys) c x = cond (eqb x y) 0 (c y + ahead ys c x)

-- in which part the one with index k stands,
unfoldable pub part_at : List ℕ → (ℕ → ℕ) → ℕ → ℕ
part_at [] c k = 0
part_at (x ∷ xs) c k = cond (ltb k (c x)) x (part_at xs c (k - c x))

-- and with which index there
unfoldable pub index_at : List ℕ → (ℕ → ℕ) → ℕ → ℕ
index_at [] c k = k
index_at (x ∷ xs) c k = cond (ltb k (c x)) k (index_at xs c (k - c x))

-- p and i are these two
pub record Located (xs : List ℕ) (c : ℕ → ℕ) (k p i : ℕ) : Type 0 where
  pub part : p ≡ part_at xs c k
  pub index : i ≡ index_at xs c k

-- the parts of all questions: by their length
abbrev pub of_length : ℕ → ℕ
of_length n = count n 0

-- for 0 to 7 waiting trees, how many lists of n entries make them one tree
pub record Row (n : ℕ) (row : List ℕ) : Type 0 where
  pub at : (w : ℕ) → w < 8 → get_or row w 0 ≡ count n w
