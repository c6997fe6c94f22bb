-- Document 02, request 10, "All small questions": the "list to draw from".
use Rattle.std.specs.Prelude.{Bool, cond, ℕ, zero, suc}
use mathlib.Core.List.{List, [], ◌∷◌, map, flat_map}
use Rattle.tree.specs.Tree.{union, difference, sign}
use Rattle.tree.specs.Parse.{tree_of, is_some}

-- "over groups 1, 2 and 3", "1 before 2 before 3 before U before D"; "`I` stays out of it"
abbrev pub entries : List ℕ
entries = 1 ∷ 2 ∷ 3 ∷ sign union ∷ sign difference ∷ []

-- all lists of n entries, "by entries"
unfoldable pub lists : ℕ → List (List ℕ)
lists zero = [] ∷ []
lists (suc n) = flat_map (λ x. map (λ l. x ∷ l) (lists n)) entries

-- a list if it passes a test, and nothing else
abbrev pub kept : (List ℕ → Bool) → List ℕ → List (List ℕ)
kept passes l = cond (passes l) (l ∷ []) []

-- those of them that are a tree
unfoldable pub questions_of : ℕ → List (List ℕ)
questions_of n = flat_map (kept (λ l. is_some (tree_of l))) (lists n)

-- "one to four leaves": a tree of four has three operators, so at most seven entries
abbrev pub lengths : List ℕ
lengths = 0 ∷ 1 ∷ 2 ∷ 3 ∷ 4 ∷ 5 ∷ 6 ∷ 7 ∷ []

-- "It holds every tree with one to four leaves over groups 1, 2 and 3, each just once: shorter lists first"
unfoldable pub questions : List (List ℕ)
questions = flat_map questions_of lengths
