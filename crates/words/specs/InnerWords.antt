-- What a word of the signs A B C D + - stands for, in a list of which four stretches are the parts. No contract of one of
-- 01's calls cites this file.
use Rattle.std.specs.Prelude.{cond, ◌&&◌, List, [], ◌∷◌, ◌++◌, ℕ, ◌-◌, ◌≤◌, ◌<◌, eqb, leb, length, get_or, take, drop, Option, Some, None}
use Rattle.std.specs.Option.{option_map, option_to_list}
use Rattle.tree.specs.Tree.{Basic, plus, minus, operator_of, sign, most_nodes}
use Rattle.tree.specs.declared.Stretch.{Stretch}
use Rattle.words.specs.Word.{operator_sign}

-- the bytes of the first part and of the last, and of what stands behind a word in a row of a table
abbrev pub first_part : ℕ
first_part = 65

abbrev pub last_part : ℕ
last_part = 68

abbrev pub blank : ℕ
blank = 32

-- the entries of a stretch of the list, and that it is in the list
abbrev pub cut : List ℕ → Stretch → List ℕ
cut list s = take (s.to - s.from) (drop s.from list)

pub record Range (list : List ℕ) (s : Stretch) : Type 0 where
  pub low : s.from ≤ s.to
  pub high : s.to ≤ length list

-- the stretch of the part that has this number
abbrev pub part_at : List Stretch → ℕ → Stretch
part_at parts k = get_or parts k (record { from = 0; to = 0 })

abbrev pub Within : List ℕ → List Stretch → Type 0
Within list parts = (k : ℕ) → k < 4 → Range list (part_at parts k)

-- the parts are those of some list that is no longer than a tree may be
abbrev pub Bounded : List Stretch → Type 0
Bounded parts = (list : List ℕ) × (length list ≤ most_nodes) × Within list parts

-- which of the four parts a sign names
abbrev pub part_of : ℕ → Option ℕ
part_of s = cond (leb first_part s && leb s last_part) (Some (s - first_part)) None

-- which operator a sign is, and its number in lists
abbrev pub basic_of : ℕ → Option Basic
basic_of s = cond (eqb s (operator_sign plus)) (Some plus) (cond (eqb s (operator_sign minus)) (Some minus) None)

abbrev pub operator_number : ℕ → Option ℕ
operator_number s = option_map (λ o. sign (operator_of o)) (basic_of s)

-- the entries of a part; where there is none, others
abbrev pub part_or : List ℕ → List Stretch → Option ℕ → List ℕ → List ℕ
part_or list parts (Some k) others = cut list (part_at parts k)
part_or list parts None others = others

-- what a sign stands for: a part, an operator, or nothing
unfoldable pub sign_for : List ℕ → List Stretch → ℕ → List ℕ
sign_for list parts s = part_or list parts (part_of s) (option_to_list (operator_number s))

-- what a word stands for
unfoldable pub spell : List ℕ → List Stretch → List ℕ → List ℕ
spell list parts [] = []
spell list parts (s ∷ w) = sign_for list parts s ++ spell list parts w

-- the signs before A
unfoldable pub leading : List ℕ → List ℕ
leading [] = []
leading (s ∷ w) = cond (eqb s first_part) [] (s ∷ leading w)

-- the list with a stretch replaced by what a word stands for
unfoldable pub replaced : List ℕ → List Stretch → List ℕ → Stretch → List ℕ
replaced list parts w old = take old.from list ++ (spell list parts w ++ drop old.to list)
