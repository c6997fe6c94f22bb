-- What the two calls answer, for any index and any list.
use Rattle.std.specs.Prelude.{◌≡◌, ℕ, suc, length, replicate, Result, Ok, Err, IfOk}
use mathlib.Core.List.{List, [], ◌∷◌, List-discrete}
use Rattle.std.proofs.Math.Option.{Option, some, none, map}
use Rattle.std.proofs.Math.Decide.{ℕ_discrete}
use Rattle.std.proofs.Math.ListN.{get_elem?}
use Rattle.common.specs.Answer.{Answer, done, refused_with}
use Rattle.tree.specs.Writing.{over}
use Rattle.questions.specs.Questions.{questions}
use Rattle.questions.specs.declared.Question.{Question}
use Rattle.questions.specs.declared.Refusal.{Refusal}
use Rattle.questions.specs.declared.Refusal.TheVariants.{NoQuestion}

-- "the tree with a given index from 0"
abbrev pub tree_at : ℕ → Option (List ℕ)
tree_at index = get_elem? questions index

-- where a list stands first among lists
unfoldable pub index_in : List (List ℕ) → List ℕ → Option ℕ
index_in [] l = none
index_in (q ∷ qs) l = elim (List-discrete ℕ_discrete q l) [ yes e ↦ some 0 | no e ↦ map suc (index_in qs l) ]

-- "a tree's index"
abbrev pub index_of : List ℕ → Option ℕ
index_of l = index_in questions l

-- 02's number for each refusal
abbrev pub refusal_number : Refusal → ℕ
refusal_number NoQuestion = 30

-- 02's number and value for each answer: how many entries the tree has, or the tree's index; refused, the number
abbrev pub reply_says : Result ℕ Refusal → Answer
reply_says (Ok value) = done (value ∷ [])
reply_says (Err refusal) = refused_with (refusal_number refusal)

-- what an answer with a tree says of its entries: how many there are
abbrev pub count_of : Result Question Refusal → Result ℕ Refusal
count_of (Ok question) = Ok question.count
count_of (Err refusal) = Err refusal

-- "An index past the last, or a list of numbers that isn't one of these trees, is refused with 30."
abbrev pub value_or30 : Option ℕ → Answer
value_or30 none = refused_with 30
value_or30 (some value) = done (value ∷ [])

-- as many numbers as the longest tree has entries
abbrev pub most_entries : ℕ
most_entries = 7

-- a tree's entries in an array of so many, 0 behind them; refused, 0 throughout
abbrev pub in_array : Option (List ℕ) → List ℕ
in_array none = replicate most_entries 0
in_array (some l) = over l (replicate most_entries 0)

-- "A call gives the tree with a given index from 0": what `tree_at` promises
pub record GivesTree (index : ℕ) (r : Result Question Refusal) : Type 0 where
  pub says : reply_says (count_of r) ≡ value_or30 (map length (tree_at index))
  pub holds : IfOk r (λ question. question.entries ≡ in_array (tree_at index))

-- "and another gives a tree's index": what `index_of` promises
pub record GivesIndex (list : List ℕ) (r : Result ℕ Refusal) : Type 0 where
  pub says : reply_says r ≡ value_or30 (index_of list)
