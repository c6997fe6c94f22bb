-- What 02 says of the list, as a property of any list of lists, and of what `tree_at` hands over. The theorems of request 10 speak of it,
-- no contract does.
use Rattle.std.specs.Prelude.{◌≡◌, Bool, true, false, ◌&&◌, ◌||◌, List, [], ◌∷◌, ℕ, ◌<◌, eqb, ltb, length, take, Result, IfOk}
use Rattle.std.proofs.Math.Option.{some}
use Rattle.std.proofs.Math.ListN.{get_elem?}
use Rattle.common.specs.Answer.{done}
use Rattle.tree.specs.Tree.{Tree, postfix, leaves, Over, is_up_to, WithoutIntersection}
use Rattle.questions.specs.Answer.{reply_says, count_of}
use Rattle.questions.specs.declared.Question.{Question}
use Rattle.questions.specs.declared.Refusal.{Refusal}

-- the list of a "tree with one to four leaves over groups 1, 2 and 3"; "`I` stays out of it."
pub record IsQuestion (l : List ℕ) : Type 0 where
  pub tree : Tree
  pub list : l ≡ postfix tree
  pub few : is_up_to 4 (length (leaves tree)) ≡ true
  pub groups : Over (is_up_to 3) tree
  pub plain : WithoutIntersection tree

-- of two lists of the same length, "by entries with 1 before 2 before 3 before U before D": 1, 2, 3, 65001 and 65002 rise so
unfoldable pub earlier : List ℕ → List ℕ → Bool
earlier [] m = false
earlier (x ∷ xs) [] = false
earlier (x ∷ xs) (y ∷ ys) = ltb x y || (eqb x y && earlier xs ys)

-- "shorter lists first, then by entries"
abbrev pub precedes : List ℕ → List ℕ → Bool
precedes l m = ltb (length l) (length m) || (eqb (length l) (length m) && earlier l m)

-- "It holds every tree .., each just once": these and no others, rising strictly
pub record Holds (qs : List (List ℕ)) : Type 0 where
  pub only : (i : ℕ) (l : List ℕ) → get_elem? qs i ≡ some l → IsQuestion l
  pub every : (l : List ℕ) → IsQuestion l → (i : ℕ) × (get_elem? qs i ≡ some l)
  pub rising : (i j : ℕ) (l m : List ℕ) → i < j → get_elem? qs i ≡ some l → get_elem? qs j ≡ some m → precedes l m ≡ true

-- `tree_at` hands over this list: so many entries, the first ones of the array
pub record HandsOver (r : Result Question Refusal) (l : List ℕ) : Type 0 where
  pub count : reply_says (count_of r) ≡ done (length l ∷ [])
  pub list : IfOk r (λ question. take (length l) question.entries ≡ l)
