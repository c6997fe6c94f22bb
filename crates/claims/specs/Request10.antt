-- Request 10 of document 02, "All small questions", sentence by sentence.
use Rattle.std.specs.Prelude.{◌≡◌, false, List, [], ◌∷◌, ℕ, ◌≤◌, ◌<◌, length, Result}
use Rattle.std.proofs.Math.Option.{some}
use Rattle.std.proofs.Math.ListN.{get_elem?}
use Rattle.common.specs.Answer.{done, refused_with}
use Rattle.common.specs.Exactly.{Exactly}
use Rattle.tree.specs.Tree.{intersection, sign, Tree, postfix, is_in}
use Rattle.sheet.specs.Reading.{ReadingState, accepted, reading}
use Rattle.sheet.specs.Typed.{typed}
use Rattle.questions.specs.Questions.{questions}
use Rattle.questions.specs.Answer.{reply_says, count_of, GivesTree, GivesIndex}
use Rattle.questions.specs.Listing.{IsQuestion, Holds, HandsOver}
use Rattle.questions.specs.declared.Question.{Question}
use Rattle.questions.specs.declared.Refusal.{Refusal}

pub record Request10 : Type 0 where
  -- "Question setters want a list to draw from.": each of its trees, typed as tree lines closed by `E`, is a sheet that is accepted
  pub to_draw_from : (i : ℕ) (l : List ℕ) → get_elem? questions i ≡ some l → (t : Tree) × (l ≡ postfix t)
      × ((st : ReadingState) × (reading (typed t) ≡ accepted st) × (st.entries ≡ l) × (st.lifts ≡ []) × (st.marks ≡ []))
  -- "It holds every tree with one to four leaves over groups 1, 2 and 3, each just once: shorter lists first, then by entries with 1 before
  -- 2 before 3 before U before D.": no other list does
  pub holds : Holds questions
  pub only_list : (qs : List (List ℕ)) → Holds qs → qs ≡ questions
  pub once : (i j : ℕ) (l : List ℕ) → get_elem? questions i ≡ some l → get_elem? questions j ≡ some l → i ≡ j
  -- "`I` stays out of it."
  pub without_I : (i : ℕ) (l : List ℕ) → get_elem? questions i ≡ some l → is_in l (sign intersection) ≡ false
  -- "There are 3,477."
  pub number : length questions ≡ 3477
  -- "A call gives the tree with a given index from 0": whatever `tree_at` answers
  pub gives_tree : (i : ℕ) (q : Result Question Refusal) → GivesTree i q → i < 3477 → (l : List ℕ) × (get_elem? questions i ≡ some l) × HandsOver q l
  -- "and another gives a tree's index;": whatever `index_of` answers
  pub gives_index : (l : List ℕ) (r : Result ℕ Refusal) → GivesIndex l r → IsQuestion l → (i : ℕ) × (get_elem? questions i ≡ some l) × (reply_says r ≡ done (i ∷ []))
  -- "each undoes the other."
  pub index_of_tree : (i : ℕ) (q : Result Question Refusal) (l : List ℕ) (r : Result ℕ Refusal) → GivesTree i q → HandsOver q l → GivesIndex l r → reply_says r ≡ done (i ∷ [])
  pub tree_of_index : (l : List ℕ) (r : Result ℕ Refusal) (i : ℕ) (q : Result Question Refusal) → GivesIndex l r → reply_says r ≡ done (i ∷ []) → GivesTree i q → HandsOver q l
  -- "An index past the last, or a list of numbers that isn't one of these trees, is refused with 30.": and nothing else is
  pub past_the_last : (i : ℕ) (q : Result Question Refusal) → GivesTree i q → Exactly (reply_says (count_of q) ≡ refused_with 30) (3477 ≤ i)
  pub no_such_tree : (l : List ℕ) (r : Result ℕ Refusal) → GivesIndex l r → Exactly (reply_says r ≡ refused_with 30) (IsQuestion l → ⊥)
