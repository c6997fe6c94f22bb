-- What the calls find is what they are to answer.
use mathlib.Core.Path.{◌≡◌, sym, ap, ◌∙◌}
use mathlib.Core.Bool.{false, true≢false}
use mathlib.Core.List.{List, [], ◌∷◌}
use mathlib.Core.Option.{Option, some, none, map}
use Prim.Native.Nat.{ℕ, ◌≤◌, ◌<◌}
use native.Mathlib.Omega.{arith}
use lib.ListN.{length, replicate, get_elem?}
use Rattle.common.specs.Answer.{done}
use Rattle.questions.specs.Questions.{questions_of, lengths, questions}
use Rattle.questions.specs.Answer.{tree_at, index_of, most_entries, value_or30, in_array, GivesTree, GivesIndex}
use Rattle.questions.specs.InnerCounts.{is_question, count, Located, of_length}
use Rattle.std.specs.Prelude.{Ok, Err}
use Rattle.questions.specs.declared.Refusal.TheVariants.{NoQuestion}
use Rattle.questions.proofs.ListLaws.{at_past, at_some}
use Rattle.questions.proofs.TreeLaws.{question_test}
use Rattle.questions.proofs.IndexLaws.{index_none}
use Rattle.questions.proofs.WordLaws.{questions_count, questions_part, questions_below}

-- ---- `tree_at`
pub tree_past : (i : ℕ) → 3477 ≤ i → tree_at i ≡ none
tree_past i h = at_past questions i (omega (arith, h, questions_count))

pub tree_some : (i : ℕ) → i < 3477 → (l : List ℕ) × (tree_at i ≡ some l)
tree_some i h = at_some questions i (omega (arith, questions_count))

pub gives_none : (i : ℕ) → 3477 ≤ i → GivesTree i (Err NoQuestion)
gives_none i h = record { says = sym (ap (λ (o : Option (List ℕ)). value_or30 (map length o)) (tree_past i h)); holds = tt }

-- the questions of its length, among which it is
module _ {i n k : ℕ} (L : Located lengths of_length i n k) (h : i < 3477) (few : n ≤ most_entries) where
  found : get_elem? (questions_of n) k ≡ some (tree_some i h).0
  found = rw (L.part, L.index) (questions_part i (tree_some i h).0 (tree_some i h).1)

  pub index_below : k < count n 0
  index_below = (questions_below n k (tree_some i h).0 few found).0

  pub gives_some : (e : List ℕ) → ((l : List ℕ) → get_elem? (questions_of n) k ≡ some l → e ≡ in_array (some l)) → GivesTree i (Ok (record { entries = e; count = n }))
  gives_some e w =
      let l = (tree_some i h).0 in
      let t = (tree_some i h).1 in
      record {
        says = sym (ap (λ (o : Option (List ℕ)). value_or30 (map length o)) t ∙ ap (λ (n : ℕ). done (n ∷ [])) (questions_below n k l few found).1);
        holds = w l found ∙ sym (ap in_array t);
      }

-- ---- `index_of`
pub gives_index : (l : List ℕ) (i : ℕ) → index_of l ≡ some i → GivesIndex l (Ok i)
gives_index l i e = record { says = sym (ap value_or30 e) }

pub gives_no_index : (l : List ℕ) → is_question l ≡ false → GivesIndex l (Err NoQuestion)
gives_no_index l e = record { says = sym (ap value_or30 (index_none l (λ Q. true≢false (sym (question_test l Q) ∙ e)))) }
