-- What 02 says of the list and of the two calls.
use mathlib.Core.Path.{◌≡◌, refl, sym, ap, ◌∙◌}
use mathlib.Core.List.{List, [], ◌∷◌}
use mathlib.Core.Option.{Option, some, none, map}
use Prim.Native.Nat.{ℕ, ◌≤◌, ◌<◌}
use native.Mathlib.Decide.{dec_le}
use native.Mathlib.Omega.{arith}
use lib.ListN.{length, take, get_elem?}
use Rattle.common.specs.Answer.{Answer, done, refused_with}
use Rattle.common.specs.Exactly.{Exactly}
use Rattle.tree.proofs.WritingLaws.{take_over}
use Rattle.questions.specs.Questions.{questions}
use Rattle.questions.specs.Answer.{tree_at, index_of, refusal_number, reply_says, count_of, value_or30, in_array, GivesTree, GivesIndex}
use Rattle.questions.specs.Listing.{IsQuestion, Holds, HandsOver}
use Rattle.questions.specs.declared.Question.{Question}
use Rattle.std.specs.Prelude.{Result, Ok, Err}
use Rattle.questions.specs.declared.Refusal.{Refusal}
use Rattle.questions.proofs.ListLaws.{not_some, rising_at}
use Rattle.questions.proofs.OrderLaws.{Precedes, questions_rise, precedes_asym, rising_unique}
use Rattle.questions.proofs.TreeLaws.{only_questions, every_question}
use Rattle.questions.proofs.IndexLaws.{index_found, found_index, index_none}
use Rattle.questions.proofs.AnswerLaws.{tree_past, tree_some}

-- ---- the list
pub the_list : Holds questions
the_list = record { only = only_questions; every = every_question; rising = λ i j l m h e f. rising_at Precedes questions questions_rise i j l m h e f }

-- and no other list is so
pub only_list : (qs : List (List ℕ)) → Holds qs → qs ≡ questions
only_list qs H =
    rising_unique Precedes precedes_asym qs questions H.rising the_list.rising
    (λ i l e. every_question l (H.only i l e)) (λ i l e. H.every l (only_questions i l e))

pub once : (i j : ℕ) (l : List ℕ) → get_elem? questions i ≡ some l → get_elem? questions j ≡ some l → i ≡ j
once i j l e f = let q : some i ≡ some j = sym (index_found i l e) ∙ index_found j l f in cc

-- ---- what an answer says
value_is : (o : Option ℕ) (n : ℕ) → value_or30 o ≡ done (n ∷ []) → o ≡ some n
value_is none n e = absurd (let z : ◌≡◌ {A = ℕ} 0 1 = cc in omega arith)
value_is (some k) n e = let z : k ≡ n = cc in ap some z

refused_exactly : (o : Option ℕ) {a : Answer} → a ≡ value_or30 o → Exactly (a ≡ refused_with 30) (o ≡ none)
refused_exactly o {a} s = record { only = λ e. only o (sym s ∙ e); always = λ e. s ∙ ap value_or30 e }
  where
    only : (o : Option ℕ) → value_or30 o ≡ refused_with 30 → o ≡ none
    only none e = refl
    only (some k) e = absurd (let z : ◌≡◌ {A = ℕ} 0 1 = cc in omega arith)

-- ---- the calls, whatever they answer by their contracts
hands_over : {i : ℕ} (r : Result Question Refusal) {l : List ℕ} → GivesTree i r → tree_at i ≡ some l → HandsOver r l
hands_over (Ok q) {l} G e = record {
  count = G.says ∙ ap (λ (o : Option (List ℕ)). value_or30 (map length o)) e;
  list = ap (take (length l)) (G.holds ∙ ap in_array e) ∙ take_over l _ (length l) refl;
}
hands_over (Err refusal) G e = record { count = G.says ∙ ap (λ (o : Option (List ℕ)). value_or30 (map length o)) e; list = tt }

module _ {i : ℕ} {r : Result Question Refusal} (G : GivesTree i r) where
  pub gives_tree : i < 3477 → (l : List ℕ) × (get_elem? questions i ≡ some l) × HandsOver r l
  gives_tree h = let s = tree_some i h in (s.0, s.1, hands_over r G s.1)

  pub refused_past : Exactly (reply_says (count_of r) ≡ refused_with 30) (3477 ≤ i)
  refused_past = record { only = λ e. only ((refused_exactly (map length (tree_at i)) G.says).only e); always = λ h. G.says ∙ ap (λ (o : Option (List ℕ)). value_or30 (map length o)) (tree_past i h) }
    where
      only : map length (tree_at i) ≡ none → 3477 ≤ i
      only e = elim (dec_le 3477 i) [ yes h ↦ h | no h ↦ (let s = tree_some i (omega arith) in not_some (sym e ∙ ap (map length) s.1)) ]

  -- the list handed over is the tree's
  pub tree_given : {l : List ℕ} → HandsOver r l → tree_at i ≡ some l
  tree_given {l} O = go (tree_at i) refl
    where
      same : (r : Result Question Refusal) {m : List ℕ} → HandsOver r l → HandsOver r m → length m ≡ length l → m ≡ l
      same (Ok q) {m} O P e = sym P.list ∙ ap (λ (n : ℕ). take n q.entries) e ∙ O.list
      same (Err refusal) O P e = absurd (let z : ◌≡◌ {A = ℕ} 0 1 = (let f = O.count in cc) in omega arith)

      go : (o : Option (List ℕ)) → tree_at i ≡ o → tree_at i ≡ some l
      go none t = not_some (sym (ap (map length) t) ∙ value_is (map length (tree_at i)) (length l) (sym G.says ∙ O.count))
      go (some m) t =
          let P = hands_over r G t in
          let e : some (length m) ≡ some (length l) = sym (ap (map length) t) ∙ value_is (map length (tree_at i)) (length l) (sym G.says ∙ O.count) in
          t ∙ ap some (same r O P (let z : length m ≡ length l = cc in z))

  -- the index of the list handed over is the index asked for
  pub index_of_tree : {l : List ℕ} {s : Result ℕ Refusal} → HandsOver r l → GivesIndex l s → reply_says s ≡ done (i ∷ [])
  index_of_tree {l} O I = I.says ∙ ap value_or30 (index_found i l (tree_given O))

-- where it is done
pub tree_done : {i : ℕ} {q : Question} → GivesTree i (Ok q) → (tree_at i ≡ some (take q.count q.entries)) × (length (take q.count q.entries) ≡ q.count)
tree_done {i} {q} G = go (tree_at i) refl (value_is (map length (tree_at i)) q.count (sym G.says))
  where
    go : (o : Option (List ℕ)) → tree_at i ≡ o → map length o ≡ some q.count → (tree_at i ≡ some (take q.count q.entries)) × (length (take q.count q.entries) ≡ q.count)
    go none t e = not_some e
    go (some l) t e =
        let z : length l ≡ q.count = cc in
        let whole : take q.count q.entries ≡ l = ap (λ (n : ℕ). take n q.entries) (sym z) ∙ (hands_over (Ok q) G t).list in
        (t ∙ ap some (sym whole), ap length whole ∙ z)

-- where it is refused
pub tree_refused : {i : ℕ} {refusal : Refusal} → GivesTree i (Err refusal) → tree_at i ≡ none
tree_refused {i} {refusal} G = go (tree_at i) refl G.says
  where
    go : (o : Option (List ℕ)) → tree_at i ≡ o → refused_with (refusal_number refusal) ≡ value_or30 (map length (tree_at i)) → tree_at i ≡ none
    go none t e = t
    go (some l) t e = absurd (let f = e ∙ ap (λ (o : Option (List ℕ)). value_or30 (map length o)) t in let z : ◌≡◌ {A = ℕ} 0 1 = cc in omega arith)

module _ {l : List ℕ} {r : Result ℕ Refusal} (I : GivesIndex l r) where
  pub gives_index : IsQuestion l → (i : ℕ) × (get_elem? questions i ≡ some l) × (reply_says r ≡ done (i ∷ []))
  gives_index Q = let m = every_question l Q in (m.0, m.1, I.says ∙ ap value_or30 (index_found m.0 l m.1))

  pub refused_other : Exactly (reply_says r ≡ refused_with 30) (IsQuestion l → ⊥)
  refused_other = record {
    only = λ e Q. (let m = every_question l Q in not_some (sym ((refused_exactly (index_of l) I.says).only e) ∙ index_found m.0 l m.1));
    always = λ h. (refused_exactly (index_of l) I.says).always (index_none l h);
  }

  -- the tree with the index of a list is that list
  pub tree_of_index : {i : ℕ} {s : Result Question Refusal} → reply_says r ≡ done (i ∷ []) → GivesTree i s → HandsOver s l
  tree_of_index {i} {s} e G = hands_over s G (found_index i l (value_is (index_of l) i (sym I.says ∙ e)))
