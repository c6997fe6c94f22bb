-- Where a list stands first among lists is its one index, in a list that rises; so a question has one index, and what is no question none.
use mathlib.Core.Path.{◌≡◌, refl, sym, ap}
use mathlib.Core.List.{List, [], ◌∷◌, List-discrete}
use mathlib.Core.Option.{Option, some, none, map}
use Prim.Native.Nat.{ℕ, zero, suc}
use native.Mathlib.Decide.{ℕ_discrete}
use lib.ListN.{get_elem?}
use Rattle.questions.specs.Questions.{questions}
use Rattle.questions.specs.Answer.{index_in, index_of}
use Rattle.questions.specs.Listing.{IsQuestion}
use Rattle.questions.proofs.ListLaws.{not_some, every_at, Rising}
use Rattle.questions.proofs.OrderLaws.{Precedes, precedes_asym, questions_rise}
use Rattle.questions.proofs.TreeLaws.{only_questions}

abbrev picked : {A : Type 0} → Dec A → Option ℕ → Option ℕ
picked d o = elim d [ yes s ↦ some 0 | no s ↦ map suc o ]

one_less : (o : Option ℕ) (i : ℕ) → map suc o ≡ some i → (j : ℕ) × (o ≡ some j) × (i ≡ suc j)
one_less none i e = not_some e
one_less (some j) i e = (j, refl, (let q : suc j ≡ i = cc in sym q))

index_at_lem : (ls : List (List ℕ)) (l : List ℕ) (i : ℕ) → index_in ls l ≡ some i → get_elem? ls i ≡ some l
unfolding index_in
index_at_lem [] l i e = not_some e
index_at_lem (q ∷ ls) l i e = go (List-discrete ℕ_discrete q l) e (index_at_lem ls l)
  where
    go : (d : Dec (q ≡ l)) → picked d (index_in ls l) ≡ some i → ((j : ℕ) → index_in ls l ≡ some j → get_elem? ls j ≡ some l) → get_elem? (q ∷ ls) i ≡ some l
    go (yes s) e ih = let z : 0 ≡ i = cc in rw (sym z) (ap some s)
    go (no s) e ih = let h = one_less (index_in ls l) i e in rw h.2 (ih h.0 h.1)

at_index : (ls : List (List ℕ)) → Rising Precedes ls → (i : ℕ) (l : List ℕ) → get_elem? ls i ≡ some l → index_in ls l ≡ some i
unfolding index_in Rising
at_index [] r i l e = not_some e
at_index (q ∷ ls) r zero l e = go (List-discrete ℕ_discrete q l)
  where
    go : (d : Dec (q ≡ l)) → picked d (index_in ls l) ≡ some 0
    go (yes s) = refl
    go (no s) = absurd (s (let z : q ≡ l = cc in z))
at_index (q ∷ ls) r (suc i) l e = go (List-discrete ℕ_discrete q l) (at_index ls r.1 i l e)
  where
    go : (d : Dec (q ≡ l)) → index_in ls l ≡ some i → picked d (index_in ls l) ≡ some (suc i)
    go (yes s) ih = let h = rw s at (every_at (Precedes q) ls r.0 i l e) in absurd (precedes_asym l l h h)
    go (no s) ih = rw ih

pub index_found : (i : ℕ) (l : List ℕ) → get_elem? questions i ≡ some l → index_of l ≡ some i
index_found i l e = at_index questions questions_rise i l e

pub found_index : (i : ℕ) (l : List ℕ) → index_of l ≡ some i → get_elem? questions i ≡ some l
found_index i l e = index_at_lem questions l i e

pub index_none : (l : List ℕ) → (IsQuestion l → ⊥) → index_of l ≡ none
index_none l h = go (index_of l) refl
  where
    go : (o : Option ℕ) → index_of l ≡ o → o ≡ none
    go none e = refl
    go (some i) e = absurd (h (only_questions i l (found_index i l e)))
