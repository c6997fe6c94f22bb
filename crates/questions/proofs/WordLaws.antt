-- The lists of n entries that make w waiting trees one tree: how many they are, and which stands where, by its first entry.
use mathlib.Core.Path.{◌≡◌, refl, sym, ap, ◌∙◌}
use mathlib.Core.Bool.{Bool, true, false, cond, ◌||◌, false≢true}
use mathlib.Core.List.{List, [], ◌∷◌, ◌++◌, map, flat_map}
use mathlib.Core.Option.{some}
use Prim.Native.Nat.{ℕ, zero, suc, ◌+◌, ◌-◌, ◌≤◌, ◌<◌}
use native.Mathlib.Omega.{arith}
use borrow.Author.Tests.{eqb-true, ltb-true, ltb-false, le-ltb}
use lib.Dec.{eqb, ltb}
use lib.ListN.{length, length-append, length-map, get_elem?}
use Rattle.tree.specs.Tree.{union, difference, sign, is_in}
use Rattle.tree.specs.Pass.{entry_of}
use Rattle.tree.specs.Parse.{tree_of, is_some}
use Rattle.tree.proofs.ParseLaws.{formed, formed_tree}
use Rattle.questions.specs.Questions.{entries, lists, kept, questions_of, lengths, questions}
use Rattle.questions.specs.Answer.{most_entries}
use Rattle.questions.specs.InnerCounts.{count, behind_operator, after, by_kind, ahead, part_at, index_at, of_length}
use Rattle.questions.proofs.ListLaws.{not_some, at_left, at_right, at_below, at_map, map_at, Every, every_at, every_implies, flat_map_same, flat_map_flat_map}
use Rattle.questions.proofs.OrderLaws.{lists_length, questions_of_lem}
use Rattle.questions.proofs.TreeLaws.{lengths_most, in_lengths}

-- ---- lists that stand one part after the other
module _ (f : ℕ → List (List ℕ)) (c : ℕ → ℕ) where
  -- by the part and the index in it
  pub at_ahead : (xs : List ℕ) → Every (λ x. length (f x) ≡ c x) xs → (x : ℕ) → is_in xs x ≡ true → (i : ℕ) (l : List ℕ) → get_elem? (f x) i ≡ some l
      → get_elem? (flat_map f xs) (ahead xs c x + i) ≡ some l
  unfolding flat_map is_in ahead Every
  at_ahead [] n x h i l e = absurd (false≢true h)
  at_ahead (y ∷ ys) n x h i l e = go (eqb x y) refl h (λ h. at_ahead ys n.1 x h i l e)
    where
      go : (b : Bool) → eqb x y ≡ b → (b || is_in ys x) ≡ true → (is_in ys x ≡ true → get_elem? (flat_map f ys) (ahead ys c x + i) ≡ some l)
          → get_elem? (f y ++ flat_map f ys) (cond b 0 (c y + ahead ys c x) + i) ≡ some l
      go true q h ih = let z : 0 + i ≡ i = omega arith in rw (z, ← (eqb-true x y q)) (at_left (f x) (flat_map f ys) i (at_below (f x) i l e) ∙ e)
      go false q h ih = let z : c y + ahead ys c x + i ≡ length (f y) + (ahead ys c x + i) = omega (arith, n.0) in rw z (at_right (f y) (flat_map f ys) (ahead ys c x + i) ∙ ih h)

  -- and by the index in the whole
  pub part_at_lem : (xs : List ℕ) → Every (λ x. length (f x) ≡ c x) xs → (k : ℕ) (l : List ℕ) → get_elem? (flat_map f xs) k ≡ some l
      → get_elem? (f (part_at xs c k)) (index_at xs c k) ≡ some l
  unfolding flat_map part_at index_at Every
  part_at_lem [] n k l e = not_some e
  part_at_lem (x ∷ xs) n k l e = go (ltb k (c x)) refl (part_at_lem xs n.1 (k - c x) l)
    where
      go : (b : Bool) → ltb k (c x) ≡ b → (get_elem? (flat_map f xs) (k - c x) ≡ some l → get_elem? (f (part_at xs c (k - c x))) (index_at xs c (k - c x)) ≡ some l)
          → get_elem? (f (cond b x (part_at xs c (k - c x)))) (cond b k (index_at xs c (k - c x))) ≡ some l
      go true q ih = sym (at_left (f x) (flat_map f xs) k (omega (arith, n.0, ltb-true k (c x) q))) ∙ e
      go false q ih =
          let z : k ≡ length (f x) + (k - c x) = omega (arith, n.0, ltb-false k (c x) q) in
          ih (sym (ap (get_elem? (f x ++ flat_map f xs)) z ∙ at_right (f x) (flat_map f xs) (k - c x)) ∙ e)

  -- how many in all
  abbrev total : List ℕ → ℕ
  total [] = 0
  total (x ∷ xs) = c x + total xs

  length_parts : (xs : List ℕ) → Every (λ x. length (f x) ≡ c x) xs → length (flat_map f xs) ≡ total xs
  unfolding flat_map Every
  length_parts [] n = refl
  length_parts (x ∷ xs) n = length-append (f x) (flat_map f xs) ∙ rw (n.0, length_parts xs n.1)

-- ---- the lists
unfoldable pub words : ℕ → ℕ → List (List ℕ)
words n w = flat_map (kept (formed w)) (lists n)

kept_map : (passes : List ℕ → Bool) (x : ℕ) (a : List (List ℕ)) → flat_map (kept passes) (map (λ l. x ∷ l) a) ≡ map (λ l. x ∷ l) (flat_map (kept (λ l. passes (x ∷ l))) a)
unfolding flat_map
kept_map passes x [] = refl
kept_map passes x (l ∷ a) = go (passes (x ∷ l)) (kept_map passes x a)
  where
    go : (b : Bool) → flat_map (kept passes) (map (λ l. x ∷ l) a) ≡ map (λ l. x ∷ l) (flat_map (kept (λ l. passes (x ∷ l))) a)
        → cond b ((x ∷ l) ∷ []) [] ++ flat_map (kept passes) (map (λ l. x ∷ l) a) ≡ map (λ l. x ∷ l) (cond b (l ∷ []) [] ++ flat_map (kept (λ l. passes (x ∷ l))) a)
    go true e = ap (λ (k : List (List ℕ)). (x ∷ l) ∷ k) e
    go false e = e

kept_none : (a : List (List ℕ)) → flat_map (kept (λ l. false)) a ≡ []
unfolding flat_map
kept_none [] = refl
kept_none (l ∷ a) = kept_none a

-- those that follow x
abbrev pub behind : ℕ → ℕ → ℕ → List (List ℕ)
behind n w x = cond (ltb x (sign union)) (words n (w + 1)) (cond (ltb w 2) [] (words n (w - 1)))

words_more : (n w : ℕ) → words (suc n) w ≡ flat_map (λ x. map (λ l. x ∷ l) (behind n w x)) entries
unfolding words lists formed entry_of
words_more n w =
    flat_map_flat_map (λ x. map (λ l. x ∷ l) (lists n)) (kept (formed w)) entries
    ∙ flat_map_same (λ x. flat_map (kept (formed w)) (map (λ l. x ∷ l) (lists n))) (λ x. map (λ l. x ∷ l) (behind n w x)) entries
    (unfold Every in (
      kept_map (formed w) 1 (lists n),
      (
        kept_map (formed w) 2 (lists n),
        (
          kept_map (formed w) 3 (lists n),
          (
            operator (sign union) (kept_map (formed w) (sign union) (lists n)),
            (operator (sign difference) (kept_map (formed w) (sign difference) (lists n)), tt),
          ),
        ),
      ),
    ))
  where
    needed : (b : Bool) → flat_map (kept (λ l. cond b false (formed (w - 1) l))) (lists n) ≡ cond b [] (flat_map (kept (formed (w - 1))) (lists n))
    needed true = kept_none (lists n)
    needed false = refl

    operator : (x : ℕ) {a : List (List ℕ)} → a ≡ map (λ l. x ∷ l) (flat_map (kept (λ l. cond (ltb w 2) false (formed (w - 1) l))) (lists n))
        → a ≡ map (λ l. x ∷ l) (cond (ltb w 2) [] (flat_map (kept (formed (w - 1))) (lists n)))
    operator x e = e ∙ ap (map (λ l. x ∷ l)) (needed (ltb w 2))

-- ---- how many
-- those that follow an operator
length_behind : (n w : ℕ) → length (words n (w - 1)) ≡ count n (w - 1) → length (cond (ltb w 2) [] (words n (w - 1))) ≡ behind_operator n w
length_behind n w e = go (ltb w 2)
  where
    go : (b : Bool) → length (cond b [] (words n (w - 1))) ≡ cond b 0 (count n (w - 1))
    go true = refl
    go false = e

length_more : (n w : ℕ) → length (words n (w + 1)) ≡ count n (w + 1) → length (cond (ltb w 2) [] (words n (w - 1))) ≡ behind_operator n w
    → length (words (suc n) w) ≡ count (suc n) w
unfolding flat_map count
length_more n w g o = ap length (words_more n w) ∙ simp (length-append, length-map) (omega (arith, g, o))

pub words_count : (n w : ℕ) → length (words n w) ≡ count n w
words_count zero w = unfold words lists flat_map formed count in go (eqb w 1)
  where
    go : (b : Bool) → length (cond {A = List (List ℕ)} b ([] ∷ []) [] ++ []) ≡ cond b 1 0
    go true = refl
    go false = refl
words_count (suc n) w = length_more n w (words_count n (w + 1)) (length_behind n w (words_count n (w - 1)))

-- ---- by their first entry
-- an operator finds its two operands
abbrev pub Fits : ℕ → ℕ → Type 0
Fits w x = sign union ≤ x → 2 ≤ w

module _ (n w : ℕ) where
  -- each entry's part
  abbrev part : ℕ → List (List ℕ)
  part x = map (λ l. x ∷ l) (behind n w x)

  -- how many begin with an entry
  abbrev pub counts : ℕ → ℕ
  counts x = by_kind (count n (w + 1)) (behind_operator n w) x

  counted : Every (λ x. length (part x) ≡ counts x) entries
  unfolding Every
  counted = (group 1, (group 2, (group 3, (operator (sign union), (operator (sign difference), tt)))))
    where
      group : (x : ℕ) → length (map (λ l. x ∷ l) (words n (w + 1))) ≡ count n (w + 1)
      group x = length-map (words n (w + 1)) (λ l. x ∷ l) ∙ words_count n (w + 1)

      operator : (x : ℕ) → length (map (λ l. x ∷ l) (cond (ltb w 2) [] (words n (w - 1)))) ≡ behind_operator n w
      operator x = length-map (cond (ltb w 2) [] (words n (w - 1))) (λ l. x ∷ l) ∙ length_behind n w (words_count n (w - 1))

  behind_fits : (x : ℕ) → Fits w x → behind n w x ≡ words n (after x w)
  behind_fits x h = go (ltb x (sign union)) refl
    where
      go : (b : Bool) → ltb x (sign union) ≡ b → cond b (words n (w + 1)) (cond (ltb w 2) [] (words n (w - 1))) ≡ words n (cond b (w + 1) (w - 1))
      go true e = refl
      go false e = rw (le-ltb w 2 (h (ltb-false x (sign union) e)))

  pub words_begin : (x : ℕ) → is_in entries x ≡ true → Fits w x → (k : ℕ) (l : List ℕ) → get_elem? (words n (after x w)) k ≡ some l
      → get_elem? (words (suc n) w) (ahead entries counts x + k) ≡ some (x ∷ l)
  words_begin x e h k l g =
      ap (λ (a : List (List ℕ)). get_elem? a (ahead entries counts x + k)) (words_more n w)
      ∙ at_ahead part counts entries counted x e k (x ∷ l) (at_map (λ l. x ∷ l) (behind n w x) k l (ap (λ (a : List (List ℕ)). get_elem? a k) (behind_fits x h) ∙ g))

  -- what the list with an index begins with, and what follows
  pub record Begun (k : ℕ) (l : List ℕ) : Type 0 where
    pub rest : List ℕ
    pub list : l ≡ part_at entries counts k ∷ rest
    pub at : get_elem? (words n (after (part_at entries counts k) w)) (index_at entries counts k) ≡ some rest
    pub fits : Fits w (part_at entries counts k)

  some_fits : (x k : ℕ) (l : List ℕ) → get_elem? (behind n w x) k ≡ some l → Fits w x
  some_fits x k l e h = go (ltb w 2) refl (ap (λ (b : Bool). get_elem? (cond b (words n (w + 1)) (cond (ltb w 2) [] (words n (w - 1)))) k) (sym (le-ltb x (sign union) h)) ∙ e)
    where
      go : (b : Bool) → ltb w 2 ≡ b → get_elem? (cond b [] (words n (w - 1))) k ≡ some l → 2 ≤ w
      go true q e = not_some e
      go false q e = ltb-false w 2 q

  pub words_at : (k : ℕ) (l : List ℕ) → get_elem? (words (suc n) w) k ≡ some l → Begun k l
  words_at k l e =
      let x = part_at entries counts k in
      let j = index_at entries counts k in
      let m = map_at (λ l. x ∷ l) (behind n w x) j l (part_at_lem part counts entries counted k l (ap (λ (a : List (List ℕ)). get_elem? a k) (sym (words_more n w)) ∙ e)) in
      let h : Fits w x = some_fits x j m.0 m.1 in
      record { rest = m.0; list = m.2; at = ap (λ (a : List (List ℕ)). get_elem? a j) (sym (behind_fits x h)) ∙ m.1; fits = h }

-- ---- the questions of n entries are those that make no waiting tree one
pub of_length_words : (n : ℕ) → n ≤ most_entries → questions_of n ≡ words n 0
unfolding questions_of words
of_length_words n h =
    flat_map_same (kept (λ l. is_some (tree_of l))) (kept (formed 0)) (lists n)
    (every_implies (λ l. kept (λ l. is_some (tree_of l)) l ≡ kept (formed 0) l) (λ l. length l ≡ n)
    (λ l e. ap (λ (b : Bool). cond b (l ∷ []) []) (sym (formed_tree l (omega (arith, e, h))))) (lists n) (lists_length n))

of_length_counted : Every (λ n. length (questions_of n) ≡ of_length n) lengths
of_length_counted = every_implies (λ n. length (questions_of n) ≡ of_length n) (λ n. n ≤ most_entries) (λ n h. ap length (of_length_words n h) ∙ words_count n 0) lengths lengths_most

pub questions_ahead : (n k : ℕ) (l : List ℕ) → n ≤ most_entries → get_elem? (words n 0) k ≡ some l → get_elem? questions (ahead lengths of_length n + k) ≡ some l
unfolding questions
questions_ahead n k l h e =
    at_ahead questions_of of_length lengths of_length_counted n (in_lengths n h) k l (ap (λ (a : List (List ℕ)). get_elem? a k) (of_length_words n h) ∙ e)

pub questions_part : (k : ℕ) (l : List ℕ) → get_elem? questions k ≡ some l → get_elem? (questions_of (part_at lengths of_length k)) (index_at lengths of_length k) ≡ some l
unfolding questions
questions_part k l e = part_at_lem questions_of of_length lengths of_length_counted k l e

pub questions_count : length questions ≡ 3477
unfolding questions count
questions_count = length_parts questions_of of_length lengths of_length_counted

-- the questions of a length have as many entries
pub questions_below : (n k : ℕ) (l : List ℕ) → n ≤ most_entries → get_elem? (questions_of n) k ≡ some l → (k < count n 0) × (length l ≡ n)
questions_below n k l h e = (omega (arith, at_below (questions_of n) k l e, ap length (of_length_words n h), words_count n 0), every_at (λ l. length l ≡ n) (questions_of n) (questions_of_lem n) k l e)
