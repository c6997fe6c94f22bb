-- Splitting and joining undo each other, and the first part ends before the first parting byte.
use mathlib.Core.Path.{◌≡◌, refl, sym, ap, ap₂, ◌∙◌}
use mathlib.Core.Bool.{Bool, true, false, cond, ◌||◌, true≢false}
use mathlib.Core.List.{List, [], ◌∷◌, ◌++◌}
use Prim.Native.Nat.{ℕ, suc, ◌+◌, ◌-◌, ◌≤◌, ◌<◌}
use native.Mathlib.Nat.{not-suc-le-zero, add_comm}
use native.Mathlib.Numerals.{add-one}
use native.Mathlib.Omega.{arith}
use Rattle.std.proofs.lemmas.Bool.Decides.{nat_tests}
use borrow.Author.Tests.{eq-eqb, ne_eqb, eqb-true, ltb-true, ltb-false}
use lib.Dec.{eqb, ltb}
use lib.ListN.{length, get_or, take, drop, drop_of_length-le, length-drop}
use lib.Seq.{drop-cons, take_all}
use Rattle.std.proofs.Common.{Option, Some, None}
use Rattle.std.specs.Option.{MatchOption}
use Rattle.std.specs.List.{position_or_len}
use Rattle.std.proofs.lemmas.List.Recursion.{is_position_or_len}
use Rattle.tree.specs.Tree.{is_in}
use Rattle.text.specs.Parts.{Parts, last, part, onto, split, join}
use Rattle.text.specs.Inner.{ahead}

-- no part has the byte b
unfoldable pub Free : ℕ → Parts → Type 0
Free b (last p) = is_in p b ≡ false
Free b (part p ps) = (is_in p b ≡ false) × Free b ps

-- ---- a part without the parting byte
or_none_lem : (a b : Bool) → (a || b) ≡ false → (a ≡ false) × (b ≡ false)
or_none_lem true b e = absurd (true≢false e)
or_none_lem false b e = (refl, e)

pub split_last : (b : ℕ) (p : List ℕ) → is_in p b ≡ false → split b p ≡ last p
unfolding split is_in
split_last b [] e = refl
split_last b (x ∷ p) e = let z = or_none_lem (eqb b x) (is_in p b) e in rw (z.0, split_last b p z.1)

pub split_part : (b : ℕ) (p r : List ℕ) → is_in p b ≡ false → split b (p ++ (b ∷ r)) ≡ part p (split b r)
unfolding split is_in
split_part b [] r e = rw (eq-eqb b b refl)
split_part b (x ∷ p) r e = let z = or_none_lem (eqb b x) (is_in p b) e in rw (z.0, split_part b p r z.1)

pub split_join : (b : ℕ) (ps : Parts) → Free b ps → split b (join b ps) ≡ ps
unfolding join Free
split_join b (last p) f = split_last b p f
split_join b (part p ps) f = split_part b p (join b ps) f.0 ∙ ap (part p) (split_join b ps f.1)

pub join_split : (b : ℕ) (xs : List ℕ) → join b (split b xs) ≡ xs
unfolding join split
join_split b [] = refl
join_split b (x ∷ xs) = go (eqb b x) refl (join_split b xs)
  where
    more : (ps : Parts) → join b ps ≡ xs → join b (onto x ps) ≡ x ∷ xs
    more (last p) e = ap (λ (l : List ℕ). x ∷ l) e
    more (part p ps) e = ap (λ (l : List ℕ). x ∷ l) e

    go : (t : Bool) → eqb b x ≡ t → join b (split b xs) ≡ xs → join b (cond t (part [] (split b xs)) (onto x (split b xs))) ≡ x ∷ xs
    go true q e = ap₂ (λ (y : ℕ) (l : List ℕ). y ∷ l) (eqb-true b x q) e
    go false q e = more (split b xs) e

-- two lists with the same parts are the same
pub split_injective : (b : ℕ) (xs ys : List ℕ) → split b xs ≡ split b ys → xs ≡ ys
split_injective b xs ys e = sym (join_split b xs) ∙ ap (join b) e ∙ join_split b ys

-- ---- the first part, by the number of bytes ahead of the first parting byte
pub split_all : (b : ℕ) (xs : List ℕ) → ahead b xs ≡ length xs → split b xs ≡ last xs
unfolding split ahead
split_all b [] e = refl
split_all b (x ∷ xs) e = go (eqb b x) e (split_all b xs)
  where
    go : (t : Bool) → cond t 0 (ahead b xs + 1) ≡ suc (length xs) → (ahead b xs ≡ length xs → split b xs ≡ last xs)
        → cond t (part [] (split b xs)) (onto x (split b xs)) ≡ last (x ∷ xs)
    go true e ih = absurd (omega arith)
    go false e ih = rw (ih (omega arith))

pub split_first : (b : ℕ) (xs : List ℕ) → ahead b xs < length xs → split b xs ≡ part (take (ahead b xs) xs) (split b (drop (ahead b xs + 1) xs))
unfolding split ahead
split_first b [] h = absurd (not-suc-le-zero h)
split_first b (x ∷ xs) h = go (eqb b x) h (split_first b xs)
  where
    go : (t : Bool) → cond t 0 (ahead b xs + 1) < suc (length xs) → (ahead b xs < length xs → split b xs ≡ part (take (ahead b xs) xs) (split b (drop (ahead b xs + 1) xs)))
        → cond t (part [] (split b xs)) (onto x (split b xs)) ≡ part (take (cond t 0 (ahead b xs + 1)) (x ∷ xs)) (split b (drop (cond t 0 (ahead b xs + 1) + 1) (x ∷ xs)))
    go true h ih = refl
    go false h ih = rw (add-one (ahead b xs + 1), ih (omega arith)) (rw (add-one (ahead b xs)))

pub ahead_most : (b : ℕ) (xs : List ℕ) → ahead b xs ≤ length xs
unfolding ahead
ahead_most b [] = omega arith
ahead_most b (x ∷ xs) = go (eqb b x) (ahead_most b xs)
  where
    go : (t : Bool) → ahead b xs ≤ length xs → cond t 0 (ahead b xs + 1) ≤ suc (length xs)
    go true h = omega arith
    go false h = omega arith

-- ---- how far it is, byte by byte
module _ (b : ℕ) (s : List ℕ) (i : ℕ) where
  pub ahead_here : i < length s → get_or s i 0 ≡ b → ahead b (drop i s) ≡ 0
  unfolding ahead
  ahead_here h e = rw (drop-cons s i 0 h, eq-eqb b (get_or s i 0) (sym e))

  pub ahead_next : i < length s → (get_or s i 0 ≡ b → ⊥) → ahead b (drop i s) ≡ ahead b (drop (i + 1) s) + 1
  unfolding ahead
  ahead_next h e = rw (drop-cons s i 0 h, ne_eqb b (get_or s i 0) (λ q. e (sym q)), add-one i)

  pub ahead_end : length s ≤ i → ahead b (drop i s) ≡ 0
  unfolding ahead
  ahead_end h = rw (drop_of_length-le s h)

-- ---- how far `position` goes
eqb_turned : (a b : ℕ) → eqb a b ≡ eqb b a
eqb_turned a b = grind (arith, nat_tests)

pub ahead_is : (b : ℕ) (xs : List ℕ) → ahead b xs ≡ position_or_len (λ x. eqb x b) xs
unfolding ahead
ahead_is b = is_position_or_len (ahead b) (λ x. eqb x b) refl (λ x xs. rw (eqb_turned b x, add_comm 1 (ahead b xs)))

-- what `position` answers, by the bytes ahead
pub ahead_by : (b : ℕ) (xs : List ℕ) (r : Option ℕ) → r ≡ cond (ltb (position_or_len (λ x. eqb x b) xs) (length xs)) (Some (position_or_len (λ x. eqb x b) xs)) None
    → MatchOption r (ahead b xs ≡ length xs) (λ k. (k ≡ ahead b xs) × (k < length xs))
ahead_by b xs r e = rw (e, ← ahead_is b xs) (go (ltb (ahead b xs) (length xs)) refl)
  where
    go : (t : Bool) → ltb (ahead b xs) (length xs) ≡ t → MatchOption (cond t (Some (ahead b xs)) None) (ahead b xs ≡ length xs) (λ k. (k ≡ ahead b xs) × (k < length xs))
    go true q = (refl, ltb-true _ _ q)
    go false q = omega (arith, ltb-false _ _ q, ahead_most b xs)

-- the part of a slice from k on
pub rest_all : (k : ℕ) (s : List ℕ) → take (length s - k) (drop k s) ≡ drop k s
rest_all k s = take_all (length s - k) (drop k s) (simp length-drop (omega arith))
