-- The list rises strictly in 02's order, and of lists that hold the same there is one only that does.
use mathlib.Core.Path.{◌≡◌, refl, sym, ap₂, subst, ◌∙◌}
use mathlib.Core.Bool.{Bool, true, false, cond, ◌&&◌, ◌||◌, false≢true}
use mathlib.Core.List.{List, [], ◌∷◌, map}
use mathlib.Core.Option.{some}
use Prim.Native.Nat.{ℕ, zero, suc, ◌<◌}
use native.Mathlib.Omega.{arith}
use borrow.Author.Tests.{eq-eqb, le-ltb, lt-ltb, ltb-true, eqb-true}
use lib.Dec.{eqb, ltb}
use lib.ListN.{length, get_elem?}
use Rattle.tree.specs.Parse.{tree_of, is_some}
use Rattle.tree.proofs.TreeLaws.{or_right, or_cases}
use Rattle.questions.specs.Questions.{entries, lists, kept, questions_of, lengths, questions}
use Rattle.questions.specs.Listing.{earlier, precedes}
use Rattle.questions.proofs.ListLaws.{not_some, Among, Every, every_any, every_map, every_implies, every_flat_map, Rising, rising_map, rising_implies, rising_flat_map}

pub and_split : (x y : Bool) → (x && y) ≡ true → (x ≡ true) × (y ≡ true)
and_split true y e = (refl, e)
and_split false y e = absurd (false≢true e)

abbrev Earlier : List ℕ → List ℕ → Type 0
Earlier l m = earlier l m ≡ true

abbrev pub Precedes : List ℕ → List ℕ → Type 0
Precedes l m = precedes l m ≡ true

-- numbers that rise, each by its neighbour
abbrev above : ℕ → List ℕ → Bool
above x [] = true
above x (y ∷ ys) = ltb x y && above y ys

abbrev ascending : List ℕ → Bool
ascending [] = true
ascending (x ∷ xs) = above x xs

ascending_rise : (xs : List ℕ) → ascending xs ≡ true → Rising ◌<◌ xs
unfolding Every Rising
ascending_rise [] h = tt
ascending_rise (x ∷ []) h = (tt, tt)
ascending_rise (x ∷ y ∷ ys) h =
    let p = and_split (ltb x y) (above y ys) h in
    let r = ascending_rise (y ∷ ys) p.1 in
    let l = ltb-true x y p.0 in
    ((l, every_implies (λ z. x < z) (λ z. y < z) (λ z q. omega arith) ys r.0), r)

-- numbers decide which comes first, and what follows them where they are the same
first_decides : (x y : ℕ) (a b : Bool) → (a ≡ true → b ≡ true → ⊥) → (ltb x y || (eqb x y && a)) ≡ true → (ltb y x || (eqb y x && b)) ≡ true → ⊥
first_decides x y a b rest e f =
    or_cases (ltb x y) (eqb x y && a) e
    (λ h. or_cases (ltb y x) (eqb y x && b) f (λ k. omega (arith, ltb-true x y h, ltb-true y x k)) (λ k. omega (arith, ltb-true x y h, eqb-true y x (and_split (eqb y x) b k).0)))
    (λ h. or_cases (ltb y x) (eqb y x && b) f (λ k. omega (arith, ltb-true y x k, eqb-true x y (and_split (eqb x y) a h).0))
    (λ k. rest (and_split (eqb x y) a h).1 (and_split (eqb y x) b k).1))

-- ---- all lists of n entries
pub lists_length : (n : ℕ) → Every (λ l. length l ≡ n) (lists n)
unfolding lists
lists_length zero = unfold Every in (refl, tt)
lists_length (suc n) =
    every_flat_map (λ x. map (λ l. x ∷ l) (lists n)) (λ x. Unit {0}) (λ l. length l ≡ suc n)
    (λ x u. every_map (λ l. x ∷ l) (λ l. length l ≡ suc n) (lists n) (every_implies (λ l. suc (length l) ≡ suc n) (λ l. length l ≡ n) (λ l e. omega arith) (lists n) (lists_length n)))
    entries (every_any (λ x. Unit {0}) (λ x. tt) entries)

lists_rise : (n : ℕ) → Rising Earlier (lists n)
unfolding lists
lists_rise zero = unfold Rising Every in (tt, tt)
lists_rise (suc n) =
    rising_flat_map (λ x. map (λ l. x ∷ l) (lists n)) ◌<◌ Earlier
    (λ x y h. every_map (λ l. x ∷ l) (λ l. Every (Earlier l) (map (λ m. y ∷ m) (lists n))) (lists n)
    (every_any (λ l. Every (Earlier (x ∷ l)) (map (λ m. y ∷ m) (lists n)))
    (λ l. every_map (λ m. y ∷ m) (Earlier (x ∷ l)) (lists n) (every_any (λ m. Earlier (x ∷ l) (y ∷ m)) (λ m. unfold earlier in rw (lt-ltb x y h)) (lists n))) (lists n)))
    (λ x. rising_map (λ l. x ∷ l) Earlier (lists n)
    (rising_implies (λ l m. Earlier (x ∷ l) (x ∷ m)) (λ l. Unit {0}) Earlier
    (λ l m u v e. unfold earlier in rw (eq-eqb x x refl, e) (or_right (ltb x x) true refl)) (lists n) (every_any (λ l. Unit {0}) (λ l. tt) (lists n)) (lists_rise n)))
    entries (ascending_rise entries refl)

-- ---- the trees among them, length by length
same_length : (n : ℕ) → Rising Precedes (lists n)
same_length n =
    rising_implies Precedes (λ l. length l ≡ n) Earlier
    (λ l m p q e. rw (le-ltb (length l) (length m) (omega (arith, p, q)), eq-eqb (length l) (length m) (p ∙ sym q), e)) (lists n) (lists_length n) (lists_rise n)

module _ (passes : List ℕ → Bool) where
  pub every_kept : (P : List ℕ → Type 0) (l : List ℕ) → (passes l ≡ true → P l) → Every P (kept passes l)
  every_kept P l p = go (passes l) p
    where
      go : (b : Bool) → (b ≡ true → P l) → Every P (cond b (l ∷ []) [])
      go true p = unfold Every in (p refl, tt)
      go false p = unfold Every in tt

  kept_rise : (l : List ℕ) → Rising Precedes (kept passes l)
  kept_rise l = go (passes l)
    where
      go : (b : Bool) → Rising Precedes (cond b (l ∷ []) [])
      go true = unfold Rising Every in (tt, tt)
      go false = unfold Rising in tt

pub questions_of_lem : (n : ℕ) → Every (λ l. length l ≡ n) (questions_of n)
unfolding questions_of
questions_of_lem n =
    every_flat_map (kept (λ l. is_some (tree_of l))) (λ l. length l ≡ n) (λ l. length l ≡ n) (λ l e. every_kept (λ l. is_some (tree_of l)) (λ l. length l ≡ n) l (λ t. e))
    (lists n) (lists_length n)

of_length_rise : (n : ℕ) → Rising Precedes (questions_of n)
unfolding questions_of
of_length_rise n =
    rising_flat_map (kept (λ l. is_some (tree_of l))) Precedes Precedes
    (λ l m h. every_kept (λ l. is_some (tree_of l)) (λ k. Every (Precedes k) (kept (λ l. is_some (tree_of l)) m)) l
    (λ t. every_kept (λ l. is_some (tree_of l)) (Precedes l) m (λ u. h)))
    (kept_rise (λ l. is_some (tree_of l))) (lists n) (same_length n)

pub questions_rise : Rising Precedes questions
unfolding questions
questions_rise =
    rising_flat_map questions_of ◌<◌ Precedes
    (λ m n h. every_implies (λ k. Every (Precedes k) (questions_of n)) (λ k. length k ≡ m)
    (λ k e. every_implies (Precedes k) (λ l. length l ≡ n) (λ l f. rw (lt-ltb (length k) (length l) (omega arith))) (questions_of n) (questions_of_lem n)) (questions_of m) (questions_of_lem m))
    of_length_rise lengths (ascending_rise lengths refl)

-- ---- of two lists at most one comes before the other
earlier_asym : (l m : List ℕ) → Earlier l m → Earlier m l → ⊥
unfolding earlier
earlier_asym [] m e f = false≢true e
earlier_asym (x ∷ l) [] e f = false≢true e
earlier_asym (x ∷ l) (y ∷ m) e f = first_decides x y (earlier l m) (earlier m l) (earlier_asym l m) e f

pub precedes_asym : (l m : List ℕ) → Precedes l m → Precedes m l → ⊥
precedes_asym l m e f = first_decides (length l) (length m) (earlier l m) (earlier m l) (earlier_asym l m) e f

-- ---- lists that rise and hold the same are the same
module _ {A : Type 0} (R : A → A → Type 0) (asym : (x y : A) → R x y → R y x → ⊥) where
  abbrev RisingAt : List A → Type 0
  RisingAt a = (i j : ℕ) (x y : A) → i < j → get_elem? a i ≡ some x → get_elem? a j ≡ some y → R x y

  abbrev Within : List A → List A → Type 0
  Within a b = (i : ℕ) (x : A) → get_elem? a i ≡ some x → Among b x

  tail_within : (x y : A) (a b : List A) → x ≡ y → RisingAt (x ∷ a) → Within (x ∷ a) (y ∷ b) → Within a b
  tail_within x y a b e r w i z f = go (w (suc i) z f)
    where
      go : Among (y ∷ b) z → Among b z
      go (zero, g) =
          let q : x ≡ z = cc in
          let h = subst (R x) (sym q) (r 0 (suc i) x z (omega arith) refl f) in
          absurd (asym x x h h)
      go (suc j, g) = (j, g)

  first_same : (x y : A) (a b : List A) → RisingAt (x ∷ a) → RisingAt (y ∷ b) → Within (x ∷ a) (y ∷ b) → Within (y ∷ b) (x ∷ a) → x ≡ y
  first_same x y a b r s v w = go (v 0 x refl) (w 0 y refl)
    where
      go : Among (y ∷ b) x → Among (x ∷ a) y → x ≡ y
      go (zero, e) k = cc
      go (suc j, e) (zero, f) = cc
      go (suc j, e) (suc k, f) = absurd (asym x y (r 0 (suc k) x y (omega arith) refl f) (s 0 (suc j) y x (omega arith) refl e))

  pub rising_unique : (a b : List A) → RisingAt a → RisingAt b → Within a b → Within b a → a ≡ b
  rising_unique [] [] r s v w = refl
  rising_unique [] (y ∷ b) r s v w = not_some (w 0 y refl).1
  rising_unique (x ∷ a) [] r s v w = not_some (v 0 x refl).1
  rising_unique (x ∷ a) (y ∷ b) r s v w =
      let e = first_same x y a b r s v w in
      ap₂ (λ (z : A) (c : List A). z ∷ c) e
      (rising_unique a b (λ i j x y h p q. r (suc i) (suc j) x y (omega arith) p q) (λ i j x y h p q. s (suc i) (suc j) x y (omega arith) p q)
      (tail_within x y a b e r v) (tail_within y x b a (sym e) s w))
