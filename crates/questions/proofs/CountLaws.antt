-- The code's tables have the definitions' values, which is a computation; and where an index stands.
use mathlib.Core.Path.{◌≡◌, sym}
use mathlib.Core.List.{List, ◌∷◌}
use Prim.Native.Nat.{ℕ, ◌+◌, ◌-◌, ◌<◌, ◌≤◌}
use native.Mathlib.Omega.{arith}
use borrow.Author.Tests.{lt-ltb, le-ltb}
use lib.ListN.{get_or}
use Rattle.questions.specs.Questions.{lengths}
use Rattle.questions.specs.InnerCounts.{count, ahead, part_at, index_at, Located, of_length, Row}
use Rattle.questions.proofs.ListLaws.{values, at_get_d, at_values}

values_at : {A : Type 0} (n : ℕ) (f : ℕ → A) (d : A) (k : ℕ) → k < n → get_or (values n f) k d ≡ f k
values_at n f d k h = at_get_d (values n f) d k (f k) (at_values n f k h)

pub counted_shorter : (n : ℕ) → n < 8 → get_or (values 8 (ahead lengths of_length)) n 0 ≡ ahead lengths of_length n
counted_shorter n h = values_at 8 (ahead lengths of_length) 0 n h

pub counted_row : (m : ℕ) {n : ℕ} {row : List ℕ} → n ≡ m → row ≡ values 8 (count m) → Row n row
counted_row m {n} {row} e f = record { at = λ w h. (rw (e, f) (values_at 8 (count m) 0 w h)) }

-- ---- in which part an index stands: in the first, or in one behind it
module _ {c : ℕ → ℕ} {x : ℕ} {xs : List ℕ} where
  pub first : {k : ℕ} → k < c x → Located (x ∷ xs) c k x k
  unfolding part_at index_at
  first {k} h = record { part = rw (lt-ltb k (c x) h); index = rw (lt-ltb k (c x) h) }

  pub later : {k p i : ℕ} (j : ℕ) → k ≡ c x + j → Located xs c j p i → Located (x ∷ xs) c k p i
  unfolding part_at index_at
  later {k} j e L =
      let z : j ≡ k - c x = omega arith in
      record { part = rw (le-ltb k (c x) (omega arith), ← z) L.part; index = rw (le-ltb k (c x) (omega arith), ← z) L.index }

-- the length of the question with index k, and its index among those: the numbers of questions before each length, added up
located_1 : (k : ℕ) → k < 3 → Located lengths of_length k 1 k
unfolding count
located_1 k h = later k (omega arith) (first (omega arith))

located_3 : (k : ℕ) → 3 ≤ k → k < 21 → Located lengths of_length k 3 (k - 3)
unfolding count
located_3 k g h = later k (omega arith) (later (k - 3) (omega arith) (later (k - 3) (omega arith) (first (omega arith))))

located_5 : (k : ℕ) → 21 ≤ k → k < 237 → Located lengths of_length k 5 (k - 21)
unfolding count
located_5 k g h =
    later k (omega arith) (later (k - 3) (omega arith) (later (k - 3) (omega arith) (later (k - 21) (omega arith) (later (k - 21) (omega arith) (first (omega arith))))))

located_7 : (k : ℕ) → 237 ≤ k → k < 3477 → Located lengths of_length k 7 (k - 237)
unfolding count
located_7 k g h =
    later k (omega arith) (later (k - 3) (omega arith) (later (k - 3) (omega arith) (later (k - 21) (omega arith) (later (k - 21) (omega arith)
    (later (k - 237) (omega arith) (later (k - 237) (omega arith) (first (omega arith))))))))

pub part_1 : (k : ℕ) → k < 3 → part_at lengths of_length k ≡ 1
part_1 k h = sym (located_1 k h).part

pub part_3 : (k : ℕ) → 3 ≤ k → k < 21 → part_at lengths of_length k ≡ 3
part_3 k g h = sym (located_3 k g h).part

pub part_5 : (k : ℕ) → 21 ≤ k → k < 237 → part_at lengths of_length k ≡ 5
part_5 k g h = sym (located_5 k g h).part

pub part_7 : (k : ℕ) → 237 ≤ k → k < 3477 → part_at lengths of_length k ≡ 7
part_7 k g h = sym (located_7 k g h).part

pub index_1 : (k : ℕ) → k < 3 → index_at lengths of_length k ≡ k
index_1 k h = sym (located_1 k h).index

pub index_3 : (k : ℕ) → 3 ≤ k → k < 21 → index_at lengths of_length k ≡ k - 3
index_3 k g h = sym (located_3 k g h).index

pub index_5 : (k : ℕ) → 21 ≤ k → k < 237 → index_at lengths of_length k ≡ k - 21
index_5 k g h = sym (located_5 k g h).index

pub index_7 : (k : ℕ) → 237 ≤ k → k < 3477 → index_at lengths of_length k ≡ k - 237
index_7 k g h = sym (located_7 k g h).index

pub ruleset located = (part_1, part_3, part_5, part_7, index_1, index_3, index_5, index_7)
