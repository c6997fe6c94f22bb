-- What formulas select under the sixteen fillings, value by value.
use mathlib.Core.Path.{◌≡◌, refl, sym, ◌∙◌}
use mathlib.Core.Bool.{Bool, true, false, beq, and-true, and_assoc}
use mathlib.Core.List.{List, [], ◌∷◌, ◌++◌, zip_with, append-nil, append_assoc}
use Prim.Native.Nat.{ℕ, ◌+◌, ◌≤◌, ◌<◌}
use native.Mathlib.Numerals.{add-one}
use lib.ListN.{length, get_or, set, take, drop, drop_of_length-le}
use lib.Seq.{drop-cons, take-suc-set, take_all}
use Rattle.tree.specs.Tree.{apply}
use Rattle.words.specs.Formula.{Formula, agree}
use lib.Pointwise.{pointwise}
use Rattle.left_sides.specs.InnerKnown.{meaning}

-- by cases on a value
pub either_value : {X : Type 0} (a : Bool) → (a ≡ true → X) → (a ≡ false → X) → X
either_value true f g = f refl
either_value false f g = g refl

-- ---- an array filled value by value: its first k values and what is left make up the whole
pub filled_more : (whole left out rest : List Bool) (k : ℕ) (v : Bool) → k < length out → left ≡ v ∷ rest → take k out ++ left ≡ whole
    → take (k + 1) (set out k v) ++ rest ≡ whole
filled_more whole left out rest k v h e p = rw (add-one k, take-suc-set out k v h, append_assoc) (rw e at p)

pub filled_end : (whole left out : List Bool) (k : ℕ) → length out ≤ k → left ≡ [] → take k out ++ left ≡ whole → out ≡ whole
filled_end whole left out k h e p = sym (append-nil out) ∙ (rw (e, take_all k out h) at p)

-- ---- one value more of two lists
module _ (f : Bool → Bool → Bool) (x y : List Bool) (k : ℕ) where
  pub zip_more : k < length x → k < length y
      → zip_with f (drop k x) (drop k y) ≡ f (get_or x k false) (get_or y k false) ∷ zip_with f (drop (k + 1) x) (drop (k + 1) y)
  unfolding zip_with
  zip_more h g = simp (add-one, drop-cons x k false h, drop-cons y k false g)

  pub zip_end : length x ≤ k → zip_with f (drop k x) (drop k y) ≡ []
  unfolding zip_with
  zip_end h = rw (drop_of_length-le x h)

-- formulas agree where they select the same
pub agree_alike : (p q : Formula) → agree apply p q ≡ pointwise beq (meaning p) (meaning q)
agree_alike p q = simp (and_assoc, and-true)
