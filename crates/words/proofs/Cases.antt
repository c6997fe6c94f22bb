-- A test over all cases, computed once, and what it says of each case.
use mathlib.Core.Path.{◌≡◌, refl}
use mathlib.Core.Bool.{Bool, true, false, ◌&&◌, beq, false≢true}
use lib.Dec.{T}
use Rattle.tree.specs.Tree.{Basic, plus, minus}
use Rattle.tree.specs.Context.{Side, left, right}
use Rattle.tree.proofs.TreeLaws.{and_left, and_right}
use Rattle.words.specs.Formula.{both_bools, all_fillings}

pub equal_bools : (a b : Bool) → T (beq a b) → a ≡ b
equal_bools true true t = refl
equal_bools true false t = absurd t
equal_bools false true t = absurd t
equal_bools false false t = refl

pub first_true : (x y : Bool) → (x && y) ≡ true → x ≡ true
first_true true y e = refl
first_true false y e = e

pub second_true : (x y : Bool) → (x && y) ≡ true → y ≡ true
second_true true y e = e
second_true false y e = absurd (false≢true e)

-- the sixteen fillings
pub at_bool : (f : Bool → Bool) → T (both_bools f) → (x : Bool) → T (f x)
at_bool f t true = and_left (f true) (f false) t
at_bool f t false = and_right (f true) (f false) t

pub at_filling : (f : Bool → Bool → Bool → Bool → Bool) → T (all_fillings f) → (a b c d : Bool) → T (f a b c d)
at_filling f t a b c d =
    at_bool (λ d. f a b c d)
    (at_bool (λ c. both_bools (λ d. f a b c d))
    (at_bool (λ b. both_bools (λ c. both_bools (λ d. f a b c d)))
    (at_bool (λ a. both_bools (λ b. both_bools (λ c. both_bools (λ d. f a b c d)))) t a) b) c) d

-- the four kinds of a frame
abbrev pub all_kinds : (Side → Basic → Bool) → Bool
all_kinds f = (f left plus && f left minus) && (f right plus && f right minus)

pub at_kind : (f : Side → Basic → Bool) → T (all_kinds f) → (s : Side) (o : Basic) → T (f s o)
at_kind f t left plus = and_left (f left plus) _ (and_left (f left plus && f left minus) _ t)
at_kind f t left minus = and_right (f left plus) _ (and_left (f left plus && f left minus) _ t)
at_kind f t right plus = and_left (f right plus) _ (and_right (f left plus && f left minus) _ t)
at_kind f t right minus = and_right (f right plus) _ (and_right (f left plus && f left minus) _ t)
