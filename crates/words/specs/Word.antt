-- Words, and the formulas that they are. Request 7 of 02: "The word is made of A, B, C, D, `+` for union and `-` for difference, operands first,
-- at most 31 signs".
use Rattle.std.specs.Prelude.{Bool, true, false, cond, List, [], ◌∷◌, ◌++◌, ℕ, eqb}
use Rattle.std.proofs.Math.Option.{Option, some, none}
use Rattle.tree.specs.Tree.{Basic, plus, minus}
use Rattle.words.specs.Formula.{Formula, A, B, C, D, join}

-- "at most 31 signs"
abbrev pub most_signs : ℕ
most_signs = 31

-- "`+` for union and `-` for difference"
abbrev pub operator_sign : Basic → ℕ
operator_sign plus = 43
operator_sign minus = 45

-- a formula as a word, "operands first"
abbrev pub word : Formula → List ℕ
word A = 65 ∷ []
word B = 66 ∷ []
word C = 67 ∷ []
word D = 68 ∷ []
word (join o p q) = word p ++ (word q ++ (operator_sign o ∷ []))

-- what a byte of a word is
pub data Sign : Type 0 where
  part : Formula → Sign
  operator : Basic → Sign
  neither : Sign

abbrev pub sign_of : ℕ → Sign
sign_of s =
    cond (eqb s 65) (part A) (cond (eqb s 66) (part B) (cond (eqb s 67) (part C) (cond (eqb s 68) (part D)
    (cond (eqb s (operator_sign plus)) (operator plus) (cond (eqb s (operator_sign minus)) (operator minus) neither)))))

-- a word's allowed signs
abbrev pub allowed : Sign → Bool
allowed (part p) = true
allowed (operator o) = true
allowed neither = false

-- the formulas that wait after a sign, the latest first; none where an operator lacks an operand
abbrev pub pushed : Sign → List Formula → Option (List Formula)
pushed (part p) ps = some (p ∷ ps)
pushed (operator o) [] = none
pushed (operator o) (q ∷ []) = none
pushed (operator o) (q ∷ (p ∷ ps)) = some (join o p q ∷ ps)
pushed neither ps = none

-- those that wait after all signs of a word
abbrev pub and_then : Option (List Formula) → (List Formula → Option (List Formula)) → Option (List Formula)
and_then none f = none
and_then (some ps) f = f ps

unfoldable pub waiting : List ℕ → List Formula → Option (List Formula)
waiting [] ps = some ps
waiting (s ∷ w) ps = and_then (pushed (sign_of s) ps) (λ ps. waiting w ps)

-- the one formula that a word is; none where it "makes no tree"
abbrev pub alone : Option (List Formula) → Option Formula
alone none = none
alone (some []) = none
alone (some (p ∷ [])) = some p
alone (some (p ∷ (q ∷ ps))) = none

unfoldable pub formula_of : List ℕ → Option Formula
formula_of w = alone (waiting w [])
