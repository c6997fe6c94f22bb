-- Formulas over the parts A, B, C and D of a tree: what a move entry is, what it comes to, and A's place in it.
use Rattle.std.specs.Prelude.{Bool, true, false, not, cond, ◌&&◌, ◌||◌, List, [], ◌∷◌, ◌++◌, ℕ, ◌+◌}
use Rattle.std.specs.Bool.{beq}
use Rattle.tree.specs.Tree.{Operator, Basic, plus, minus, operator_of, Tree, node}
use Rattle.tree.specs.Context.{Side, left, right, Frame, frame}

-- "A is the part lifted, B its sibling, C its uncle, D the sibling of the grandparent's part T": formulas over these
pub data Formula : Type 0 where
  A B C D : Formula
  join : Basic → Formula → Formula → Formula

infixl 70 ◌U◌
infixl 70 ◌−◌
-- union, as 01 writes it
abbrev pub ◌U◌ : Formula → Formula → Formula
x U y = join plus x y

-- difference, as 01 writes it
abbrev pub ◌−◌ : Formula → Formula → Formula
x − y = join minus x y

-- a formula's value, of that of an operator and those of the parts
abbrev pub value : {X : Type 0} → (Operator → X → X → X) → X → X → X → X → Formula → X
value f a b c d A = a
value f a b c d B = b
value f a b c d C = c
value f a b c d D = d
value f a b c d (join o p q) = f (operator_of o) (value f a b c d p) (value f a b c d q)

-- whether a formula names A
abbrev pub names_a : Formula → Bool
names_a A = true
names_a B = false
names_a C = false
names_a D = false
names_a (join o p q) = names_a p || names_a q

-- a formula names A exactly once
abbrev pub once : Formula → Bool
once A = true
once B = false
once C = false
once D = false
once (join o p q) = cond (names_a p) (once p && not (names_a q)) (once q)

-- A's level in a formula
abbrev pub level_of_a : Formula → ℕ
level_of_a A = 0
level_of_a B = 0
level_of_a C = 0
level_of_a D = 0
level_of_a (join o p q) = cond (names_a p) (level_of_a p) (level_of_a q) + 1

-- the frames above A in a formula that names A once, innermost first: f makes each of A's side, the operator and the other operand
abbrev pub above : {X : Type 0} → (Side → Basic → Formula → X) → Formula → List X
above f A = []
above f B = []
above f C = []
above f D = []
above f (join o p q) = cond (names_a p) (above f p ++ (f left o q ∷ [])) (above f q ++ (f right o p ∷ []))

-- A's context in such a formula, over the trees b, c and d
abbrev pub frames_of : Tree → Tree → Tree → Formula → List Frame
frames_of b c d p = above (λ s o q. frame s (operator_of o) (value node b b c d q)) p

-- a test for both Booleans
abbrev pub both_bools : (Bool → Bool) → Bool
both_bools f = f true && f false

-- and "under all sixteen fillings of A, B, C and D"
abbrev pub all_fillings : (Bool → Bool → Bool → Bool → Bool) → Bool
all_fillings f = both_bools (λ a. both_bools (λ b. both_bools (λ c. both_bools (λ d. f a b c d))))

-- two formulas agree under all sixteen fillings, for operators that mean f
abbrev pub agree : (Operator → Bool → Bool → Bool) → Formula → Formula → Bool
agree f p q = all_fillings (λ a b c d. beq (value f a b c d p) (value f a b c d q))
