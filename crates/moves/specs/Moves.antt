-- Document 01, "The lift": the states, the inputs and the move entries (Table 9); state 9 by request 2 of 02, schools' tables by request 7.
use Rattle.std.proofs.Math.Option.{Option, some, none}
use Rattle.std.specs.Prelude.{ℕ, ◌+◌, ◌-◌, ◌*◌}
use Rattle.tree.specs.Tree.{Operator, union, difference, intersection, Basic, plus, minus}
use Rattle.tree.specs.Context.{Side, left, right}
use Rattle.words.specs.Formula.{Formula, A, B, C, D, ◌U◌, ◌−◌}

-- "There are nine."
pub data State : Type 0 where
  state1 state2 state3 state4 state5 state6 state7 state8 state9 : State

-- a state's number
abbrev pub state_number : State → ℕ
state_number state1 = 1
state_number state2 = 2
state_number state3 = 3
state_number state4 = 4
state_number state5 = 5
state_number state6 = 6
state_number state7 = 7
state_number state8 = 8
state_number state9 = 9

-- "States (where U stands, either order of its operands): 1 (A U B) U C; 2 C−(A U B); 3 (A−B)−C; 4 (B−A)−C; 5 (A U B)−C;
-- 6 (A−B) U C; 7 (B−A) U C; 8 C−(A−B); 9 C−(B−A)", by A's side and its parent's operator, the parent's side and the grandparent's operator
abbrev pub state_of : Side → Basic → Side → Basic → State
state_of s plus t plus = state1
state_of s plus right minus = state2
state_of left minus left minus = state3
state_of right minus left minus = state4
state_of s plus left minus = state5
state_of left minus t plus = state6
state_of right minus t plus = state7
state_of left minus right minus = state8
state_of right minus right minus = state9

-- the inputs a, b, c and d
pub data Input : Type 0 where
  input_a input_b input_c input_d : Input

-- "Input: a is T U D, b is T−D, c is D U T, d is D−T", by T's side and the operator above it
abbrev pub input_of : Side → Basic → Input
input_of left plus = input_a
input_of left minus = input_b
input_of right plus = input_c
input_of right minus = input_d

-- a tree's operator as one of these two; request 6's `I` is neither
abbrev pub basic : Operator → Option Basic
basic union = some plus
basic difference = some minus
basic intersection = none

-- the state, by the parent's operator and the grandparent's; request 6: none where one of them "is an `I`"
abbrev pub state_with : Side → Option Basic → Side → Option Basic → Option State
state_with s (some o) t (some q) = some (state_of s o t q)
state_with s (some o) t none = none
state_with s none t q = none

-- the input, by the operator of the node above T; request 6: none where that "is an `I`"
abbrev pub input_with : Side → Option Basic → Option Input
input_with u (some w) = some (input_of u w)
input_with u none = none

-- the one of four, under a, b, c, d
abbrev pub under : {X : Type 0} → Input → X → X → X → X → X
under input_a a b c d = a
under input_b a b c d = b
under input_c a b c d = c
under input_d a b c d = d

-- an input's number
abbrev pub input_number : Input → ℕ
input_number i = under i 0 1 2 3

-- what a step does: it replaces T alone by a formula; or T with D, by one for each input
pub data Move : Type 0 where
  replace_t : Formula → Move
  replace_t_with_d : (Input → Formula) → Move

-- a move table: what a step does in each state
abbrev pub MoveTable : Type 0
MoveTable = State → Move

-- ours: "One step replaces, in states 1 to 4, T alone: .. In states 5 to 8 it replaces T with D: .. State 9 with b gives (C−D)−(B−A)" (Table 9);
-- request 2: "With input a or c the step gives (C U D)−((B−D)−A), and with d it gives (D−C) U ((D−(D−B))−A)"
abbrev pub ours : MoveTable
ours state1 = replace_t (A U (B U C))
ours state2 = replace_t ((C − B) − A)
ours state3 = replace_t (A − (B U C))
ours state4 = replace_t ((B − C) − A)
ours state5 = replace_t_with_d (λ i. under i ((D U (B − C)) U (A − C)) ((A − (C U D)) U ((B − C) − D)) ((A − C) U (D U (B − C))) ((D − (B − C)) − (A − C)))
ours state6 = replace_t_with_d (λ i. under i ((D U C) U (A − B)) ((A − (B U D)) U (C − D)) ((A − B) U (D U C)) ((D − C) − (A − B)))
ours state7 = replace_t_with_d (λ i. under i ((D U C) U (B − A)) (((B − D) − A) U (C − D)) ((B − A) U (D U C)) ((D − C) − (B − A)))
ours state8 = replace_t_with_d (λ i. under i ((D U (C − (C − B))) U (C − A)) (((C − D) − A) U ((C − (C − B)) − D)) ((C − A) U (D U (C − (C − B)))) ((D − (C − (C − B))) − (C − A)))
ours state9 = replace_t_with_d (λ i. under i ((C U D) − ((B − D) − A)) ((C − D) − (B − A)) ((C U D) − ((B − D) − A)) ((D − C) U ((D − (D − B)) − A)))

-- request 7: a school's, by the formula of each of its words: "Each word stands for T with D."
abbrev pub school : (State → Input → Formula) → MoveTable
school f x = replace_t_with_d (f x)

-- where the word for a state and an input stands among the 36: "states rising and a to d within each"
abbrev pub place_number : State → Input → ℕ
place_number x i = 4 * (state_number x - 1) + input_number i
