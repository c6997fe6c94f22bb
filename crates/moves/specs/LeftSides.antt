-- Request 7 of 02: what each word of a school's table must be, by the left side of its state and input.
use Rattle.std.specs.Prelude.{Bool, cond, ◌&&◌, List, ℕ, eqb}
use Rattle.std.proofs.Math.Option.{Option, some, none}
use Rattle.tree.specs.Tree.{apply}
use Rattle.words.specs.Formula.{Formula, A, B, C, D, ◌U◌, ◌−◌, once, level_of_a, agree}
use Rattle.words.specs.Word.{formula_of}
use Rattle.moves.specs.Moves.{State, state1, state2, state3, state4, state5, state6, state7, state8, state9, Input, under}

-- T by its state: "1 (A U B) U C; 2 C−(A U B); 3 (A−B)−C; 4 (B−A)−C; 5 (A U B)−C; 6 (A−B) U C; 7 (B−A) U C; 8 C−(A−B); 9 C−(B−A)"
abbrev pub side_t : State → Formula
side_t state1 = (A U B) U C
side_t state2 = C − (A U B)
side_t state3 = (A − B) − C
side_t state4 = (B − A) − C
side_t state5 = (A U B) − C
side_t state6 = (A − B) U C
side_t state7 = (B − A) U C
side_t state8 = C − (A − B)
side_t state9 = C − (B − A)

-- T with D by the input: "a is T U D, b is T−D, c is D U T, d is D−T"
abbrev pub left_side : State → Input → Formula
left_side x i = under i (side_t x U D) (side_t x − D) (D U side_t x) (D − side_t x)

-- "each word holds A once, at level 2 of the word, and selects as the left side does under all sixteen fillings of A, B, C and D"
abbrev pub stands_for : State → Input → Formula → Bool
stands_for x i p = once p && (eqb (level_of_a p) 2 && agree apply p (left_side x i))

-- the formula of a word that may stand there; none for a word "that makes no tree, or fails otherwise"
abbrev pub if_stands : State → Input → Option Formula → Option Formula
if_stands x i none = none
if_stands x i (some p) = cond (stands_for x i p) (some p) none

abbrev pub entry_for : State → Input → List ℕ → Option Formula
entry_for x i w = if_stands x i (formula_of w)
