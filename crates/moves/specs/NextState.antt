-- Request 3 of 02, "Next state by formula": a node's state by the frames above it, the formula, and Table 10. The theorems say that the formula
-- is Table 10 (`table_10`) and A's state in the tree after the step (`next_state_lem`); no contract of one of 01's calls cites this file.
use Rattle.std.proofs.Math.Option.{Option, some, none}
use Rattle.std.specs.Prelude.{List, [], ◌∷◌, ◌++◌, map}
use Rattle.tree.specs.Tree.{Operator, union, difference, operator_of}
use Rattle.tree.specs.Context.{Side, left, right, Frame, frame}
use Rattle.words.specs.Formula.{Formula, above}
use Rattle.moves.specs.Moves.{State, state1, state2, state3, state4, state5, state6, state7, state8, state9, basic, state_with, Input, under, Move, replace_t, replace_t_with_d}

-- a frame's side and operator
pub data Kind : Type 0 where
  kind : Side → Operator → Kind

-- of a frame
abbrev pub kind_of_frame : Frame → Kind
kind_of_frame (frame s o b) = kind s o

-- of an input: "a is T U D, b is T−D, c is D U T, d is D−T"
abbrev pub kind_of_input : Input → Kind
kind_of_input i = under i (kind left union) (kind left difference) (kind right union) (kind right difference)

-- the state of the node below these frames, innermost first; none where it has no grandparent,
-- or where the parent or the grandparent is an `I`
abbrev pub state_below : List Kind → Option State
state_below [] = none
state_below (k ∷ []) = none
state_below (kind s o ∷ (kind t q ∷ r)) = state_with s (basic o) t (basic q)

-- the state of the node with this context
abbrev pub state_in : List Frame → Option State
state_in c = state_below (map kind_of_frame c)

-- "the operators and sides" above A in a formula that names A once
abbrev pub kinds_above : Formula → List Kind
kinds_above p = above (λ s o q. kind s (operator_of o)) p

-- "the operators and sides that the entry, in states 1 to 4 with the input, leaves above A"
abbrev pub left_above : Move → Input → List Kind
left_above (replace_t p) i = kinds_above p ++ (kind_of_input i ∷ [])
left_above (replace_t_with_d f) i = kinds_above (f i)

-- "The new state is worked out from" these; after a step under an `I` there is no input and no next state
abbrev pub state_after : Move → Option Input → Option State
state_after m (some i) = state_below (left_above m i)
state_after m none = none

-- Table 10: "The state after a step, under inputs a b c d"; request 2: "The next state is 9 for a, b and c, and 7 for d"
abbrev pub next_state : State → Input → State
next_state state1 i = under i state1 state5 state1 state2
next_state state2 i = under i state7 state4 state7 state9
next_state state3 i = under i state6 state3 state6 state8
next_state state4 i = under i state7 state4 state7 state9
next_state state5 i = under i state6 state6 state6 state8
next_state state6 i = under i state6 state6 state6 state8
next_state state7 i = under i state7 state7 state7 state9
next_state state8 i = under i state7 state7 state7 state9
next_state state9 i = under i state9 state9 state9 state7
