-- One step of a lift, by a move table. It leaves the lifted part A as it is, so it is a function of A's context, of the three innermost frames above A.
use Rattle.std.proofs.Math.Option.{Option, some, none}
use Rattle.std.specs.Prelude.{List, [], ◌∷◌, ◌++◌}
use Rattle.tree.specs.Tree.{Tree}
use Rattle.tree.specs.Context.{Frame, frame}
use Rattle.moves.specs.Moves.{State, Move, replace_t, replace_t_with_d, MoveTable, ours, basic, state_with, input_with}
use Rattle.words.specs.Formula.{frames_of}

-- no step (01's number 15), none because of an `I` (27, of request 6), or the new frames above A
pub data Outcome : Type 0 where
  stuck : Outcome
  blocked : Outcome
  moved : List Frame → Outcome

-- request 6: "A lift in which the parent, the grandparent or the node above T is an `I`, where that node is needed, is refused with 27
-- before 15 is considered for the step": every step needs a state, those in states 5 to 9 an input
abbrev pub needs : {X : Type 0} → Option X → (X → Outcome) → Outcome
needs none f = blocked
needs (some x) f = f x

-- A's step by its move, its sibling b, its uncle c and the frames above T; request 2: "A step is refused with 15 exactly when A is at level 2
-- in states 5 to 9", where there is no D
abbrev pub step_by : Move → Tree → Tree → List Frame → Outcome
step_by (replace_t p) b c r = moved (frames_of b c c p ++ r)
step_by (replace_t_with_d f) b c [] = stuck
step_by (replace_t_with_d f) b c (frame u w d ∷ r) = needs (input_with u (basic w)) (λ i. moved (frames_of b c d (f i) ++ r))

-- a state's move by a table, where these frames are above T; request 7: "At level 2 of the tree, states 1 to 4 still use our own entries"
abbrev pub move_at : MoveTable → List Frame → State → Move
move_at m [] x = ours x
move_at m (f ∷ r) x = m x

-- the step of the part whose context is given, by a table; "15 the step .. has no grandparent": at level 0 or 1, where a lift is refused with 14 before
unfoldable pub step : MoveTable → List Frame → Outcome
step m [] = stuck
step m (f ∷ []) = stuck
step m (frame s o b ∷ (frame t q c ∷ r)) = needs (state_with s (basic o) t (basic q)) (λ x. step_by (move_at m r x) b c r)
