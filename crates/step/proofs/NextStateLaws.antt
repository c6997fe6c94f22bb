-- Request 3: the state that the formula gives is "A's state in the tree after the step".
use mathlib.Core.Path.{◌≡◌, refl, sym, ap, ◌∙◌}
use mathlib.Core.Option.{Option, some, none}
use mathlib.Core.List.{List, [], ◌∷◌, ◌++◌, map, map-append, append_assoc}
use Prim.Native.Nat.{ℕ, ◌≤◌}
use native.Mathlib.Omega.{arith}
use lib.ListN.{length, length-append}
use Rattle.tree.specs.Tree.{Operator, union, difference, intersection, Basic, plus, minus, operator_of, Tree, node}
use Rattle.tree.specs.Context.{Side, left, right, Frame, frame}
use Rattle.words.specs.Formula.{Formula, value, frames_of}
use Rattle.moves.specs.Moves.{State, basic, state_with, Input, input_a, input_of, input_with, Move, replace_t, replace_t_with_d, MoveTable}
use Rattle.moves.specs.NextState.{Kind, kind, kind_of_frame, kind_of_input, kinds_above, state_below, state_in, left_above, state_after}
use Rattle.moves.proofs.MoveLaws.{two_left}
use Rattle.words.proofs.FormulaLaws.{map_above}
use Rattle.moves.proofs.MoveLaws.{Right, two_left}
use Rattle.step.specs.Step.{blocked, moved, needs, move_at, step, step_by}
use Rattle.step.proofs.StepLaws.{step_level}

-- the frames of an entry, and then others
entry_kinds : (b c d : Tree) (p : Formula) (r : List Frame) → map kind_of_frame (frames_of b c d p ++ r) ≡ kinds_above p ++ map kind_of_frame r
entry_kinds b c d p r =
    map-append kind_of_frame (frames_of b c d p) r
    ∙ ap (λ (ks : List Kind). ks ++ map kind_of_frame r) (map_above kind_of_frame (λ s o q. frame s (operator_of o) (value node b b c d q)) p)

input_frame : (u : Side) (w : Basic) → kind u (operator_of w) ≡ kind_of_input (input_of u w)
input_frame left plus = refl
input_frame left minus = refl
input_frame right plus = refl
input_frame right minus = refl

first_two : (xs ys : List Kind) → length xs ≡ 2 → state_below (xs ++ ys) ≡ state_below xs
first_two [] ys h = absurd (omega arith)
first_two (k ∷ []) ys h = absurd (omega arith)
first_two (kind s o ∷ (kind t q ∷ xs)) ys h = refl

module _ (b c d : Tree) (u : Side) (r e : List Frame) where
  -- after a step there are the frames above A that its move leaves, and then those that were above T with D
  left_frames : (m : Move) (w : Basic) → step_by m b c (frame u (operator_of w) d ∷ r) ≡ moved e → map kind_of_frame e ≡ left_above m (input_of u w) ++ map kind_of_frame r
  left_frames (replace_t p) w h =
      let q : e ≡ frames_of b c c p ++ (frame u (operator_of w) d ∷ r) = cc in
      ap (map kind_of_frame) q ∙ entry_kinds b c c p (frame u (operator_of w) d ∷ r)
      ∙ ap (λ (k : Kind). kinds_above p ++ (k ∷ map kind_of_frame r)) (input_frame u w)
      ∙ sym (append_assoc (kinds_above p) (kind_of_input (input_of u w) ∷ []) (map kind_of_frame r))
  left_frames (replace_t_with_d f) plus h =
      let q : e ≡ frames_of b c d (f (input_of u plus)) ++ r = cc in
      ap (map kind_of_frame) q ∙ entry_kinds b c d (f (input_of u plus)) r
  left_frames (replace_t_with_d f) minus h =
      let q : e ≡ frames_of b c d (f (input_of u minus)) ++ r = cc in
      ap (map kind_of_frame) q ∙ entry_kinds b c d (f (input_of u minus)) r

  with_input : (v : Move) (w : Basic) → length (left_above v (input_of u w)) ≡ 2 → step_by v b c (frame u (operator_of w) d ∷ r) ≡ moved e → state_in e ≡ state_after v (some (input_of u w))
  with_input v w l h = ap state_below (left_frames v w h) ∙ first_two (left_above v (input_of u w)) (map kind_of_frame r) l

  -- an `I` is then A's grandparent
  under_intersection : (m : Move) → length (left_above m input_a) ≡ 2 → step_by m b c (frame u intersection d ∷ r) ≡ moved e → state_in e ≡ none
  under_intersection (replace_t p) l h =
      let q : e ≡ frames_of b c c p ++ (frame u intersection d ∷ r) = cc in
      ap state_in q ∙ ap state_below (entry_kinds b c c p (frame u intersection d ∷ r)) ∙ go (kinds_above p) l
    where
      none_second : (s : Side) (x : Option Basic) → state_with s x u none ≡ none
      none_second s (some o) = refl
      none_second s none = refl

      go : (ks : List Kind) → length (ks ++ (kind_of_input input_a ∷ [])) ≡ 2 → state_below (ks ++ (kind u intersection ∷ map kind_of_frame r)) ≡ none
      go [] l = absurd (omega arith)
      go (kind s o ∷ []) l = none_second s (basic o)
      go (j ∷ (k ∷ ks)) l = absurd (let z = length-append ks (kind_of_input input_a ∷ []) in omega arith)
  under_intersection (replace_t_with_d f) l h = absurd (let z : ◌≡◌ {A = ℕ} 0 1 = cc in omega arith)

  pub by_operator : (v : Move) (w : Operator) → ((i : Input) → length (left_above v i) ≡ 2) → step_by v b c (frame u w d ∷ r) ≡ moved e → state_in e ≡ state_after v (input_with u (basic w))
  by_operator v union l h = with_input v plus (l (input_of u plus)) h
  by_operator v difference l h = with_input v minus (l (input_of u minus)) h
  by_operator v intersection l h = under_intersection v (l input_a) h

-- "A's state in the tree after the step", of a node with the state x; without a D it has none then, nor under an `I`
module _ {m : MoveTable} (R : Right m) (s : Side) (o : Operator) (t : Side) (q : Operator) (u : Side) (b c d : Tree) (r e : List Frame) (x : State)
    (i : state_with s (basic o) t (basic q) ≡ some x) where
  pub next_state_lem : (w : Operator) → step m (frame s o b ∷ (frame t q c ∷ (frame u w d ∷ r))) ≡ moved e → state_in e ≡ state_after (m x) (input_with u (basic w))
  unfolding step
  next_state_lem w h = by_operator b c d u r e (m x) w (two_left m R x) (sym (ap (λ (y : Option State). needs y (λ x. step_by (m x) b c (frame u w d ∷ r))) i) ∙ h)

  -- request 6: the step after one under an `I` is refused with 27
  no_state_blocked : (e : List Frame) → 2 ≤ length e → state_in e ≡ none → step m e ≡ blocked
  unfolding step
  no_state_blocked [] h n = absurd (omega arith)
  no_state_blocked (f ∷ []) h n = absurd (omega arith)
  no_state_blocked (frame s o b ∷ (frame t q c ∷ r)) h n = ap (λ (y : Option State). needs y (λ x. step_by (move_at m r x) b c r)) n

  pub next_blocked : step m (frame s o b ∷ (frame t q c ∷ (frame u intersection d ∷ r))) ≡ moved e → step m e ≡ blocked
  next_blocked h =
      no_state_blocked e (omega (arith, step_level R (frame s o b ∷ (frame t q c ∷ (frame u intersection d ∷ r))) e h)) (next_state_lem intersection h)
