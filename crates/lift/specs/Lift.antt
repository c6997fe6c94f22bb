-- A lift of several levels by a move table, and the whole call.
use Rattle.std.specs.Prelude.{cond, ◌||◌, List, [], ℕ, zero, suc, ◌+◌, eqb, leb, ltb, length}
use Rattle.std.proofs.Math.Option.{Option, some, none}
use Rattle.tree.specs.Tree.{Tree, size, most_nodes}
use Rattle.tree.specs.Context.{Frame, plug, position, Place}
use Rattle.tree.specs.Parse.{tree_of, locate}
use Rattle.moves.specs.Moves.{MoveTable}
use Rattle.step.specs.Step.{Outcome, stuck, blocked, moved, step}

-- a lift is refused with its number, or gives the new tree, A's new position and the looks
pub data Result : Type 0 where
  refused : ℕ → Result
  lifted : Tree → ℕ → ℕ → Result

-- how a lift of the part a goes on after a step: "15 the step .. has .. in states 5 to 9 no D; 16 the result passes 8,191 nodes"; request
-- 6: "refused with 27"; else the steps that are left
abbrev pub goes_on : Outcome → Tree → (List Frame → Result) → Result
goes_on stuck a rest = refused 15
goes_on blocked a rest = refused 27
goes_on (moved e) a rest = cond (ltb most_nodes (size (plug a e))) (refused 16) (rest e)

-- "A lift of several levels is that many steps, all or none": k steps of the part a in the context c, with the looks so far; "a step .. counts 1"
unfoldable pub steps : MoveTable → ℕ → Tree → List Frame → ℕ → Result
steps m zero a c looks = lifted (plug a c) (position a c) looks
steps m (suc k) a c looks = goes_on (step m c) a (λ e. steps m k a e (looks + 1))

-- a lift by k levels of the node at a place, whose level is the number of frames: "14 zero levels, or levels more than A's level less one (for
-- the root, any)"
abbrev pub lift_at : MoveTable → Place → ℕ → Result
lift_at m s k = cond (eqb k 0 || leb (length s.above) k) (refused 14) (steps m k s.part s.above 0)

-- of the node at position p of a tree: "12 the list isn't a tree; 13 no such position"
abbrev pub lift_in : MoveTable → Option Tree → ℕ → ℕ → Result
lift_in m none p k = refused 12
lift_in m (some t) p k = cond (leb (size t) p) (refused 13) (lift_at m (locate t [] p) k)

-- the whole call, of the table, the buffer's length, the list, the position and the levels: "11 that buffer is under 8,191 numbers"; "here as in every
-- call the first fault listed is the one given"
unfoldable pub lift_of : MoveTable → ℕ → List ℕ → ℕ → ℕ → Result
lift_of m room list p k = cond (ltb room most_nodes) (refused 11) (lift_in m (tree_of list) p k)
