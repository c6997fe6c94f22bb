-- What `lift` answers and what it leaves in the buffer, for each result of the definition.
use Rattle.std.specs.Prelude.{◌≡◌, List, [], ◌∷◌, ℕ, Result as Answered, Ok, Err}
use Rattle.common.specs.Answer.{Answer, done, refused_with}
use Rattle.tree.specs.Tree.{size, postfix}
use Rattle.tree.specs.Writing.{over}
use Rattle.lift.specs.Lift.{Result, refused, lifted}
use Rattle.lift.specs.declared.Lifted.{Lifted}
use Rattle.lift.specs.declared.Refusal.{Refusal}
use Rattle.lift.specs.declared.Refusal.TheVariants.{ShortBuffer, NotATree, NoPosition, BadLevels, NoStep, TooLong, ThroughIntersection, NotATable}

-- 01's numbers: "11 that buffer is under 8,191 numbers; 12 the list isn't a tree; 13 no such position; 14 zero levels, or levels more than A's level
-- less one; 15 .. in states 5 to 9 no D; 16 the result passes 8,191 nodes"; requests 6 and 7: "refused with 27", and 29 for a table
abbrev pub refusal_number : Refusal → ℕ
refusal_number ShortBuffer = 11
refusal_number NotATree = 12
refusal_number NoPosition = 13
refusal_number BadLevels = 14
refusal_number NoStep = 15
refusal_number TooLong = 16
refusal_number ThroughIntersection = 27
refusal_number NotATable = 29

-- a lift that was done, or why it is refused
abbrev pub Reply : Type 0
Reply = Answered Lifted Refusal

-- 01's number and values for each answer: "It answers A's new position and the looks, besides the new tree's length"; refused, the number
abbrev pub lifted_says : Reply → Answer
lifted_says (Ok l) = done (l.nodes ∷ l.position ∷ l.looks ∷ [])
lifted_says (Err refusal) = refused_with (refusal_number refusal)

-- and for each result
abbrev pub result_says : Result → Answer
result_says (refused number) = refused_with number
result_says (lifted u position looks) = done (size u ∷ position ∷ looks ∷ [])

-- "The lift writes the new tree into a second buffer, past its length nothing. It refuses, buffer unchanged"
abbrev pub lift_buffer : Result → List ℕ → List ℕ
lift_buffer (refused number) out = out
lift_buffer (lifted u position looks) out = over (postfix u) out

-- what `lift` promises: it answers r and leaves out' in a buffer that held out
pub record Lifts (x : Result) (out : List ℕ) (r : Reply) (out' : List ℕ) : Type 0 where
  pub says : lifted_says r ≡ result_says x
  pub leaves : out' ≡ lift_buffer x out
