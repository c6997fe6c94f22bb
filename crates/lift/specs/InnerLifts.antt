-- What the functions answer that make several steps. No contract of one of 01's calls cites this file.
use Rattle.std.specs.Prelude.{List, ℕ}
use Rattle.tree.specs.Tree.{Tree}
use Rattle.tree.specs.Context.{Frame}
use Rattle.tree.specs.InnerPart.{Part}
use Rattle.lift.specs.Lift.{steps}
use Rattle.lift.specs.Answer.{Reply, Lifts}
use Rattle.moves.specs.Moves.{MoveTable}
use Rattle.step.specs.InnerStanding.{Standing}
use Rattle.step.specs.declared.Node.{Node}
use Rattle.step.specs.declared.Refusal.{Refusal as StepRefusal}
use Rattle.step.specs.declared.Refusal.TheVariants as step
use Rattle.lift.specs.declared.Refusal.{Refusal}
use Rattle.lift.specs.declared.Refusal.TheVariants.{NoStep, ThroughIntersection, TooLong}

-- why a lift is refused, by its step's refusal
abbrev pub by_step : StepRefusal → Refusal
by_step step.NoStep = NoStep
by_step step.ThroughIntersection = ThroughIntersection
by_step step.TooLong = TooLong

-- a part of the list of a tree ends before `to`
abbrev pub Ends : List ℕ → ℕ → Type 0
Ends list to = (from : ℕ) × (a : Tree) × (c : List Frame) × Part list from to a c

-- that many steps of the node, with the looks so far, whichever part it is in the list of a tree
pub record LiftsNode (m : MoveTable) (list : List ℕ) (n : Node) (levels looks : ℕ) (out : List ℕ) (r : Reply) (out' : List ℕ) : Type 0 where
  pub lifts : (a : Tree) (c : List Frame) → Standing list n a c → Lifts (steps m levels a c looks) out r out'

-- that many steps of the part that ends before `to`
pub record LiftsPart (m : MoveTable) (list : List ℕ) (to levels : ℕ) (out : List ℕ) (r : Reply) (out' : List ℕ) : Type 0 where
  pub lifts : (from : ℕ) (a : Tree) (c : List Frame) → Part list from to a c → Lifts (steps m levels a c 0) out r out'
