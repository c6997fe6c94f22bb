-- What the functions for one step answer: a part's frame, the plan of a step, and the step itself. No contract of one of 01's calls cites this file.
use Rattle.std.specs.Prelude.{◌≡◌, true, false, List, ◌∷◌, ◌++◌, ℕ, ◌≤◌, ◌<◌, T, length, take, Result, Ok, Err, Some}
use Rattle.std.proofs.Math.Option.{Option, some}
use Rattle.tree.specs.Tree.{Operator, Tree, node, size, postfix, most_nodes}
use Rattle.tree.specs.Context.{Side, Frame, frame, sided, plug}
use Rattle.tree.specs.InnerPart.{Part, kind_of}
use Rattle.tree.specs.declared.Above.{Above}
use Rattle.moves.specs.Moves.{State, state_number, Input, input_number, Move, MoveTable, ours}
use Rattle.words.specs.Formula.{frames_of, once}
use Rattle.moves.specs.NextState.{state_in, left_above, state_after}
use Rattle.words.specs.InnerWords.{cut, Range}
use Rattle.moves.specs.InnerEntries.{input_operand, InputIs, column, entry_of, only_t, WordIs, TableIs}
use Rattle.step.specs.Step.{stuck, blocked, moved, step}
use Rattle.step.specs.InnerStanding.{Standing}
use Rattle.step.specs.declared.Node.{Node}
use Rattle.step.specs.declared.Plan.{Plan}
use Rattle.step.specs.declared.Stepped.{Stepped}
use Rattle.step.specs.declared.Refusal.{Refusal}
use Rattle.step.specs.declared.Refusal.TheVariants.{NoStep, ThroughIntersection, TooLong}

-- the part a with the context c is not the root: its innermost frame, of this kind, its sibling's stretch and its parent's
pub record UnderIs (list : List ℕ) (a : Tree) (c : List Frame) (r : Above) : Type 0 where
  pub side : Side
  pub operator : Operator
  pub sibling : Tree
  pub rest : List Frame
  pub is : c ≡ frame side operator sibling ∷ rest
  pub kind : r.operand ≡ kind_of side operator
  pub parent : Part list r.parent.from r.parent.to (sided side (node operator) a sibling) rest
  pub range : Range list r.sibling
  pub entries : cut list r.sibling ≡ postfix sibling

-- the step replaces the part x, whose context is r, by a move's entry over B, C and D, whose stretches the plan has, and A's state is then the formula's; the
-- entry is that of `at_input`, which is the input's letter where there is one. A move of T alone is ours, one of T with D the table's.
pub record ReplaceIs (m : MoveTable) (list : List ℕ) (n : Node) (c : List Frame) (p : Plan) : Type 0 where
  pub at_state : State
  pub move : Move
  pub at_input : Input
  pub letter : Option Input
  pub b : Tree
  pub c' : Tree
  pub d : Tree
  pub x : Tree
  pub r : List Frame
  pub state_is : p.state ≡ state_number at_state
  pub alone_is : only_t move ≡ p.alone
  pub own : p.alone ≡ true → move ≡ ours at_state
  pub table : p.alone ≡ false → move ≡ m at_state
  pub input_is : column p.input ≡ input_number at_input
  pub small : p.alone ≡ false → p.input ≡ Some (input_operand at_input)
  pub letter_is : InputIs p.input letter
  pub same_entry : (i : Input) → letter ≡ some i → entry_of move i ≡ entry_of move at_input
  pub names_once : T (once (entry_of move at_input))
  pub two : (i : Input) → length (left_above move i) ≡ 2
  pub range_b : Range list p.b
  pub range_c : Range list p.c
  pub range_d : Range list p.d
  pub cut_b : cut list p.b ≡ postfix b
  pub cut_c : cut list p.c ≡ postfix c'
  pub cut_d : cut list p.d ≡ postfix d
  pub stretch : Part list p.old.from p.old.to x r
  pub moves : step m c ≡ moved (frames_of b c' d (entry_of move at_input) ++ r)
  pub next : state_in (frames_of b c' d (entry_of move at_input) ++ r) ≡ state_after move letter

-- what a refusal says of the step of a node with the context c: that there is none, or that it is too long
abbrev pub Planned : MoveTable → List ℕ → Node → List Frame → Result Plan Refusal → Type 0
Planned m list n c (Ok p) = ReplaceIs m list n c p
Planned m list n c (Err NoStep) = step m c ≡ stuck
Planned m list n c (Err ThroughIntersection) = step m c ≡ blocked
Planned m list n c (Err TooLong) = ⊥

-- such a plan, of the node n, by whichever table it is whose words these are
abbrev pub PlannedSome : List ℕ → Node → Plan → List ℕ → List ℕ → Type 0
PlannedSome list n p signs lengths =
    (m : MoveTable) × TableIs m signs lengths × ((a : Tree) × (c : List Frame) × Standing list n a c × ReplaceIs m list n c p)

-- the same with the word of its entry
pub record Carries (m : MoveTable) (list : List ℕ) (n : Node) (a : Tree) (c : List Frame) (p : Plan) (w : List ℕ) : Type 0 where
  pub stands : Standing list n a c
  pub plan : ReplaceIs m list n c p
  pub its_word : WordIs w (entry_of (plan).move (plan).at_input)

abbrev pub CarriesSome : List ℕ → Node → Plan → List ℕ → Type 0
CarriesSome list n p w = (m : MoveTable) × (a : Tree) × (c : List Frame) × Carries m list n a c p w

-- the step of the part a with the context c gives too long a tree
pub record StepTooLong (m : MoveTable) (a : Tree) (c : List Frame) : Type 0 where
  pub e : List Frame
  pub moves : step m c ≡ moved e
  pub long : most_nodes < size (plug a e)

-- it gives a tree of so many nodes, with which the buffer begins, and A is the node n in it
pub record StepDone (m : MoveTable) (a : Tree) (c : List Frame) (nodes : ℕ) (n : Node) (out : List ℕ) : Type 0 where
  pub e : List Frame
  pub moves : step m c ≡ moved e
  pub length_is : nodes ≡ size (plug a e)
  pub short : nodes ≤ most_nodes
  pub stands : Standing (take nodes out) n a e

-- what the step answers, and what the buffer then holds
abbrev pub StepIs : MoveTable → Tree → List Frame → Result Stepped Refusal → List ℕ → Type 0
StepIs m a c (Ok r) out = StepDone m a c r.nodes r.node out
StepIs m a c (Err NoStep) out = step m c ≡ stuck
StepIs m a c (Err ThroughIntersection) out = step m c ≡ blocked
StepIs m a c (Err TooLong) out = StepTooLong m a c
