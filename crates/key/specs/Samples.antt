-- Document 01, "Samples on either edge", (iv) and (vi) as request 2 changes them: one table of the definitions. Its one proof is in proofs/SampleLaws.antt.
use Rattle.std.specs.Prelude.{◌≡◌, List, [], ◌∷◌, ℕ, length}
use Rattle.std.proofs.Math.Option.{some}
use Rattle.common.specs.Answer.{done, refused_with}
use Rattle.tree.specs.Tree.{Tree, union, difference, sign, most_nodes, Equivalent, is_in}
use Rattle.tree.specs.Parse.{tree_of}
use Rattle.moves.specs.Moves.{ours}
use Rattle.lift.specs.Lift.{lift_of}
use Rattle.lift.specs.Answer.{result_says, lift_buffer}
use Rattle.gather.specs.Gathering.{Gathered, CannotBeGathered}
use Rattle.gather.specs.Answer.{gather_fault}

abbrev U : ℕ
U = sign union

abbrev D : ℕ
D = sign difference

-- the node at this position of this list, lifted by so many levels, gives this list, this position and these looks
pub record SampleLift (list : List ℕ) (position levels : ℕ) (new : List ℕ) (place looks : ℕ) : Type 0 where
  pub answers : result_says (lift_of ours most_nodes list position levels) ≡ done (length new ∷ place ∷ looks ∷ [])
  pub writes : lift_buffer (lift_of ours most_nodes list position levels) [] ≡ new

-- or is refused with this number
abbrev pub SampleRefused : List ℕ → ℕ → ℕ → ℕ → Type 0
SampleRefused list position levels number = result_says (lift_of ours most_nodes list position levels) ≡ refused_with number

-- with these marks the list's tree has no fault, and some equivalent tree is gathered
pub record SampleGathered (list marks : List ℕ) : Type 0 where
  pub tree : Tree
  pub listed : tree_of list ≡ some tree
  pub faultless : gather_fault list marks most_nodes ≡ 0
  pub result : Tree
  pub holder : ℕ
  pub equivalent : Equivalent tree result
  pub gathered : Gathered (is_in marks) result holder

-- or none is: 19
pub record SampleCannot (list marks : List ℕ) : Type 0 where
  pub tree : Tree
  pub listed : tree_of list ≡ some tree
  pub faultless : gather_fault list marks most_nodes ≡ 0
  pub cannot : CannotBeGathered (is_in marks) tree

-- the ten samples
pub record Samples : Type 0 where
  -- "the example's lift"
  pub i : SampleLift (1 ∷ 2 ∷ D ∷ 3 ∷ D ∷ 4 ∷ U ∷ 5 ∷ D ∷ []) 0 2 (1 ∷ 2 ∷ 3 ∷ U ∷ 5 ∷ U ∷ D ∷ 4 ∷ 5 ∷ D ∷ U ∷ []) 0 2
  -- "1 2 D, lift 0: 14"
  pub ii : SampleRefused (1 ∷ 2 ∷ D ∷ []) 0 1 14
  -- "1 2 D 3 U, lift 0: 15"
  pub iii : SampleRefused (1 ∷ 2 ∷ D ∷ 3 ∷ U ∷ []) 0 1 15
  -- request 2: 5 4 3 2 1 D D D D, lift 4: 5 4 3 D 4 4 2 D D 1 D U D, position 9, looks 1
  pub iv : SampleLift (5 ∷ 4 ∷ 3 ∷ 2 ∷ 1 ∷ D ∷ D ∷ D ∷ D ∷ []) 4 1 (5 ∷ 4 ∷ 3 ∷ D ∷ 4 ∷ 4 ∷ 2 ∷ D ∷ D ∷ 1 ∷ D ∷ U ∷ D ∷ []) 9 1
  -- "3 2 1 D D 4 D, lift 2: 3 4 D 2 1 D D, position 4, looks 1"
  pub v : SampleLift (3 ∷ 2 ∷ 1 ∷ D ∷ D ∷ 4 ∷ D ∷ []) 2 1 (3 ∷ 4 ∷ D ∷ 2 ∷ 1 ∷ D ∷ D ∷ []) 4 1
  -- request 2: 3 2 1 D D 4 U 5 U, lift 2: 3 4 U 2 4 D 1 D D 5 U, position 6, looks 1
  pub vi : SampleLift (3 ∷ 2 ∷ 1 ∷ D ∷ D ∷ 4 ∷ U ∷ 5 ∷ U ∷ []) 2 1 (3 ∷ 4 ∷ U ∷ 2 ∷ 4 ∷ D ∷ 1 ∷ D ∷ D ∷ 5 ∷ U ∷ []) 6 1
  -- "1 3 D 2 4 D U marks 1 2: 19"
  pub vii : SampleCannot (1 ∷ 3 ∷ D ∷ 2 ∷ 4 ∷ D ∷ U ∷ []) (1 ∷ 2 ∷ [])
  -- "1 3 D 2 3 D U marks 1 2: gathered"
  pub viii : SampleGathered (1 ∷ 3 ∷ D ∷ 2 ∷ 3 ∷ D ∷ U ∷ []) (1 ∷ 2 ∷ [])
  -- "1 2 D 2 1 D U mark 1: 19"
  pub ix : SampleCannot (1 ∷ 2 ∷ D ∷ 2 ∷ 1 ∷ D ∷ U ∷ []) (1 ∷ [])
  -- "1 1 2 D D mark 1: gathered"
  pub x : SampleGathered (1 ∷ 1 ∷ 2 ∷ D ∷ D ∷ []) (1 ∷ [])
