-- What a sheet's key says of the drawings that are marked against it.
use mathlib.Core.Path.{◌≡◌, refl}
use mathlib.Core.List.{List}
use mathlib.Core.Option.{some}
use Prim.Native.Nat.{ℕ}
use Rattle.tree.specs.Tree.{Tree}
use Rattle.tree.specs.Parse.{tree_of}
use Rattle.moves.specs.Moves.{MoveTable}
use Rattle.moves.proofs.MoveLaws.{Right}
use Rattle.sheet.specs.Reading.{ReadingState, accepted, reading}
use Rattle.sheet.specs.Typed.{typed}
use Rattle.printing.specs.Key.{LiftAnswer, held_run, cannot}
use Rattle.printing.specs.declared.Device.{Device}
use Rattle.key.specs.Devices.{InstructionOf}
use Rattle.key.specs.Demand.{Demand3}
use Rattle.key.proofs.DemandLaws.{some_mark}
use Rattle.marking.specs.Marking.{Marking, mark, marking_says, Marks}
use Rattle.marking.proofs.Theorems.{right_exactly, right_typed, cannot_be_right}

-- a sheet that reading accepts, its tree, and what its key by a table says
module _ (d : Device) (m : MoveTable) (question : List ℕ) (q : ReadingState) (e : reading question ≡ accepted q) (t : Tree) (is : tree_of q.entries ≡ some t) (lifts : List LiftAnswer) (code : List (InstructionOf d)) where
  -- "For a question answered 19 no drawing is ever right."
  pub answered_19 : Demand3 d m t q.marks q.lifts lifts cannot code → (candidate : List ℕ) (r : Marking) → Marks question candidate r → marking_says r ≡ mark 0 → ⊥
  answered_19 D = cannot_be_right question q e t is (D.never refl) (some_mark D refl)

  -- the tree of the key's code, gathered where there are marks, is right
  pub key_tree_right : Right m → (first count : ℕ) (D : Demand3 d m t q.marks q.lifts lifts (held_run first count) code) (r : Marking)
      → Marks question (typed (D.run first count refl).held.tree) r → marking_says r ≡ mark 0
  key_tree_right R first count D r M =
      let H = (D.run first count refl).held in
      (right_exactly question (typed H.tree) r M).always (right_typed question q e t is m R H.tree H.position H.equivalent H.gathered H.own H.most)
