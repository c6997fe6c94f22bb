-- The third demand, as one statement about the whole list of lifts of an accepted sheet, an empty one too.
use Rattle.std.specs.Prelude.{◌≡◌, false, List, [], ◌++◌, ℕ, ◌≤◌, ◌<◌, length, drop, Ok}
use Rattle.tree.specs.Tree.{Tree, size, most_nodes, Over, Equivalent, selected, is_in, groups}
use Rattle.player.specs.Limits.{register_count, byte_count}
use Rattle.player.specs.Patches.{rig}
use Rattle.player.specs.Bytes.{bytes}
use Rattle.player.specs.Playing.{wrong_pair_count, wrong_patch, Played}
use Rattle.code.specs.Effects.{Every, Names, stretch, ClosedRun, LoadsApart}
use Rattle.code.specs.Runs.{run_first, run_count}
use Rattle.gather.specs.Gathering.{Gathered, CannotBeGathered}
use Rattle.printing.specs.Key.{LiftAnswer, Held, unmarked, held_run, cannot}
use Rattle.printing.specs.declared.Device.{Device}
use Rattle.moves.specs.Moves.{MoveTable}
use Rattle.sheet.specs.Reading.{LiftLine}
use Rattle.lift_lines.specs.Lifting.{tree_after, lift_answers}
use Rattle.key.specs.Devices.{InstructionOf, effect_of, code_for, IsOwn, numbers_for, PlaysFor}

-- "its instructions are 01's code for the tree that the list leaves, gathered where there are marks": the code of a tree gathered from
-- u. "A tree already gathered comes back unchanged. Otherwise the tree returned is free: equivalent, gathered, over groups of the
-- given tree only, within 8,191 nodes". `first` and `count` are the run of its holder, as 01 defines it and `HELD` names it.
pub record HeldCode (d : Device) (u : Tree) (marks : List ℕ) (first count : ℕ) (is : List (InstructionOf d)) : Type 0 where
  pub tree : Tree
  pub position : ℕ
  pub unchanged : (p : ℕ) → Gathered (is_in marks) u p → tree ≡ u
  pub equivalent : Equivalent u tree
  pub gathered : Gathered (is_in marks) tree position
  pub own : Over (is_in (groups u)) tree
  pub most : size tree ≤ most_nodes
  pub coded : is ≡ code_for d tree
  pub first_is : first ≡ run_first gathered.holder gathered.above
  pub count_is : count ≡ run_count gathered.holder gathered.above

-- "the marked groups that the gathered tree holds (it may drop some) are loaded in one closed run, the holder's .., which loads no
-- others, and nowhere else": of that very tree, its holder and its code
pub record HolderRun (d : Device) (u : Tree) (marks : List ℕ) (first count : ℕ) (is : List (InstructionOf d)) : Type 0 where
  pub held : HeldCode d u marks first count is
  -- it "hands on one" register
  pub register : ℕ
  -- "its own instructions, unbroken"
  pub unbroken : IsOwn d held.gathered.holder (stretch is first count) register
  pub closed : ClosedRun (effect_of d) is first count register
  pub apart : LoadsApart (effect_of d) (is_in marks) is first count

-- "Fed them, the player lights exactly the lamps that the tree as written selects, whichever lamps a patch that 01 allows gives
-- the groups": whatever `play` answers and leaves, by its contract
abbrev pub Lights : (d : Device) → Tree → List (InstructionOf d) → Type 0
Lights d t is =
    (patch lamps : List ℕ) → wrong_pair_count (length patch) ≡ false → wrong_patch patch ≡ false → byte_count ≤ length lamps
    → (r : Played) (after : List ℕ) → PlaysFor d (numbers_for d is) patch lamps r after
    → (r ≡ Ok tt) × (after ≡ bytes (selected (rig patch) t) ++ drop byte_count lamps)

-- of a key by a move table that is not a refusal: its lifts, its HELD line and its instructions, for the tree t as written, the marks and the lifts
pub record Demand3 (d : Device) (m : MoveTable) (t : Tree) (marks : List ℕ) (ls : List LiftLine) (done : List LiftAnswer) (held : Held) (is : List (InstructionOf d)) : Type 0 where
  -- (a) "for every list of lifts in it, done or refused, from the tree as written"
  pub lifts : done ≡ lift_answers m t ls
  -- (b) "Unless the key says `HELD` 19, its instructions are 01's code for the tree that the list leaves": without marks, and then
  -- the key does not say `HELD`
  pub plain : marks ≡ [] → (held ≡ unmarked) × (is ≡ code_for d (tree_after m t ls))
  -- with marks it says `HELD`; the code is that of the tree "gathered where there are marks", and of that same tree
  -- (e) "Where there are marks, the marked groups .. are loaded in one closed run"
  pub marked : held ≡ unmarked → marks ≡ []
  pub run : (first count : ℕ) → held ≡ held_run first count → HolderRun d (tree_after m t ls) marks first count is
  -- (c)
  pub lit : (held ≡ cannot → ⊥) → Lights d t is
  -- (d) "No register above 12 is named."
  pub registers : Every (Names (effect_of d) (λ q. q < register_count)) is
  -- (f) "`HELD` 19, "cannot be gathered", is answered for a sheet with marks exactly when no tree of unions and differences, of any
  -- size and over any groups, selects the same lamps as the tree as written for all contents of the groups and is gathered for those marks." Request 6:
  -- "Gathering is now judged against trees that may use all three operators"
  pub never : held ≡ cannot → CannotBeGathered (is_in marks) t
  pub always : 1 ≤ length marks → CannotBeGathered (is_in marks) t → held ≡ cannot
  -- "A sheet so answered has no instructions."
  pub none : held ≡ cannot → is ≡ []
