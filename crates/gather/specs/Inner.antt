-- What the functions inside the crate say of each other, and `is_gathered` to the crates above. No caller of `gather` has to believe
-- any of this.
use Rattle.std.specs.Prelude.{◌≡◌, ◌≢◌, Bool, true, false, List, ℕ, ◌<◌, ◌≤◌, length, take, drop, Option, None, MatchOption}
use Rattle.std.proofs.Math.Option.{some}
use Rattle.tree.specs.Tree.{Tree, is_group, postfix, Over, is_in, groups, most_groups}
use Rattle.tree.specs.Parse.{tree_of}
use Rattle.tree.specs.InnerGroups.{Distinct}
use Rattle.tree.specs.InnerWriting.{Wrote}
use Rattle.table.specs.InnerTable.{rows_of}
use Rattle.builder.specs.InnerBuilding.{postfix_optional}
use Rattle.columns.specs.InnerJoining.{tree_for}
use Rattle.columns.specs.InnerChoosing.{Allowed}
use Rattle.gather.specs.Gathering.{Gathered}

-- ms and us are groups, each once, ms marked by m and us not
pub record MarkedParts (m : ℕ → Bool) (ms us : List ℕ) : Type 0 where
  pub marks : Distinct ms
  pub others : Distinct us
  pub marked : (g : ℕ) → is_in ms g ≡ true → m g ≡ true
  pub unmarked : (g : ℕ) → is_in us g ≡ true → m g ≡ false
  pub mark_groups : (g : ℕ) → is_in ms g ≡ true → is_group g ≡ true
  pub other_groups : (g : ℕ) → is_in us g ≡ true → is_group g ≡ true
  pub some_mark : 0 < length ms

-- the list of a choice's tree; nothing where there is none
abbrev pub tree_list : List Bool → List ℕ → List ℕ → Allowed → List ℕ
tree_list t ms us c = postfix_optional (tree_for (rows_of t) ms us c)

-- what building answers and leaves: nothing where the choice has no tree; otherwise the list's length, and the list in the buffer
abbrev pub Built : Allowed → (out out' list : List ℕ) → Option ℕ → Type 0
Built c out out' list r = MatchOption r ((c ≡ None) × (out' ≡ out)) (λ n. (c ≢ None) × Wrote out 0 out' n list)

-- the list is a tree's that is not gathered for the first m groups of gs, and gs are its groups
pub record Ordered (list gs : List ℕ) (m : ℕ) : Type 0 where
  pub within : m ≤ length gs
  pub most : length gs ≤ most_groups
  pub parts : MarkedParts (is_in (take m gs)) (take m gs) (drop m gs)
  pub over : (t : Tree) → list ≡ postfix t → Over (is_in gs) t
  pub own : (t : Tree) → list ≡ postfix t → (g : ℕ) → is_in gs g ≡ true → is_in (groups t) g ≡ true
  pub not_gathered_lem : (t : Tree) (p : ℕ) → list ≡ postfix t → Gathered (is_in (take m gs)) t p → ⊥

-- a list of numbers that is a tree which is gathered for the marks
pub record GatheredList (list marks : List ℕ) : Type 0 where
  pub tree : Tree
  pub is : tree_of list ≡ some tree
  pub holder : ℕ
  pub gathered : Gathered (is_in marks) tree holder
