-- The very tree that our gathering returns. 01 leaves it free, and a reader need not believe a line of this: it is here so that what
-- the call returns, and with it a key, is a function of what it is given.
use Rattle.std.specs.Prelude.{◌≡◌, List, [], ◌∷◌, ℕ, ◌^◌, length, take, drop}
use Rattle.std.proofs.Math.Option.{Option, some, none}
use Rattle.common.specs.Answer.{Answer, done, refused_with}
use Rattle.tree.specs.Tree.{Tree, postfix, size, leaves, is_in, collect}
use Rattle.tree.specs.Parse.{tree_of}
use Rattle.tree.specs.Writing.{over}
use Rattle.table.specs.InnerTable.{table, rows_of}
use Rattle.columns.specs.InnerChoosing.{choice}
use Rattle.columns.specs.InnerJoining.{tree_for}
use Rattle.holding.specs.InnerHolding.{status}
use Rattle.gather.specs.Answer.{Gathering, gathering_says, gather_fault}
use Rattle.holding.specs.declared.Status.{Status}
use Rattle.holding.specs.declared.Status.TheVariants.{Free, Mixed, All, Held}

-- the tree by the columns of t's table over the groups gs, of which the first m are marked
abbrev pub tree_by : List ℕ → ℕ → Tree → Option Tree
tree_by gs m t = let T = rows_of (table gs t) in tree_for T (take m gs) (drop m gs) (choice T (2 ^ m) (2 ^ length gs))

-- a tree that is not gathered: by its groups with the marks first
abbrev pub rearranged : Tree → List ℕ → Option Tree
rearranged t marks = tree_by (collect marks (leaves t)) (length marks) t

-- "A tree already gathered comes back unchanged."
abbrev pub gathered_as : Status → Tree → List ℕ → Option Tree
gathered_as Free t marks = rearranged t marks
gathered_as Mixed t marks = rearranged t marks
gathered_as (All k) t marks = some t
gathered_as (Held k) t marks = some t

-- the tree returned; none where no tree is gathered
unfoldable pub gathered_by : Tree → List ℕ → Option Tree
gathered_by t marks = gathered_as (status (is_in marks) 0 t) t marks

-- the holder's position in a gathered tree
abbrev pub named_by : Status → ℕ
named_by Free = 0
named_by Mixed = 0
named_by (All k) = k
named_by (Held k) = k

abbrev pub holder_of : List ℕ → Tree → ℕ
holder_of marks u = named_by (status (is_in marks) 0 u)

-- the answer, and the buffer afterwards
abbrev pub tree_says : List ℕ → Option Tree → Answer
tree_says marks none = refused_with 19
tree_says marks (some u) = done (size u ∷ holder_of marks u ∷ [])

abbrev pub tree_over : Option Tree → List ℕ → List ℕ
tree_over none out = out
tree_over (some u) out = over (postfix u) out

-- the tree o, or that there is none, gives both
pub record Returned (marks : List ℕ) (o : Option Tree) (out out' : List ℕ) (r : Gathering) : Type 0 where
  pub says : gathering_says r ≡ tree_says marks o
  pub written : out' ≡ tree_over o out

-- .. the tree f t, whichever tree t the list is
abbrev pub Returns : (list marks : List ℕ) (f : Tree → Option Tree) (out out' : List ℕ) (r : Gathering) → Type 0
Returns list marks f out out' r = (t : Tree) → tree_of list ≡ some t → Returned marks (f t) out out' r

-- where nothing is at fault, the tree that the list is gives the answer and the buffer
pub record GathersBy (list marks out out' : List ℕ) (r : Gathering) : Type 0 where
  pub by : gather_fault list marks (length out) ≡ 0 → (t : Tree) → tree_of list ≡ some t → Returned marks (gathered_by t marks) out out' r
