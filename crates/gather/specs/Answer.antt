-- What gathering answers and leaves: the contract of `gather`.
use Rattle.std.specs.Prelude.{◌≡◌, Bool, false, not, cond, ◌||◌, List, [], ◌∷◌, ℕ, ◌≤◌, eqb, ltb, length, Result, Ok, Err}
use Rattle.std.proofs.Math.Option.{Option, some, none}
use Rattle.common.specs.Answer.{Answer, done, refused_with}
use Rattle.tree.specs.Tree.{Tree, postfix, size, most_nodes, Over, WithoutIntersection, Equivalent, is_in, groups, most_groups}
use Rattle.tree.specs.Parse.{tree_of}
use Rattle.tree.specs.Writing.{over}
use Rattle.gather.specs.Gathering.{Gathered, CannotBeGathered}
use Rattle.gather.specs.declared.GatheredTree.{GatheredTree}
use Rattle.gather.specs.declared.Refusal.{Refusal}
use Rattle.gather.specs.declared.Refusal.TheVariants.{ShortBuffer, NotATree, TooManyGroups, BadMarks, CannotBeGathered as Cannot}

-- ---- 01's number and values for each answer: "Gathering answers that tree's length and the holder's position"; or the number
-- what the call answers: the tree that is written, or why there is none
abbrev pub Gathering : Type 0
Gathering = Result GatheredTree Refusal

abbrev pub refusal_number : Refusal → ℕ
refusal_number ShortBuffer = 11
refusal_number NotATree = 12
refusal_number TooManyGroups = 17
refusal_number BadMarks = 18
refusal_number Cannot = 19

abbrev pub gathering_says : Gathering → Answer
gathering_says (Ok tree) = done (tree.nodes ∷ tree.holder ∷ [])
gathering_says (Err refusal) = refused_with (refusal_number refusal)

-- ---- "Gathering refuses, buffer unchanged: 11; 12; 17 ..; 18 ..": the first fault, 0 if there is none
-- "a mark twice, or one not in the tree", whose groups are gs
unfoldable pub bad_mark : List ℕ → List ℕ → Bool
bad_mark gs [] = false
bad_mark gs (x ∷ marks) = (is_in marks x || not (is_in gs x)) || bad_mark gs marks

-- "17 more than 8 different groups; 18 no mark, a mark twice, or one not in the tree"
abbrev pub groups_fault : List ℕ → List ℕ → ℕ
groups_fault gs marks =
    cond (ltb most_groups (length gs)) 17
    (cond (eqb (length marks) 0 || bad_mark gs marks) 18 0)

-- "12 the list isn't a tree"
abbrev pub tree_fault : Option Tree → List ℕ → ℕ
tree_fault none marks = 12
tree_fault (some t) marks = groups_fault (groups t) marks

-- "11 that buffer is under 8,191 numbers": it has room for so many
unfoldable pub gather_fault : List ℕ → List ℕ → ℕ → ℕ
gather_fault list marks room = cond (ltb room most_nodes) 11 (tree_fault (tree_of list) marks)

-- ---- what is promised
-- "A tree already gathered comes back unchanged. Otherwise the tree returned is free: equivalent, gathered, over groups of
-- the given tree only, within 8,191 nodes". "Past the result nothing is written."
-- Request 6, a key of an older sheet stays what it was: "where the given tree is without `I` the tree returned is so too".
pub record GatheredTo (t : Tree) (marks out out' : List ℕ) (nodes holder : ℕ) : Type 0 where
  pub result : Tree
  pub unchanged : (p : ℕ) → Gathered (is_in marks) t p → result ≡ t
  pub equivalent : Equivalent t result
  pub gathered : Gathered (is_in marks) result holder
  pub own : Over (is_in (groups t)) result
  pub plain : WithoutIntersection t → WithoutIntersection result
  pub most : size result ≤ most_nodes
  pub counted : nodes ≡ size result
  pub written : out' ≡ over (postfix result) out

-- where nothing is at fault: such a tree's length and its holder's position are answered and the tree is in the buffer, or
-- "19 exactly when no gathered equivalent tree exists", "buffer unchanged"
unfoldable pub GathersTree : Tree → List ℕ → List ℕ → List ℕ → Gathering → Type 0
GathersTree t marks out out' (Ok tree) = GatheredTo t marks out out' tree.nodes tree.holder
GathersTree t marks out out' (Err refusal) = (refusal_number refusal ≡ 19) × (out' ≡ out) × CannotBeGathered (is_in marks) t

-- what `gather` promises for any list, any marks and any buffer: the first fault's number, buffer unchanged;
-- and where there is none, the above for the tree that the list is
pub record Gathers (list marks out out' : List ℕ) (r : Gathering) : Type 0 where
  pub faulty : (gather_fault list marks (length out) ≡ 0 → ⊥) → (gathering_says r ≡ refused_with (gather_fault list marks (length out))) × (out' ≡ out)
  pub gathers : gather_fault list marks (length out) ≡ 0 → (t : Tree) → tree_of list ≡ some t → GathersTree t marks out out' r
