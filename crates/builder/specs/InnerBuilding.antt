-- The builder: a small tree for a table. No caller has to believe any of this: what a built tree selects, over which groups it is,
-- how large, and where the holder is, is proved in proofs/, whichever splits are chosen.
use Rattle.std.specs.Prelude.{◌≡◌, Bool, true, false, cond, ◌&&◌, ◌||◌, List, [], ◌∷◌, ◌++◌, ℕ, zero, suc, ◌+◌, ◌-◌, ◌*◌, ◌^◌, ◌≤◌, eqb, length, get_or, take, drop}
use Rattle.std.proofs.Math.Option.{Option, some, none}
use Rattle.tree.specs.Tree.{union, difference, sign, Basic, plus, minus, operator_of, Tree, leaf, node, is_group, postfix, size, is_in, most_groups}
use Rattle.tree.specs.Pass.{Entry, group, operator, neither, entry_of}
use Rattle.tree.specs.InnerWriting.{Wrote}
use Rattle.free_tables.specs.InnerTables.{Table, half, row_at, first_part, second_part, usable}
use Rattle.forms.specs.declared.Form.{Form}
use Rattle.forms.specs.declared.Form.TheVariants.{Drop, Less, Plus, ReducedPlus, JoinedLess, LessOutside, ReducedUnion, JoinedDifference}
use Rattle.splits.specs.InnerSplits.{is_drop, can_hold, first_holder, second_holder, split_taken, choose}
use Rattle.splits.specs.declared.Holder.{Holder}
use Rattle.splits.specs.declared.Holder.TheVariants.{Absent, Dropped, Held}
use Rattle.splits.specs.declared.Split.{Split}
use Rattle.builder.specs.declared.Part.{Part}
use Rattle.builder.specs.declared.Turn.{Turn}

-- ---- no tree or a tree: its list, and its nodes
abbrev pub postfix_optional : Option Tree → List ℕ
postfix_optional none = []
postfix_optional (some t) = postfix t

abbrev pub size_optional : Option Tree → ℕ
size_optional none = 0
size_optional (some t) = size t

-- union and difference that know the empty case
abbrev pub join : Basic → Option Tree → Option Tree → Option Tree
join plus none b = b
join plus (some a) none = some a
join plus (some a) (some b) = some (node union a b)
join minus none b = none
join minus (some a) none = some a
join minus (some a) (some b) = some (node difference a b)

-- the leaf of an entry that is a group
abbrev pub leaf_of : Entry → Option Tree
leaf_of (group g h) = some (leaf g h)
leaf_of (operator o) = none
leaf_of neither = none

-- the leaf of the group x
abbrev pub single : ℕ → Option Tree
single x = leaf_of (entry_of x)

-- ---- the forms' trees, of the variable's tree x and the parts' a and b: a left operand, a right one, and the operator between
abbrev pub left_tree : Form → Option Tree → Option Tree → Option Tree
left_tree Drop x a = a
left_tree Less x a = a
left_tree Plus x a = a
left_tree ReducedPlus x a = join minus a x
left_tree JoinedLess x a = join plus a x
left_tree LessOutside x a = a
left_tree ReducedUnion x a = join minus a x
left_tree JoinedDifference x a = join plus a x

abbrev pub right_tree : Form → Option Tree → Option Tree → Option Tree
right_tree Drop x b = none
right_tree Less x b = join minus x b
right_tree Plus x b = join minus x b
right_tree ReducedPlus x b = join minus x b
right_tree JoinedLess x b = join minus x b
right_tree LessOutside x b = join minus b x
right_tree ReducedUnion x b = b
right_tree JoinedDifference x b = b

abbrev pub outer : Form → Basic
outer Drop = plus
outer Less = minus
outer Plus = plus
outer ReducedPlus = plus
outer JoinedLess = minus
outer LessOutside = minus
outer ReducedUnion = plus
outer JoinedDifference = minus

abbrev pub formed : Form → Option Tree → Option Tree → Option Tree → Option Tree
formed form x a b = join (outer form) (left_tree form x a) (right_tree form x b)

-- ---- the tree of a table over variables: groups, and 0 for the holder h
abbrev pub variable_tree : Option Tree → ℕ → Option Tree
variable_tree h x = cond (eqb x 0) h (single x)

-- the variables without the one at index v
abbrev pub without : ℕ → List ℕ → List ℕ
without v gs = take v gs ++ drop (v + 1) gs

-- `choice` says which candidate to take as the next split; one that is not allowed is not taken (`split_taken`)
unfoldable pub build : (Holder → Table → ℕ → ℕ) → ℕ → Holder → Table → List ℕ → Option Tree → Option Tree
build choice zero m t gs h = none
build choice (suc n) m t gs h =
    let s = split_taken m t n (choice m t n) in
    formed s.form (variable_tree h (get_or gs s.variable 0))
    (build choice n (first_holder s.plan) (first_part s.form t (2 ^ s.variable)) (without s.variable gs) h)
    (build choice n (second_holder s.plan) (second_part s.form t (2 ^ s.variable)) (without s.variable gs) h)

-- ---- how large
-- as many nodes as a tree over k groups has at most
unfoldable pub most_built : ℕ → ℕ
most_built zero = 0
most_built (suc k) = most_built k + most_built k + 5

-- the same of a table over k variables, with a holder of z nodes
abbrev pub most_for : Holder → ℕ → ℕ → ℕ
most_for Absent k z = most_built k
most_for Dropped k z = most_built (k - 1)
most_for Held k z = z + 2 * most_built (k - 1) + 2

-- the nodes of a form's tree at most, by those of x, a and b
abbrev pub most_formed : Form → ℕ → ℕ → ℕ → ℕ
most_formed Drop x a b = a
most_formed Less x a b = a + x + b + 2
most_formed Plus x a b = a + x + b + 2
most_formed ReducedPlus x a b = a + (x + x) + b + 3
most_formed JoinedLess x a b = a + (x + x) + b + 3
most_formed LessOutside x a b = a + x + b + 2
most_formed ReducedUnion x a b = a + x + b + 2
most_formed JoinedDifference x a b = a + x + b + 2

-- ---- what is written for a form, where xs is the list of the variable's tree
-- an operator whose operands stand from `from` to `middle` and from there to `to`: none where one of them is empty
abbrev pub between : ℕ → ℕ → ℕ → ℕ → List ℕ
between from middle to sign = cond (eqb from middle) [] (cond (eqb middle to) [] (sign ∷ []))

-- the variable's list, where the holder's is hs
abbrev pub variable_list : List ℕ → ℕ → List ℕ
variable_list hs x = cond (eqb x 0) hs (x ∷ [])

-- after a tree, or where there is none (`empty`): what joins the variable's tree to it by the operator of this sign
abbrev pub joined_by : ℕ → Bool → List ℕ → List ℕ
joined_by s empty xs = cond empty (cond (eqb s (sign difference)) [] xs) (xs ++ (s ∷ []))

-- after a: what makes it the left operand
abbrev pub left_written : Form → Bool → List ℕ → List ℕ
left_written Drop empty xs = []
left_written Less empty xs = []
left_written Plus empty xs = []
left_written ReducedPlus empty xs = joined_by (sign difference) empty xs
left_written JoinedLess empty xs = joined_by (sign union) empty xs
left_written LessOutside empty xs = []
left_written ReducedUnion empty xs = joined_by (sign difference) empty xs
left_written JoinedDifference empty xs = joined_by (sign union) empty xs

-- whether the tree ends with the left operand, which may be empty
abbrev pub ends_there : Form → Bool → Bool
ends_there form empty = is_drop form || (empty && eqb (sign (operator_of (outer form))) (sign difference))

-- before b, which stands from `middle` to `to`, and after it: what makes it the right operand, which stands from `left` on
abbrev pub before_written : Form → List ℕ → List ℕ
before_written Drop xs = []
before_written Less xs = xs
before_written Plus xs = xs
before_written ReducedPlus xs = xs
before_written JoinedLess xs = xs
before_written LessOutside xs = []
before_written ReducedUnion xs = []
before_written JoinedDifference xs = []

abbrev pub after_written : Form → ℕ → ℕ → ℕ → List ℕ → List ℕ
after_written Drop left middle to xs = []
after_written Less left middle to xs = between left middle to (sign difference)
after_written Plus left middle to xs = between left middle to (sign difference)
after_written ReducedPlus left middle to xs = between left middle to (sign difference)
after_written JoinedLess left middle to xs = between left middle to (sign difference)
after_written LessOutside left middle to xs = joined_by (sign difference) (eqb middle to) xs
after_written ReducedUnion left middle to xs = []
after_written JoinedDifference left middle to xs = []

-- ---- what the functions say of each other
-- the variables: groups, and where the holder is one of them, it is the last
abbrev pub Variables : Holder → List ℕ → Type 0
Variables Absent gs = (g : ℕ) → is_in gs g ≡ true → is_group g ≡ true
Variables Dropped gs = (us : List ℕ) × (gs ≡ us ++ (0 ∷ [])) × ((g : ℕ) → is_in us g ≡ true → is_group g ≡ true)
Variables Held gs = (us : List ℕ) × (gs ≡ us ++ (0 ∷ [])) × ((g : ℕ) → is_in us g ≡ true → is_group g ≡ true)

-- the holder may be dropped, or may stand in the tree
abbrev pub HolderReady : Holder → Table → Type 0
HolderReady Absent t = Unit {0}
HolderReady Dropped t = usable Drop t (half t) ≡ true
HolderReady Held t = can_hold t ≡ true

-- a table over these variables that a tree can be built for; no tree selects anything at row 0
pub record Buildable (m : Holder) (t : Table) (gs : List ℕ) : Type 0 where
  pub rows : length t ≡ 2 ^ length gs
  pub first : (row_at t 0).on ≡ false
  pub consistent : (i : ℕ) → ((row_at t i).on && (row_at t i).off) ≡ false
  pub variables : Variables m gs
  pub holder : HolderReady m t

-- .. of at most as many variables as the code has room for
pub record Ready (m : Holder) (t : Table) (gs : List ℕ) : Type 0 where
  pub few : length gs ≤ most_groups
  pub table : Buildable m t gs

-- the first `count` rows of a part are the table t, and k becomes of the holder in its tree
pub record IsPart (p : Part) (count : ℕ) (t : Table) (k : Holder) : Type 0 where
  pub rows : take count p.rows ≡ t
  pub holder : p.holder ≡ k

-- the split that is taken at a table over n variables and one more
abbrev pub split_chosen : Holder → Table → ℕ → Split
split_chosen m t n = split_taken m t n (choose m t n)

-- its form and its variable, the other variables, and the parts a and b
pub record Turned (m : Holder) (t : Table) (gs : List ℕ) (n : ℕ) (r : Turn) : Type 0 where
  pub form : r.form ≡ (split_chosen m t n).form
  pub x : r.x ≡ get_or gs (split_chosen m t n).variable 0
  pub rest : take n r.rest ≡ without (split_chosen m t n).variable gs
  pub a : IsPart r.a (half t) (first_part (split_chosen m t n).form t (2 ^ (split_chosen m t n).variable)) (first_holder (split_chosen m t n).plan)
  pub b : IsPart r.b (half t) (second_part (split_chosen m t n).form t (2 ^ (split_chosen m t n).variable)) (second_holder (split_chosen m t n).plan)

-- the holder has a tree where it is a variable
abbrev pub HolderTree : Holder → Option Tree → Type 0
HolderTree Absent h = Unit {0}
HolderTree Dropped h = (t : Tree) × (h ≡ some t)
HolderTree Held h = (t : Tree) × (h ≡ some t)

-- the holder's list hs is that of such a tree
abbrev pub Holding : Holder → List ℕ → Type 0
Holding m hs = (h : Option Tree) × (hs ≡ postfix_optional h) × HolderTree m h

-- the tree of a table was written, whichever tree the holder's list is of
pub record Built (m : Holder) (t : Table) (gs hs out : List ℕ) (at : ℕ) (out' : List ℕ) (next : ℕ) : Type 0 where
  pub wrote : (h : Option Tree) → hs ≡ postfix_optional h → HolderTree m h
      → Wrote out at out' next (postfix_optional (build choose (length gs) m t gs h))
