-- Document 01, "The tree": trees of lamp groups, their lists, and what they select.
use Rattle.std.specs.Prelude.{◌≡◌, Bool, true, false, not, cond, ◌&&◌, ◌||◌, List, [], ◌∷◌, ◌++◌, ℕ, ◌+◌, T, eqb, leb}

-- "A number from 1 to .. is a leaf: that group of lamps"; request 4: "Reading, tree, code, patch and marks all accept 1 to 60,000."
abbrev pub most_group : ℕ
most_group = 60000

-- one of the numbers 1 to `last`
abbrev pub is_up_to : ℕ → ℕ → Bool
is_up_to last n = leb 1 n && leb n last

-- a group's number
abbrev pub is_group : ℕ → Bool
is_group g = is_up_to most_group g

-- "A tree holds 1 to 8,191 nodes."
abbrev pub most_nodes : ℕ
most_nodes = 8191

-- "at most .. 8 different groups" of a sheet; "17 more than 8 different groups" of gathering; "a table .. of up to eight groups"
abbrev pub most_groups : ℕ
most_groups = 8

-- the operators of 01's trees, and request 6: "The sheet gains `I`, a third operator"
pub data Operator : Type 0 where
  union : Operator
  difference : Operator
  intersection : Operator

-- "65001 is union (written U), 65002 is difference (written D)"; request 6: "`I`, a third operator (65003)"
abbrev pub sign : Operator → ℕ
sign union = 65001
sign difference = 65002
sign intersection = 65003

-- the two of 01, of which move entries and the trees that gathering builds are made to this day
pub data Basic : Type 0 where
  plus : Basic
  minus : Basic

-- as an operator of trees
abbrev pub operator_of : Basic → Operator
operator_of plus = union
operator_of minus = difference

-- A leaf carries the fact that its number is a group, so that a `Tree` is exactly a tree of 01, of any size.
pub data Tree : Type 0 where
  leaf : (g : ℕ) → T (is_group g) → Tree
  node : Operator → Tree → Tree → Tree

-- "a list of 16-bit numbers with operands before operators"
unfoldable pub postfix : Tree → List ℕ
postfix (leaf g h) = g ∷ []
postfix (node o l r) = postfix l ++ (postfix r ++ (sign o ∷ []))

-- the number of nodes
unfoldable pub size : Tree → ℕ
size (leaf g h) = 1
size (node o l r) = size l + size r + 1

-- of one lamp: union, "earlier operand without the later", and request 6: "lamps in both"
abbrev pub apply : Operator → Bool → Bool → Bool
apply union x y = x || y
apply difference x y = x && not y
apply intersection x y = x && y

-- "A rig gives each group its set of lamps": whether the group has the lamp
abbrev pub Rig : Type 0
Rig = ℕ → ℕ → Bool

-- whether a tree selects a lamp, where v says which groups have that lamp
unfoldable pub selects : (ℕ → Bool) → Tree → Bool
selects v (leaf g h) = v g
selects v (node o l r) = apply o (selects v l) (selects v r)

-- "a tree selects in it the set that its root comes to"
abbrev pub selected : Rig → Tree → ℕ → Bool
selected rig t lamp = selects (λ g. rig g lamp) t

-- "Two trees are equivalent if they select the same lamps in every rig."
pub record Equivalent (t u : Tree) : Type 0 where
  pub same : (rig : Rig) (lamp : ℕ) → selected rig t lamp ≡ selected rig u lamp

-- every leaf's group passes the test m
unfoldable pub Over : (ℕ → Bool) → Tree → Type 0
Over m (leaf g h) = m g ≡ true
Over m (node o l r) = Over m l × Over m r

-- no node is an `I`: a tree of 01
unfoldable pub WithoutIntersection : Tree → Type 0
WithoutIntersection (leaf g h) = Unit {0}
WithoutIntersection (node union l r) = WithoutIntersection l × WithoutIntersection r
WithoutIntersection (node difference l r) = WithoutIntersection l × WithoutIntersection r
WithoutIntersection (node intersection l r) = ⊥

-- the groups of the leaves, from left to right
unfoldable pub leaves : Tree → List ℕ
leaves (leaf g h) = g ∷ []
leaves (node o l r) = leaves l ++ leaves r

-- whether a number stands in a list
unfoldable pub is_in : List ℕ → ℕ → Bool
is_in [] x = false
is_in (y ∷ ys) x = eqb x y || is_in ys x

-- a list with one number more at its end, where it is not in it yet
abbrev pub with_new : List ℕ → ℕ → List ℕ
with_new xs x = cond (is_in xs x) xs (xs ++ (x ∷ []))

-- a list with the numbers of another, each once, in the order in which they come first
unfoldable pub collect : List ℕ → List ℕ → List ℕ
collect xs [] = xs
collect xs (y ∷ ys) = collect (with_new xs y) ys

-- the different groups of a tree
abbrev pub groups : Tree → List ℕ
groups t = collect [] (leaves t)
