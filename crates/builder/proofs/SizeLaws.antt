-- How large a built tree is at most.
use mathlib.Core.Path.{◌≡◌, ap}
use mathlib.Core.Bool.{Bool, true, false, cond}
use mathlib.Core.List.{List}
use mathlib.Core.Option.{Option, some, none}
use Prim.Native.Nat.{ℕ, zero, suc, ◌+◌, ◌^◌, ◌≤◌}
use native.Mathlib.Omega.{arith}
use lib.Dec.{eqb}
use lib.ListN.{length, get_or}
use Rattle.tree.specs.Tree.{Basic, plus, minus, Tree, size}
use Rattle.tree.specs.Pass.{Entry, group, operator, neither, entry_of}
use Rattle.free_tables.specs.InnerTables.{Table, first_part, second_part}
use Rattle.forms.specs.declared.Form.{Form}
use Rattle.forms.specs.declared.Form.TheVariants.{Drop, Less, Plus, ReducedPlus, JoinedLess, LessOutside, ReducedUnion, JoinedDifference}
use Rattle.splits.specs.InnerSplits.{first_holder, second_holder, split_taken}
use Rattle.splits.specs.declared.Holder.{Holder}
use Rattle.splits.specs.declared.Split.{Split}
use Rattle.builder.specs.InnerBuilding.{size_optional, join, leaf_of, single, formed, variable_tree, without, build, most_for, most_formed, Buildable, HolderTree}
use Rattle.builder.proofs.ReadyLaws.{variable_size, split_buildable}
use Rattle.builder.proofs.WritingLaws.{plus_none, without_length}

pub join_size : (o : Basic) (a b : Option Tree) → size_optional (join o a b) ≤ size_optional a + size_optional b + 1
unfolding size
join_size plus none b = omega arith
join_size plus (some a) none = omega arith
join_size plus (some a) (some b) = omega arith
join_size minus none b = omega arith
join_size minus (some a) none = omega arith
join_size minus (some a) (some b) = omega arith

-- a form's tree
module _ (x a b : Option Tree) where
  two : (o p : Basic) (l : Option Tree) → size_optional (join o l (join p x b)) ≤ size_optional l + size_optional x + size_optional b + 2
  two o p l = omega (arith, join_size o l (join p x b), join_size p x b)

  pub formed_size : (form : Form) → size_optional (formed form x a b) ≤ most_formed form (size_optional x) (size_optional a) (size_optional b)
  formed_size Drop = omega (arith, ap size_optional (plus_none a))
  formed_size Less = two minus minus a
  formed_size Plus = two plus minus a
  formed_size ReducedPlus = omega (arith, two plus minus (join minus a x), join_size minus a x)
  formed_size JoinedLess = omega (arith, two minus minus (join plus a x), join_size plus a x)
  formed_size LessOutside = omega (arith, join_size minus a (join minus b x), join_size minus b x)
  formed_size ReducedUnion = omega (arith, join_size plus (join minus a x) b, join_size minus a x)
  formed_size JoinedDifference = omega (arith, join_size minus (join plus a x) b, join_size plus a x)

pub most_grows : (form : Form) {x y a c b d : ℕ} → x ≤ y → a ≤ c → b ≤ d → most_formed form x a b ≤ most_formed form y c d
most_grows Drop p q r = q
most_grows Less p q r = omega arith
most_grows Plus p q r = omega arith
most_grows ReducedPlus p q r = omega arith
most_grows JoinedLess p q r = omega arith
most_grows LessOutside p q r = omega arith
most_grows ReducedUnion p q r = omega arith
most_grows JoinedDifference p q r = omega arith

-- a variable's tree
pub leaf_size : (e : Entry) → size_optional (leaf_of e) ≤ 1
unfolding size
leaf_size (group g h) = omega arith
leaf_size (operator o) = omega arith
leaf_size neither = omega arith

variable_size_lem : (h : Option Tree) (x : ℕ) → size_optional (variable_tree h x) ≤ variable_size (size_optional h) x
variable_size_lem h x = go (eqb x 0)
  where
    go : (b : Bool) → size_optional (cond b h (single x)) ≤ cond {A = ℕ} b (size_optional h) 1
    go true = omega arith
    go false = leaf_size (entry_of x)

-- the parts' trees after a split
abbrev pub first_built : (Holder → Table → ℕ → ℕ) → ℕ → Split → Table → List ℕ → Option Tree → Option Tree
first_built choice n s t gs h = build choice n (first_holder s.plan) (first_part s.form t (2 ^ s.variable)) (without s.variable gs) h

abbrev pub second_built : (Holder → Table → ℕ → ℕ) → ℕ → Split → Table → List ℕ → Option Tree → Option Tree
second_built choice n s t gs h = build choice n (second_holder s.plan) (second_part s.form t (2 ^ s.variable)) (without s.variable gs) h

pub build_size : (choice : Holder → Table → ℕ → ℕ) (k : ℕ) {m : Holder} {t : Table} {gs : List ℕ} (h : Option Tree) → Buildable m t gs → length gs ≡ k → HolderTree m h
    → size_optional (build choice k m t gs h) ≤ most_for m k (size_optional h)
unfolding build
build_size choice zero h r e q = omega arith
build_size choice (suc n) {m} {t} {gs} h r e q =
    let s = split_taken m t n (choice m t n) in
    let R = split_buildable n (choice m t n) e r in
    let x = get_or gs s.variable 0 in
    let l : length (without s.variable gs) ≡ n = omega (arith, without_length gs s.variable R.below) in
    let H = R.holders h q in
    let a = build_size choice n h R.first l H.0 in
    let b = build_size choice n h R.second l H.1 in
    let f = formed_size (variable_tree h x) (first_built choice n s t gs h) (second_built choice n s t gs h) s.form in
    omega (arith, f, most_grows s.form (variable_size_lem h x) a b, R.room n (size_optional h) e)
