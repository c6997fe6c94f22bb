-- No tree or a tree: union and difference that know the empty case, and a group's leaf.
use mathlib.Core.Path.{◌≡◌, refl, sym, ap, subst}
use mathlib.Core.Bool.{Bool, true, false, ◌&&◌}
use mathlib.Core.Option.{Option, some, none}
use Prim.Native.Nat.{ℕ}
use lib.Dec.{T}
use Rattle.tree.specs.Tree.{Basic, plus, minus, operator_of, Tree, leaf, is_group, apply, selects, Over, WithoutIntersection}
use Rattle.tree.proofs.TreeLaws.{or_false}
use Rattle.tree.specs.Pass.{Entry, group, operator, neither, entry_of}
use Rattle.tree.proofs.PassLaws.{entry_leaf}
use Rattle.builder.specs.InnerBuilding.{join, leaf_of, single}

-- ---- no tree or a tree: what selects nothing needs no tree
-- what it selects
abbrev pub selects_optional : (ℕ → Bool) → Option Tree → Bool
selects_optional v none = false
selects_optional v (some t) = selects v t

-- every group in it, if there is a tree, passes m
abbrev pub OverOptional : (ℕ → Bool) → Option Tree → Type 0
OverOptional m none = Unit {0}
OverOptional m (some t) = Over m t

-- no node of it, if there is a tree, is an `I`
abbrev pub PlainOptional : Option Tree → Type 0
PlainOptional none = Unit {0}
PlainOptional (some t) = WithoutIntersection t

-- ---- union and difference that know the empty case
pub join_plain : (o : Basic) (a b : Option Tree) → PlainOptional a → PlainOptional b → PlainOptional (join o a b)
unfolding WithoutIntersection
join_plain plus none b p q = q
join_plain plus (some a) none p q = p
join_plain plus (some a) (some b) p q = (p, q)
join_plain minus none b p q = tt
join_plain minus (some a) none p q = p
join_plain minus (some a) (some b) p q = (p, q)

and_true : (a : Bool) → a ≡ a && true
and_true true = refl
and_true false = refl

pub join_selects : (v : ℕ → Bool) (o : Basic) (a b : Option Tree) → selects_optional v (join o a b) ≡ apply (operator_of o) (selects_optional v a) (selects_optional v b)
unfolding selects
join_selects v plus none b = refl
join_selects v plus (some a) none = sym (or_false (selects v a))
join_selects v plus (some a) (some b) = refl
join_selects v minus none b = refl
join_selects v minus (some a) none = and_true (selects v a)
join_selects v minus (some a) (some b) = refl

pub join_over : (m : ℕ → Bool) (o : Basic) (a b : Option Tree) → OverOptional m a → OverOptional m b → OverOptional m (join o a b)
unfolding Over
join_over m plus none b p q = q
join_over m plus (some a) none p q = p
join_over m plus (some a) (some b) p q = (p, q)
join_over m minus none b p q = tt
join_over m minus (some a) none p q = p
join_over m minus (some a) (some b) p q = (p, q)

-- ---- a group's leaf
pub group_holds : (x : ℕ) → is_group x ≡ true → T (is_group x)
group_holds x e = subst T (sym e) tt

pub single_leaf : (x : ℕ) (e : is_group x ≡ true) → single x ≡ some (leaf x (group_holds x e))
single_leaf x e = ap leaf_of (entry_leaf x (group_holds x e))

pub single_selects : (v : ℕ → Bool) (x : ℕ) → is_group x ≡ true → selects_optional v (single x) ≡ v x
unfolding selects
single_selects v x e = ap (selects_optional v) (single_leaf x e)

pub single_over : (m : ℕ → Bool) (x : ℕ) → is_group x ≡ true → m x ≡ true → OverOptional m (single x)
unfolding Over
single_over m x e h = subst (OverOptional m) (sym (single_leaf x e)) h

pub single_plain : (x : ℕ) → PlainOptional (single x)
unfolding WithoutIntersection
single_plain x = go (entry_of x)
  where
    go : (e : Entry) → PlainOptional (leaf_of e)
    go (group g h) = tt
    go (operator o) = tt
    go neither = tt
