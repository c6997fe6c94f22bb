-- The tree's entries as they are read: the trees that wait after one entry more, and the one tree at the end.
use mathlib.Core.Path.{◌≡◌, sym, ap, subst, ◌∙◌}
use mathlib.Core.Bool.{true}
use mathlib.Core.List.{List, [], ◌∷◌, ◌++◌}
use mathlib.Core.Option.{Option, some}
use Prim.Native.Nat.{ℕ, suc, ◌-◌, ◌≤◌}
use native.Mathlib.Omega.{arith}
use lib.Dec.{T}
use lib.ListN.{length}
use Rattle.tree.specs.Tree.{Operator, Tree, leaf, node, is_group, sign}
use Rattle.tree.specs.Parse.{alone, waiting, parse}
use Rattle.tree.proofs.ParseLaws.{waiting_group, waiting_operator}
use Rattle.sheet.specs.Reading.{or_none, trees}

-- ---- the trees that wait after one entry more
pub record More (xs : List ℕ) (many : ℕ) : Type 0 where
  pub forest : waiting 0 xs [] ≡ some (trees xs)
  pub count : length (trees xs) ≡ many

more_trees : (xs : List ℕ) (ts : List Tree) → waiting 0 xs [] ≡ some ts → More xs (length ts)
unfolding trees
more_trees xs ts e = record { forest = e ∙ ap some (sym (ap or_none e)); count = ap (λ (o : Option (List Tree)). length (or_none o)) e }

pub more_group : (xs : List ℕ) (g : ℕ) → is_group g ≡ true → waiting 0 xs [] ≡ some (trees xs) → More (xs ++ (g ∷ [])) (suc (length (trees xs)))
more_group xs g h e =
    let t : T (is_group g) = subst T (sym h) tt in
    more_trees (xs ++ (g ∷ [])) (leaf g t ∷ trees xs) (waiting_group xs g t (trees xs) e)

pub more_operator : (xs : List ℕ) (x : ℕ) (o : Operator) → x ≡ sign o → 2 ≤ length (trees xs) → waiting 0 xs [] ≡ some (trees xs) → More (xs ++ (x ∷ [])) (length (trees xs) - 1)
more_operator xs x o q h e = go (trees xs) e h
  where
    go : (ts : List Tree) → waiting 0 xs [] ≡ some ts → 2 ≤ length ts → More (xs ++ (x ∷ [])) (length ts - 1)
    go [] e h = absurd (omega arith)
    go (r ∷ []) e h = absurd (omega arith)
    go (r ∷ (l ∷ ts)) e h =
        let z : suc (suc (length ts)) - 1 ≡ suc (length ts) = omega arith in
        rw (q, z) (more_trees (xs ++ (sign o ∷ [])) (node o l r ∷ ts) (waiting_operator xs o l r ts e))

-- one tree waiting is the list's tree
pub one_tree : (xs : List ℕ) → waiting 0 xs [] ≡ some (trees xs) → length (trees xs) ≡ 1 → (t : Tree) × (parse xs ≡ some t)
unfolding parse
one_tree xs e h = go (trees xs) e h
  where
    go : (ts : List Tree) → waiting 0 xs [] ≡ some ts → length ts ≡ 1 → (t : Tree) × (alone (waiting 0 xs []) ≡ some t)
    go [] e h = absurd (omega arith)
    go (t ∷ []) e h = (t, ap alone e)
    go (t ∷ (u ∷ ts)) e h = absurd (omega arith)
