-- The loop of `eval`: a pass whose stack is the latest operand's value on top of an array's first values. Below the operands' values
-- there is one more, the value that was held before the first entry.
use mathlib.Core.Path.{◌≡◌, refl, ap₂, ◌∙◌}
use mathlib.Core.Bool.{Bool, false}
use mathlib.Core.List.{List, [], ◌∷◌, append-nil}
use mathlib.Core.Option.{Option, some}
use Prim.Native.Nat.{ℕ, zero, suc, ◌+◌, ◌-◌, ◌<◌, ◌≤◌}
use native.Mathlib.Omega.{arith}
use lib.Dec.{T}
use lib.ListN.{length, get_or, set, drop, drop_of_length-le}
use Rattle.tree.specs.Tree.{Operator, union, sign, Tree, leaf, node, is_group, postfix, size, apply, selects}
use Rattle.tree.specs.InnerPass.{fold}
use Rattle.tree.specs.Pass.{operated, and_then, pass}
use Rattle.tree.proofs.PassLaws.{stacked, stacked_push, pass_postfix, entry_leaf, entry_sign, here}
use Rattle.table.proofs.EntryLaws.{group_at, operator_at}

-- evaluation is the pass with these values
abbrev leaf_value : (ℕ → Bool) → ℕ → (g : ℕ) → T (is_group g) → Bool
leaf_value v i g h = v g

abbrev node_value : ℕ → Operator → Bool → Bool → Bool
node_value i o x y = apply o x y

fold_selects : (v : ℕ → Bool) (i : ℕ) (t : Tree) → fold (leaf_value v) node_value i t ≡ selects v t
unfolding fold selects
fold_selects v i (leaf g h) = refl
fold_selects v i (node o l r) = ap₂ (apply o) (fold_selects v i l) (fold_selects v (i + size l) r)

-- the list is the tree's, and what is left of it from i on comes to the tree's value
pub record Evaluating (v : ℕ → Bool) (t : Tree) (list : List ℕ) (i : ℕ) (waiting : List Bool) (top : ℕ) (value : Bool) : Type 0 where
  pub whole : list ≡ postfix t
  pub left : pass (leaf_value v) node_value i (drop i list) (value ∷ stacked false waiting top) ≡ some (selects v t ∷ (false ∷ []))

pub evaluating_start : {v : ℕ → Bool} {t : Tree} {list : List ℕ} {waiting : List Bool} → list ≡ postfix t → Evaluating v t list 0 waiting 0 false
unfolding pass stacked
evaluating_start {v} {t} e = record { whole = e; left = rw (e, ← append-nil (postfix t)) (pass_postfix (leaf_value v) node_value 0 t [] (false ∷ []) ∙ rw (fold_selects v 0 t)) }

module _ {v : ℕ → Bool} {t : Tree} {list : List ℕ} {i : ℕ} {waiting : List Bool} {top : ℕ} {value : Bool} (p : Evaluating v t list i waiting top value) where
  pub evaluating_end : length list ≤ i → value ≡ selects v t
  unfolding pass
  evaluating_end h = let e = rw (drop_of_length-le list h) at p.left in cc

  pub evaluating_leaf : (b : Bool) → i < length list → get_or list i 0 < sign union → top < length waiting → b ≡ v (get_or list i 0)
      → Evaluating v t list (i + 1) (set waiting top value) (top + 1) b
  unfolding pass
  evaluating_leaf b h l r e = record {
    whole = p.whole;
    left = rw (stacked_push (leaf_value v) node_value false waiting top value r, e) (rw (here list i h, entry_leaf (get_or list i 0) (group_at list t p.whole i h l)) at p.left);
  }

  -- a leaf with its operator behind it: what the operator makes of the value and the leaf
  pub evaluating_both : (b c : Bool) → i < length list → get_or list i 0 < sign union → b ≡ v (get_or list i 0)
      → i + 1 < length list → sign union ≤ get_or list (i + 1) 0 → ((o : Operator) → get_or list (i + 1) 0 ≡ sign o → c ≡ apply o value b)
      → Evaluating v t list (i + 2) waiting top c
  unfolding pass
  evaluating_both b c h l e h' l' f =
      let o = operator_at list t p.whole (i + 1) h' l' in
      let two : i + 2 ≡ i + 1 + 1 = omega arith in
      record {
        whole = p.whole;
        left = rw (two, f o.0 o.1, e)
            (rw (here list i h, entry_leaf (get_or list i 0) (group_at list t p.whole i h l), here list (i + 1) h', o.1, entry_sign o.0) at p.left);
      }

  -- an operator finds two operands, and leaves one
  operating : (o : Operator) (k : ℕ) (f : List Bool → Option (List Bool)) {s : List Bool} → and_then (leaf_value v) node_value (operated (leaf_value v) node_value i o (value ∷ stacked false waiting k)) f ≡ some s
      → (1 ≤ k) × (f (apply o (get_or waiting (k - 1) false) value ∷ stacked false waiting (k - 1)) ≡ some s)
  unfolding stacked
  operating o zero f e = absurd (let w : ◌≡◌ {A = ℕ} 0 1 = cc in omega arith)
  operating o (suc k) f e = let q : suc k - 1 ≡ k = omega arith in (omega arith, rw q e)

  pub evaluating_operator : i < length list → sign union ≤ get_or list i 0
      → (1 ≤ top) × ((b : Bool) → ((o : Operator) → get_or list i 0 ≡ sign o → b ≡ apply o (get_or waiting (top - 1) false) value) → Evaluating v t list (i + 1) waiting (top - 1) b)
  unfolding pass
  evaluating_operator h l =
      let o = operator_at list t p.whole i h l in
      let on = operating o.0 top _ (rw (here list i h, o.1, entry_sign o.0) at p.left) in
      (on.0, λ b e. record { whole = p.whole; left = rw (e o.0 o.1) on.1 })
