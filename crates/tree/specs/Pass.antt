-- One pass with a stack over a postfix list: a value for each node, made of its position and of its operands' values.
-- Parsing, evaluation, need, part starts and the holder are instances.
use Rattle.std.specs.Prelude.{◌≡◌, refl, Bool, true, false, cond, List, [], ◌∷◌, ℕ, ◌+◌, T, eqb}
use Rattle.std.proofs.Common.{sym, subst}
use Rattle.std.proofs.Math.Option.{Option, some, none}
use Rattle.tree.specs.Tree.{Operator, union, difference, intersection, is_group, sign}

-- what a number of a list is
pub data Entry : Type 0 where
  group : (g : ℕ) → T (is_group g) → Entry
  operator : Operator → Entry
  neither : Entry

-- a group if it is one, else by the operators' numbers
abbrev pub classify : (x : ℕ) (b : Bool) → is_group x ≡ b → Entry
classify x true e = group x (subst T (sym e) tt)
classify x false e =
    cond (eqb x (sign union)) (operator union)
    (cond (eqb x (sign difference)) (operator difference)
    (cond (eqb x (sign intersection)) (operator intersection) neither))

-- what the number x is
unfoldable pub entry_of : ℕ → Entry
entry_of x = classify x (is_group x) refl

module _ {A : Type 0} (at_leaf : ℕ → (g : ℕ) → T (is_group g) → A) (at_node : ℕ → Operator → A → A → A) where
  -- the stack of values after the entry at i, the latest first; none where an operator lacks an operand or the entry is neither
  abbrev pub operated : ℕ → Operator → List A → Option (List A)
  operated i o [] = none
  operated i o (y ∷ []) = none
  operated i o (y ∷ (x ∷ s)) = some (at_node i o x y ∷ s)

  -- after an entry: a leaf's value is put on the stack
  abbrev pub pushed : ℕ → Entry → List A → Option (List A)
  pushed i (group g h) s = some (at_leaf i g h ∷ s)
  pushed i (operator o) s = operated i o s
  pushed i neither s = none

  -- no stack stays none
  abbrev pub and_then : Option (List A) → (List A → Option (List A)) → Option (List A)
  and_then none f = none
  and_then (some s) f = f s

  -- the stack after all entries, of which the first is at i
  unfoldable pub pass : ℕ → List ℕ → List A → Option (List A)
  pass i [] s = some s
  pass i (x ∷ xs) s = and_then (pushed i (entry_of x) s) (λ s. pass (i + 1) xs s)
