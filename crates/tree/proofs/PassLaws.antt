-- Laws of the pass with a stack: over a tree's list it leaves the tree's value, and each turn of a loop that keeps the
-- stack in an array is one entry of the pass.
use mathlib.Core.Path.{◌≡◌, refl, sym, ap, subst, ◌∙◌}
use mathlib.Core.Bool.{Bool, true, false, cond}
use mathlib.Core.List.{List, [], ◌∷◌, ◌++◌, append_assoc, append-nil}
use mathlib.Core.Option.{some, none}
use Prim.Native.Nat.{ℕ, zero, suc, ◌+◌, ◌-◌, ◌<◌, ◌≤◌}
use native.Mathlib.Omega.{arith}
use native.Mathlib.Numerals.{add-one}
use lib.Dec.{T, T_prop, eqb}
use borrow.Author.Tests.{eqb-true}
use lib.ListN.{length, get_or, set, drop, drop_of_length-le}
use lib.Seq.{drop-cons, get_or-set_same, get_or-set_other}
use Rattle.tree.specs.Tree.{Operator, union, difference, intersection, Tree, leaf, node, is_group, postfix, size, sign}
use Rattle.tree.specs.Pass.{Entry, group, operator, neither, classify, entry_of, pushed, and_then, pass}
use Rattle.tree.specs.InnerPass.{fold}

-- an array's first k values as a stack, the last of them on top
unfoldable pub stacked : {A : Type 0} → A → List A → ℕ → List A
stacked z a zero = []
stacked z a (suc k) = get_or a k z ∷ stacked z a k

-- ---- what a number of a tree's list is
pub entry_sign : (o : Operator) → entry_of (sign o) ≡ operator o
unfolding entry_of
entry_sign union = refl
entry_sign difference = refl
entry_sign intersection = refl

pub entry_leaf : (g : ℕ) (h : T (is_group g)) → entry_of g ≡ group g h
unfolding entry_of
entry_leaf g h = go (is_group g) refl
  where
    go : (b : Bool) (e : is_group g ≡ b) → classify g b e ≡ group g h
    go true e = ap (group g) (T_prop (is_group g) _ h)
    go false e = absurd (subst T e h)

-- the number of an entry
abbrev pub Writes : Entry → ℕ → Type 0
Writes (group g h) x = x ≡ g
Writes (operator o) x = x ≡ sign o
Writes neither x = Unit {0}

pub entry_writes : (x : ℕ) → Writes (entry_of x) x
unfolding entry_of
entry_writes x = go (is_group x) refl
  where
    -- by one operator's number, or as the others say
    by : (o : Operator) (b : Bool) (e : Entry) → eqb x (sign o) ≡ b → Writes e x → Writes (cond b (operator o) e) x
    by o true e p w = eqb-true x (sign o) p
    by o false e p w = w

    go : (b : Bool) (e : is_group x ≡ b) → Writes (classify x b e) x
    go true e = refl
    go false e = by union (eqb x (sign union)) _ refl (by difference (eqb x (sign difference)) _ refl (by intersection (eqb x (sign intersection)) _ refl tt))

-- one entry on
pub here : (xs : List ℕ) (i : ℕ) → i < length xs → drop i xs ≡ get_or xs i 0 ∷ drop (i + 1) xs
here xs i h = rw add-one (drop-cons xs i 0 h)

module _ {A : Type 0} (at_leaf : ℕ → (g : ℕ) → T (is_group g) → A) (at_node : ℕ → Operator → A → A → A) where
  -- the pass over a tree's list pushes the tree's value
  pub pass_postfix : (i : ℕ) (t : Tree) (xs : List ℕ) (s : List A) → pass at_leaf at_node i (postfix t ++ xs) s ≡ pass at_leaf at_node (i + size t) xs (fold at_leaf at_node i t ∷ s)
  unfolding postfix fold pass size
  pass_postfix i (leaf g h) xs s = rw (entry_leaf g h)
  pass_postfix i (node o l r) xs s =
      simp append_assoc (pass_postfix i l (postfix r ++ (sign o ∷ xs)) s
      ∙ (pass_postfix (i + size l) r (sign o ∷ xs) (fold at_leaf at_node i l ∷ s)
      ∙ (rw (entry_sign o)
      (ap (λ (k : ℕ). pass at_leaf at_node k xs (at_node (i + size l + size r) o (fold at_leaf at_node i l) (fold at_leaf at_node (i + size l) r) ∷ s)) (omega arith)))))

  pub pass_whole : (t : Tree) → pass at_leaf at_node 0 (postfix t) [] ≡ some (fold at_leaf at_node 0 t ∷ [])
  unfolding pass
  pass_whole t = ap (λ (xs : List ℕ). pass at_leaf at_node 0 xs []) (sym (append-nil (postfix t))) ∙ pass_postfix 0 t [] []

  -- ---- a loop whose stack is an array's first k values
  module _ (z : A) where
    stacked_set : (a : List A) (i : ℕ) (b : A) (k : ℕ) → k ≤ i → stacked z (set a i b) k ≡ stacked z a k
    unfolding stacked
    stacked_set a i b zero h = refl
    stacked_set a i b (suc k) h = rw (get_or-set_other a i k b z (omega arith), stacked_set a i b k (omega arith))

    pub stacked_push : (a : List A) (k : ℕ) (b : A) → k < length a → stacked z (set a k b) (k + 1) ≡ b ∷ stacked z a k
    unfolding stacked
    stacked_push a k b h = rw (add-one k) (rw (get_or-set_same a k b z h, stacked_set a k b k (omega arith)))

    stacked_two : (a : List A) (k : ℕ) → 2 ≤ k → stacked z a k ≡ get_or a (k - 1) z ∷ get_or a (k - 2) z ∷ stacked z a (k - 2)
    unfolding stacked
    stacked_two a k h =
        let e : k ≡ suc (suc (k - 2)) = omega arith in
        let f : k - 1 ≡ suc (k - 2) = omega arith in
        ap (stacked z a) e ∙ rw f

    -- what a loop over the list of the tree t keeps: what is left of the pass is the whole pass
    abbrev pub Passing : Tree → ℕ → List A → ℕ → Type 0
    Passing t i a k = pass at_leaf at_node i (drop i (postfix t)) (stacked z a k) ≡ pass at_leaf at_node 0 (postfix t) []

    pub passing_start : (t : Tree) (a : List A) → Passing t 0 a 0
    unfolding stacked
    passing_start t a = refl

    -- one entry on, where that entry is e
    step_on : (t : Tree) (i : ℕ) (s : List A) (e : Entry) → i < length (postfix t) → entry_of (get_or (postfix t) i 0) ≡ e
        → pass at_leaf at_node i (drop i (postfix t)) s ≡ and_then at_leaf at_node (pushed at_leaf at_node i e s) (λ s. pass at_leaf at_node (i + 1) (drop (i + 1) (postfix t)) s)
    unfolding pass
    step_on t i s e h q = rw (here (postfix t) i h, q)

    pub passing_group : (t : Tree) (i : ℕ) (a : List A) (k g : ℕ) (h : T (is_group g)) (b : A) → i < length (postfix t) → get_or (postfix t) i 0 ≡ g → k < length a
        → b ≡ at_leaf i g h → Passing t i a k → Passing t (i + 1) (set a k b) (k + 1)
    passing_group t i a k g h b q e l v p =
        rw (stacked_push a k b l, v) (sym (step_on t i (stacked z a k) (group g h) q (ap entry_of e ∙ entry_leaf g h)) ∙ p)

    pub passing_operator : (t : Tree) (i : ℕ) (a : List A) (k : ℕ) (o : Operator) (b : A) → i < length (postfix t) → get_or (postfix t) i 0 ≡ sign o → 2 ≤ k → k ≤ length a
        → b ≡ at_node i o (get_or a (k - 2) z) (get_or a (k - 1) z) → Passing t i a k → Passing t (i + 1) (set a (k - 2) b) (k - 1)
    passing_operator t i a k o b q e two l v p =
        let f : k - 1 ≡ k - 2 + 1 = omega arith in
        rw (f, stacked_push a (k - 2) b (omega arith), v)
        (sym (step_on t i (stacked z a k) (operator o) q (ap entry_of e ∙ entry_sign o) ∙ rw (stacked_two a k two)) ∙ p)

    none_some : {x : A} {X : Type 0} → none ≡ some (x ∷ []) → X
    none_some e = absurd (let w : ◌≡◌ {A = ℕ} 0 1 = cc in omega arith)

    -- an operator of a tree's list finds two operands
    pub passing_two : (t : Tree) (i : ℕ) (a : List A) (k : ℕ) (o : Operator) → i < length (postfix t) → get_or (postfix t) i 0 ≡ sign o → Passing t i a k → 2 ≤ k
    unfolding stacked
    passing_two t i a zero o q e p = none_some (sym (step_on t i (stacked z a zero) (operator o) q (ap entry_of e ∙ entry_sign o)) ∙ p ∙ pass_whole t)
    passing_two t i a (suc zero) o q e p = none_some (sym (step_on t i (stacked z a (suc zero)) (operator o) q (ap entry_of e ∙ entry_sign o)) ∙ p ∙ pass_whole t)
    passing_two t i a (suc (suc k)) o q e p = omega arith

    last_one : (i : ℕ) (a : List A) (k : ℕ) (b : A) → pass at_leaf at_node i [] (stacked z a k) ≡ some (b ∷ []) → get_or a 0 z ≡ b
    unfolding pass stacked
    last_one i a zero b e = cc
    last_one i a (suc zero) b e = cc
    last_one i a (suc (suc k)) b e = cc

    -- at the end the tree's value is alone on the stack
    pub passing_end : (t : Tree) (i : ℕ) (a : List A) (k : ℕ) → length (postfix t) ≤ i → Passing t i a k → get_or a 0 z ≡ fold at_leaf at_node 0 t
    passing_end t i a k h p =
        last_one i a k (fold at_leaf at_node 0 t) (ap (λ (m : List ℕ). pass at_leaf at_node i m (stacked z a k)) (sym (drop_of_length-le (postfix t) h)) ∙ (p ∙ pass_whole t))
