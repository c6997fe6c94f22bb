-- The scans `scan_onward` and `scan_backward`: one turn of each loop, and what they pass in a tree's list.
use mathlib.Core.Path.{◌≡◌, refl, ap, ◌∙◌}
use mathlib.Core.Bool.{Bool, true, false, cond, true≢false}
use mathlib.Core.List.{List, [], ◌∷◌, ◌++◌, append_assoc, reverse, reverse-append}
use Prim.Native.Nat.{ℕ, suc, ◌+◌, ◌-◌, ◌≤◌, ◌<◌}
use native.Mathlib.Omega.{arith}
use borrow.Author.Tests.{le-leb, lt-leb, ne_eqb}
use lib.Dec.{T, leb}
use lib.ListN.{length, get_or, take, drop, length-reverse, drop_of_length-le}
use lib.Seq.{take-suc, length-take-le}
use Rattle.tree.specs.Tree.{Operator, union, difference, intersection, Tree, leaf, node, is_group, sign, postfix, size}
use Rattle.tree.specs.Pass.{classify, entry_of}
use Rattle.tree.specs.InnerScan.{entry_kind, is_operator, onward, backward}
use Rattle.tree.specs.declared.EntryKind.TheVariants.{Operator as AnOperator, Neither}
use Rattle.tree.proofs.TreeLaws.{group_most}
use Rattle.tree.proofs.PassLaws.{here, entry_sign}

-- ---- one turn of each loop
module _ (l : List ℕ) (i k : ℕ) where
  pub onward_end : length l ≤ i → onward k (drop i l) ≡ 0
  unfolding onward
  onward_end h = rw (drop_of_length-le l h)

  pub onward_stop : i < length l → sign union ≤ get_or l i 0 → k ≤ 1 → onward k (drop i l) ≡ 0
  unfolding onward
  onward_stop h o n = rw (here l i h) (simp (le-leb _ _ o, le-leb _ _ n))

  pub onward_operator : i < length l → sign union ≤ get_or l i 0 → 1 < k → onward k (drop i l) ≡ onward (k - 1) (drop (i + 1) l) + 1
  unfolding onward
  onward_operator h o n = rw (here l i h) (simp (le-leb _ _ o, lt-leb _ _ n))

  pub onward_leaf : i < length l → get_or l i 0 < sign union → onward k (drop i l) ≡ onward (k + 1) (drop (i + 1) l) + 1
  unfolding onward
  onward_leaf h o = rw (here l i h) (simp (lt-leb _ _ o))

pub backward_none : (l : List ℕ) (i n : ℕ) → i ≤ 0 → backward n (reverse (take i l)) ≡ 0
unfolding backward
backward_none l i n h = let z : i ≡ 0 = omega arith in rw z

module _ (l : List ℕ) (i n : ℕ) (p : 0 < i) (h : i ≤ length l) where
  reverse_take : reverse (take i l) ≡ get_or l (i - 1) 0 ∷ reverse (take (i - 1) l)
  reverse_take =
      let e : i ≡ suc (i - 1) = omega arith in
      ap (λ (k : ℕ). reverse (take k l)) e ∙ ap reverse (take-suc l (i - 1) 0 (omega arith))
      ∙ reverse-append (take (i - 1) l) (get_or l (i - 1) 0 ∷ [])

  pub backward_operator : sign union ≤ get_or l (i - 1) 0 → backward n (reverse (take i l)) ≡ backward (n + 1) (reverse (take (i - 1) l))
  unfolding backward
  backward_operator o = rw reverse_take (simp (le-leb _ _ o))

  pub backward_leaf : get_or l (i - 1) 0 < sign union → 1 < n → backward n (reverse (take i l)) ≡ backward (n - 1) (reverse (take (i - 1) l))
  unfolding backward
  backward_leaf o k = rw reverse_take (simp (lt-leb _ _ o, lt-leb _ _ k))

  pub backward_stop : get_or l (i - 1) 0 < sign union → n ≤ 1 → backward n (reverse (take i l)) ≡ i - 1
  unfolding backward
  backward_stop o k = rw reverse_take (simp (lt-leb _ _ o, le-leb _ _ k, length-reverse) (length-take-le (i - 1) l (omega arith)))

-- all turns of each loop, for `grind`
pub ruleset onward_turns = (onward_end, onward_stop, onward_operator, onward_leaf)

pub ruleset backward_turns = (backward_none, backward_stop, backward_operator, backward_leaf)

-- ---- over a tree's list
pub operator_sign_lem : (o : Operator) → is_operator (sign o) ≡ true
operator_sign_lem union = refl
operator_sign_lem difference = refl
operator_sign_lem intersection = refl

pub operator_leaf : (g : ℕ) → T (is_group g) → is_operator g ≡ false
operator_leaf g h = lt-leb (sign union) g (omega (arith, group_most g h))

-- a scan passes a tree's list as it passes one operand
pub onward_postfix : (t : Tree) (k : ℕ) (r : List ℕ) → onward k (postfix t ++ r) ≡ size t + onward (k + 1) r
unfolding onward postfix size
onward_postfix (leaf g h) k r = rw (operator_leaf g h) (omega arith)
onward_postfix (node o x y) k r =
    let e : k + 1 + 1 - 1 ≡ k + 1 = omega arith in
    rw (append_assoc (postfix x) (postfix y ++ (sign o ∷ [])) r, append_assoc (postfix y) (sign o ∷ []) r)
    (onward_postfix x k (postfix y ++ (sign o ∷ r))
    ∙ ap (λ (m : ℕ). size x + m) (onward_postfix y (k + 1) (sign o ∷ r))
    ∙ simp (operator_sign_lem o, lt-leb (k + 1 + 1) 1 (omega arith), e) (omega arith))

pub onward_sign : (o : Operator) (k : ℕ) (r : List ℕ) → k ≤ 1 → onward k (sign o ∷ r) ≡ 0
unfolding onward
onward_sign o k r h = simp (operator_sign_lem o, le-leb k 1 h)

backward_sign : (o : Operator) (n : ℕ) (r : List ℕ) → backward n (sign o ∷ r) ≡ backward (n + 1) r
unfolding backward
backward_sign o n r = rw (operator_sign_lem o)

reverse_node : (o : Operator) (x y r : List ℕ) → reverse (x ++ (y ++ (sign o ∷ []))) ++ r ≡ sign o ∷ (reverse y ++ (reverse x ++ r))
reverse_node o x y r = simp (reverse-append, append_assoc)

pub backward_postfix : (t : Tree) (n : ℕ) (r : List ℕ) → 0 < n → backward n (reverse (postfix t) ++ r) ≡ cond (leb n 1) (length r) (backward (n - 1) r)
unfolding postfix
backward_postfix (leaf g h) n r p = unfold backward in rw (operator_leaf g h)
backward_postfix (node o x y) n r p =
    let e : n + 1 - 1 ≡ n = omega arith in
    ap (backward n) (reverse_node o (postfix x) (postfix y) r)
    ∙ backward_sign o n (reverse (postfix y) ++ (reverse (postfix x) ++ r))
    ∙ backward_postfix y (n + 1) (reverse (postfix x) ++ r) (omega arith)
    ∙ ap (λ (b : Bool). cond b (length (reverse (postfix x) ++ r)) (backward (n + 1 - 1) (reverse (postfix x) ++ r))) (lt-leb (n + 1) 1 (omega arith))
    ∙ ap (λ (m : ℕ). backward m (reverse (postfix x) ++ r)) e
    ∙ backward_postfix x n r p

-- ---- an entry's kind, of an operator's sign and of a number that is neither (a group's: ParseLaws.antt)
module _ (x : ℕ) where
  pub kind_operator : (o : Operator) → x ≡ sign o → entry_kind (entry_of x) ≡ AnOperator
  kind_operator o e = ap entry_kind (ap entry_of e ∙ entry_sign o)

  pub kind_neither : is_group x ≡ false → ((o : Operator) → x ≡ sign o → ⊥) → entry_kind (entry_of x) ≡ Neither
  unfolding entry_of
  kind_neither e n = go (is_group x) refl e
    where
      go : (b : Bool) (q : is_group x ≡ b) → b ≡ false → entry_kind (classify x b q) ≡ Neither
      go true q f = absurd (true≢false f)
      go false q f = rw (ne_eqb x (sign union) (n union), ne_eqb x (sign difference) (n difference), ne_eqb x (sign intersection) (n intersection))
