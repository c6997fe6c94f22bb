-- What a part says of the list, where it begins, and what the scans find around it.
use mathlib.Core.Path.{◌≡◌, refl, sym, ap, ◌∙◌}
use mathlib.Core.List.{List, [], ◌∷◌, ◌++◌, append_assoc, reverse, reverse-append}
use Prim.Native.Nat.{ℕ, ◌+◌, ◌-◌, ◌≤◌, ◌<◌}
use native.Mathlib.Omega.{arith}
use lib.Dec.{T}
use lib.ListN.{length, get_or, take, drop, length-append, length-reverse}
use lib.Seq.{take_at, drop_at, get_or_at, get_or-drop}
use Rattle.tree.specs.Tree.{Operator, Tree, leaf, node, is_group, sign, postfix, size}
use Rattle.tree.specs.Context.{Side, left, right, Frame, frame, plug, before}
use Rattle.tree.proofs.ContextLaws.{after, postfix_plug, found_at}
use Rattle.tree.specs.Parse.{locate}
use Rattle.tree.specs.InnerPart.{Part, kind_of, above_of}
use Rattle.tree.specs.InnerScan.{onward, backward}
use Rattle.std.specs.Prelude.{Option, Some, None}
use Rattle.tree.specs.declared.Stretch.{Stretch}
use Rattle.tree.specs.declared.Operand.{Operand}
use Rattle.tree.proofs.TreeLaws.{postfix_length, size_positive}
use Rattle.tree.proofs.ParseLaws.{IsTree, tree_length}
use Rattle.tree.proofs.ScanLaws.{onward_postfix, onward_sign, backward_postfix}

-- ---- the list around a part
module _ {l : List ℕ} {f t : ℕ} {a : Tree} {c : List Frame} (P : Part l f t a c) where
  pub part_list : l ≡ before c ++ (postfix a ++ after c)
  part_list = P.whole ∙ postfix_plug a c

  pub part_length : length l ≡ t + length (after c)
  part_length = ap length part_list ∙ simp (length-append, postfix_length) (omega (arith, P.begins, P.ends))

  head_length : length (before c ++ postfix a) ≡ t
  head_length = simp (length-append, postfix_length) (omega (arith, P.begins, P.ends))

  pub part_split : l ≡ (before c ++ postfix a) ++ after c
  part_split = part_list ∙ sym (append_assoc (before c) (postfix a) (after c))

  pub part_drop : drop t l ≡ after c
  part_drop = ap (drop t) part_split ∙ drop_at (before c ++ postfix a) (after c) t head_length

  pub part_take : take f l ≡ before c
  part_take = ap (take f) part_list ∙ take_at (before c) (postfix a ++ after c) f (sym P.begins)

  part_head : take t l ≡ before c ++ postfix a
  part_head = ap (take t) part_split ∙ take_at (before c ++ postfix a) (after c) t head_length

  -- the part's own entries
  pub part_own : take (t - f) (drop f l) ≡ postfix a
  part_own =
      ap (λ (x : List ℕ). take (t - f) (drop f x)) part_list
      ∙ ap (take (t - f)) (drop_at (before c) (postfix a ++ after c) f (sym P.begins))
      ∙ take_at (postfix a) (after c) (t - f) (postfix_length a ∙ omega (arith, P.ends))

  -- what stands past the part's end
  pub part_at_lem : (i : ℕ) → get_or l (t + i) 0 ≡ get_or (after c) i 0
  part_at_lem i = sym (get_or-drop t l i 0) ∙ ap (λ (x : List ℕ). get_or x i 0) part_drop

  -- the scan back from the part's end finds where it begins
  pub part_begins : backward 1 (reverse (take t l)) ≡ f
  part_begins =
      ap (λ (x : List ℕ). backward 1 (reverse x)) part_head ∙ ap (backward 1) (reverse-append (before c) (postfix a))
      ∙ backward_postfix a 1 (reverse (before c)) (omega arith) ∙ length-reverse (before c) ∙ sym P.begins

-- ---- a part's own entry, where its last entry is at e
module _ {l : List ℕ} {f : ℕ} {c : List Frame} (e : ℕ) where
  pub part_leaf : {g : ℕ} {h : T (is_group g)} → Part l f (e + 1) (leaf g h) c → get_or l e 0 ≡ g
  unfolding postfix size
  part_leaf {g} {h} P = ap (λ (x : List ℕ). get_or x e 0) (part_list P) ∙ get_or_at (before c) g (after c) 0 e (omega (arith, P.begins, P.ends))

  pub part_node : {o : Operator} {x y : Tree} → Part l f (e + 1) (node o x y) c → get_or l e 0 ≡ sign o
  unfolding postfix size
  part_node {o} {x} {y} P =
      ap (λ (z : List ℕ). get_or z e 0) (part_list P ∙ regroup (before c) (after c))
      ∙ get_or_at (before c ++ (postfix x ++ postfix y)) (sign o) (after c) 0 e
      (length-append (before c) (postfix x ++ postfix y) ∙ omega (arith, length-append (postfix x) (postfix y), postfix_length x, postfix_length y, P.begins, P.ends))
    where
      regroup : (p q : List ℕ) → p ++ ((postfix x ++ (postfix y ++ (sign o ∷ []))) ++ q) ≡ (p ++ (postfix x ++ postfix y)) ++ (sign o ∷ q)
      regroup p q = simp append_assoc

-- ---- the parts of a node's operands
module _ {l : List ℕ} {f t : ℕ} {o : Operator} {x y : Tree} {c : List Frame} (P : Part l f t (node o x y) c) where
  pub part_ends : t ≡ f + size x + size y + 1
  unfolding size
  part_ends = omega (arith, P.ends)

  pub part_left : (middle : ℕ) → middle ≡ f + size x → Part l f middle x (frame left o y ∷ c)
  unfolding plug before
  part_left middle h = record { whole = P.whole; begins = P.begins; ends = h }

  pub part_right : (middle end : ℕ) → middle ≡ f + size x → end + 1 ≡ t → Part l middle end y (frame right o x ∷ c)
  unfolding plug before
  part_right middle end h k = record {
    whole = P.whole;
    begins = omega (arith, P.begins, length-append (before c) (postfix x), postfix_length x);
    ends = omega (arith, part_ends);
  }

-- the node at a position of a tree's list is a part
pub part_of_place : (t : Tree) (p from : ℕ) → p < size t → from ≡ length (before (locate t [] p).above) → Part (postfix t) from (p + 1) (locate t [] p).part (locate t [] p).above
unfolding plug before
part_of_place t p from h e =
    let F = found_at t [] p h in
    record { whole = ap postfix (sym F.same); begins = e; ends = omega (arith, F.place) }

pub part_of_entry : {l : List ℕ} (I : IsTree l) (p : ℕ) → p < length l
    → Part l (length (before (locate I.tree [] p).above)) (p + 1) (locate I.tree [] p).part (locate I.tree [] p).above
part_of_entry I p h =
    let P = part_of_place I.tree p _ (omega (arith, tree_length I)) refl in
    record { whole = I.list ∙ P.whole; begins = P.begins; ends = P.ends }

-- ---- what the scans find, for the innermost frame
up_left : (o : Operator) (b : Tree) (c : List Frame) → onward 0 (after (frame left o b ∷ c)) ≡ size b
unfolding after
up_left o b c = onward_postfix b 0 (sign o ∷ after c) ∙ simp (onward_sign o 1 (after c) (omega arith)) (omega arith)

up_right : (o : Operator) (b : Tree) (c : List Frame) → onward 0 (after (frame right o b ∷ c)) ≡ 0
unfolding after
up_right o b c = onward_sign o 0 (after c) (omega arith)

back_right : (o : Operator) (b : Tree) (c : List Frame) → backward 1 (reverse (before (frame right o b ∷ c))) ≡ length (before c)
unfolding before
back_right o b c = ap (backward 1) (reverse-append (before c) (postfix b)) ∙ backward_postfix b 1 (reverse (before c)) (omega arith) ∙ length-reverse (before c)

pub after_left : (o : Operator) (b : Tree) (c : List Frame) → length (after (frame left o b ∷ c)) ≡ size b + 1 + length (after c)
unfolding after
after_left o b c = simp (length-append, postfix_length) (omega arith)

pub after_right : (o : Operator) (b : Tree) (c : List Frame) → length (after (frame right o b ∷ c)) ≡ 1 + length (after c)
unfolding after
after_right o b c = omega arith

at_left : (o : Operator) (b : Tree) (c : List Frame) → get_or (after (frame left o b ∷ c)) (size b) 0 ≡ sign o
unfolding after
at_left o b c = get_or_at (postfix b) (sign o) (after c) 0 (size b) (postfix_length b)

pub before_right : (o : Operator) (b : Tree) (c : List Frame) → length (before (frame right o b ∷ c)) ≡ length (before c) + size b
unfolding before
before_right o b c = simp (length-append, postfix_length)

-- the operator's index, where the part is that operator's operand
found : {l : List ℕ} {f t p : ℕ} {a : Tree} (c : List Frame) → Part l f t a c → p ≡ t + onward 0 (drop t l) → p ≡ t + onward 0 (after c)
found {l} {f} {t} c P e = e ∙ ap (λ (x : List ℕ). t + onward 0 x) (part_drop P)

-- ---- the three answers of `above_part`
-- the operator at p, by its entry
abbrev pub OperandAt : List ℕ → ℕ → Side → Option Operand → Type 0
OperandAt l p s k = (o : Operator) → get_or l p 0 ≡ sign o → k ≡ kind_of s o

module _ {l : List ℕ} (s : Stretch) where
  pub is_root : (a : Tree) (c : List Frame) → Part l s.from s.to a c → length l ≤ s.to + onward 0 (drop s.to l) → None ≡ above_of s c
  unfolding above_of
  is_root a [] P h = refl
  is_root a (frame left o b ∷ c) P h = absurd (omega (arith, found _ P refl, up_left o b c, after_left o b c, part_length P))
  is_root a (frame right o b ∷ c) P h = absurd (omega (arith, found _ P refl, up_right o b c, after_right o b c, part_length P))

  pub is_left : (p : ℕ) (a : Tree) (c : List Frame) → Part l s.from s.to a c → p ≡ s.to + onward 0 (drop s.to l) → p < length l → (p ≡ s.to → ⊥) → (k : Option Operand) → OperandAt l p left k
      → Some (record { operand = k; sibling = record { from = s.to; to = p }; parent = record { from = s.from; to = p + 1 } }) ≡ above_of s c
  unfolding above_of
  is_left p a [] P e h n k ke = absurd (unfold after in omega (arith, found _ P e, part_length P))
  is_left p a (frame right o b ∷ c) P e h n k ke = absurd (omega (arith, found _ P e, up_right o b c))
  is_left p a (frame left o b ∷ c) P e h n k ke =
      let q : p ≡ s.to + size b = omega (arith, found _ P e, up_left o b c) in
      let x : get_or l p 0 ≡ sign o = ap (λ (i : ℕ). get_or l i 0) q ∙ part_at_lem P (size b) ∙ at_left o b c in
      cc (ke o x)

  pub is_right : (p from : ℕ) (a : Tree) (c : List Frame) → Part l s.from s.to a c → p ≡ s.to + onward 0 (drop s.to l) → p < length l → p ≡ s.to
      → from ≡ backward 1 (reverse (take s.from l)) → (k : Option Operand) → OperandAt l p right k
      → Some (record { operand = k; sibling = record { from = from; to = s.from }; parent = record { from = from; to = p + 1 } }) ≡ above_of s c
  unfolding above_of
  is_right p from a [] P e h n w k ke = absurd (unfold after in omega (arith, part_length P))
  is_right p from a (frame left o b ∷ c) P e h n w k ke = absurd (omega (arith, found _ P e, up_left o b c, size_positive b))
  is_right p from a (frame right o b ∷ c) P e h n w k ke =
      let q : p ≡ s.to + 0 = omega arith in
      let x : get_or l p 0 ≡ sign o = ap (λ (i : ℕ). get_or l i 0) q ∙ part_at_lem P 0 ∙ (unfold after in refl) in
      let y : from ≡ length (before c) = w ∙ ap (λ (x : List ℕ). backward 1 (reverse x)) (part_take P) ∙ back_right o b c in
      let z : from ≡ s.from - size b = omega (arith, P.begins, before_right o b c) in
      cc (ke o x)
