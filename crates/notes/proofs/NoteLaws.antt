-- Notes of a tree's nodes. A node's part tells the parts of its children, so the notes of the nodes before it tell its own, and
-- which child comes first.
use mathlib.Core.Path.{◌≡◌, refl, sym, ap, ap₂, ◌∙◌}
use mathlib.Core.Bool.{Bool, true, false, cond}
use mathlib.Core.List.{List, [], ◌∷◌}
use Prim.Native.Nat.{ℕ, suc, ◌+◌, ◌-◌, ◌≤◌, ◌<◌}
use native.Mathlib.Omega.{arith}
use borrow.Author.Tests.{eqb-true, eqb-false, le-leb, lt-leb}
use lib.Dec.{T, eqb, leb}
use lib.ListN.{length, get_or, set, length-set}
use lib.Seq.{get_or-set_same, get_or-set_other}
use Rattle.tree.specs.Tree.{Operator, union, difference, intersection, Tree, leaf, node, is_group, sign, size, most_nodes}
use Rattle.tree.specs.Context.{left, right, frame, before}
use Rattle.tree.specs.Parse.{tree_of, is_some, locate}
use Rattle.tree.proofs.TreeLaws.{size_positive, group_most, sign_least}
use Rattle.tree.proofs.ParseLaws.{IsTree, the_tree, tree_few}
use Rattle.tree.proofs.PartLaws.{part_length, part_leaf, part_node, part_ends, part_left, part_right, part_of_entry}
use Rattle.code.specs.Need.{need_of, need, left_first}
use Rattle.notes.specs.InnerNotes.{NodeAt, no_note, note_at, NotedBelow, middle, left_is_first, HasChildren, ChildrenInOrder}
use Rattle.notes.specs.declared.Note.{Note}
use Rattle.tree.specs.InnerWriting.{Wrote}
use Rattle.player.specs.Instructions.{add, cut, both, kind_of}
use Rattle.code.specs.Code.{operation}
use Rattle.code.proofs.NeedLaws.{first, second, need_most}

-- the part of a node whose entry is below the operators is a leaf
pub as_leaf : {l : List ℕ} {e : ℕ} (a : Tree) → NodeAt l e a → get_or l e 0 < sign union → (h : T (is_group (get_or l e 0))) × (a ≡ leaf (get_or l e 0) h)
as_leaf {l} {e} (leaf g h) v lt = rw (part_leaf e v.is) (h, refl)
as_leaf {l} {e} (node o x y) v lt = absurd (omega (arith, part_node e v.is, sign_least o))

-- ---- the parts of a node's children
module _ {l : List ℕ} {e : ℕ} {o : Operator} {x y : Tree} (v : NodeAt l e (node o x y)) where
  unfoldable pub right_node : NodeAt l (e - 1) y
  right_node = record {
    from = v.from + size x;
    above = frame right o x ∷ v.above;
    is = part_right v.is (v.from + size x) (e - 1 + 1) refl (omega (arith, part_ends v.is, size_positive y));
  }

  unfoldable pub left_node : (d : ℕ) → d + 1 ≡ v.from + size x → NodeAt l d x
  left_node d h = record { from = v.from; above = frame left o y ∷ v.above; is = part_left v.is (d + 1) h }

-- a node's entry is inside the list
pub node_inside : {l : List ℕ} {e : ℕ} {a : Tree} → NodeAt l e a → e < length l
node_inside v = omega (arith, part_length v.is)

-- what the notes of the nodes before a node tell of it
pub record Split (l : List ℕ) (n : List Note) (e : ℕ) (o : Operator) (x y : Tree) (v : NodeAt l e (node o x y)) : Type 0 where
  pub begins : middle n e ≡ v.from + size x
  pub ends : e ≡ v.from + size x + size y
  pub right_at : NodeAt l (e - 1) y
  pub left_at : NodeAt l (middle n e - 1) x
  pub right_need : (note_at n (e - 1)).need ≡ need y
  pub left_need : (note_at n (middle n e - 1)).need ≡ need x
  pub left_start : (note_at n (middle n e - 1)).start ≡ v.from
  pub order : left_is_first n e ≡ left_first x y
  pub inner : e < most_nodes → HasChildren n e

pub split : {l : List ℕ} {n : List Note} {e i : ℕ} {o : Operator} {x y : Tree} (v : NodeAt l e (node o x y)) → NotedBelow l n i → e ≤ i → Split l n e o x y v
unfolding right_node left_node
split {l} {n} {e} {i} {o} {x} {y} v N h =
    let E : e ≡ v.from + size x + size y = omega (arith, part_ends v.is) in
    let px = size_positive x in
    let py = size_positive y in
    let m : middle n e ≡ v.from + size x = N.start (e - 1) y (right_node v) (omega arith) in
    let L : NodeAt l (middle n e - 1) x = left_node v (middle n e - 1) (omega arith) in
    let p : (note_at n (e - 1)).need ≡ need y = N.needed (e - 1) y (right_node v) (omega arith) in
    let q : (note_at n (middle n e - 1)).need ≡ need x = N.needed (middle n e - 1) x L (omega arith) in
    let b : (note_at n (middle n e - 1)).start ≡ v.from = N.start (middle n e - 1) x L (omega arith) in
    record {
      begins = m;
      ends = E;
      right_at = right_node v;
      left_at = L;
      right_need = p;
      left_need = q;
      left_start = b;
      order = ap₂ leb p q;
      inner = λ k. record { high = k; left = omega arith; right = omega arith; low = omega arith };
    }

-- ---- the pass that notes
pub noted_none : (l : List ℕ) (n : List Note) → NotedBelow l n 0
noted_none l n = record { start = λ e a v h. absurd (omega arith); needed = λ e a v h. absurd (omega arith) }

module _ {l : List ℕ} {n : List Note} {i : ℕ} (N : NotedBelow l n i) (p : i < length n) where
  noted_next : (x : Note) → ((e : ℕ) (a : Tree) (v : NodeAt l e a) → e ≡ i → (x.start ≡ v.from) × (x.need ≡ need a)) → NotedBelow l (set n i x) (i + 1)
  noted_next x here = record {
    start = λ e a v h. (go e a v h (eqb e i) refl).0;
    needed = λ e a v h. (go e a v h (eqb e i) refl).1;
  }
    where
      go : (e : ℕ) (a : Tree) (v : NodeAt l e a) → e < i + 1 → (b : Bool) → eqb e i ≡ b → ((note_at (set n i x) e).start ≡ v.from) × ((note_at (set n i x) e).need ≡ need a)
      go e a v h true k =
          let same : note_at (set n i x) e ≡ x = ap (note_at (set n i x)) (eqb-true e i k) ∙ get_or-set_same n i x no_note p in
          rw same (here e a v (eqb-true e i k))
      go e a v h false k =
          let other : note_at (set n i x) e ≡ note_at n e = get_or-set_other n i e x no_note (eqb-false e i k) in
          rw other (N.start e a v (omega (arith, eqb-false e i k)), N.needed e a v (omega (arith, eqb-false e i k)))

  pub noted_leaf : get_or l i 0 < sign union → NotedBelow l (set n i (record { start = i; need = 1 })) (i + 1)
  noted_leaf h = noted_next (record { start = i; need = 1 }) (λ e a v z. go e a v z (rw z h))
    where
      go : (e : ℕ) (a : Tree) (v : NodeAt l e a) → e ≡ i → get_or l e 0 < sign union → (i ≡ v.from) × (1 ≡ need a)
      go e (leaf g k) v z lt = unfold size need in (omega (arith, v.is.ends), refl)
      go e (node o x y) v z lt = absurd (omega (arith, part_node e v.is, sign_least o))

  pub noted_node : sign union ≤ get_or l i 0
      → NotedBelow l (set n i (record { start = (note_at n (middle n i - 1)).start; need = need_of (note_at n (middle n i - 1)).need (note_at n (i - 1)).need })) (i + 1)
  noted_node h = noted_next _ (λ e a v z. go e a v z (rw z h))
    where
      go : (e : ℕ) (a : Tree) (v : NodeAt l e a) → e ≡ i → sign union ≤ get_or l e 0
          → ((note_at n (middle n i - 1)).start ≡ v.from) × (need_of (note_at n (middle n i - 1)).need (note_at n (i - 1)).need ≡ need a)
      go e (leaf g k) v z le = absurd (omega (arith, part_leaf e v.is, group_most g k))
      go e (node o x y) v z le =
          let S = split v N (omega arith) in
          rw (sym z) (S.left_start, (unfold need in ap₂ need_of S.left_need S.right_need))

-- ---- every entry of a tree's list is a node
pub node_at : {l : List ℕ} (I : IsTree l) (e : ℕ) → e < length l → NodeAt l e (locate I.tree [] e).part
node_at I e h = record { from = length (before (locate I.tree [] e).above); above = (locate I.tree [] e).above; is = part_of_entry I e h }

-- ---- what the code computes from the notes, by which child comes first
module _ (n : List Note) (e : ℕ) where
  pub ordered_left : (note_at n (e - 1)).need ≤ (note_at n (middle n e - 1)).need → ChildrenInOrder n e (middle n e - 1) (e - 1) true
  ordered_left h = let f = le-leb (note_at n (e - 1)).need (note_at n (middle n e - 1)).need h in record { one = rw f; two = rw f; side = rw f }

  pub ordered_right : (note_at n (middle n e - 1)).need < (note_at n (e - 1)).need → ChildrenInOrder n e (e - 1) (middle n e - 1) false
  ordered_right h = let f = lt-leb (note_at n (e - 1)).need (note_at n (middle n e - 1)).need h in record { one = rw f; two = rw f; side = rw f }

-- ---- a node's children, in the order of their code
module _ {l : List ℕ} {n : List Note} {e : ℕ} {o : Operator} {x y : Tree} {v : NodeAt l e (node o x y)} (S : Split l n e o x y v) {one two : ℕ} {f : Bool} (O : ChildrenInOrder n e one two f) where
  pub node_one : NodeAt l one (first x y)
  node_one = rw (O.one, S.order) (go (left_first x y))
    where
      go : (f : Bool) → NodeAt l (cond f (middle n e - 1) (e - 1)) (cond f x y)
      go true = S.left_at
      go false = S.right_at

  pub node_two : NodeAt l two (second x y)
  node_two = rw (O.two, S.order) (go (left_first x y))
    where
      go : (f : Bool) → NodeAt l (cond f (e - 1) (middle n e - 1)) (cond f y x)
      go true = S.right_at
      go false = S.left_at

  pub below_one : one < e
  below_one = rw O.one (go (left_is_first n e))
    where
      go : (f : Bool) → cond f (middle n e - 1) (e - 1) < e
      go true = omega (arith, S.begins, S.ends, size_positive y)
      go false = omega (arith, S.ends, size_positive y)

  pub below_two : two < e
  below_two = rw O.two (go (left_is_first n e))
    where
      go : (f : Bool) → cond f (e - 1) (middle n e - 1) < e
      go true = omega (arith, S.ends, size_positive y)
      go false = omega (arith, S.begins, S.ends, size_positive y)

  pub left_came : f ≡ left_first x y
  left_came = O.side ∙ S.order

-- ---- what the pass finds by its notes at an operator of a tree's list
pub record Operands (n : List Note) (i : ℕ) : Type 0 where
  pub some : 1 ≤ i
  pub left : 1 ≤ middle n i
  pub right : middle n i < i
  pub small : (note_at n (middle n i - 1)).need < 255

pub operands : (l : List ℕ) (n : List Note) (i : ℕ) → is_some (tree_of l) ≡ true → NotedBelow l n i → i < length l → sign union ≤ get_or l i 0 → Operands n i
operands l n i h N lt le = go _ (node_at (the_tree l h) i lt)
  where
    few : length l ≤ most_nodes
    few = tree_few l h

    go : (a : Tree) → NodeAt l i a → Operands n i
    go (leaf g k) v = absurd (omega (arith, part_leaf i v.is, group_most g k))
    go (node o x y) v =
        let S = split v N (omega arith) in
        let p = size_positive x in
        let q = size_positive y in
        let E = S.ends in
        let m = S.begins in
        record {
          some = omega arith;
          left = omega arith;
          right = omega arith;
          small = omega (arith, S.left_need, need_most x (omega (arith, few)));
        }

-- ---- an instruction
-- the kind of an operator's instruction, by one test of its number after the other
pub kind_by_number : (x : ℕ) (o : Operator) → x ≡ sign o
    → cond (eqb x (sign union)) (kind_of add) (cond (eqb x (sign difference)) (kind_of cut) (kind_of both)) ≡ kind_of (operation o)
kind_by_number x union h = rw h
kind_by_number x difference h = rw h
kind_by_number x intersection h = rw h

pub wrote_four : (out : List ℕ) (at a b c d : ℕ) → Wrote out at (set (set (set (set out at a) (at + 1) b) (at + 2) c) (at + 3) d) (at + 4) (a ∷ b ∷ c ∷ d ∷ [])
wrote_four out at a b c d =
    let one : at + 1 ≡ suc at = omega arith in
    let two : at + 2 ≡ suc (suc at) = omega arith in
    let three : at + 3 ≡ suc (suc (suc at)) = omega arith in
    record { list = rw (one, two, three); ends = refl; same = simp length-set }
