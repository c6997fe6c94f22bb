-- What the writer leaves: an instruction's four numbers; a leaf's code; and a node's, from the code of its two children.
use mathlib.Core.Path.{◌≡◌, sym, ap, ◌∙◌}
use mathlib.Core.Bool.{Bool, cond}
use mathlib.Core.List.{List, [], ◌∷◌, ◌++◌, append_assoc}
use Prim.Native.Nat.{ℕ, ◌+◌, ◌*◌, ◌≤◌, ◌<◌}
use native.Mathlib.Omega.{arith}
use lib.Dec.{T}
use lib.ListN.{length, get_or}
use Rattle.tree.specs.Tree.{Operator, union, Tree, leaf, node, sign, is_group, size}
use Rattle.tree.specs.InnerWriting.{Wrote}
use Rattle.tree.proofs.TreeLaws.{size_positive, group_most}
use Rattle.tree.proofs.PartLaws.{part_leaf, part_node}
use Rattle.tree.proofs.WritingLaws.{wrote_then, wrote_as}
use Rattle.player.specs.Limits.{register_count}
use Rattle.player.specs.Instructions.{load_kind, kind_of, numbers_of}
use Rattle.player.proofs.InstructionLaws.{numbers_append}
use Rattle.code.specs.Need.{need, left_first}
use Rattle.code.proofs.NeedLaws.{first, second, need_node, need_positive}
use Rattle.notes.specs.declared.Note.{Note}
use Rattle.notes.specs.InnerNotes.{NodeAt, Noted, HasChildren, ChildrenInOrder}
use Rattle.notes.proofs.NoteLaws.{as_leaf, node_inside, split, node_one, node_two, below_one, below_two, left_came}
use Rattle.coder.specs.InnerNotes.{Writable}
use Rattle.code.specs.Code.{operation, code}
use Rattle.code.proofs.CodeLaws.{size_node}
use Rattle.code.proofs.NewerLaws.{code_leaf, code_node, length_numbers}

-- ---- the numbers of a tree's code
numbers_leaf : (g : ℕ) (h : T (is_group g)) (k : ℕ) → numbers_of (code (leaf g h) k) ≡ load_kind ∷ k ∷ g ∷ 0 ∷ []
unfolding numbers_of
numbers_leaf g h k = ap numbers_of (code_leaf g h k)

numbers_node : (o : Operator) (l r : Tree) (k a b : ℕ) → a ≡ cond (left_first l r) k (k + 1) → b ≡ cond (left_first l r) (k + 1) k
    → (numbers_of (code (first l r) k) ++ numbers_of (code (second l r) (k + 1))) ++ (kind_of (operation o) ∷ k ∷ a ∷ b ∷ []) ≡ numbers_of (code (node o l r) k)
unfolding numbers_of
numbers_node o l r k a b e f =
    rw (code_node o l r k, numbers_append, numbers_append, e, f) (simp append_assoc)

-- what a call for the node at `end` promises: the code of its part
abbrev pub Writes : List ℕ → ℕ → ℕ → List ℕ → ℕ → List ℕ → ℕ → Type 0
Writes l e k out at out' next = (a : Tree) → NodeAt l e a → Wrote out at out' next (numbers_of (code a k))

module _ (l : List ℕ) (e k : ℕ) where
  pub writes_leaf : {out out' : List ℕ} {at next : ℕ} → get_or l e 0 < sign union → Wrote out at out' next (load_kind ∷ k ∷ get_or l e 0 ∷ 0 ∷ []) → Writes l e k out at out' next
  writes_leaf lt w a v = let z = as_leaf a v lt in wrote_as w (sym (ap (λ (t : Tree). numbers_of (code t k)) z.1 ∙ numbers_leaf _ z.0 k))

-- what the two calls for the children ask, and the operator's own instruction
pub record Ready (l : List ℕ) (e k : ℕ) (out : List ℕ) (at one two : ℕ) : Type 0 where
  pub less_one : one < e
  pub less_two : two < e
  pub first_call : Writable l one k out at
  pub second_call : (out₁ : List ℕ) (next : ℕ) → Writes l one k out at out₁ next → Writable l two (k + 1) out₁ next
  pub own_room : (out₁ out₂ : List ℕ) (next last : ℕ) → Writes l one k out at out₁ next → Writes l two (k + 1) out₁ next out₂ last → last + 4 ≤ length out₂

module _ {l : List ℕ} {e k : ℕ} {out : List ℕ} {at : ℕ} (W : Writable l e k out at) where
  pub end_inside : e < length l
  end_inside = node_inside W.root

  pub leaf_room : at + 4 ≤ length out
  leaf_room = omega (arith, W.room, size_positive W.part)

  module _ {n : List Note} (N : Noted l n) (le : sign union ≤ get_or l e 0) where
    pub inner_node : HasChildren n e × (k + 1 < register_count)
    inner_node = go W.part W.root W.registers
      where
        go : (a : Tree) → NodeAt l e a → k + need a ≤ register_count → HasChildren n e × (k + 1 < register_count)
        go (leaf g h) v r = absurd (omega (arith, part_leaf e v.is, group_most g h))
        go (node o x y) v r = (
          (split v N.all (omega (arith, end_inside))).inner (omega (arith, end_inside, N.few)),
          omega (arith, need_node o x y, need_positive (second x y)),
        )

    pub ready : {one two : ℕ} {f : Bool} → ChildrenInOrder n e one two f → Ready l e k out at one two
    ready {one} {two} {f} O = go W.part W.root W.registers W.room
      where
        go : (a : Tree) → NodeAt l e a → k + need a ≤ register_count → at + 4 * size a ≤ length out → Ready l e k out at one two
        go (leaf g h) v r q = absurd (omega (arith, part_leaf e v.is, group_most g h))
        go (node o x y) v r q =
            let S = split v N.all (omega (arith, end_inside)) in
            let node_need = need_node o x y in
            let Z = size_node o x y in
            let u = node_one S O in
            let w = node_two S O in
            record {
              less_one = below_one S O;
              less_two = below_two S O;
              first_call = record { part = first x y; root = u; registers = omega arith; room = omega arith };
              second_call = λ out₁ next c. let d = c (first x y) u in record {
                part = second x y;
                root = w;
                registers = omega arith;
                room = omega (arith, d.ends, d.same, length_numbers (first x y) k);
              };
              own_room = λ out₁ out₂ next last c d.
                  let f = c (first x y) u in
                  let g = d (second x y) w in
                  omega (arith, f.ends, f.same, g.ends, g.same, length_numbers (first x y) k, length_numbers (second x y) (k + 1));
            }

    pub writes_node : {one two a b kind next last after : ℕ} {f : Bool} {out₁ out₂ out₃ : List ℕ} → ChildrenInOrder n e one two f → a ≡ cond f k (k + 1) → b ≡ cond f (k + 1) k
        → Writes l one k out at out₁ next → Writes l two (k + 1) out₁ next out₂ last
        → ((o : Operator) → get_or l e 0 ≡ sign o → kind ≡ kind_of (operation o)) → Wrote out₂ last out₃ after (kind ∷ k ∷ a ∷ b ∷ [])
        → Writes l e k out at out₃ after
    writes_node O α β c d K p (leaf g h) v = absurd (omega (arith, part_leaf e v.is, group_most g h))
    writes_node {one} {two} {a} {b} {kind} O α β c d K p (node o x y) v =
        let S = split v N.all (omega (arith, end_inside)) in
        wrote_as (wrote_then (wrote_then (c (first x y) (node_one S O)) (d (second x y) (node_two S O))) p)
        (rw (K o (part_node e v.is)) (numbers_node o x y k a b (α ∙ rw (left_came S O)) (β ∙ rw (left_came S O))))
