-- What the writer leaves: a leaf's code; a node's, from the code of its two children; and the whole code, with SHOW at its end.
use mathlib.Core.Path.{◌≡◌, sym, subst, ◌∙◌}
use mathlib.Core.Bool.{Bool, true, false, cond}
use mathlib.Core.List.{List, [], ◌∷◌, ◌++◌, append_assoc}
use Prim.Native.Nat.{ℕ, ◌+◌, ◌-◌, ◌*◌, ◌≤◌, ◌<◌}
use native.Mathlib.Omega.{arith}
use lib.Dec.{T}
use lib.ListN.{length, get_or}
use Rattle.tree.specs.Tree.{Operator, union, Tree, leaf, node, sign, is_group, size, most_nodes}
use Rattle.tree.specs.Parse.{tree_of, is_some}
use Rattle.tree.specs.InnerWriting.{Wrote}
use Rattle.tree.proofs.TreeLaws.{size_positive, group_most}
use Rattle.tree.proofs.PartLaws.{part_leaf, part_node}
use Rattle.tree.proofs.ParseLaws.{tree_length, the_tree}
use Rattle.tree.proofs.WritingLaws.{wrote_then, wrote_as}
use Rattle.player.specs.Limits.{register_count}
use Rattle.player.specs.Instructions.{load_kind, kind_of}
use Rattle.older_player.specs.Instructions.{show_kind, numbers_of}
use Rattle.older_player.proofs.InstructionLaws.{numbers_append, numbers_length}
use Rattle.code.specs.Need.{need, left_first}
use Rattle.code.specs.Code.{operation}
use Rattle.code.specs.Waiting.{lowest, also_in}
use Rattle.code.specs.InnerWaiting.{waiting}
use Rattle.code.specs.Devices.{part_code, code_on, older_player}
use Rattle.code.specs.Effects.{older_effect}
use Rattle.code.proofs.NeedLaws.{first, second, need_node, need_positive, need_most}
use Rattle.code.proofs.WaitingLaws.{also_waiting, lowest_most, none_alike, none_waiting}
use Rattle.code.proofs.CodeLaws as laws
use Rattle.code.proofs.OlderLaws.{older_acts, older_length}
use Rattle.notes.specs.declared.Note.{Note}
use Rattle.notes.specs.InnerNotes.{NodeAt, note_at, Noted, HasChildren, ChildrenInOrder}
use Rattle.notes.proofs.NoteLaws.{as_leaf, node_inside, split, node_one, node_two, below_one, below_two, left_came}
use Rattle.std.proofs.Common.{Ok}
use Rattle.coder.proofs.CodingLaws.{root_node, all_written}
use Rattle.older_coder.specs.Coding.{least_buffer, Encodes}
use Rattle.older_coder.specs.InnerWriter.{waiting_in, behind, Writable, WrotePart}
use Rattle.older_coder.proofs.FlagLaws.{all_free, all_free_lem}

-- ---- the numbers of a part's code
abbrev own_numbers : List Bool → Tree → List ℕ
own_numbers w t = numbers_of (part_code older_player w t).own

numbers_leaf : (w : List Bool) (g : ℕ) (h : T (is_group g)) → own_numbers w (leaf g h) ≡ load_kind ∷ lowest w ∷ g ∷ 0 ∷ []
unfolding numbers_of
numbers_leaf w g h = rw (laws.part_leaf older_player w g h)

numbers_node : (w : List Bool) (o : Operator) (l r : Tree) → own_numbers w (node o l r)
    ≡ (own_numbers w (first l r) ++ own_numbers (also_in w (part_code older_player w (first l r)).register) (second l r))
    ++ (kind_of (operation o)
    ∷ cond (left_first l r) (part_code older_player w (first l r)).register (part_code older_player (also_in w (part_code older_player w (first l r)).register) (second l r)).register
    ∷ cond (left_first l r) (part_code older_player (also_in w (part_code older_player w (first l r)).register) (second l r)).register (part_code older_player w (first l r)).register
    ∷ 0 ∷ [])
unfolding numbers_of
numbers_node w o l r = rw (laws.part_node older_player w o l r, numbers_append, numbers_append) (simp append_assoc)

ends_at : {out out' xs : List ℕ} {at next last : ℕ} → next ≡ last → Wrote out at out' next xs → Wrote out at out' last xs
ends_at {out} {out'} {xs} {at} e w = subst (λ (n : ℕ). Wrote out at out' n xs) e w

-- what a call for the node at `end` promises
abbrev pub Writes : List ℕ → ℕ → List Bool → List ℕ → ℕ → List ℕ → ℕ → Type 0
Writes l e w out at out' register = (a : Tree) → NodeAt l e a → WrotePart out at out' register w a

-- a node's code ends where the notes say
pub behind_size : {l : List ℕ} {n : List Note} {e : ℕ} {a : Tree} → Noted l n → NodeAt l e a → (at : ℕ) → behind n e at ≡ at + 4 * size a
behind_size {l} {n} {e} {a} N v at = omega (arith, N.all.start e a v (node_inside v), v.is.ends)

leaf_ends : {out out' : List ℕ} {at next a b c d : ℕ} → Wrote out at out' next (a ∷ b ∷ c ∷ d ∷ []) → (g : ℕ) (h : T (is_group g)) → next ≡ at + 4 * size (leaf g h)
unfolding size
leaf_ends p g h = p.ends

module _ (l : List ℕ) (e : ℕ) (w : List Bool) where
  pub writes_leaf : {out out' : List ℕ} {at next register : ℕ} → get_or l e 0 < sign union → register ≡ lowest w → Wrote out at out' next (load_kind ∷ register ∷ get_or l e 0 ∷ 0 ∷ [])
      → Writes l e w out at out' register
  writes_leaf lt r p a v =
      let z = as_leaf a v lt in
      rw z.1 (record { code = ends_at (leaf_ends p _ z.0) (wrote_as p (rw r (sym (numbers_leaf w _ z.0)))); result = r ∙ rw (laws.part_leaf older_player w _ z.0) })

-- what `behind` asks
pub record Behind (n : List Note) (end at : ℕ) (out : List ℕ) : Type 0 where
  pub high : end < most_nodes
  pub low : (note_at n end).start ≤ end
  pub inside : behind n end at ≤ length out

pub behind_asks : {l : List ℕ} {n : List Note} {out : List ℕ} {e : ℕ} {a : Tree} → Noted l n → NodeAt l e a → (at : ℕ) → at + 4 * size a ≤ length out → Behind n e at out
behind_asks {l} {n} {out} {e} {a} N v at h = record {
  high = omega (arith, node_inside v, N.few);
  low = omega (arith, N.all.start e a v (node_inside v), v.is.ends, size_positive a);
  inside = omega (arith, behind_size N v at);
}

-- what the two calls for the children ask, and the operator's own instruction
pub record Ready (l : List ℕ) (n : List Note) (e : ℕ) (w : List Bool) (out : List ℕ) (at one two : ℕ) : Type 0 where
  pub less_one : one < e
  pub less_two : two < e
  pub first_call : Writable l one w out at
  pub register : (out₁ : List ℕ) (r : ℕ) → Writes l one w out at out₁ r → (r < register_count) × (get_or w r false ≡ false)
  pub first_behind : Behind n one at out
  pub second_call : (out₁ : List ℕ) (r next : ℕ) → next ≡ behind n one at → Writes l one w out at out₁ r → Writable l two (also_in w r) out₁ next
  pub second_behind : (next : ℕ) → next ≡ behind n one at → Behind n two next out
  pub own_room : (out₁ out₂ : List ℕ) (r next last q : ℕ) → next ≡ behind n one at → last ≡ behind n two next
      → Writes l one w out at out₁ r → Writes l two (also_in w r) out₁ next out₂ q → last + 4 ≤ length out₂

module _ {l : List ℕ} {e : ℕ} {w : List Bool} {out : List ℕ} {at : ℕ} (W : Writable l e w out at) where
  pub end_inside : e < length l
  end_inside = node_inside W.root

  pub leaf_room : at + 4 ≤ length out
  leaf_room = omega (arith, W.room, size_positive W.part)

  pub lowest_inside : lowest w < register_count
  lowest_inside = omega (arith, W.registers, lowest_most w, need_positive W.part)

  module _ {n : List Note} (N : Noted l n) (le : sign union ≤ get_or l e 0) where
    pub inner_node : HasChildren n e
    inner_node = go W.part W.root
      where
        go : (a : Tree) → NodeAt l e a → HasChildren n e
        go (leaf g h) v = absurd (omega (arith, part_leaf e v.is, group_most g h))
        go (node o x y) v = (split v N.all (omega (arith, end_inside))).inner (omega (arith, end_inside, N.few))

    pub ready : {one two : ℕ} {f : Bool} → ChildrenInOrder n e one two f → Ready l n e w out at one two
    ready {one} {two} {f} O = go W.part W.root W.registers W.room
      where
        go : (a : Tree) → NodeAt l e a → waiting w + need a ≤ register_count → at + 4 * size a ≤ length out → Ready l n e w out at one two
        go (leaf g h) v r q = absurd (omega (arith, part_leaf e v.is, group_most g h))
        go (node o x y) v r q =
            let S = split v N.all (omega (arith, end_inside)) in
            let node_need = need_node o x y in
            let Z = laws.size_node o x y in
            let u = node_one S O in
            let t = node_two S O in
            let F = (laws.named older_player older_effect older_acts w (first x y)).register in
            let B = behind_size N u at in
            record {
              less_one = below_one S O;
              less_two = below_two S O;
              first_call = record { part = first x y; root = u; registers = omega arith; room = omega arith };
              register = λ out₁ k c. let z = (c (first x y) u).result in (omega (arith, z, F.below), rw z F.outside);
              first_behind = behind_asks N u at (omega arith);
              second_call = λ out₁ k next m c. let d = (c (first x y) u).code in record {
                part = second x y;
                root = t;
                registers = omega (arith, also_waiting w k);
                room = omega (arith, m, B, d.same);
              };
              second_behind = λ next m. behind_asks N t next (omega (arith, m, B));
              own_room = λ out₁ out₂ k next last j m z c d. omega (arith, m, z, B, behind_size N t next, (c (first x y) u).code.same, (d (second x y) t).code.same);
            }

    pub writes_node : {one two a b kind next k last q after : ℕ} {f : Bool} {out₁ out₂ out₃ : List ℕ} → ChildrenInOrder n e one two f → a ≡ cond f k q → b ≡ cond f q k
        → next ≡ behind n one at → last ≡ behind n two next → Writes l one w out at out₁ k → Writes l two (also_in w k) out₁ next out₂ q
        → ((o : Operator) → get_or l e 0 ≡ sign o → kind ≡ kind_of (operation o)) → Wrote out₂ last out₃ after (kind ∷ a ∷ b ∷ 0 ∷ [])
        → Writes l e w out at out₃ a
    writes_node O α β m z c d K p (leaf g h) v = absurd (omega (arith, part_leaf e v.is, group_most g h))
    writes_node {one} {two} {a} {b} {kind} {next} {k} {last} {q} O α β m z c d K p (node o x y) v =
        let S = split v N.all (omega (arith, end_inside)) in
        let C = c (first x y) (node_one S O) in
        let D = d (second x y) (node_two S O) in
        let D' = rw C.result at D in
        let B : next ≡ at + 4 * size (first x y) = m ∙ behind_size N (node_one S O) at in
        let B₂ : last ≡ next + 4 * size (second x y) = z ∙ behind_size N (node_two S O) next in
        record {
          code = ends_at (omega (arith, p.ends, B, B₂, laws.size_node o x y))
              (wrote_as (wrote_then (wrote_then (ends_at (sym B) C.code) (ends_at (sym B₂) D'.code)) p) (rw (numbers_node w o x y, K o (part_node e v.is), α, β, left_came S O, C.result, D'.result)));
          result = rw (laws.part_node older_player w o x y, α, left_came S O, C.result, D'.result);
        }

-- ---- the whole code
pub root_writable : {l out : List ℕ} → is_some (tree_of l) ≡ true → least_buffer ≤ length out → Writable l (length l - 1) (waiting_in all_free) out 0
root_writable {l} h room =
    let I = the_tree l h in
    record {
      part = I.tree;
      root = root_node I;
      registers = rw all_free_lem (omega (arith, need_most I.tree I.most, none_waiting register_count));
      room = omega (arith, I.most);
    }

module _ {l out out₁ : List ℕ} {register : ℕ} (h : is_some (tree_of l) ≡ true) (room : least_buffer ≤ length out) (w : Writes l (length l - 1) (waiting_in all_free) out 0 out₁ register) where
  root_written : WrotePart out 0 out₁ register (waiting_in all_free) (the_tree l h).tree
  root_written = w (the_tree l h).tree (root_node (the_tree l h))

  pub show_room : 4 * length l + 4 ≤ length out₁
  show_room = let I = the_tree l h in omega (arith, root_written.code.same, tree_length I, I.most)

  pub code_written : {after : List ℕ} {last : ℕ} → Wrote out₁ (4 * length l) after last (show_kind ∷ register ∷ 0 ∷ 0 ∷ []) → Encodes l out (Ok (length l + 1)) after
  code_written p =
      let I = the_tree l h in
      let C = root_written in
      let z = laws.part_alike older_player (waiting_in all_free) I.tree [] (rw all_free_lem (none_alike register_count)) in
      let e : own_numbers (waiting_in all_free) I.tree ++ (show_kind ∷ register ∷ 0 ∷ 0 ∷ []) ≡ numbers_of (code_on older_player I.tree) =
      rw (C.result, z) (unfold numbers_of in sym (numbers_append (part_code older_player [] I.tree).own _)) in
      all_written least_buffer (code_on older_player) numbers_of room I (omega (arith, tree_length I, older_length I.tree))
      (omega (arith, numbers_length (code_on older_player I.tree), older_length I.tree, I.most)) (wrote_as (wrote_then (ends_at (omega (arith, tree_length I)) C.code) p) e)
