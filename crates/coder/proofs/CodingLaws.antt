-- What `encode` and `run_of` answer: the root's part is the whole list; and going down from the root to the node at a position,
-- each step adds what stands before the child's code in that of its parent. For the crates above: `encodes_tree`.
use mathlib.Core.Path.{◌≡◌, refl, sym, ap, ap₂, ◌∙◌}
use mathlib.Core.Bool.{Bool, true, false, not, cond}
use mathlib.Core.Option.{some, none}
use mathlib.Core.List.{List, [], ◌∷◌}
use Prim.Native.Nat.{ℕ, ◌+◌, ◌-◌, ◌≤◌, ◌<◌}
use native.Mathlib.Omega.{arith}
use borrow.Author.Tests.{le-leb, lt-leb, lt-ltb, le-ltb, ltb-true, ltb-false}
use lib.Dec.{ltb}
use lib.ListN.{length}
use Rattle.common.specs.Answer.{done, refused_with}
use Rattle.tree.specs.Tree.{Operator, Tree, leaf, node, size}
use Rattle.tree.specs.Context.{plug, before}
use Rattle.tree.specs.Parse.{tree_of, is_some, locate}
use Rattle.tree.specs.Writing.{over}
use Rattle.tree.proofs.TreeLaws.{size_positive, postfix_length}
use Rattle.tree.proofs.ContextLaws.{locate_left, locate_right, locate_here}
use Rattle.tree.proofs.ParseLaws.{IsTree, tree_length, the_tree, no_tree_of}
use Rattle.tree.specs.InnerWriting.{Wrote}
use Rattle.tree.proofs.WritingLaws.{wrote_over}
use Rattle.player.specs.Instructions.{numbers_of}
use Rattle.code.specs.Need.{left_first, nodes_before}
use Rattle.code.specs.Code.{code}
use Rattle.code.specs.Runs.{run_first, run_count}
use Rattle.code.proofs.NewerLaws.{length_code, length_numbers}
use Rattle.notes.specs.InnerNotes.{NodeAt, note_at, Noted, middle, left_is_first, HasChildren}
use Rattle.notes.proofs.NoteLaws.{Split, split, left_node, right_node, node_at, node_inside}
use Rattle.coder.specs.InnerNotes.{StepsDown, Writable}
use Rattle.coder.specs.Coding.{least_buffer, coded_says, EncodesBy, Encodes, run_of}
use Rattle.coder.specs.declared.Refusal.{Refusal}
use Rattle.coder.specs.declared.Refusal.TheVariants.{ShortBuffer, NotATree}
use Rattle.notes.specs.declared.Note.{Note}
use Rattle.std.proofs.Common.{Result, Ok, Err}
use Rattle.code.proofs.NeedLaws.{need_most}
use Rattle.code.proofs.RunLaws.{before_most}
use Rattle.coder.proofs.WriterLaws.{Writes}

-- ---- the root
pub root_node : {l : List ℕ} (I : IsTree l) → NodeAt l (length l - 1) I.tree
unfolding plug before
root_node I =
    let e = tree_length I in
    record { from = 0; above = []; is = record { whole = I.list; begins = refl; ends = omega (arith, size_positive I.tree) } }

-- ---- the answers of `encode`, for any device
only_done : (r : Result ℕ Refusal) (n : ℕ) → coded_says r ≡ done (n ∷ []) → r ≡ Ok n
only_done (Ok m) n e = cc
only_done (Err k) n e = let z : ◌≡◌ {A = ℕ} 0 1 = cc in absurd (omega arith)

module _ {I : Type 0} (least : ℕ) (code_t : Tree → List I) (numbers : List I → List ℕ) where
  module _ (tree out : List ℕ) where
    pub too_short : length out < least → EncodesBy least code_t numbers tree out (Err ShortBuffer) out
    too_short h = let z = lt-ltb (length out) least h in record { says = rw z; written = rw z }

    pub not_a_tree : least ≤ length out → is_some (tree_of tree) ≡ false → EncodesBy least code_t numbers tree out (Err NotATree) out
    not_a_tree h e = let z = le-ltb (length out) least h in record { says = rw (z, e); written = rw (z, e) }

  -- what was written at the root, from index 0 on, are the numbers of the code
  pub all_written : {tree out after : List ℕ} {next count : ℕ} → least ≤ length out → (I : IsTree tree) → count ≡ length (code_t I.tree)
      → length (numbers (code_t I.tree)) ≤ length out → Wrote out 0 after next (numbers (code_t I.tree))
      → EncodesBy least code_t numbers tree out (Ok count) after
  all_written {out = out} h I n fits w = let z = le-ltb (length out) least h in record { says = rw (z, I.is, n); written = rw (z, I.is) (wrote_over w fits) }

  -- what a caller who has the tree t and lent enough learns: the call is done, and the code is written
  pub record EncodesTree (t : Tree) (out : List ℕ) (r : Result ℕ Refusal) (after : List ℕ) : Type 0 where
    pub done : r ≡ Ok (length (code_t t))
    pub never : (k : Refusal) → r ≡ Err k → ⊥
    pub written : after ≡ over (numbers (code_t t)) out

  pub encodes_tree : {tree out after : List ℕ} {r : Result ℕ Refusal} {t : Tree} → EncodesBy least code_t numbers tree out r after → tree_of tree ≡ some t → least ≤ length out
      → EncodesTree t out r after
  encodes_tree {tree} {out} {after} {r} {t} E e h =
      let z = le-ltb (length out) least h in
      let d : r ≡ Ok (length (code_t t)) = only_done r (length (code_t t)) (E.says ∙ rw (z, e)) in
      record { done = d; never = λ k f. let z : ◌≡◌ {A = ℕ} 0 1 = cc in omega arith; written = E.written ∙ rw (z, e) }

  -- and where the list is no tree, that it is not done
  pub encodes_none : {tree out after : List ℕ} {r : Result ℕ Refusal} → EncodesBy least code_t numbers tree out r after → tree_of tree ≡ none → least ≤ length out → (n : ℕ) → r ≡ Ok n → ⊥
  encodes_none {tree} {out} {after} {r} E e h n f =
      let q : coded_says r ≡ refused_with 12 = E.says ∙ rw (le-ltb (length out) least h, e) in
      let z : ◌≡◌ {A = ℕ} 0 1 = cc in
      omega arith

-- ---- of 01's player
pub root_writable : {l out : List ℕ} {at : ℕ} → is_some (tree_of l) ≡ true → at + least_buffer ≤ length out → Writable l (length l - 1) 0 out at
root_writable {l} h room =
    let I = the_tree l h in
    record { part = I.tree; root = root_node I; registers = omega (arith, need_most I.tree I.most); room = omega (arith, I.most) }

pub code_written : {tree out after : List ℕ} {next : ℕ} → least_buffer ≤ length out → is_some (tree_of tree) ≡ true → Writes tree (length tree - 1) 0 out 0 after next
    → Encodes tree out (Ok (length tree)) after
code_written {tree} {out} h e w =
    let I = the_tree tree e in
    all_written least_buffer (λ t. code t 0) numbers_of h I (tree_length I ∙ sym (length_code I.tree 0)) (omega (arith, I.most, length_numbers I.tree 0)) (w I.tree (root_node I))

-- ---- going down to the node at a position
-- the node at `end` has the position in its part, and its code begins with instruction number `first`
pub record Descent (l : List ℕ) (position end first : ℕ) : Type 0 where
  pub tree : Tree
  pub is : tree_of l ≡ some tree
  pub part : Tree
  pub root : NodeAt l end part
  pub low : root.from ≤ position
  pub high : position ≤ end
  pub sought : locate tree [] position ≡ locate part root.above (position - root.from)
  pub begins : first ≡ run_first part root.above

pub descent_start : (l : List ℕ) (p : ℕ) → is_some (tree_of l) ≡ true → p < length l → Descent l p (length l - 1) 1
unfolding root_node nodes_before
descent_start l p h lt =
    let I = the_tree l h in
    record { tree = I.tree; is = I.is; part = I.tree; root = root_node I; low = omega arith; high = omega arith; sought = ap (locate I.tree []) (omega arith); begins = refl }

-- no further than the whole code
pub descent_few : {l : List ℕ} {p e b : ℕ} → Descent l p e b → b ≤ length l + 1
descent_few {l} {p} {e} {b} D =
    let c = D.root.above in
    let u : length l ≡ size (plug D.part c) = ap length D.root.is.whole ∙ postfix_length (plug D.part c) in
    omega (arith, D.begins, before_most D.part c)

not_cond : (f : Bool) (n : ℕ) → cond (not f) 0 n ≡ cond f n 0
not_cond true n = refl
not_cond false n = refl

-- what `step_down` computes from the notes, by which child comes first
module _ (n : List Note) (e p : ℕ) where
  module _ (h : (note_at n (e - 1)).need ≤ (note_at n (middle n e - 1)).need) where
    pub stepped_left_first : p < middle n e → StepsDown n e p (middle n e - 1) 0
    stepped_left_first lt =
        let f = le-leb (note_at n (e - 1)).need (note_at n (middle n e - 1)).need h in
        let g = lt-ltb p (middle n e) lt in
        record { child = rw g; passed = rw (g, f) }

    pub stepped_right_second : middle n e ≤ p → StepsDown n e p (e - 1) (middle n e - (note_at n (middle n e - 1)).start)
    stepped_right_second le =
        let f = le-leb (note_at n (e - 1)).need (note_at n (middle n e - 1)).need h in
        let g = le-ltb p (middle n e) le in
        record { child = rw g; passed = rw (g, f) }

  module _ (h : (note_at n (middle n e - 1)).need < (note_at n (e - 1)).need) where
    pub stepped_left_second : p < middle n e → StepsDown n e p (middle n e - 1) (e - middle n e)
    stepped_left_second lt =
        let f = lt-leb (note_at n (e - 1)).need (note_at n (middle n e - 1)).need h in
        let g = lt-ltb p (middle n e) lt in
        record { child = rw g; passed = rw (g, f) }

    pub stepped_right_first : middle n e ≤ p → StepsDown n e p (e - 1) 0
    stepped_right_first le =
        let f = lt-leb (note_at n (e - 1)).need (note_at n (middle n e - 1)).need h in
        let g = le-ltb p (middle n e) le in
        record { child = rw g; passed = rw (g, f) }

module _ {l : List ℕ} {n : List Note} {p e b next more : ℕ} (N : Noted l n) (lt : p < e) where
  -- the two steps down from the node with the children x and y
  module _ (t : Tree) (is : tree_of l ≡ some t) (o : Operator) (x y : Tree) (v : NodeAt l e (node o x y)) (low : v.from ≤ p)
      (sought : locate t [] p ≡ locate (node o x y) v.above (p - v.from)) (begins : b ≡ run_first (node o x y) v.above) (S : Split l n e o x y v) where
    to_left : p < middle n e → next ≡ middle n e - 1 → more ≡ cond (left_is_first n e) 0 (e - middle n e) → Descent l p next (b + more)
    unfolding left_node nodes_before
    to_left h i j =
        let m = S.begins in
        let ends = S.ends in
        let z : e - middle n e ≡ size y = omega arith in
        let passed : more ≡ cond (left_first x y) 0 (size y) = j ∙ rw (S.order, z) in
        record {
          tree = t;
          is = is;
          part = x;
          root = left_node v next (omega (arith, size_positive x));
          low = low;
          high = omega arith;
          sought = sought ∙ locate_left o x y v.above (p - v.from) (omega arith);
          begins = omega (arith, passed);
        }

    to_right : middle n e ≤ p → next ≡ e - 1 → more ≡ cond (left_is_first n e) (middle n e - (note_at n (middle n e - 1)).start) 0 → Descent l p next (b + more)
    unfolding right_node nodes_before
    to_right h i j =
        let m = S.begins in
        let ends = S.ends in
        let z : middle n e - (note_at n (middle n e - 1)).start ≡ size x = omega (arith, S.left_start) in
        let passed : more ≡ cond (left_first x y) (size x) 0 = j ∙ rw (S.order, z) in
        rw i (record {
          tree = t;
          is = is;
          part = y;
          root = right_node v;
          low = omega arith;
          high = omega arith;
          sought = sought ∙ locate_right o x y v.above (p - v.from) (p - (v.from + size x)) (omega arith) (omega arith);
          begins = omega (arith, passed, not_cond (left_first x y) (size x));
        })

  pub descend : Descent l p e b → StepsDown n e p next more → Descent l p next (b + more)
  descend D T = go D.part D.root D.low D.sought D.begins (ltb p (middle n e)) refl
    where
      go : (a : Tree) (v : NodeAt l e a) → v.from ≤ p → locate D.tree [] p ≡ locate a v.above (p - v.from) → b ≡ run_first a v.above
          → (w : Bool) → ltb p (middle n e) ≡ w → Descent l p next (b + more)
      go (leaf g h) v low q c w k = absurd (unfold size in omega (arith, v.is.ends))
      go (node o x y) v low q c true k =
          let S = split v N.all (omega (arith, node_inside v)) in
          to_left D.tree D.is o x y v low q c S (ltb-true p (middle n e) k) (T.child ∙ rw k) (T.passed ∙ rw k)
      go (node o x y) v low q c false k =
          let S = split v N.all (omega (arith, node_inside v)) in
          to_right D.tree D.is o x y v low q c S (ltb-false p (middle n e) k) (T.child ∙ rw k) (T.passed ∙ rw k)

pub stepped_less : {n : List Note} {p e next more : ℕ} → HasChildren n e → StepsDown n e p next more → next < e
stepped_less {n} {p} {e} {next} {more} I T = rw T.child (go (ltb p (middle n e)))
  where
    go : (f : Bool) → cond f (middle n e - 1) (e - 1) < e
    go true = omega (arith, I.right)
    go false = omega (arith, I.right)

pub descent_inner : {l : List ℕ} {n : List Note} {p e b : ℕ} → Noted l n → p < e → Descent l p e b → HasChildren n e
descent_inner {l} {n} {p} {e} N lt D = go D.part D.root D.low
  where
    go : (a : Tree) (v : NodeAt l e a) → v.from ≤ p → HasChildren n e
    go (leaf g h) v low = absurd (unfold size in omega (arith, v.is.ends))
    go (node o x y) v low = (split v N.all (omega (arith, node_inside v))).inner (omega (arith, node_inside v, N.few))

pub descent_end : {l : List ℕ} {p e b : ℕ} → e ≤ p → Descent l p e b → (t : Tree) → tree_of l ≡ some t → b ≡ run_first (locate t [] p).part (locate t [] p).above
descent_end {l} {p} {e} {b} h D t q =
    let z : some D.tree ≡ some t = sym D.is ∙ q in
    let same : D.tree ≡ t = cc in
    let w : locate t [] p ≡ record { part = D.part; above = D.root.above } =
    ap (λ (u : Tree). locate u [] p) (sym same) ∙ D.sought ∙ locate_here D.part D.root.above (p - D.root.from) (omega (arith, D.high, D.low, D.root.is.ends)) in
    rw w D.begins

-- ---- the answers of `run_of`
module _ (l : List ℕ) (p : ℕ) where
  pub no_such_tree : is_some (tree_of l) ≡ false → record { first = 0; count = 0 } ≡ run_of (tree_of l) p
  no_such_tree h = rw (no_tree_of l h)

  pub no_such_node : length l ≤ p → record { first = 0; count = 0 } ≡ run_of (tree_of l) p
  no_such_node h = go (is_some (tree_of l)) refl
    where
      go : (b : Bool) → is_some (tree_of l) ≡ b → record { first = 0; count = 0 } ≡ run_of (tree_of l) p
      go true e =
          let I = the_tree l e in
          let z = le-ltb p (size I.tree) (omega (arith, tree_length I)) in
          rw (I.is, z)
      go false e = no_such_tree e

  -- where the node's part begins
  pub part_start : {n : List Note} (e : is_some (tree_of l) ≡ true) → Noted l n → p < length l → (note_at n p).start + size (locate (the_tree l e).tree [] p).part ≡ p + 1
  part_start e N h = let v = node_at (the_tree l e) p h in omega (arith, N.all.start p _ v h, v.is.ends)

  pub the_run : {n : List Note} {first count : ℕ} → is_some (tree_of l) ≡ true → Noted l n → p < length l
      → ((t : Tree) → tree_of l ≡ some t → first ≡ run_first (locate t [] p).part (locate t [] p).above)
      → count + (note_at n p).start ≡ p + 1 → record { first = first; count = count } ≡ run_of (tree_of l) p
  the_run {n} {first} {count} e N h f c =
      let I = the_tree l e in
      let z = lt-ltb p (size I.tree) (omega (arith, tree_length I)) in
      let place = locate I.tree [] p in
      let q : count ≡ run_count place.part place.above = omega (arith, part_start e N h) in
      rw (I.is, z) (ap₂ (λ (f c : ℕ). record { first = f; count = c }) (f I.tree I.is) q)
