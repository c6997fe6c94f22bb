-- What follows the lifts: the code of the tree that they leave, or the HELD line and the code of the gathered tree.
use mathlib.Core.Path.{◌≡◌, refl, sym, ap, ap₂, subst, ◌∙◌}
use mathlib.Core.Bool.{Bool}
use mathlib.Core.List.{List, [], ◌∷◌, ◌++◌, append-nil}
use mathlib.Core.Option.{Option, some, none}
use Prim.Native.Nat.{ℕ, ◌+◌, ◌≤◌, ◌<◌}
use native.Mathlib.Omega.{arith}
use borrow.Author.Tests.{lt-ltb}
use lib.ListN.{length, take, drop, length-append}
use Rattle.std.specs.Prelude.{Ok, Err}
use Rattle.tree.specs.Tree.{Tree, postfix, size, most_nodes, is_in}
use Rattle.tree.specs.Parse.{tree_of, locate}
use Rattle.tree.specs.Writing.{over}
use Rattle.tree.specs.InnerWriting.{Wrote}
use Rattle.tree.proofs.TreeLaws.{postfix_length, size_positive}
use Rattle.tree.proofs.ContextLaws.{locate_plug, position_most}
use Rattle.tree.proofs.ParseLaws.{tree_of_postfix, tree_of_sound, tree_length}
use Rattle.tree.proofs.WritingLaws.{wrote_then, wrote_as, wrote_over, take_over}
use Rattle.text.specs.Line.{line, lines}
use Rattle.code.specs.Need.{nodes_before}
use Rattle.code.specs.Runs.{run_first, run_count}
use Rattle.coder.specs.Coding.{code_of_list, run_of}
use Rattle.coder.specs.declared.Run.{Run}
use Rattle.code.proofs.RunLaws.{before_most}
use Rattle.gather.specs.Gathering.{Gathered, CannotBeGathered}
use Rattle.gather.specs.Answer.{Gathering, refusal_number, gather_fault, GatheredTo, GathersTree, Gathers}
use Rattle.gather.specs.InnerGathered.{gathered_by, holder_of, Returned, GathersBy}
use Rattle.gather.specs.declared.GatheredTree.{GatheredTree}
use Rattle.gather.specs.declared.Refusal.{Refusal}
use Rattle.gather.proofs.GatheredLaws.{holder_of_lem, named_tree, named_none}
use Rattle.printing.specs.declared.Device.{Device}
use Rattle.key.specs.Devices.{InstructionOf, code_for, row_for}
use Rattle.key.proofs.DeviceLaws.{lawful}
use Rattle.printing.specs.Key.{Held, unmarked, cannot, HELD, held_rows, instruction_rows}
use Rattle.key.specs.InnerKeyOf.{held_as, held_in, held_by, code_by}
use Rattle.lift_lines.specs.Inner.{IsList}
use Rattle.key.specs.Inner.{held_bytes, code_bytes, code_lines, AllButCode, Markable, Ends, Finished}
use Rattle.printing.proofs.PrintingLaws.{held_most, never_most}
use Rattle.key.proofs.GatheringLaws.{no_fault}

-- ---- the code's lines
-- of the list of a tree
pub tree_lines_lem : (d : Device) {list : List ℕ} {u : Tree} → IsList list u → code_lines d list ≡ lines (instruction_rows (row_for d) (code_for d u))
tree_lines_lem d {list} {u} w = rw (w.list, tree_of_postfix u w.most)

-- there are none of no entries
pub no_lines : (d : Device) (tree : List ℕ) (nodes : ℕ) → nodes ≡ 0 → code_lines d (take nodes tree) ≡ []
unfolding lines instruction_rows
no_lines d tree nodes e = rw e (go (tree_of []) refl)
  where
    go : (o : Option Tree) → tree_of [] ≡ o → code_lines d [] ≡ []
    go none q = rw q
    go (some t) q = let I = tree_of_sound [] t q in absurd (omega (arith, tree_length I, size_positive I.tree))

-- and where they follow, nothing does
pub nothing_behind : (d : Device) (tree : List ℕ) {out out₁ out₂ xs : List ℕ} {at next last : ℕ} → Wrote out at out₁ next xs → Wrote out₁ next out₂ last (code_lines d (take 0 tree)) → Wrote out at out₂ last xs
nothing_behind d tree {out} {out₁} {out₂} {xs} w v = wrote_as (wrote_then w v) (ap (λ (l : List ℕ). xs ++ l) (no_lines d tree 0 refl) ∙ append-nil xs)

-- where a tree's list is copied to the front of an array, the array's first entries are the list
pub copied : {source old new : List ℕ} {next : ℕ} {u : Tree} (nodes : ℕ) → IsList source u → nodes ≡ size u → most_nodes ≤ length old → Wrote old 0 new next source → IsList (take nodes new) u
copied {source} {old} {new} {next} {u} nodes w e full c =
    let n = postfix_length u in
    let o : new ≡ over (postfix u) old = wrote_over (wrote_as c w.list) (omega (arith, n, w.most)) in
    record { list = rw o (take_over (postfix u) old nodes (e ∙ sym n)); most = w.most }

pub empty_list : (l : List ℕ) → length l ≡ 0 → l ≡ []
empty_list [] e = refl
empty_list (x ∷ l) e = absurd (omega arith)

-- the lines and the instructions named, said in another way
finished : (d : Device) {u : Tree} {marks out out' : List ℕ} {at next : ℕ} (held : Held) (is : List (InstructionOf d)) → held_by u marks ≡ held → code_by d u marks ≡ is → Ends d u marks held is
    → Wrote out at out' next (lines (held_rows held ++ instruction_rows (row_for d) is)) → next ≤ at + held_bytes + code_bytes → Finished d u marks out at out' next
finished d held is e f E w h = record { ends = rw (e, f) E; wrote = rw (e, f) w; most = h }

-- ---- without marks
pub finished_plain : (d : Device) {u : Tree} {marks out out' : List ℕ} {at next : ℕ} → size u ≤ most_nodes → marks ≡ [] → Wrote out at out' next (lines (instruction_rows (row_for d) (code_for d u)))
    → Finished d u marks out at out' next
finished_plain d {u} h e w = finished d unmarked (code_for d u) (rw e) (rw e) (e, refl) w (omega (arith, w.ends, (lawful d).text_most u h))

-- ---- with marks: what `gather` says where reading found no fault
held_marked : (u : Tree) (marks : List ℕ) → 1 ≤ length marks → held_by u marks ≡ held_in marks (gathered_by u marks)
held_marked u [] h = absurd (omega arith)
held_marked u (m ∷ marks) h = refl

code_marked : (d : Device) (u : Tree) (marks : List ℕ) → 1 ≤ length marks → code_by d u marks ≡ code_of_list (code_for d) (gathered_by u marks)
code_marked d u [] h = absurd (omega arith)
code_marked d u (m ∷ marks) h = refl

-- the tree returned, and that it is the one named
pub record NamedTo (u : Tree) (marks out out' : List ℕ) (count holder : ℕ) : Type 0 where
  pub to : GatheredTo u marks out out' count holder
  pub is : gathered_by u marks ≡ some to.result

module _ {list marks out out' : List ℕ} {r : Gathering} (u : Tree) (w : IsList list u) (M : Markable u marks) (some_mark : 1 ≤ length marks) (full : most_nodes ≤ length out)
    (G : Gathers list marks out out' r × GathersBy list marks out out' r) where
  fault_none : gather_fault list marks (length out) ≡ 0
  fault_none = ap (λ (l : List ℕ). gather_fault l marks (length out)) w.list ∙ no_fault u marks (length out) w.most full some_mark M

  is_tree : tree_of list ≡ some u
  is_tree = ap tree_of w.list ∙ tree_of_postfix u w.most

  gathers : GathersTree u marks out out' r
  gathers = G.0.gathers fault_none u is_tree

  returned : Returned marks (gathered_by u marks) out out' r
  returned = G.1.by fault_none u is_tree

  -- refused: with 19, and no tree is named
  pub gathered_never : (refusal : Refusal) → r ≡ Err refusal → (refusal_number refusal ≡ 19) × CannotBeGathered (is_in marks) u × (gathered_by u marks ≡ none)
  unfolding GathersTree
  gathered_never refusal e =
      let never = subst (GathersTree u marks out out') e gathers in
      (never.0, never.2, named_none (gathered_by u marks) (subst (Returned marks (gathered_by u marks) out out') e returned))

  pub gathered_done : (tree : GatheredTree) → r ≡ Ok tree → NamedTo u marks out out' tree.nodes tree.holder
  unfolding GathersTree
  gathered_done tree e =
      let D : GatheredTo u marks out out' tree.nodes tree.holder = subst (GathersTree u marks out out') e gathers in
      record { to = D; is = named_tree D (gathered_by u marks) (subst (Returned marks (gathered_by u marks) out out') e returned) }

-- the gathered tree's list stands at the front
pub gathered_list : {u : Tree} {marks out out' : List ℕ} {count holder : ℕ} (D : GatheredTo u marks out out' count holder) → IsList (take count out') D.result
gathered_list {u} {marks} {out} D = record {
  list = rw D.written (take_over (postfix D.result) out _ (D.counted ∙ sym (postfix_length D.result)));
  most = D.most;
}

pub gathered_long : {u : Tree} {marks out out' : List ℕ} {count holder : ℕ} (D : GatheredTo u marks out out' count holder) → count ≤ length out'
gathered_long {u} {marks} {out} D =
    rw D.written (omega (arith, D.counted, postfix_length D.result, length-append (postfix D.result) (drop (length (postfix D.result)) out)))

-- the run that `run_of` answers for the holder is the holder's
module _ (g : Tree) (m : ℕ → Bool) (p : ℕ) (H : Gathered m g p) (most : size g ≤ most_nodes) (list : List ℕ) (w : list ≡ postfix g) (run : Run) (R : run ≡ run_of (tree_of list) p) where
  found : locate g [] p ≡ record { part = H.holder; above = H.above }
  found = rw (H.whole, H.at) (locate_plug H.holder H.above)

  inside : p < size g
  inside = rw (H.whole, H.at) (position_most H.holder H.above)

  pub run_first_lem : run.first ≡ run_first H.holder H.above
  run_first_lem = ap (λ (x : Run). x.first) R ∙ rw (w, tree_of_postfix g most, lt-ltb p (size g) inside, found)

  pub run_count_lem : run.count ≡ run_count H.holder H.above
  run_count_lem = ap (λ (x : Run). x.count) R ∙ rw (w, tree_of_postfix g most, lt-ltb p (size g) inside, found)

  pub run_line : length (line HELD (0 ∷ run.first ∷ run.count ∷ [])) ≤ held_bytes
  run_line =
      let n : nodes_before H.holder H.above + size H.holder ≤ size g = rw H.whole (before_most H.holder H.above) in
      held_most run.first run.count (omega (arith, run_first_lem, n, size_positive H.holder)) (omega (arith, run_count_lem, n))

-- ---- the answers of `put_held`
pub finished_never : (d : Device) {u : Tree} {marks out out' : List ℕ} {at next : ℕ} → 1 ≤ length marks → CannotBeGathered (is_in marks) u × (gathered_by u marks ≡ none)
    → Wrote out at out' next (line HELD (19 ∷ [])) → Finished d u marks out at out' next
finished_never d {u} {marks} k (C, e) w =
    finished d cannot [] (held_marked u marks k ∙ ap (held_in marks) e) (code_marked d u marks k ∙ ap (code_of_list (code_for d)) e) (k, C, refl)
    (wrote_as w (unfold lines instruction_rows in sym (append-nil (line HELD (19 ∷ []))))) (omega (arith, w.ends, never_most))

pub finished_held : (d : Device) {u : Tree} {marks old new out out₁ out₂ : List ℕ} {count holder at next last : ℕ} (D : NamedTo u marks old new count holder) (run : Run)
    → run ≡ run_of (tree_of (take count new)) holder → 1 ≤ length marks → Wrote out at out₁ next (line HELD (0 ∷ run.first ∷ run.count ∷ []))
    → Wrote out₁ next out₂ last (lines (instruction_rows (row_for d) (code_for d D.to.result))) → Finished d u marks out at out₂ last
finished_held d {u} {marks} {old} {new} {out} {out₁} {out₂} {count} {holder} D run R k w v =
    let T = D.to in
    let g = T.result in
    let l = (gathered_list T).list in
    let named : run ≡ run_of (some g) (holder_of marks g)
    = R ∙ ap₂ run_of (ap tree_of l ∙ tree_of_postfix g T.most) (holder_of_lem marks T.gathered) in
    finished d (held_as run) (code_for d g) (held_marked u marks k ∙ ap (held_in marks) D.is ∙ ap held_as (sym named)) (code_marked d u marks k ∙ ap (code_of_list (code_for d)) D.is) (
      k,
      record {
        tree = g;
        position = holder;
        unchanged = T.unchanged;
        equivalent = T.equivalent;
        gathered = T.gathered;
        own = T.own;
        most = T.most;
        coded = refl;
        first_is = run_first_lem g (is_in marks) holder T.gathered T.most (take count new) l run R;
        count_is = run_count_lem g (is_in marks) holder T.gathered T.most (take count new) l run R;
      },
    )
    (wrote_as (wrote_then w v) (unfold lines in refl))
    (omega (arith, w.ends, v.ends, (lawful d).text_most g T.most, run_line g (is_in marks) holder T.gathered T.most (take count new) l run R))

-- each is all but the code
pub plain_left : {u : Tree} {tree marks out : List ℕ} {nodes at : ℕ} → marks ≡ [] → (d : Device) → IsList (take nodes tree) u → AllButCode d (Finished d u marks out at) tree nodes out at
plain_left e d w = record { whole = λ out' last v. finished_plain d w.most e (wrote_as v (tree_lines_lem d w)) }

pub never_left : {u : Tree} {marks out out₁ : List ℕ} {at next : ℕ} (tree : List ℕ) → 1 ≤ length marks → CannotBeGathered (is_in marks) u × (gathered_by u marks ≡ none)
    → Wrote out at out₁ next (line HELD (19 ∷ [])) → (d : Device) → AllButCode d (Finished d u marks out at) tree 0 out₁ next
never_left tree k C w d = record { whole = λ out' last v. finished_never d k C (nothing_behind d tree w v) }

pub held_left : {u : Tree} {marks old new out out₁ tree : List ℕ} {count holder at next : ℕ} (D : NamedTo u marks old new count holder) (run : Run)
    → run ≡ run_of (tree_of (take count new)) holder → 1 ≤ length marks → Wrote out at out₁ next (line HELD (0 ∷ run.first ∷ run.count ∷ [])) → IsList (take count tree) D.to.result
    → (d : Device) → AllButCode d (Finished d u marks out at) tree count out₁ next
held_left D run R k w l d = record { whole = λ out' last v. finished_held d D run R k w (wrote_as v (tree_lines_lem d l)) }
