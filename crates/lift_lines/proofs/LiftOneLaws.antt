-- What a call of `lift` says, for a tree that the caller has: the definition's result, and what its line needs.
use mathlib.Core.Path.{◌≡◌, refl, sym, ap, subst, ◌∙◌}
use mathlib.Core.List.{List, [], ◌∷◌}
use Prim.Native.Nat.{ℕ, ◌+◌, ◌^◌, ◌≤◌, ◌<◌}
use native.Mathlib.Omega.{arith}
use lib.ListN.{length, take, drop, length-append}
use lib.Seq.{length-take-le}
use Rattle.std.specs.Prelude.{Ok, Err}
use Rattle.tree.specs.Tree.{Tree, postfix, size, most_nodes}
use Rattle.tree.specs.Writing.{over}
use Rattle.tree.specs.InnerWriting.{Wrote}
use Rattle.tree.proofs.TreeLaws.{postfix_length}
use Rattle.tree.proofs.WritingLaws.{wrote_over, take_over}
use Rattle.text.specs.Line.{line}
use Rattle.moves.specs.Moves.{MoveTable}
use Rattle.moves.proofs.MoveLaws.{Right}
use Rattle.sheet.specs.Form.{most_position, most_levels}
use Rattle.sheet.specs.Reading.{LiftLine}
use Rattle.lift.specs.Lift.{Result, refused, lifted, lift_of}
use Rattle.lift.specs.Answer.{refusal_number, Reply, lift_buffer, Lifts}
use Rattle.lift.proofs.LiftLaws.{Kept, RefusedKeeps, LiftedKeeps, lift_in_keeps, lift_of_tree, Replies, lifts_reply}
use Rattle.lift.specs.declared.Lifted.{Lifted}
use Rattle.lift.specs.declared.Refusal.{Refusal}
use Rattle.printing.specs.Key.{LIFT}
use Rattle.lift_lines.specs.Lifting.{lifting}
use Rattle.lift_lines.specs.Inner.{lift_bytes, IsList, LiftedOne}
use Rattle.printing.proofs.PrintingLaws.{lift_most}

-- the lift was done: the new tree's list stands at the front of `new`, and its line is short enough
pub record DoneLift (m : MoveTable) (t : Tree) (l : LiftLine) (count place looks : ℕ) (new : List ℕ) : Type 0 where
  pub tree : Tree
  pub is : lifting m t l ≡ lifted tree place looks
  pub counted : count ≡ size tree
  pub most : size tree ≤ most_nodes
  pub front : take count new ≡ postfix tree
  pub long : count ≤ length new
  pub place_small : place < 10 ^ 4
  pub looks_small : looks < 100

-- it was refused
pub record RefusedLift (m : MoveTable) (t : Tree) (l : LiftLine) (number : ℕ) : Type 0 where
  pub is : lifting m t l ≡ refused number
  pub small : number < 100

module _ (m : MoveTable) (R : Right m) (entries new new' : List ℕ) (t : Tree) (l : LiftLine) (w : IsList entries t) (full : most_nodes ≤ length new) (few : l.levels ≤ most_levels) where
  result : lift_of m (length new) entries l.position l.levels ≡ lifting m t l
  result = ap (λ (e : List ℕ). lift_of m (length new) e l.position l.levels) w.list ∙ lift_of_tree m (length new) t l.position l.levels full w.most

  kept : Kept t l.levels (lifting m t l)
  kept = lift_in_keeps R t l.position l.levels w.most

  replied : {r : Reply} → Lifts (lift_of m (length new) entries l.position l.levels) new r new' → Replies r (lifting m t l)
  replied {r} L = subst (Replies r) result (lifts_reply L)

  pub done_lift : (d : Lifted) → Lifts (lift_of m (length new) entries l.position l.levels) new (Ok d) new' → DoneLift m t l d.nodes d.position d.looks new'
  done_lift d L = go (lifting m t l) refl (replied L) (L.leaves ∙ ap (λ (x : Result). lift_buffer x new) result)
    where
      go : (x : Result) → lifting m t l ≡ x → Replies (Ok d) x → new' ≡ lift_buffer x new → DoneLift m t l d.nodes d.position d.looks new'
      go (refused n) q f b = absurd f
      go (lifted u p k) q f b =
          let h : lifting m t l ≡ lifted u d.position d.looks = q ∙ rw (f.1, f.2) in
          let K : LiftedKeeps t l.levels u d.position d.looks = subst (Kept t l.levels) h kept in
          let most = K.keeps.most in
          record {
            tree = u;
            is = h;
            counted = f.0;
            most = most;
            front = rw b (take_over (postfix u) new d.nodes (f.0 ∙ sym (postfix_length u)));
            long = rw b (omega (arith, f.0, postfix_length u, length-append (postfix u) (drop (length (postfix u)) new)));
            place_small = omega (arith, K.position_within, most);
            looks_small = omega (arith, K.looks_are, few);
          }

  pub refused_lift : (r : Refusal) → Lifts (lift_of m (length new) entries l.position l.levels) new (Err r) new' → RefusedLift m t l (refusal_number r)
  refused_lift r L = go (lifting m t l) refl (replied L)
    where
      go : (x : Result) → lifting m t l ≡ x → Replies (Err r) x → RefusedLift m t l (refusal_number r)
      go (lifted u p k) q f = absurd f
      go (refused n) q f =
          let h : lifting m t l ≡ refused (refusal_number r) = q ∙ rw f in
          let K : RefusedKeeps t (refusal_number r) = subst (Kept t l.levels) h kept in
          record { is = h; small = K.small }

-- ---- the two answers of `lift_one`
pub lift_line_room : (number position looks at room : ℕ) → number < 100 → position < 10 ^ 4 → looks < 100 → at + lift_bytes ≤ room → at + length (line LIFT (number ∷ position ∷ looks ∷ [])) ≤ room
lift_line_room number position looks at room n p k h = omega (arith, lift_most number position looks n p k)

pub lifted_one_done : {m : MoveTable} {t : Tree} {l : LiftLine} {count place looks next after : ℕ} {tree tree' new out out' : List ℕ} {at : ℕ} → DoneLift m t l count place looks new → most_nodes ≤ length tree
    → Wrote tree 0 tree' after (take count new) → Wrote out at out' next (line LIFT (0 ∷ place ∷ looks ∷ []))
    → LiftedOne m t l tree' (record { nodes = count; next = next }) out at out'
lifted_one_done {m} {t} {l} {count} {place} {looks} {next} {after} {tree} {tree'} {new} {out} {out'} {at} D long copied printed =
    let u = D.tree in
    let n : length (postfix u) ≡ size u = postfix_length u in
    let c : tree' ≡ over (postfix u) tree = subst (λ (xs : List ℕ). tree' ≡ over xs tree) D.front (wrote_over copied (rw D.front (omega (arith, n, D.most)))) in
    record {
      holds = rw D.is (record { list = rw c (take_over (postfix u) tree count (D.counted ∙ sym n)); most = D.most });
      fits = omega (arith, D.counted, D.most);
      wrote = rw D.is printed;
      most = omega (arith, printed.ends, lift_most 0 place looks (omega arith) D.place_small D.looks_small);
    }

-- a list's front that is a tree's is as long as the tree
pub front_size : (list : List ℕ) (n : ℕ) (t : Tree) → IsList (take n list) t → n ≤ length list → n ≡ size t
front_size list n t w h = omega (arith, length-take-le n list h, ap length w.list, postfix_length t)

pub lifted_one_refused : {m : MoveTable} {t : Tree} {l : LiftLine} {number next nodes : ℕ} {tree out out' : List ℕ} {at : ℕ} → RefusedLift m t l number → IsList (take nodes tree) t → nodes ≤ length tree
    → l.position ≤ most_position → Wrote out at out' next (line LIFT (number ∷ l.position ∷ 0 ∷ []))
    → LiftedOne m t l tree (record { nodes = nodes; next = next }) out at out'
lifted_one_refused {m} {t} {l} {number} {next} {nodes} {tree} D w h near printed =
    record {
      holds = rw D.is w;
      fits = omega (arith, front_size tree nodes t w h, w.most);
      wrote = rw D.is printed;
      most = omega (arith, printed.ends, lift_most number l.position 0 D.small (omega (arith, near)) (omega arith));
    }
