-- The whole call, test by test.
use mathlib.Core.Path.{◌≡◌, refl, sym, ap, ◌∙◌, subst}
use mathlib.Core.Bool.{Bool, true, false, cond, ◌||◌, true≢false}
use mathlib.Core.Option.{Option}
use mathlib.Core.List.{List, []}
use Prim.Native.Nat.{ℕ, ◌+◌, ◌≤◌, ◌<◌}
use native.Mathlib.Omega.{arith}
use borrow.Author.Tests.{lt-ltb, le-ltb, le-leb, lt-leb, leb-false}
use lib.Dec.{eqb, leb}
use lib.ListN.{length, take}
use Rattle.std.specs.Prelude.{Err}
use Rattle.tree.specs.Tree.{Tree, size, most_nodes}
use Rattle.tree.specs.Context.{Frame, before, Place}
use Rattle.tree.specs.Parse.{tree_of, is_some, locate}
use Rattle.tree.specs.InnerPart.{Part}
use Rattle.tree.specs.InnerWriting.{Wrote}
use Rattle.tree.proofs.ParseLaws.{IsTree, tree_length, no_tree_of}
use Rattle.tree.proofs.PartLaws.{part_of_entry}
use Rattle.tree.proofs.WritingLaws.{wrote_over, take_over}
use Rattle.moves.specs.Moves.{MoveTable}
use Rattle.std.specs.Prelude.{Option as Maybe}
use Rattle.step.specs.InnerStanding.{StateIs, Standing}
use Rattle.lift.specs.Lift.{refused, steps, lift_at, lift_in, lift_of, Result}
use Rattle.lift.specs.Answer.{refusal_number, Reply, result_says, lift_buffer, Lifts}
use Rattle.lift.specs.declared.Refusal.{Refusal}

module _ (m : MoveTable) (room : ℕ) (l : List ℕ) (p k : ℕ) where
  pub says_11 : room < most_nodes → lift_of m room l p k ≡ refused 11
  says_11 h = unfold lift_of in simp (lt-ltb room most_nodes h)

  module _ (h : most_nodes ≤ room) where
    in_tree : lift_of m room l p k ≡ lift_in m (tree_of l) p k
    in_tree = unfold lift_of in simp (le-ltb room most_nodes h)

    pub says_12 : is_some (tree_of l) ≡ false → lift_of m room l p k ≡ refused 12
    says_12 n = in_tree ∙ ap (λ (o : Option Tree). lift_in m o p k) (no_tree_of l n)

    module _ (W : IsTree l) where
      abbrev pub place : Place
      place = locate W.tree [] p

      in_this : lift_of m room l p k ≡ cond (leb (size W.tree) p) (refused 13) (lift_at m place k)
      in_this = in_tree ∙ ap (λ (o : Option Tree). lift_in m o p k) W.is

      pub says_13 : length l ≤ p → lift_of m room l p k ≡ refused 13
      says_13 q = in_this ∙ ap (λ (b : Bool). cond b (refused 13) (lift_at m place k)) (le-leb (size W.tree) p (omega (arith, tree_length W)))

      module _ (q : p < length l) where
        pub the_part : Part l (length (before place.above)) (p + 1) place.part place.above
        the_part = part_of_entry W p q

        at_place : lift_of m room l p k ≡ lift_at m place k
        at_place = in_this ∙ ap (λ (b : Bool). cond b (refused 13) (lift_at m place k)) (lt-leb (size W.tree) p (omega (arith, tree_length W)))

        -- by the test of the levels, where `level` is the part's
        by_test : (level : ℕ) → level ≡ length place.above → (b : Bool) → (eqb k 0 || leb level k) ≡ b → lift_of m room l p k ≡ cond b (refused 14) (steps m k place.part place.above 0)
        by_test level e b t =
            at_place
            ∙ ap (λ (x : Bool). cond x (refused 14) (steps m k place.part place.above 0)) (ap (λ (n : ℕ). eqb k 0 || leb n k) (sym e) ∙ t)

        pub says_14 : (level : ℕ) → level ≡ length place.above → (eqb k 0 || leb level k) ≡ true → lift_of m room l p k ≡ refused 14
        says_14 level e t = by_test level e true t

        pub runs_on : (level : ℕ) → level ≡ length place.above → (eqb k 0 || leb level k) ≡ false → lift_of m room l p k ≡ steps m k place.part place.above 0
        runs_on level e t = by_test level e false t

pub levels_below : (k level : ℕ) → (eqb k 0 || leb level k) ≡ false → k < level
levels_below k level t = leb-false level k (go (eqb k 0) (leb level k) t)
  where
    go : (x y : Bool) → (x || y) ≡ false → y ≡ false
    go true y e = absurd (true≢false e)
    go false y e = e

-- ---- the first buffer begins with the list
pub stands_first : {l x : List ℕ} {zeros : List ℕ} {r from to : ℕ} {state : Maybe ℕ} {a : Tree} {c : List Frame} → Wrote zeros 0 x r l → length l ≤ length zeros → Part l from to a c → StateIs c state
    → Standing (take (length l) x) (record { part = record { from = from; to = to }; state = state }) a c
stands_first {l} {x} {zeros} W h P s = record { part = rw (ap (take (length l)) (wrote_over W h) ∙ take_over l zeros (length l) refl) P; state = s }

-- ---- what the call answers, for results that are the same
pub refuses : {x : Result} (r : Refusal) {out : List ℕ} → x ≡ refused (refusal_number r) → Lifts x out (Err r) out
refuses {x} r {out} e = record { says = sym (ap result_says e); leaves = sym (ap (λ (y : Result). lift_buffer y out) e) }

pub lifts_same : {x y : Result} {out : List ℕ} {r : Reply} {out' : List ℕ} → x ≡ y → Lifts y out r out' → Lifts x out r out'
lifts_same {x} {y} {out} {r} {out'} e L = subst (λ (z : Result). Lifts z out r out') (sym e) L
