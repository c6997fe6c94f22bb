-- Two keys of one sheet, by any tables and for any devices: they have one verdict and light the same lamps; and whichever key one device may
-- have, the other may have one with the same lines before its code.
use mathlib.Core.Path.{◌≡◌, refl, sym, subst, ◌∙◌}
use mathlib.Core.List.{List, []}
use mathlib.Core.Option.{Option, some, none}
use Prim.Native.Nat.{ℕ, ◌≤◌}
use native.Mathlib.Omega.{arith}
use Rattle.tree.specs.Tree.{Tree, size, most_nodes}
use Rattle.tree.specs.Parse.{tree_of}
use Rattle.tree.proofs.ParseLaws.{tree_of_sound}
use Rattle.moves.specs.Moves.{MoveTable}
use Rattle.moves.proofs.MoveLaws.{Right}
use Rattle.sheet.specs.Reading.{LiftLine, ReadingState, ReadingOutcome, accepted, refused}
use Rattle.lift_lines.specs.Lifting.{tree_after, lift_answers}
use Rattle.lift_lines.proofs.LiftingLaws.{after_keeps}
use Rattle.printing.specs.Key.{LiftAnswer, Key, refusal, answers, Held, unmarked, held_run, cannot}
use Rattle.printing.specs.declared.Device.{Device}
use Rattle.key.specs.Devices.{InstructionOf, code_for}
use Rattle.key.specs.Demand.{HeldCode, Demand3}
use Rattle.key.specs.Call.{KeyOf}
use Rattle.key.specs.Alike.{Alike, SameLines}
use Rattle.key.specs.InnerKeyOf.{key_in, key_for}
use Rattle.key.specs.Inner.{Ends}
use Rattle.key.proofs.DemandLaws.{never_alike, demand_3, said_marked, some_mark}

-- one sheet's keys by any two tables and for any two devices
module _ {d e : Device} {m n : MoveTable} {t : Tree} {marks : List ℕ} {ls : List LiftLine} where
  same_verdict : {lifts lifts' : List LiftAnswer} {held held' : Held} {is : List (InstructionOf d)} {is' : List (InstructionOf e)} → Demand3 d m t marks ls lifts held is → Demand3 e n t marks ls lifts' held' is' → held ≡ cannot → held' ≡ cannot
  same_verdict D E e = E.always (some_mark D e) (D.never e)

pub two_keys : (d e : Device) (m n : MoveTable) (st : ReadingState) (k : Key (InstructionOf d)) (l : Key (InstructionOf e)) → KeyOf d m (accepted st) k → KeyOf e n (accepted st) l → Alike d e k l
two_keys d₁ d₂ m n st (refusal number line) l K L = absurd K
two_keys d₁ d₂ m n st (answers lifts held is) (refusal number line) K L = absurd L
two_keys d₁ d₂ m n st (answers lifts held is) (answers lifts' held' is') (t, e, D) (u, f, F) =
    let same : u ≡ t = (let z : some u ≡ some t = sym f ∙ e in cc) in
    let E : Demand3 d₂ n t st.marks st.lifts lifts' held' is' = subst (λ (x : Tree). Demand3 d₂ n x st.marks st.lifts lifts' held' is') same F in
    record {
      verdict = record { only = same_verdict D E; always = same_verdict E D };
      lamps = λ h patch bytes even good long r s after after' p q.
          let x = D.lit h patch bytes even good long r after p in
          let y = E.lit (λ c. h (same_verdict E D c)) patch bytes even good long s after' q in
          (x.0, y.0, x.1 ∙ sym y.1);
    }

-- ---- the same lines before the code
module _ (d e : Device) {m : MoveTable} (R : Right m) (t : Tree) (h : size t ≤ most_nodes) (marks : List ℕ) (ls : List LiftLine) where
  abbrev left : Tree
  left = tree_after m t ls

  -- a run of the same tree's holder
  held_for : {first count : ℕ} {is : List (InstructionOf d)} (H : HeldCode d left marks first count is) → HeldCode e left marks first count (code_for e H.tree)
  held_for H = record {
    tree = H.tree;
    position = H.position;
    unchanged = H.unchanged;
    equivalent = H.equivalent;
    gathered = H.gathered;
    own = H.own;
    most = H.most;
    coded = refl;
    first_is = H.first_is;
    count_is = H.count_is;
  }

  pub other_ends : {lifts : List LiftAnswer} (held : Held) {is : List (InstructionOf d)} → Demand3 d m t marks ls lifts held is → (is' : List (InstructionOf e)) × Ends e left marks held is'
  other_ends unmarked D = (code_for e left, (D.marked refl, refl))
  other_ends (held_run first count) D =
      let H = (D.run first count refl).held in
      (code_for e H.tree, (said_marked D (λ u. let z : ◌≡◌ {A = ℕ} 0 1 = cc in omega arith), held_for H))
  other_ends cannot D = ([], (some_mark D refl, never_alike (after_keeps R t ls h).equivalent (D.never refl), refl))

within_limit : (l : List ℕ) (t : Tree) → tree_of l ≡ some t → size t ≤ most_nodes
within_limit l t e =
    let I = tree_of_sound l t e in
    let same : I.tree ≡ t = (let z : some I.tree ≡ some t = sym I.is ∙ e in cc) in
    subst (λ (x : Tree). size x ≤ most_nodes) same I.most

pub other_key : (d e : Device) {m : MoveTable} → Right m → (o : ReadingOutcome) (k : Key (InstructionOf d)) → KeyOf d m o k → (l : Key (InstructionOf e)) × KeyOf e m o l × SameLines k l
other_key d e R (refused number line) k K = (refusal number line, refl, rw K (refl, refl))
other_key d e R (accepted st) (refusal number line) K = absurd K
other_key d e {m} R (accepted st) (answers lifts held is) (t, s, D) =
    let h = within_limit st.entries t s in
    let E = other_ends d e R t h st.marks st.lifts held D in
    (answers (lift_answers m t st.lifts) held E.0, (t, s, demand_3 e R t st.marks st.lifts h held E.0 E.1), (D.lifts, refl))

-- the very keys that the programs of two devices print have the same lines before the code
pub same_lines : (d e : Device) (m : MoveTable) (o : ReadingOutcome) → SameLines (key_for d m o) (key_for e m o)
same_lines d e m (refused number line) = (refl, refl)
same_lines d e m (accepted st) = go (tree_of st.entries)
  where
    go : (o : Option Tree) → SameLines (key_in d m st o) (key_in e m st o)
    go none = (refl, refl)
    go (some t) = (refl, refl)
