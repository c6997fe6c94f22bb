-- The third demand holds of every key that answers an accepted sheet.
use mathlib.Core.Path.{◌≡◌, refl, sym, ap, subst, ◌∙◌, fun_ext}
use mathlib.Core.Bool.{Bool}
use mathlib.Core.List.{List, [], ◌∷◌, ◌++◌}
use Prim.Native.Nat.{ℕ, ◌≤◌, ◌<◌}
use native.Mathlib.Omega.{arith}
use lib.ListN.{length, drop}
use Rattle.tree.specs.Tree.{Tree, size, most_nodes, Equivalent, is_in}
use Rattle.tree.specs.Context.{plug}
use Rattle.tree.proofs.TreeLaws.{equivalent_sym, equivalent_trans}
use Rattle.player.specs.Limits.{register_count, byte_count}
use Rattle.player.specs.Patches.{rig}
use Rattle.player.specs.Bytes.{bytes}
use Rattle.code.specs.Devices.{code_on}
use Rattle.code.specs.Effects.{Every, Names, stretch, ClosedRun, LoadsApart}
use Rattle.code.specs.Runs.{run_first, run_count}
use Rattle.code.proofs.Theorems.{thirteen_suffice, loads_apart}
use Rattle.gather.specs.Gathering.{CannotBeGathered}
use Rattle.printing.specs.Key.{LiftAnswer, Held, unmarked, held_run, cannot}
use Rattle.moves.specs.Moves.{MoveTable}
use Rattle.moves.proofs.MoveLaws.{Right}
use Rattle.sheet.specs.Reading.{LiftLine}
use Rattle.lift_lines.specs.Lifting.{tree_after, lift_answers}
use Rattle.key.specs.Demand.{HeldCode, HolderRun, Lights, Demand3}
use Rattle.key.specs.Inner.{Ends}
use Rattle.printing.specs.declared.Device.{Device}
use Rattle.key.specs.Devices.{InstructionOf, effect_of, code_for, IsOwn}
use Rattle.key.proofs.DeviceLaws.{coding_of, lawful}
use Rattle.lift_lines.proofs.LiftingLaws.{after_keeps}

differ : {X : Type 0} → ◌≡◌ {A = ℕ} 0 1 → X
differ e = absurd (omega arith)

-- equivalent trees are gathered by the same trees
pub never_alike : {marked : ℕ → Bool} {t u : Tree} → Equivalent t u → CannotBeGathered marked u → CannotBeGathered marked t
never_alike e c = record { never = λ w p f g. c.never w p (equivalent_trans (equivalent_sym e) f) g }

-- the player lights what an equivalent tree selects
lights : (d : Device) (t u : Tree) → Equivalent t u → size u ≤ most_nodes → Lights d t (code_for d u)
lights d t u e h patch lamps even good long r after p =
    let L = (lawful d).lights u h patch lamps even good long r after p in
    (L.0, L.1 ∙ ap (λ (f : ℕ → Bool). bytes f ++ drop byte_count lamps) (fun_ext (λ lamp. sym (e.same (rig patch) lamp))))

-- "No register above 12 is named"
registers_below : (d : Device) (t : Tree) → size t ≤ most_nodes → Every (Names (effect_of d) (λ q. q < register_count)) (code_for d t)
registers_below d t h = rw ((lawful d).is_code t) at (thirteen_suffice (coding_of d) (effect_of d) (lawful d).acts t h)

-- the code of the gathered tree, where the key says HELD and a run
module _ (d : Device) (t u : Tree) (e : Equivalent t u) (marks : List ℕ) (first count : ℕ) (is : List (InstructionOf d)) (some_mark : 1 ≤ length marks) (H : HeldCode d u marks first count is) where
  held_lights : Lights d t is
  held_lights = subst (Lights d t) (sym H.coded) (lights d t H.tree (equivalent_trans e H.equivalent) H.most)

  held_registers : Every (Names (effect_of d) (λ q. q < register_count)) is
  held_registers = subst (Every (Names (effect_of d) (λ q. q < register_count))) (sym H.coded) (registers_below d H.tree H.most)

  -- the code, as that of the holder in its context
  code_whole : code_on (coding_of d) (plug H.gathered.holder H.gathered.above) ≡ is
  code_whole = ap (code_on (coding_of d)) (sym H.gathered.whole) ∙ (lawful d).is_code H.tree ∙ sym H.coded

  -- what holds of the holder's run in it holds of the run that HELD names
  of_run : (P : List (InstructionOf d) → ℕ → ℕ → Type 0) → P (code_on (coding_of d) (plug H.gathered.holder H.gathered.above)) (run_first H.gathered.holder H.gathered.above) (run_count H.gathered.holder H.gathered.above) → P is first count
  of_run P p = rw (H.first_is, H.count_is) (subst (λ (x : List (InstructionOf d)). P x (run_first H.gathered.holder H.gathered.above) (run_count H.gathered.holder H.gathered.above)) code_whole p)

  held_run_lem : HolderRun d u marks first count is
  held_run_lem =
      let h = H.gathered.holder in
      let c = H.gathered.above in
      let R = of_run (λ x f n. (r : ℕ) × IsOwn d h (stretch x f n) r × ClosedRun (effect_of d) x f n r) ((lawful d).own_run h c) in
      record {
        held = H;
        register = R.0;
        unbroken = R.1;
        closed = R.2;
        apart = of_run (λ x f n. LoadsApart (effect_of d) (is_in marks) x f n) (loads_apart (coding_of d) (effect_of d) (lawful d).acts h c (is_in marks) H.gathered.marked H.gathered.others);
      }

  held_demand : (m : MoveTable) (ls : List LiftLine) → u ≡ tree_after m t ls → Demand3 d m t marks ls (lift_answers m t ls) (held_run first count) is
  held_demand m ls same = record {
    lifts = refl;
    plain = λ z. absurd (omega (arith, ap (length {A = ℕ}) z));
    marked = λ q. differ cc;
    run = λ f c q. let a : first ≡ f = cc in let b : count ≡ c = cc in rw (← a, ← b, ← same) held_run_lem;
    lit = λ _. held_lights;
    registers = held_registers;
    never = λ q. differ cc;
    always = λ k C. absurd (C.never H.tree H.position (equivalent_trans e H.equivalent) H.gathered);
    none = λ q. differ cc;
  }

plain_demand : (d : Device) {m : MoveTable} → Right m → (t : Tree) (marks : List ℕ) (ls : List LiftLine) → size t ≤ most_nodes → marks ≡ [] → Demand3 d m t marks ls (lift_answers m t ls) unmarked (code_for d (tree_after m t ls))
plain_demand d {m} R t marks ls h none =
    let K = after_keeps R t ls h in
    record {
      lifts = refl;
      plain = λ _. (refl, refl);
      marked = λ _. none;
      run = λ f c q. differ cc;
      lit = λ _. lights d t (tree_after m t ls) (equivalent_sym K.equivalent) K.most;
      registers = registers_below d (tree_after m t ls) K.most;
      never = λ q. differ cc;
      always = λ k C. absurd (omega (arith, ap (length {A = ℕ}) none));
      none = λ q. differ cc;
    }

never_demand : (d : Device) {m : MoveTable} → Right m → (t : Tree) (marks : List ℕ) (ls : List LiftLine) → size t ≤ most_nodes → 1 ≤ length marks → CannotBeGathered (is_in marks) (tree_after m t ls)
    → Demand3 d m t marks ls (lift_answers m t ls) cannot []
never_demand d {m} R t marks ls h some_mark C =
    record {
      lifts = refl;
      plain = λ z. absurd (omega (arith, ap (length {A = ℕ}) z));
      marked = λ q. differ cc;
      run = λ f c q. differ cc;
      lit = λ n. absurd (n refl);
      registers = unfold Every in tt;
      never = λ _. never_alike (equivalent_sym (after_keeps R t ls h).equivalent) C;
      always = λ k D. refl;
      none = λ _. refl;
    }

-- THE THIRD DEMAND: for every tree as written within the limit, every list of marks and every list of lifts, of what the key says
-- of the lifts and of what follows them
pub demand_3 : (d : Device) {m : MoveTable} → Right m → (t : Tree) (marks : List ℕ) (ls : List LiftLine) → size t ≤ most_nodes → (held : Held) (is : List (InstructionOf d))
    → Ends d (tree_after m t ls) marks held is → Demand3 d m t marks ls (lift_answers m t ls) held is
demand_3 d R t marks ls h unmarked is E = rw E.1 (plain_demand d R t marks ls h E.0)
demand_3 d {m} R t marks ls h (held_run first count) is E =
    held_demand d t (tree_after m t ls) (equivalent_sym (after_keeps R t ls h).equivalent) marks first count is E.0 E.1 m ls refl
demand_3 d R t marks ls h cannot is E = rw E.2 (never_demand d R t marks ls h E.0 E.1)

-- HELD is said only where there are marks
module _ {d : Device} {m : MoveTable} {t : Tree} {marks : List ℕ} {ls : List LiftLine} {lifts : List LiftAnswer} {held : Held} {is : List (InstructionOf d)} (D : Demand3 d m t marks ls lifts held is) where
  pub said_marked : (held ≡ unmarked → ⊥) → 1 ≤ length marks
  said_marked n = go marks D.plain
    where
      go : (marks : List ℕ) → (marks ≡ [] → (held ≡ unmarked) × (is ≡ code_for d (tree_after m t ls))) → 1 ≤ length marks
      go [] f = absurd (n (f refl).0)
      go (g ∷ gs) f = omega arith

  pub some_mark : held ≡ cannot → 1 ≤ length marks
  some_mark e = said_marked (λ u. let z : cannot ≡ unmarked = sym e ∙ u in differ cc)
