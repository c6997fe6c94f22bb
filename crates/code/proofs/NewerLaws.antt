-- 01's player: its code is 01's, what its instructions do, its numbers, and what it makes of a tree's code.
use mathlib.Core.Path.{◌≡◌, refl, sym, ap, ◌∙◌}
use mathlib.Core.Bool.{Bool, true, false}
use mathlib.Core.List.{List, [], ◌∷◌, ◌++◌, append-nil}
use Prim.Native.Nat.{ℕ, zero, suc, ◌+◌, ◌*◌, ◌≤◌, ◌<◌}
use native.Mathlib.Numerals.{add-one}
use native.Mathlib.Omega.{arith}
use borrow.Author.Tests.{le-ltb}
use lib.Dec.{T}
use lib.ListN.{length, drop, replicate}
use Rattle.tree.specs.Tree.{Operator, union, difference, intersection, Tree, leaf, node, is_group, size, Rig, selected, most_nodes, WithoutIntersection}
use Rattle.tree.specs.Context.{Frame, frame, sided, plug}
use Rattle.tree.proofs.TreeLaws.{size_positive, group_least, group_most}
use Rattle.tree.proofs.GroupLaws.{over_is_group}
use Rattle.player.specs.Limits.{register_count, byte_count}
use Rattle.player.specs.Instructions.{Registers, both, Instruction, load, operate, empty, run, lit_lamps, numbers_of}
use Rattle.player.specs.Patches.{rig}
use Rattle.player.specs.Bytes.{bytes}
use Rattle.player.specs.Playing.{wrong_pair_count, wrong_patch, fault_by, play_fault, Played, Plays}
use Rattle.std.specs.Prelude.{Ok}
use Rattle.player.proofs.InstructionLaws.{AllWellFormed, numbers_length, instructions_numbers}
use Rattle.player.proofs.PlayingLaws.{numbers_fault, plays_done}
use Rattle.code.specs.Need.{left_first, in_order}
use Rattle.code.specs.Code.{operation, combine, code}
use Rattle.code.specs.Waiting.{lowest, also_in}
use Rattle.code.specs.Devices.{PartCode, part_code, code_on, newer_player}
use Rattle.code.specs.Acts.{Acts}
use Rattle.code.specs.Effects.{Every, Names, Loads, stretch, ClosedRun, read_first, newer_effect}
use Rattle.code.specs.Runs.{run_first, run_count}
use Rattle.code.proofs.NeedLaws.{first, second, in_order_node, in_order_by}
use Rattle.code.proofs.CodeLaws.{every_append, Runs, part_by, length_part, cond_by}
use Rattle.code.proofs.Theorems.{code_answers, thirteen_suffice, loads_all, root, closed_run, run_waiting}
use Rattle.code.proofs.RunLaws.{CodePlace, code_place, child_by}

pub newer_acts : Acts newer_player newer_effect
unfolding Every read_first
newer_acts = record {
  loads = λ r g. refl;
  operates = λ o f p q. refl;
  end_names = λ high r e. tt;
  end_loads = λ m r. tt;
  end_reads = λ r q n. refl;
}

newer_runs : (rig : Rig) → Runs newer_player rig (run rig)
unfolding run
newer_runs rig = record { loads = λ r g is R. refl; operates = λ o f p q is R. refl }

-- ---- 01's code
pub code_leaf : (g : ℕ) (h : T (is_group g)) (r : ℕ) → code (leaf g h) r ≡ load r g ∷ []
unfolding code in_order
code_leaf g h r = refl

pub code_node : (o : Operator) (l r : Tree) (k : ℕ) → code (node o l r) k ≡ code (first l r) k ++ (code (second l r) (k + 1) ++ (combine k o (left_first l r) ∷ []))
unfolding code
code_node o l r k = in_order_node (λ r g. load r g ∷ []) (λ r o f x y. x ++ (y ++ (combine r o f ∷ []))) (λ r x. r + 1) k o l r

-- it is this player's: with target r, operands wait in the r registers below
abbrev pub taken : ℕ → List Bool
taken r = replicate r true

lowest_taken : (r : ℕ) → lowest (taken r) ≡ r
unfolding lowest
lowest_taken zero = refl
lowest_taken (suc r) = rw (lowest_taken r) (add-one r)

also_taken : (r : ℕ) → also_in (taken r) r ≡ taken (suc r)
unfolding also_in
also_taken zero = refl
also_taken (suc r) = ap (λ (w : List Bool). true ∷ w) (also_taken r)

pub record IsCode (t : Tree) (r : ℕ) (x : PartCode Instruction) : Type 0 where
  pub own : x.own ≡ code t r
  pub register : x.register ≡ r

pub part_is_code : (w : List Bool) (t : Tree) (r : ℕ) → w ≡ taken r → IsCode t r (part_code newer_player w t)
part_is_code =
    part_by newer_player (λ w t x. (r : ℕ) → w ≡ taken r → IsCode t r x)
    (λ w g h r e. record { own = rw (code_leaf g h r, e, lowest_taken r); register = rw e (lowest_taken r) })
    (λ w o l r x y p q k e.
    let u = p k e in
    let v = q (k + 1) (rw (u.register, e, add-one k) (also_taken k)) in
    record { own = rw (code_node o l r k, u.own, v.own, u.register, v.register); register = u.register })

pub code_is : (t : Tree) → code_on newer_player t ≡ code t 0
code_is t = append-nil _ ∙ (part_is_code [] t 0 refl).own

-- ---- so the closed run of a part is 01's code of it, with the register handed on as target
waiting_taken : (root : CodePlace Instruction) → ((r : ℕ) × (root.waiting ≡ taken r)) → (h : Tree) (c : List Frame) → (r : ℕ) × ((code_place newer_player root h c).waiting ≡ taken r)
unfolding code_place
waiting_taken root z h [] = z
waiting_taken root z h (frame s o b ∷ c) =
    let Q : CodePlace Instruction = code_place newer_player root (sided s (node o) h b) c in
    let u = waiting_taken root z (sided s (node o) h b) c in
    child_by newer_player (λ f P. (r : ℕ) × (P.waiting ≡ taken r)) s o h b Q
    (λ f e. u)
    (λ f e. (suc u.0, rw ((part_is_code Q.waiting b u.0 u.1).register, u.1) (also_taken u.0)))

pub code_run : (h : Tree) (c : List Frame) → (r : ℕ) × (stretch (code_on newer_player (plug h c)) (run_first h c) (run_count h c) ≡ code h r) × ClosedRun newer_effect (code_on newer_player (plug h c)) (run_first h c) (run_count h c) r
code_run h c =
    let R = closed_run newer_player newer_effect newer_acts h c in
    let w = waiting_taken (root newer_player newer_effect newer_acts h c) (0, refl) h c in
    let t : R.waiting ≡ taken w.0 = run_waiting newer_player newer_effect newer_acts h c ∙ w.1 in
    let p = part_is_code R.waiting h w.0 t in
    (w.0, R.unbroken ∙ p.own, rw p.register at R.closed)

-- ---- its length and its numbers
-- "The root's target is 0": the numbers of a tree's code, four for each instruction
abbrev pub code_numbers : Tree → List ℕ
code_numbers t = numbers_of (code t 0)

pub length_code : (t : Tree) (k : ℕ) → length (code t k) ≡ size t
length_code t k = ap length (sym (part_is_code (taken k) t k refl).own) ∙ length_part newer_player (taken k) t

pub length_numbers : (t : Tree) (k : ℕ) → length (numbers_of (code t k)) ≡ 4 * size t
length_numbers t k = numbers_length (code t k) ∙ ap (λ (n : ℕ). 4 * n) (length_code t k)

-- every leaf's number is a group, so every instruction is one that the player takes
well_formed_all : (is : List Instruction) → Every (Names newer_effect (λ q. q < register_count)) is → Every (Loads newer_effect is_group) is → AllWellFormed is
unfolding Every AllWellFormed
well_formed_all [] p q = tt
well_formed_all (load k g ∷ is) p q = ((p.0.1.0, group_least g (rw q.0.0 tt), group_most g (rw q.0.0 tt)), well_formed_all is p.1 q.1)
well_formed_all (operate o k a b ∷ is) p q = ((p.0.1.0, p.0.0.0, p.0.0.1.0), well_formed_all is p.1 q.1)

pub code_well_formed : (t : Tree) → size t ≤ most_nodes → AllWellFormed (code t 0)
code_well_formed t h =
    rw (code_is t) at (well_formed_all (code_on newer_player t) (thirteen_suffice newer_player newer_effect newer_acts t h) (loads_all newer_player newer_effect newer_acts is_group t (over_is_group t)))

-- ---- What the player makes of the code of a tree within the limit: no fault 22 or 23, and the lamps lit are those that the
-- tree selects in the rig of the patch.
pub newer_selects : (rig : Rig) (t : Tree) → lit_lamps rig (code t 0) ≡ selected rig t
unfolding run
newer_selects rig t =
    let u = code_answers newer_player rig (run rig) (newer_runs rig) t empty in
    rw (← (code_is t)) (ap (λ (R : Registers). R 0) u.ran ∙ rw (part_is_code [] t 0 refl).register at u.answer)

module _ (t : Tree) (h : size t ≤ most_nodes) (patch lamps : List ℕ) where
  pub code_faultless : play_fault (code_numbers t) patch lamps ≡ fault_by false false patch lamps
  code_faultless =
      numbers_fault (code t 0) (omega (arith, size_positive t, length_code t 0)) (omega (arith, length_code t 0)) patch lamps (code_well_formed t h)

  pub record PlaysAs (r : Played) (after : List ℕ) : Type 0 where
    pub done : r ≡ Ok tt
    pub lit : after ≡ bytes (selected (rig patch) t) ++ drop byte_count lamps

  pub code_lights : byte_count ≤ length lamps → wrong_pair_count (length patch) ≡ false → wrong_patch patch ≡ false
      → (r : Played) (after : List ℕ) → Plays (code_numbers t) patch lamps r after → PlaysAs r after
  code_lights long even good r after p = record {
    done = plays_done p (code_faultless ∙ rw (le-ltb (length lamps) byte_count long, even, good));
    lit = p.written ∙ rw (code_faultless, le-ltb (length lamps) byte_count long, even, good, instructions_numbers (code t 0), newer_selects (rig patch) t);
  }

-- ---- request 6: the code of a tree without `I` has no BOTH
abbrev pub NotBoth : Instruction → Type 0
NotBoth (load target group) = Unit {0}
NotBoth (operate o target s t) = o ≡ both → ⊥

operands_without : (o : Operator) (l r : Tree) → WithoutIntersection (node o l r) → (operation o ≡ both → ⊥) × WithoutIntersection l × WithoutIntersection r
unfolding WithoutIntersection
operands_without union l r w = (λ e. let z : ◌≡◌ {A = ℕ} 0 1 = cc in omega arith, w.0, w.1)
operands_without difference l r w = (λ e. let z : ◌≡◌ {A = ℕ} 0 1 = cc in omega arith, w.0, w.1)
operands_without intersection l r w = absurd w

pub without_both : (t : Tree) (k : ℕ) → WithoutIntersection t → Every NotBoth (code t k)
unfolding code
without_both t k =
    in_order_by (λ r g. load r g ∷ []) (λ r o f x y. x ++ (y ++ (combine r o f ∷ []))) (λ r x. r + 1) (λ k t is. WithoutIntersection t → Every NotBoth is)
    (λ k g h w. unfold Every in (tt, tt))
    (λ k o l r x y p q w. let v = operands_without o l r w in
    every_append NotBoth x _ (p (cond_by WithoutIntersection (left_first l r) l r v.1 v.2))
    (every_append NotBoth y (combine k o (left_first l r) ∷ []) (q (cond_by WithoutIntersection (left_first l r) r l v.2 v.1)) (unfold Every in (v.0, tt))))
    k t
