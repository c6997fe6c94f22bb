-- The older player: what its instructions do, and what it lights.
use mathlib.Core.Path.{◌≡◌, refl, ◌∙◌}
use mathlib.Core.Bool.{Bool, false}
use mathlib.Core.List.{List, [], ◌∷◌}
use Prim.Native.Nat.{ℕ, ◌+◌, ◌≤◌, ◌<◌}
use native.Mathlib.Omega.{arith}
use borrow.Author.Tests.{ne_eqb, le-ltb}
use lib.ListN.{length}
use Rattle.tree.specs.Tree.{Tree, is_group, size, Rig, selected, most_nodes, is_in}
use Rattle.tree.proofs.TreeLaws.{group_least, group_most}
use Rattle.tree.proofs.GroupLaws.{over_is_group}
use Rattle.player.specs.Limits.{register_count, byte_count}
use Rattle.player.specs.Instructions as newer
use Rattle.player.specs.Patches.{rig}
use Rattle.player.specs.Playing.{wrong_pair_count, wrong_patch, fault_by, Played}
use Rattle.player.proofs.PlayingLaws.{plays_done}
use Rattle.older_player.specs.Instructions.{Instruction, load, change, show, lights, lit_lamps, numbers_of}
use Rattle.older_player.specs.Playing.{play_fault, Plays}
use Rattle.older_player.specs.Codes.{AllWellFormed}
use Rattle.older_player.proofs.InstructionLaws.{instructions_numbers}
use Rattle.older_player.proofs.PlayingLaws.{numbers_fault}
use Rattle.code.specs.Need.{need, left_first}
use Rattle.code.specs.InnerWaiting.{waiting}
use Rattle.code.specs.Devices.{part_code, code_on, older_player}
use Rattle.code.specs.Acts.{Acts}
use Rattle.code.specs.Effects.{Every, Names, Loads, read_first, older_effect}
use Rattle.code.proofs.NeedLaws.{need_most}
use Rattle.code.proofs.CodeLaws.{every_append, every_implies, Runs, part_by, length_part, Free, named, names_imply, loads}
use Rattle.code.proofs.Theorems.{code_answers, code_length}
use Rattle.code.proofs.NewerLaws.{PlaysAs}

pub older_acts : Acts older_player older_effect
unfolding Every read_first is_in
older_acts = record {
  loads = λ r g. refl;
  operates = λ o f p q. refl;
  end_names = λ high r e. (((e, tt), tt), tt);
  end_loads = λ m r. (tt, tt);
  end_reads = λ r q n. rw (ne_eqb q r n);
}

older_runs : (rig : Rig) → Runs older_player rig (lights rig)
unfolding lights
older_runs rig = record { loads = λ r g is R. refl; operates = λ o f p q is R. refl }

-- the register that SHOW names holds what the tree selects
pub older_selects : (rig : Rig) (t : Tree) → lit_lamps rig (code_on older_player t) ≡ selected rig t
unfolding lights
older_selects rig t = let u = code_answers older_player rig (lights rig) (older_runs rig) t newer.empty in u.ran ∙ u.answer

-- one instruction for each node, and SHOW
pub older_length : (t : Tree) → length (code_on older_player t) ≡ size t + 1
older_length t = code_length older_player older_effect older_acts t

-- ---- What the player makes of the code of a tree within the limit: no fault 22 or 23, and the lamps lit are those that the tree selects
-- in the rig of the patch.
abbrev NotShow : Instruction → Type 0
NotShow (load target group) = Unit {0}
NotShow (change o first second) = Unit {0}
NotShow (show register) = ⊥

-- SHOW stands last and there only
show_last : (w : List Bool) (t : Tree) → Every NotShow (part_code older_player w t).own
show_last =
    part_by older_player (λ w t x. Every NotShow x.own) (λ w g h. unfold Every in (tt, tt))
    (λ w o l r x y p q. every_append NotShow x.own _ p (every_append NotShow y.own (older_player.operates o (left_first l r) x.register y.register ∷ []) q (unfold Every in (tt, tt))))

well_formed_all : (is : List Instruction) → Every (Names older_effect (λ q. q < register_count)) is → Every (Loads older_effect is_group) is → Every NotShow is → AllWellFormed is
unfolding Every AllWellFormed
well_formed_all [] p q n = tt
well_formed_all (load k g ∷ is) p q n = ((p.0.1.0, group_least g (rw q.0.0 tt), group_most g (rw q.0.0 tt)), well_formed_all is p.1 q.1 n.1)
well_formed_all (change o a b ∷ is) p q n = ((p.0.0.0, p.0.0.1.0), well_formed_all is p.1 q.1 n.1)
well_formed_all (show r ∷ is) p q n = absurd n.0

module _ (t : Tree) (h : size t ≤ most_nodes) where
  own_below : (q : ℕ) → Free [] (waiting [] + need t) q → q < register_count
  own_below q e = unfold waiting in omega (arith, e.below, need_most t h)

  pub older_well_formed : AllWellFormed (part_code older_player [] t).own
  older_well_formed =
      well_formed_all (part_code older_player [] t).own
      (every_implies (names_imply older_player older_effect older_acts own_below) (part_code older_player [] t).own (named older_player older_effect older_acts [] t).names)
      (loads older_player older_effect older_acts is_group [] t (over_is_group t)) (show_last [] t)

  pub older_shown : (part_code older_player [] t).register < register_count
  older_shown = own_below _ (named older_player older_effect older_acts [] t).register

  module _ (patch lamps : List ℕ) where
    pub older_faultless : play_fault (numbers_of (code_on older_player t)) patch lamps ≡ fault_by false false patch lamps
    older_faultless = numbers_fault (part_code older_player [] t).register older_shown (part_code older_player [] t).own (omega (arith, length_part older_player [] t)) older_well_formed patch lamps

    pub older_lights : byte_count ≤ length lamps → wrong_pair_count (length patch) ≡ false → wrong_patch patch ≡ false
        → (r : Played) (after : List ℕ) → Plays (numbers_of (code_on older_player t)) patch lamps r after → PlaysAs t h patch lamps r after
    older_lights long even good r after p = record {
      done = plays_done p (older_faultless ∙ rw (le-ltb (length lamps) byte_count long, even, good));
      lit = p.written ∙ rw (older_faultless, le-ltb (length lamps) byte_count long, even, good, instructions_numbers (code_on older_player t), older_selects (rig patch) t);
    }
