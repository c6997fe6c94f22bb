-- What the laws of a key need to know of a device; each of the two has it.
use mathlib.Core.Path.{◌≡◌, refl}
use mathlib.Core.Bool.{false}
use mathlib.Core.List.{List, [], ◌++◌}
use Prim.Native.Nat.{ℕ, ◌+◌, ◌*◌, ◌≤◌}
use native.Mathlib.Omega.{arith}
use lib.ListN.{length, drop}
use Rattle.std.specs.Prelude.{Ok}
use Rattle.tree.specs.Tree.{Tree, size, most_nodes, selected}
use Rattle.tree.specs.Context.{Frame, plug}
use Rattle.text.specs.Line.{lines}
use Rattle.player.specs.Limits.{byte_count}
use Rattle.player.specs.Patches.{rig}
use Rattle.player.specs.Bytes.{bytes}
use Rattle.player.specs.Playing.{wrong_pair_count, wrong_patch, Played}
use Rattle.player.proofs.InstructionLaws as newer-laws
use Rattle.older_player.proofs.InstructionLaws as older-laws
use Rattle.code.specs.Devices as coding
use Rattle.code.specs.Devices.{part_code, code_on, older_player}
use Rattle.code.specs.Acts.{Acts}
use Rattle.code.proofs.CodeLaws.{length_part}
use Rattle.code.specs.Effects.{older_effect, stretch, ClosedRun}
use Rattle.code.specs.Runs.{run_first, run_count}
use Rattle.code.proofs.Theorems.{closed_run}
use Rattle.code.proofs.NewerLaws.{newer_acts, code_is, code_run, length_code, code_well_formed, code_lights}
use Rattle.code.proofs.OlderLaws.{older_acts, older_length, older_well_formed, older_shown, older_lights}
use Rattle.printing.specs.Key.{instruction_rows}
use Rattle.printing.specs.Inner.{code_rows}
use Rattle.printing.specs.declared.Device.{Device}
use Rattle.printing.specs.declared.Device.TheVariants.{Newer, Older}
use Rattle.printing.proofs.PrintingLaws.{newer_rows, older_rows, code_most, older_code_most}
use Rattle.key.specs.Devices.{InstructionOf, effect_of, code_for, IsOwn, row_for, numbers_for, PlaysFor}
use Rattle.key.specs.Inner.{code_bytes}

-- how it is coded for
abbrev pub coding_of : (d : Device) → coding.Device (InstructionOf d)
coding_of Newer = coding.newer_player
coding_of Older = coding.older_player

pub record Lawful (d : Device) : Type 0 where
  pub acts : Acts (coding_of d) (effect_of d)
  pub is_code : (t : Tree) → code_on (coding_of d) t ≡ code_for d t
  pub own_run : (h : Tree) (c : List Frame)
      → (r : ℕ) × IsOwn d h (stretch (code_on (coding_of d) (plug h c)) (run_first h c) (run_count h c)) r × ClosedRun (effect_of d) (code_on (coding_of d) (plug h c)) (run_first h c) (run_count h c) r
  pub rows : (is : List (InstructionOf d)) → code_rows d (numbers_for d is) ≡ instruction_rows (row_for d) is
  pub numbered : (is : List (InstructionOf d)) → length (numbers_for d is) ≡ 4 * length is
  pub few : (t : Tree) → size t ≤ most_nodes → length (code_for d t) ≤ most_nodes + 1
  pub text_most : (t : Tree) → size t ≤ most_nodes → length (lines (instruction_rows (row_for d) (code_for d t))) ≤ code_bytes
  pub lights : (t : Tree) → size t ≤ most_nodes → (patch lamps : List ℕ) → wrong_pair_count (length patch) ≡ false → wrong_patch patch ≡ false → byte_count ≤ length lamps
      → (r : Played) (after : List ℕ) → PlaysFor d (numbers_for d (code_for d t)) patch lamps r after
      → (r ≡ Ok tt) × (after ≡ bytes (selected (rig patch) t) ++ drop byte_count lamps)

pub lawful : (d : Device) → Lawful d
lawful Newer = record {
  acts = newer_acts;
  is_code = code_is;
  own_run = code_run;
  rows = newer_rows;
  numbered = newer-laws.numbers_length;
  few = λ t h. omega (arith, length_code t 0);
  text_most = λ t h. omega (arith, code_most _ (code_well_formed t h), length_code t 0);
  lights = λ t h patch lamps even good long r after p. let L = code_lights t h patch lamps long even good r after p in (L.done, L.lit);
}
lawful Older = record {
  acts = older_acts;
  is_code = λ t. refl;
  own_run = λ h c. let R = closed_run older_player older_effect older_acts h c in ((part_code older_player R.waiting h).register, (R.waiting, R.unbroken, refl), R.closed);
  rows = older_rows;
  numbered = older-laws.numbers_length;
  few = λ t h. omega (arith, older_length t);
  text_most = λ t h. omega (arith, older_code_most (part_code older_player [] t).register (older_shown t h) (part_code older_player [] t).own (older_well_formed t h), length_part older_player [] t);
  lights = λ t h patch lamps even good long r after p. let L = older_lights t h patch lamps long even good r after p in (L.done, L.lit);
}
