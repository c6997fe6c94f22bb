use mathlib.Core.Path.{◌≡◌}
use mathlib.Core.List.{map}
use lib.ListN.{length, drop}
use Rattle.common.specs.Fours.{fours}
use Rattle.player.specs.Limits.{register_count}
use Rattle.player.specs.Instructions.{Rig, Registers, empty, run}
use Rattle.player.specs.InnerWords.{HoldsSets, HoldsGroups}
use Rattle.player.specs.InnerForms.{wrong_in, instruction_in, NoneWrong}
use Rattle.player.proofs.ListLaws.{of_four}
use Rattle.player.proofs.execute.Given as goal

abbrev pub invariant-loop-four : goal.invariant-loop-four
invariant-loop-four l =
    NoneWrong (map (of_four (wrong_in l.form)) (drop l.four-index l.fours)) × (length l.registers ≡ register_count)
    × ((G : Rig) → HoldsGroups l.groups.index l.groups.sets G
    → (R : Registers) × HoldsSets l.registers R
    × (run G (map (of_four (instruction_in l.form)) (drop l.four-index l.fours)) R ≡ run G (fours (instruction_in l.form) l.code) empty))
