-- Keys that stay the same, byte for byte, when the rules of reading change: lifts, gathering and code do not depend on them.
use mathlib.Core.Path.{◌≡◌, refl, sym, ap, ◌∙◌}
use mathlib.Core.Bool.{true≢false}
use mathlib.Core.Logic.{◌⊎◌, inl, inr}
use mathlib.Core.List.{List}
use Prim.Native.Nat.{ℕ, ◌+◌}
use native.Mathlib.Omega.{arith}
use Rattle.moves.specs.Moves.{ours}
use Rattle.sheet.specs.Rules.{Rules, Stricter, base_rules, earlier_rules, two_operator_rules, sheet_rules}
use Rattle.sheet.specs.Reading.{ReadingState, accepted, refused, read_with, reading}
use Rattle.sheet.proofs.RulesLaws.{Outcomes, same, no_node, no_group, no_task, no_intersection, two_rules, stricter_accepts, fewer_nodes, more_groups, third_operator}
use Rattle.printing.specs.declared.Device.{Device}
use Rattle.key.specs.InnerKeyOf.{key_by, key_with, key_of}

-- a sheet that rules accept has the same key by looser ones
pub same_key : (d : Device) → (few more : Rules) → Stricter few more → (s : List ℕ) (st : ReadingState) → read_with few s ≡ accepted st → key_with d few s ≡ key_with d more s
same_key d few more h s st e = ap (key_by d ours) (e ∙ sym (stricter_accepts few more h s st e))

-- by rules with as many nodes as today's and with tasks, a sheet that they refuse has its `NO` line to this day, unless that is 2
pub unless_2 : (d : Device) → (few : Rules) → Stricter few sheet_rules → few.nodes ≡ sheet_rules.nodes → few.tasks ≡ sheet_rules.tasks
    → (s : List ℕ) → (key_of d s ≡ key_with d few s) ⊎ ((line : ℕ) × (read_with few s ≡ refused 2 line))
unless_2 d few h nodes tasks s = go (two_rules few sheet_rules h s)
  where
    go : Outcomes few sheet_rules (read_with few s) (reading s) → (key_of d s ≡ key_with d few s) ⊎ ((line : ℕ) × (read_with few s ≡ refused 2 line))
    go (same e) = inl (ap (key_by d ours) (sym e))
    go (no_node l e) = absurd (omega (arith, l))
    go (no_group l line e) = inr (line, e)
    go (no_task a b line e) = absurd (true≢false (sym tasks ∙ a))
    go (no_intersection a b line e) = inr (line, e)

-- Request 6: "the verdict on an older sheet must be unchanged": the keys of older sheets stay byte for byte what they were.
pub keeps_older_key : (d : Device) → (s : List ℕ) (st : ReadingState) → read_with two_operator_rules s ≡ accepted st → key_of d s ≡ key_with d two_operator_rules s
keeps_older_key d s st e = sym (same_key d two_operator_rules sheet_rules third_operator s st e)

-- So has a sheet that was refused, its `NO` line, unless that is 2: an `I` was "a line of no such form".
pub older_unless_2 : (d : Device) → (s : List ℕ) → (key_of d s ≡ key_with d two_operator_rules s) ⊎ ((line : ℕ) × (read_with two_operator_rules s ≡ refused 2 line))
older_unless_2 d = unless_2 d two_operator_rules third_operator refl refl

-- Request 4: "A user with old sheets, accepted until now, sees the old keys."
pub keeps_old_key : (d : Device) → (s : List ℕ) (st : ReadingState) → read_with earlier_rules s ≡ accepted st → key_of d s ≡ key_with d earlier_rules s
keeps_old_key d s st e = sym (same_key d earlier_rules sheet_rules more_groups s st e)

-- So has a sheet that was refused, its `NO` line, unless that is 2: "Form faults (2) .. follow the new range".
pub keeps_unless_2 : (d : Device) → (s : List ℕ) → (key_of d s ≡ key_with d earlier_rules s) ⊎ ((line : ℕ) × (read_with earlier_rules s ≡ refused 2 line))
keeps_unless_2 d = unless_2 d earlier_rules more_groups refl refl

-- Request 1: "A sheet within the new limit gets the key it had": one that the rules with that limit accept has, to this day, the key
-- that 01's gave it.
pub keeps_key : (d : Device) → (s : List ℕ) (st : ReadingState) → read_with earlier_rules s ≡ accepted st → key_of d s ≡ key_with d base_rules s
keeps_key d s st e = keeps_old_key d s st e ∙ same_key d earlier_rules base_rules fewer_nodes s st e

-- By these rules so has one that they refuse, its `NO` line, unless that is "5 .. at the 256th".
pub keeps_unless_5 : (d : Device) → (s : List ℕ) → (key_with d earlier_rules s ≡ key_with d base_rules s) ⊎ (read_with earlier_rules s ≡ refused 5 (earlier_rules.nodes + 1))
keeps_unless_5 d s = go (two_rules earlier_rules base_rules fewer_nodes s)
  where
    go : Outcomes earlier_rules base_rules (read_with earlier_rules s) (read_with base_rules s) → (key_with d earlier_rules s ≡ key_with d base_rules s) ⊎ (read_with earlier_rules s ≡ refused 5 (earlier_rules.nodes + 1))
    go (same e) = inl (ap (key_by d ours) e)
    go (no_node l e) = inr e
    go (no_group l line e) = absurd (omega (arith, l))
    go (no_task a b line e) = absurd (true≢false a)
    go (no_intersection a b line e) = absurd (true≢false (sym b))
