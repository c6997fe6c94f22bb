-- Request 6, of older sheets, those that the rules until then accept: their keys say nothing that keys did not say before. With
-- `keeps_older_key`, which says that reading comes to the same, and the contract of `gather`, whose trees have no `I` then.
use mathlib.Core.Path.{◌≡◌, refl, sym, ap, subst, ◌∙◌}
use mathlib.Core.List.{List, [], ◌∷◌}
use mathlib.Core.Option.{Option, some, none}
use Prim.Native.Nat.{ℕ, ◌≤◌}
use native.Mathlib.Omega.{arith}
use Rattle.tree.specs.Tree.{Tree, size, most_nodes, WithoutIntersection}
use Rattle.tree.specs.Parse.{tree_of}
use Rattle.tree.proofs.ParseLaws.{tree_of_sound}
use Rattle.code.specs.Effects.{Every}
use Rattle.code.specs.Code.{code}
use Rattle.code.proofs.NewerLaws.{NotBoth, without_both}
use Rattle.coder.specs.Coding.{code_of_list}
use Rattle.gather.specs.InnerGathered.{gathered_by}
use Rattle.gather.proofs.GatheredLaws.{gathered_plain}
use Rattle.moves.specs.Moves.{ours}
use Rattle.moves.proofs.MoveLaws.{ours_right}
use Rattle.sheet.specs.Rules.{two_operator_rules, sheet_rules}
use Rattle.sheet.specs.Reading.{ReadingState, accepted, read_with}
use Rattle.sheet.proofs.RulesLaws.{stricter_accepts, third_operator}
use Rattle.sheet.proofs.WithoutLaws.{accepted_without}
use Rattle.player.specs.Instructions.{Instruction}
use Rattle.printing.specs.declared.Device.TheVariants.{Newer}
use Rattle.printing.specs.Key.{Key, refusal, answers, instruction_row, text}
use Rattle.lift_lines.specs.Lifting.{tree_after}
use Rattle.lift_lines.proofs.LiftingLaws.{AllAnswers, never_27, after_keeps}
use Rattle.key.specs.InnerKeyOf.{code_by, key_in, key_for, key_by, key_of}

-- no lift is answered with 27, and no instruction is BOTH
abbrev pub SaysNothingNew : Key Instruction → Type 0
SaysNothingNew (refusal number line) = Unit {0}
SaysNothingNew (answers ls held is) = AllAnswers (λ a. a.number ≡ 27 → ⊥) ls × Every NotBoth is

code_without : (u : Tree) (marks : List ℕ) → WithoutIntersection u → Every NotBoth (code_by Newer u marks)
unfolding Every
code_without u [] w = without_both u 0 w
code_without u (m ∷ marks) w = go (gathered_by u (m ∷ marks)) refl
  where
    go : (o : Option Tree) → gathered_by u (m ∷ marks) ≡ o → Every NotBoth (code_of_list (λ t. code t 0) o)
    go none e = tt
    go (some g) e = without_both g 0 (gathered_plain u (m ∷ marks) g e w)

pub older_key : (s : List ℕ) (st : ReadingState) → read_with two_operator_rules s ≡ accepted st → (key_of Newer s ≡ text instruction_row (key_for Newer ours (accepted st))) × SaysNothingNew (key_for Newer ours (accepted st))
unfolding key_by
older_key s st e = (ap (λ o. text instruction_row (key_for Newer ours o)) (stricter_accepts two_operator_rules sheet_rules third_operator s st e), go (tree_of st.entries) refl)
  where
    go : (o : Option Tree) → tree_of st.entries ≡ o → SaysNothingNew (key_in Newer ours st o)
    go none q = tt
    go (some t) q =
        let w : WithoutIntersection t = accepted_without two_operator_rules refl (omega arith) s st e t q in
        let I = tree_of_sound st.entries t q in
        let same : some I.tree ≡ some t = sym I.is ∙ q in
        let z : I.tree ≡ t = cc in
        let m : size t ≤ most_nodes = subst (λ (x : Tree). size x ≤ most_nodes) z I.most in
        (never_27 ours_right t st.lifts m w, code_without (tree_after ours t st.lifts) st.marks ((after_keeps ours_right t st.lifts m).without w))
