-- Request 3: the state after a step by formula is Table 10's; and what the code finds of it.
use mathlib.Core.Path.{◌≡◌, refl, sym, ap, ◌∙◌}
use mathlib.Core.Bool.{cond}
use mathlib.Core.Option.{some}
use mathlib.Core.List.{List, [], ◌∷◌, ◌++◌, map}
use Prim.Native.Nat.{ℕ, ◌%◌, ◌≤◌}
use native.Mathlib.Omega.{arith}
use lib.ListN.{length, get_or, length-append}
use Rattle.tree.specs.Tree.{Operator, operator_of}
use Rattle.tree.specs.Context.{Side}
use Rattle.std.specs.Prelude.{Option as Maybe, Some, None}
use Rattle.tree.specs.InnerPart.{kind_of}
use Rattle.tree.specs.declared.Operand.{Operand}
use Rattle.moves.specs.Moves.{State, basic, state_with, Input, input_a, input_b, input_c, input_d, Move, replace_t, replace_t_with_d, ours, input_number}
use Rattle.moves.specs.NextState.{Kind, kind, kind_of_input, state_below, kinds_above, left_above, state_after, next_state}
use Rattle.moves.specs.InnerEntries.{number_of, input_operand, only_t, LeavesTwo, entry_of}
use Rattle.words.specs.InnerAbove.{kinds, AboveIs}
use Rattle.words.specs.declared.AboveA.{AboveA}
use Rattle.words.proofs.FormulaLaws.{map_above}
use Rattle.moves.proofs.TableLaws.{same_entry, input_round}

-- "It is to be proved that in all 36 cases this is Table 10's": both tables, computed
pub table_10 : (x : State) (i : Input) → state_after (ours x) (some i) ≡ some (next_state x i)
table_10 = same_entry (λ x i. state_after (ours x) (some i)) (λ x i. some (next_state x i)) refl

-- ---- the state that the code finds
abbrev kind_is : Kind → Maybe Operand
kind_is (kind s o) = kind_of s o

input_kind : (i : Input) → Some (input_operand i) ≡ kind_is (kind_of_input i)
input_kind input_a = refl
input_kind input_b = refl
input_kind input_c = refl
input_kind input_d = refl

-- from the two innermost frames
module _ (own second : Maybe Operand) (r : Maybe ℕ)
    (f : (s : Side) (o : Operator) (t : Side) (q : Operator) → own ≡ kind_of s o → second ≡ kind_of t q → r ≡ number_of (state_with s (basic o) t (basic q))) where
  below : (ks : List Kind) → 2 ≤ length ks → own ≡ get_or (map kind_is ks) 0 None → second ≡ get_or (map kind_is ks) 1 None → r ≡ number_of (state_below ks)
  below [] l e g = absurd (omega arith)
  below (k ∷ []) l e g = absurd (omega arith)
  below (kind s o ∷ (kind t q ∷ ks)) l e g = f s o t q e g

  with_input : (ks : List Kind) (i : Input) → length (ks ++ (kind_of_input i ∷ [])) ≡ 2 → own ≡ get_or (map kind_is ks) 0 None → second ≡ Some (input_operand i)
      → r ≡ number_of (state_below (ks ++ (kind_of_input i ∷ [])))
  with_input [] i l e g = absurd (omega arith)
  with_input (k ∷ []) i l e g = below (k ∷ (kind_of_input i ∷ [])) (omega arith) e (g ∙ input_kind i)
  with_input (k ∷ (m ∷ ks)) i l e g = absurd (let z = length-append ks (kind_of_input i ∷ []) in omega arith)

  next_by : (m : Move) (i : Input) → length (left_above m i) ≡ 2 → own ≡ get_or (map kind_is (kinds_above (entry_of m i))) 0 None
      → second ≡ cond (only_t m) (Some (input_operand i)) (get_or (map kind_is (kinds_above (entry_of m i))) 1 None) → r ≡ number_of (state_below (left_above m i))
  next_by (replace_t p) i l e g = with_input (kinds_above p) i l e g
  next_by (replace_t_with_d f) i l e g = below (left_above (replace_t_with_d f) i) (omega (arith, l)) e g

-- one frame of the entry and the input where T alone is replaced, two frames of the entry in the others
pub next_is : {w : List ℕ} {found : AboveA} {v : Move} {i : Input} → AboveIs w found → LeavesTwo w v i → (second : Maybe Operand) (r : Maybe ℕ)
    → ((s : Side) (o : Operator) (t : Side) (q : Operator) → found.own ≡ kind_of s o → second ≡ kind_of t q → r ≡ number_of (state_with s (basic o) t (basic q)))
    → second ≡ cond (only_t v) (Some (input_operand i)) found.parent → r ≡ number_of (state_after v (some i))
next_is {w} {found} {v} {i} is L second r f g =
    let p = entry_of v i in
    let same : kinds p ≡ map kind_is (kinds_above p) = sym (map_above kind_is (λ s o q. kind s (operator_of o)) p) in
    let scan = is.is p L.its_word.blanks L.names_once L.its_word.is in
    next_by found.own second r f v i L.two (scan.0 ∙ ap (λ (ks : List (Maybe Operand)). get_or ks 0 None) same)
    (g ∙ ap (cond (only_t v) (Some (input_operand i))) (scan.1 ∙ ap (λ (ks : List (Maybe Operand)). get_or ks 1 None) same))

-- an input's number, as the table of entries is read by it
pub input_rest : (n : ℕ) (i : Input) → n ≡ input_number i → n % 4 ≡ input_number i
input_rest n i e = rw e (input_round i)
