-- One file read by two rules of which the second allow more: they come to the same, unless the stricter ones refuse what only the
-- looser ones allow (`two_rules`). So what stricter rules accept, looser ones accept with the same state.
use Rattle.std.proofs.Common.{Option, Some, None}
use mathlib.Core.Path.{◌≡◌, refl, sym, ◌∙◌}
use mathlib.Core.Bool.{Bool, true, false, cond, true≢false}
use mathlib.Core.List.{List, [], ◌∷◌}
use Prim.Native.Nat.{ℕ, ◌+◌, ◌≤◌, ◌<◌}
use native.Mathlib.Omega.{arith}
use borrow.Author.Tests.{eqb-true, leb-true, leb-false}
use lib.Dec.{eqb, ltb}
use lib.ListN.{length, length-append}
use Rattle.text.specs.Parts.{Parts, last, part, split}
use Rattle.text.specs.Line.{line_feed}
use Rattle.sheet.specs.Form.{line_of}
use Rattle.sheet.specs.Rules.{Rules, Stricter, base_rules, earlier_rules, two_operator_rules, sheet_rules}
use Rattle.sheet.specs.Reading.{most_bytes, ReadingState, trees, first_fault, order_fault, is_full, fault_of, state_after, nothing_read, ReadingOutcome, accepted, refused, read_lines, read_with}
use Rattle.sheet.specs.declared.Line.{Line}
use Rattle.sheet.specs.declared.Line.TheVariants.{Group, Operator, Lift, Mark, End}
use Rattle.sheet.proofs.SoundLaws.{order_none, none_of, bad_fault, group_none, operator_none}
use Rattle.sheet.proofs.FormLaws.{Forms, same_form, unknown_group, unknown_operator, forms}
use Rattle.sheet.proofs.AcceptedLaws.{no_outcome}

-- what holds after so many lines without fault, where n nodes are allowed: while the tree is read, each line is a node
record Passed (n : ℕ) (st : ReadingState) (lines : ℕ) : Type 0 where
  within : length st.entries ≤ n
  counted : st.phase ≡ 0 → length st.entries ≡ lines

passed_next : (rules : Rules) (st : ReadingState) (lines : ℕ) (l : Option Line) (after : ℕ) → fault_of rules st l ≡ 0 → Passed rules.nodes st lines
    → Passed rules.nodes (state_after st l after) (lines + 1)
passed_next rules st lines None after e P = absurd (bad_fault rules st e)
passed_next rules st lines (Some (Group g)) after e P =
    let a = group_none rules st g (none_of rules st (Some (Group g)) e).1 in
    let k = length-append st.entries (g ∷ []) in
    record { within = omega (arith, a.0, k); counted = λ z. omega (arith, P.counted z, k) }
passed_next rules st lines (Some (Operator x)) after e P =
    let a = operator_none rules st x (none_of rules st (Some (Operator x)) e).1 in
    let k = length-append st.entries (x ∷ []) in
    record { within = omega (arith, a.0, k); counted = λ z. omega (arith, P.counted z, k) }
passed_next rules st lines (Some (Lift p m)) after e P = record { within = P.within; counted = λ z. absurd (omega arith) }
passed_next rules st lines (Some (Mark g)) after e P = record { within = P.within; counted = λ z. absurd (omega arith) }
passed_next rules st lines (Some End) after e P = record { within = P.within; counted = λ z. absurd (omega arith) }

-- ---- rules and looser ones
-- what they come to: the same, or the stricter ones refuse the node after their last (5), a group after their last (2), a lift or a
-- mark (3), or an `I` (2)
pub data Outcomes (few more : Rules) (o p : ReadingOutcome) : Type 0 where
  same : o ≡ p → Outcomes few more o p
  no_node : few.nodes < more.nodes → o ≡ refused 5 (few.nodes + 1) → Outcomes few more o p
  no_group : few.last_group < more.last_group → (line : ℕ) → o ≡ refused 2 line → Outcomes few more o p
  no_task : few.tasks ≡ false → more.tasks ≡ true → (line : ℕ) → o ≡ refused 3 line → Outcomes few more o p
  no_intersection : few.intersections ≡ false → more.intersections ≡ true → (line : ℕ) → o ≡ refused 2 line → Outcomes few more o p

module _ (few more : Rules) (h : Stricter few more) where
  -- a line's fault by both: the same; or by the stricter ones alone 5, of a line in its place when the tree is full, or 3, of a task
  data Faults (st : ReadingState) (f g : ℕ) : Type 0 where
    alike : f ≡ g → Faults st f g
    full : f ≡ 5 → order_fault st.phase (length (trees st.entries)) 0 ≡ 0 → few.nodes ≤ length st.entries → few.nodes < more.nodes → Faults st f g
    task : f ≡ 3 → few.tasks ≡ false → more.tasks ≡ true → Faults st f g

  -- of a tree line; `early` says whether it gets 4
  tree_line : (st : ReadingState) (early : Bool) (rest : ℕ)
      → let fault : Rules → ℕ = λ r. first_fault (order_fault st.phase (length (trees st.entries)) 0) (cond early 4 (cond (is_full r st) 5 rest)) in
      Faults st (fault few) (fault more)
  tree_line st early rest = go early (eqb o 0) refl (is_full few st) refl (is_full more st) refl
    where
      o : ℕ
      o = order_fault st.phase (length (trees st.entries)) 0

      go : (early b : Bool) → eqb o 0 ≡ b → (f : Bool) → is_full few st ≡ f → (f' : Bool) → is_full more st ≡ f'
          → Faults st (cond b (cond early 4 (cond f 5 rest)) o) (cond b (cond early 4 (cond f' 5 rest)) o)
      go early false p f q f' r = alike refl
      go true true p f q f' r = alike refl
      go false true p true q true r = alike refl
      go false true p true q false r = let k = leb-true few.nodes (length st.entries) q in full refl (eqb-true o 0 p) k (omega (arith, leb-false, k))
      go false true p false q true r = absurd (omega (arith, leb-false, leb-true, h.nodes))
      go false true p false q false r = alike refl

  -- of a lift or a mark; `rest` is its fault where tasks may stand
  task_line : (st : ReadingState) (rest : ℕ) → Faults st (first_fault (cond few.tasks 0 3) rest) (first_fault (cond more.tasks 0 3) rest)
  task_line st rest = go few.tasks refl more.tasks refl
    where
      go : (a : Bool) → few.tasks ≡ a → (b : Bool) → more.tasks ≡ b → Faults st (first_fault (cond a 0 3) rest) (first_fault (cond b 0 3) rest)
      go true p true q = alike refl
      go true p false q = absurd (true≢false (sym (h.tasks p) ∙ q))
      go false p true q = task refl p q
      go false p false q = alike refl

  faults : (st : ReadingState) (l : Option Line) → Faults st (fault_of few st l) (fault_of more st l)
  unfolding fault_of
  faults st None = alike refl
  faults st (Some (Group g)) = tree_line st false _
  faults st (Some (Operator x)) = tree_line st (ltb (length (trees st.entries)) 2) 0
  faults st (Some (Lift p m)) = task_line st _
  faults st (Some (Mark g)) = task_line st _
  faults st (Some End) = alike refl

  -- a line with these faults, after which they come to o and p
  line_outcomes : (st : ReadingState) (lines f g : ℕ) (o p : ReadingOutcome) → Passed few.nodes st lines → Faults st f g → (f ≡ 0 → Outcomes few more o p)
      → Outcomes few more (cond (eqb f 0) o (refused f (lines + 1))) (cond (eqb g 0) p (refused g (lines + 1)))
  line_outcomes st lines f g o p P (alike e) next = rw (← e) (go (eqb f 0) refl)
    where
      go : (b : Bool) → eqb f 0 ≡ b → Outcomes few more (cond b o (refused f (lines + 1))) (cond b p (refused f (lines + 1)))
      go true q = next (eqb-true f 0 q)
      go false q = same refl
  line_outcomes st lines f g o p P (full e q l m) next =
      let k = (order_none st.phase (length (trees st.entries)) 0 q).0 in
      let z : lines ≡ few.nodes = omega (arith, P.counted (omega (arith, k)), P.within, l) in
      no_node m (rw (e, z))
  line_outcomes st lines f g o p P (task e a b) next = no_task a b (lines + 1) (rw e)

  abbrev LinesOutcomes : Parts → Type 0
  LinesOutcomes ps = (st : ReadingState) (lines at : ℕ) → Passed few.nodes st lines → Outcomes few more (read_lines few st lines at ps) (read_lines more st lines at ps)

  lines_outcomes : (ps : Parts) → LinesOutcomes ps
  unfolding read_lines fault_of
  lines_outcomes (last l) st lines at P = same refl
  lines_outcomes (part l ls) st lines at P = go (lines_outcomes ls) (forms few more h.last_group h.intersections l)
    where
      go : LinesOutcomes ls → Forms few more (line_of few l) (line_of more l) → Outcomes few more (read_lines few st lines at (part l ls)) (read_lines more st lines at (part l ls))
      go later (same_form e) =
          rw (← e) (line_outcomes st lines (fault_of few st (line_of few l)) (fault_of more st (line_of few l)) _ _ P (faults st (line_of few l))
          (λ z. later _ (lines + 1) _ (passed_next few st lines (line_of few l) _ z P)))
      go later (unknown_group m e) = no_group m (lines + 1) (rw e)
      go later (unknown_operator a b e) = no_intersection a b (lines + 1) (rw e)

  pub two_rules : (s : List ℕ) → Outcomes few more (read_with few s) (read_with more s)
  unfolding read_with
  two_rules s = go (ltb most_bytes (length s))
    where
      go : (b : Bool) → Outcomes few more (cond b (refused 1 0) (read_lines few nothing_read 0 0 (split line_feed s))) (cond b (refused 1 0) (read_lines more nothing_read 0 0 (split line_feed s)))
      go true = same refl
      go false = lines_outcomes (split line_feed s) nothing_read 0 0 (record { within = omega arith; counted = λ z. refl })

  -- what rules accept, looser rules accept with the same state
  pub stricter_accepts : (s : List ℕ) (st : ReadingState) → read_with few s ≡ accepted st → read_with more s ≡ accepted st
  stricter_accepts s st e = go (two_rules s)
    where
      go : Outcomes few more (read_with few s) (read_with more s) → read_with more s ≡ accepted st
      go (same q) = sym q ∙ e
      go (no_node l q) = no_outcome (sym q ∙ e)
      go (no_group l line q) = no_outcome (sym q ∙ e)
      go (no_task a b line q) = no_outcome (sym q ∙ e)
      go (no_intersection a b line q) = no_outcome (sym q ∙ e)

-- ---- the rules from request to request: request 1 has fewer nodes than 01, request 4 more groups than were there until then, request 6
-- a third operator
pub fewer_nodes : Stricter earlier_rules base_rules
fewer_nodes = record { nodes = omega arith; last_group = omega arith; tasks = λ _. refl; intersections = λ e. e }

pub more_groups : Stricter earlier_rules sheet_rules
more_groups = record { nodes = omega arith; last_group = omega arith; tasks = λ _. refl; intersections = λ _. refl }

pub third_operator : Stricter two_operator_rules sheet_rules
third_operator = record { nodes = omega arith; last_group = omega arith; tasks = λ _. refl; intersections = λ _. refl }
