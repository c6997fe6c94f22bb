-- A tree that rules without `I` accept has none: no line adds its number to the entries.
use Rattle.std.proofs.Common.{Option}
use mathlib.Core.Path.{◌≡◌, sym, subst, ◌∙◌}
use mathlib.Core.Bool.{true, false, false≢true, true≢false}
use mathlib.Core.List.{List, [], ◌∷◌, ◌++◌}
use mathlib.Core.Option.{some}
use Prim.Native.Nat.{ℕ, ◌+◌, ◌≤◌}
use native.Mathlib.Omega.{arith}
use borrow.Author.Tests.{leb-true}
use lib.Dec.{leb}
use Rattle.tree.specs.Tree.{union, difference, intersection, sign, Tree, leaf, node, WithoutIntersection, most_group, postfix, is_in}
use Rattle.tree.specs.Parse.{tree_of}
use Rattle.tree.proofs.TreeLaws.{in_left, in_right}
use Rattle.tree.proofs.GroupLaws.{is_in_here, end_cases}
use Rattle.tree.proofs.ParseLaws.{IsTree, tree_of_sound}
use Rattle.text.specs.Parts.{Parts, last, part, split}
use Rattle.text.specs.Line.{line_feed}
use Rattle.text.proofs.DecimalLaws.{and_both}
use Rattle.sheet.specs.Form.{line_of}
use Rattle.sheet.specs.Rules.{Rules}
use Rattle.sheet.specs.Reading.{ReadingState, state_after, nothing_read, accepted, read_lines, read_with}
use Rattle.sheet.specs.declared.Line.{Line}
use Rattle.sheet.proofs.FormLaws.{each_line}
use Rattle.sheet.proofs.AcceptedLaws.{passed_line, passed_last, passed_start}

-- no entry is an `I`
abbrev Without : List ℕ → Type 0
Without entries = is_in entries (sign intersection) ≡ true → ⊥

nothing_without : Without []
unfolding is_in
nothing_without e = false≢true e

entered_without : (xs : List ℕ) (x : ℕ) → (x ≡ sign intersection → ⊥) → Without xs → Without (xs ++ (x ∷ []))
entered_without xs x n w e = end_cases ⊥ xs x (sign intersection) e w (λ q. n (sym q))

-- so no node of its tree is one
tree_without : (t : Tree) → Without (postfix t) → WithoutIntersection t
unfolding WithoutIntersection postfix
tree_without (leaf g h) w = tt
tree_without (node union l r) w = (tree_without l (λ e. w (in_left (postfix l) _ _ e)), tree_without r (λ e. w (in_right (postfix l) _ _ (in_left (postfix r) _ _ e))))
tree_without (node difference l r) w = (tree_without l (λ e. w (in_left (postfix l) _ _ e)), tree_without r (λ e. w (in_right (postfix l) _ _ (in_left (postfix r) _ _ e))))
tree_without (node intersection l r) w = w (in_right (postfix l) _ _ (in_right (postfix r) _ _ (is_in_here (sign intersection) [])))

module _ (rules : Rules) (none : rules.intersections ≡ false) (most : rules.last_group ≤ most_group) where
  -- no line adds one
  abbrev AddsNone : Option Line → Type 0
  AddsNone l = (st : ReadingState) (after : ℕ) → Without st.entries → Without (state_after st l after).entries

  line_adds : (l : List ℕ) → AddsNone (line_of rules l)
  line_adds = each_line rules AddsNone (record {
    group = λ g h st after w. entered_without st.entries g (λ e. omega (arith, leb-true g rules.last_group (and_both (leb 1 g) (leb g rules.last_group) h).1)) w;
    operator = λ o may st after w. entered_without st.entries (sign o) (λ e. true≢false (sym (may e) ∙ none)) w;
    lift = λ p n h k st after w. w;
    mark = λ g h st after w. w;
    end = λ st after w. w;
    bad = λ st after w. w;
  })

  lines_without : (end : ReadingState) (ps : Parts) (st : ReadingState) (n at : ℕ) → Without st.entries → read_lines rules st n at ps ≡ accepted end → Without end.entries
  lines_without end (last l) st n at w e = rw (passed_last rules end st n at l e) at w
  lines_without end (part l ls) st n at w e = lines_without end ls _ (n + 1) _ (line_adds l st _ w) (passed_line rules end st n at l ls e).later

  -- request 6, of the rules until then: what they accept is a tree of the two operators
  pub accepted_without : (s : List ℕ) (st : ReadingState) → read_with rules s ≡ accepted st → (t : Tree) → tree_of st.entries ≡ some t → WithoutIntersection t
  accepted_without s st e t is =
      let I : IsTree st.entries = tree_of_sound st.entries t is in
      let same : some I.tree ≡ some t = sym I.is ∙ is in
      let z : I.tree ≡ t = cc in
      subst WithoutIntersection z (tree_without I.tree (subst Without I.list (lines_without st (split line_feed s) nothing_read 0 0 nothing_without (passed_start rules st s e))))
