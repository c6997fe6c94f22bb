-- Request 10's record, from the theorems of `questions`.
use mathlib.Core.Path.{◌≡◌, refl, sym, ap, ◌∙◌}
use mathlib.Core.List.{List, []}
use mathlib.Core.Option.{some}
use Prim.Native.Nat.{ℕ, ◌≤◌}
use native.Mathlib.Omega.{arith}
use lib.ListN.{length, get_elem?}
use Rattle.tree.specs.Tree.{Tree, postfix, size, groups, is_up_to}
use Rattle.tree.proofs.TreeLaws.{postfix_length, leaves_over}
use Rattle.tree.proofs.GroupLaws.{groups_leaves, groups_distinct, distinct_most}
use Rattle.sheet.specs.Rules.{sheet_rules}
use Rattle.sheet.specs.Reading.{ReadingState, ended, accepted, reading}
use Rattle.sheet.specs.Typed.{tree_lines, typed}
use Rattle.sheet.proofs.TypedLaws.{typed_accepted}
use Rattle.questions.specs.Questions.{entries, questions}
use Rattle.questions.specs.Listing.{IsQuestion}
use Rattle.claims.specs.Request10.{Request10}
use Rattle.questions.proofs.TreeLaws.{entry_group, question_test, tested, only_questions, without_I}
use Rattle.questions.proofs.WordLaws.{questions_count}
use Rattle.questions.proofs.Theorems.{the_list, only_list, once, gives_tree, gives_index, index_of_tree, tree_of_index, refused_past, refused_other}

-- a question's tree is small enough for a sheet
few_nodes : {l : List ℕ} (Q : IsQuestion l) → size Q.tree ≤ 7
few_nodes {l} Q = omega (arith, (tested l (question_test l Q)).few, ap length Q.list, postfix_length Q.tree)

few_groups : {l : List ℕ} (Q : IsQuestion l) → length (groups Q.tree) ≤ 5
few_groups Q = distinct_most (groups Q.tree) entries (groups_distinct Q.tree) (λ g e. entry_group g (leaves_over (is_up_to 3) Q.tree Q.groups g (sym (groups_leaves Q.tree g) ∙ e)))

to_draw_from : (i : ℕ) (l : List ℕ) → get_elem? questions i ≡ some l → (t : Tree) × (l ≡ postfix t)
    × ((st : ReadingState) × (reading (typed t) ≡ accepted st) × (st.entries ≡ l) × (st.lifts ≡ []) × (st.marks ≡ []))
to_draw_from i l e =
    let Q = only_questions i l e in
    let n = few_nodes Q in
    let read = typed_accepted sheet_rules Q.tree (omega arith) refl (omega arith) (omega arith) (omega (arith, few_groups Q)) in
    (Q.tree, Q.list, (record { phase = ended; entries = postfix Q.tree; groups = groups Q.tree; marks = []; start = length (tree_lines Q.tree); lifts = [] }, read, sym Q.list, refl, refl))

pub request_10 : Request10
request_10 = record {
  to_draw_from = to_draw_from;
  holds = the_list;
  only_list = only_list;
  once = once;
  without_I = without_I;
  number = questions_count;
  gives_tree = λ i q G h. gives_tree G h;
  gives_index = λ l r I Q. gives_index I Q;
  index_of_tree = λ i q l r G O I. index_of_tree G O I;
  tree_of_index = λ l r i q I e G. tree_of_index I e G;
  past_the_last = λ i q G. refused_past G;
  no_such_tree = λ l r I. refused_other I;
}
