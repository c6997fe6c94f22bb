-- What reading's answers of two accepted files hold: the two trees, the question's groups and marks, and the first foreign line.
use mathlib.Core.Path.{◌≡◌, sym, ap, ap₂, subst, ◌∙◌}
use mathlib.Core.List.{List, []}
use Prim.Native.Nat.{ℕ, zero, suc, ◌≤◌}
use native.Mathlib.Omega.{arith}
use lib.ListN.{length, take}
use Rattle.std.specs.Prelude.{Ok, Err}
use Rattle.tree.specs.Tree.{Tree, postfix, most_groups, Over, is_in, collect, groups}
use Rattle.tree.specs.InnerGroups.{leaves_in}
use Rattle.tree.proofs.TreeLaws.{postfix_length}
use Rattle.tree.proofs.GroupLaws.{over_groups, leaves_postfix}
use Rattle.text.specs.Parts.{split}
use Rattle.text.specs.Line.{line_feed}
use Rattle.table.specs.InnerTable.{Listed}
use Rattle.sheet.specs.Rules.{sheet_rules, candidate_rules}
use Rattle.sheet.specs.Reading.{ReadingState, ReadingOutcome, accepted, read_with, reading, sheet_with}
use Rattle.sheet.specs.declared.Sheet.{Sheet}
use Rattle.sheet.specs.declared.Drawing.{Drawing}
use Rattle.sheet.proofs.AcceptedLaws.{Accepted, accepted_sheet_lem, accepted_drawing_lem, sheet_accepted, sheet_refused, drawing_accepted, drawing_refused, answered_tree, answered_marks, answered_long, drawn_tree, drawn_long}
use Rattle.marking.specs.Marking.{Marking, no, marking_says, foreign_line, MarksRead, MarksBy, Marks}
use Rattle.marking.specs.Inner.{foreign_entry, Judged, QuestionRead, CandidateRead, BothRead, MarksAnswers}
use Rattle.marking.specs.declared.File.{File}
use Rattle.marking.specs.declared.File.TheVariants.{Candidate}
use Rattle.marking.specs.declared.Refusal.{Refusal}
use Rattle.marking.proofs.ForeignLaws.{foreign_lines, none_foreign}

module _ {question candidate : List ℕ} {q c : ReadingState} {sheet : Sheet} {drawing : Drawing} (B : BothRead question candidate q c sheet drawing) where
  Q : Accepted sheet_rules question q
  Q = accepted_sheet_lem question q B.question_is

  C : Accepted candidate_rules candidate c
  C = accepted_drawing_lem candidate c B.candidate_is

  -- ---- the arrays
  pub sheet_long : sheet.nodes ≤ length sheet.tree
  sheet_long = rw B.sheet_is (answered_long q).0

  pub marks_long : sheet.marked ≤ length sheet.marks
  marks_long = rw B.sheet_is (answered_long q).1

  pub drawing_long : drawing.nodes ≤ length drawing.tree
  drawing_long = rw B.drawing_is (drawn_long c)

  sheet_list : take sheet.nodes sheet.tree ≡ postfix Q.tree
  sheet_list = ap (λ (s : Sheet). take s.nodes s.tree) B.sheet_is ∙ answered_tree q ∙ Q.list

  marks_list : take sheet.marked sheet.marks ≡ q.marks
  marks_list = ap (λ (s : Sheet). take s.marked s.marks) B.sheet_is ∙ answered_marks q

  drawing_list : take drawing.nodes drawing.tree ≡ postfix C.tree
  drawing_list = ap (λ (d : Drawing). take d.nodes d.tree) B.drawing_is ∙ drawn_tree c ∙ C.list

  listed : (list : List ℕ) (t : Tree) → list ≡ postfix t → length (postfix t) ≤ 8191 → Listed list
  listed list t e h = (t, e, rw e h)

  pub sheet_listed : Listed (take sheet.nodes sheet.tree)
  sheet_listed = listed _ Q.tree sheet_list (omega (arith, Q.nodes, postfix_length Q.tree))

  pub drawing_listed : Listed (take drawing.nodes drawing.tree)
  drawing_listed = listed _ C.tree drawing_list (omega (arith, C.nodes, postfix_length C.tree))

  -- ---- the question's groups, which `groups_of` found
  all : collect [] (leaves_in (take sheet.nodes sheet.tree)) ≡ groups Q.tree
  all = ap (λ (xs : List ℕ). collect [] (leaves_in xs)) sheet_list ∙ ap (collect []) (leaves_postfix Q.tree)

  pub few_groups : length (collect [] (leaves_in (take sheet.nodes sheet.tree))) ≤ most_groups
  few_groups = omega (arith, ap length all, Q.different)

  module _ {gs : List ℕ} (found : gs ≡ collect [] (leaves_in (take sheet.nodes sheet.tree))) where
    groups_list : gs ≡ groups Q.tree
    groups_list = found ∙ all

    -- the first foreign entry is the first foreign line
    pub foreign_is : foreign_entry gs 0 (take drawing.nodes drawing.tree) ≡ foreign_line q.groups 0 (split line_feed candidate)
    foreign_is =
        ap₂ (λ (gs xs : List ℕ). foreign_entry gs 0 xs) (groups_list ∙ sym Q.known) (drawing_list ∙ sym C.list)
        ∙ sym (foreign_lines q.groups candidate c B.candidate_is)

    pub read_foreign : (line : ℕ) → line ≡ foreign_entry gs 0 (take drawing.nodes drawing.tree) → (line ≡ 0 → ⊥)
        → MarksRead q c (foreign_line q.groups 0 (split line_feed candidate)) (Err (record { number = 26; line = line; file = Candidate }))
    read_foreign line e n = go (foreign_line q.groups 0 (split line_feed candidate)) (e ∙ foreign_is)
      where
        go : (foreign : ℕ) → line ≡ foreign → MarksRead q c foreign (Err (record { number = 26; line = line; file = Candidate }))
        go zero e = absurd (n e)
        go (suc m) e = ap (λ (k : ℕ). no 26 k 1) e

    pub read_judged : (r : Marking) → foreign_entry gs 0 (take drawing.nodes drawing.tree) ≡ 0
        → Judged (take sheet.nodes sheet.tree) gs (take sheet.marked sheet.marks) (take drawing.nodes drawing.tree) r
        → MarksRead q c (foreign_line q.groups 0 (split line_feed candidate)) r
    read_judged r none J =
        let own : Over (is_in gs) C.tree = none_foreign gs C.tree (rw drawing_list at none) in
        let over : Over (is_in gs) Q.tree = rw groups_list (over_groups Q.tree) in
        let few : length gs ≤ most_groups = omega (arith, ap length groups_list, Q.different) in
        rw (sym foreign_is ∙ none) (Q.tree, Q.is, C.tree, C.is, rw marks_list at (J.judged Q.tree C.tree sheet_list drawing_list few over own))

-- ---- `mark`: reading's two answers tell which files are accepted
module _ (question candidate : List ℕ) where
  abbrev By : ReadingOutcome → ReadingOutcome → Marking → Type 0
  By o p r = MarksBy o p (λ groups. foreign_line groups 0 (split line_feed candidate)) r

  pub marks_question : (refusal : Refusal) → QuestionRead question (Err refusal) → Marks question candidate (Err refusal)
  marks_question refusal e = record {
    by = subst (λ (o : ReadingOutcome). By o (read_with candidate_rules candidate) (Err refusal)) (sym (sheet_refused (reading question) refusal.number refusal.line e.0)) (ap (λ (f : File). marking_says (Err (record { number = refusal.number; line = refusal.line; file = f }))) e.1);
  }

  module _ {sheet : Sheet} (e : QuestionRead question (Ok sheet)) where
    accepted_question : (q : ReadingState) × (reading question ≡ accepted q) × (sheet ≡ sheet_with q)
    accepted_question = sheet_accepted (reading question) e

    pub marks_candidate : (refusal : Refusal) → CandidateRead candidate (Err refusal) → Marks question candidate (Err refusal)
    marks_candidate refusal d =
        let q = accepted_question in
        record {
          by = subst (λ (o : ReadingOutcome). By o (read_with candidate_rules candidate) (Err refusal)) (sym q.1)
              (subst (λ (p : ReadingOutcome). By (accepted q.0) p (Err refusal)) (sym (drawing_refused (read_with candidate_rules candidate) refusal.number refusal.line d.0)) (ap (λ (f : File). marking_says (Err (record { number = refusal.number; line = refusal.line; file = f }))) d.1));
        }

    module _ {drawing : Drawing} (d : CandidateRead candidate (Ok drawing)) where
      pub both_read : (q : ReadingState) × (c : ReadingState) × BothRead question candidate q c sheet drawing
      both_read =
          let q = accepted_question in
          let c = drawing_accepted (read_with candidate_rules candidate) d in
          (q.0, c.0, record { question_is = q.1; candidate_is = c.1; sheet_is = q.2; drawing_is = c.2 })

      pub marks_read : (r : Marking) → MarksAnswers sheet drawing r → Marks question candidate r
      marks_read r M =
          let B = both_read in
          record { by = rw (B.2.question_is, B.2.candidate_is) (M question candidate B.0 B.1 B.2) }
