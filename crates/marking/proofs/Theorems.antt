-- Request 5's theorems on the mark.
use mathlib.Core.Path.{◌≡◌, refl, sym, ap, subst, ◌∙◌}
use mathlib.Core.Logic.{◌⊎◌, inl, inr}
use mathlib.Core.List.{List, []}
use mathlib.Core.Option.{Option, some}
use Prim.Native.Nat.{ℕ, zero, suc, ◌≤◌}
use native.Mathlib.Omega.{arith}
use lib.ListN.{length, take}
use Rattle.std.specs.Prelude.{Ok, Err}
use Rattle.common.specs.Exactly.{Exactly}
use Rattle.tree.specs.Tree.{Tree, postfix, size, most_nodes, Over, Equivalent, is_in, groups, most_groups}
use Rattle.tree.specs.Parse.{tree_of}
use Rattle.tree.proofs.TreeLaws.{equivalent_sym, equivalent_trans, over_implies, leaves_over, postfix_length}
use Rattle.tree.proofs.GroupLaws.{groups_leaves, groups_most, over_groups}
use Rattle.tree.proofs.ParseLaws.{tree_of_postfix}
use Rattle.tree.proofs.WritingLaws.{take_over}
use Rattle.text.specs.Parts.{split}
use Rattle.text.specs.Line.{line_feed}
use Rattle.sheet.specs.Rules.{sheet_rules, candidate_rules}
use Rattle.sheet.specs.Reading.{ReadingState, ReadingOutcome, accepted, refused, read_with, reading}
use Rattle.sheet.specs.Typed.{typed}
use Rattle.sheet.proofs.AcceptedLaws.{Accepted, accepted_sheet_lem}
use Rattle.sheet.proofs.TypedLaws.{typed_accepted}
use Rattle.gather.specs.Gathering.{Gathered, CannotBeGathered}
use Rattle.gather.specs.Answer.{refusal_number, GatheredTo, GathersTree, Gathers}
use Rattle.gather.specs.declared.Refusal.{Refusal}
use Rattle.gather.proofs.AnswerLaws.{done_faultless, cannot_faultless}
use Rattle.gather.proofs.WholeLaws.{faultless}
use Rattle.moves.specs.Moves.{MoveTable}
use Rattle.moves.proofs.MoveLaws as moves
use Rattle.lift.proofs.LiftLaws.{Keeps}
use Rattle.lift_lines.specs.Lifting.{tree_after}
use Rattle.lift_lines.proofs.LiftingLaws.{after_keeps}
use Rattle.marking.specs.Marking.{Marking, mark, no, marking_says, foreign_line, GatheredFor, MarksTree, MarksRead, MarksBy, Marks}
use Rattle.marking.specs.declared.Verdict.TheVariants.{Right, OtherLamps, NotGathered}
use Rattle.marking.proofs.ForeignLaws.{foreign_lines, foreign_none}
use Rattle.marking.proofs.MarkLaws.{gathered_some, gathered_for, gathered_none}

-- ---- whatever mark is given, both files are accepted and no group is foreign
record MarkGiven (question candidate : List ℕ) (r : Marking) : Type 0 where
  state : ReadingState
  drawn : ReadingState
  question_read : reading question ≡ accepted state
  candidate_read : read_with candidate_rules candidate ≡ accepted drawn
  own_groups : foreign_line state.groups 0 (split line_feed candidate) ≡ 0
  trees : MarksRead state drawn 0 r

no_mark : {X : Type 0} {number line file m : ℕ} → no number line file ≡ mark m → X
no_mark e = absurd (let z : ◌≡◌ {A = ℕ} 0 1 = cc in omega arith)

same_tree : {t u : Tree} {o : Option Tree} → o ≡ some t → o ≡ some u → t ≡ u
same_tree e f = let z = sym e ∙ f in cc

same_state : {q c : ReadingState} {o : ReadingOutcome} → o ≡ accepted q → o ≡ accepted c → q ≡ c
same_state e f = let z = sym e ∙ f in cc

mark_given : (question candidate : List ℕ) (r : Marking) (m : ℕ) → Marks question candidate r → marking_says r ≡ mark m → MarkGiven question candidate r
mark_given question candidate r m M s = go (reading question) refl (read_with candidate_rules candidate) refl M.by
  where
    both : (q c : ReadingState) → reading question ≡ accepted q → read_with candidate_rules candidate ≡ accepted c → (foreign : ℕ) → foreign_line q.groups 0 (split line_feed candidate) ≡ foreign
        → MarksRead q c foreign r → MarkGiven question candidate r
    both q c e f (suc n) z k = no_mark (sym k ∙ s)
    both q c e f zero z k = record { state = q; drawn = c; question_read = e; candidate_read = f; own_groups = z; trees = k }

    go : (o : ReadingOutcome) → reading question ≡ o → (p : ReadingOutcome) → read_with candidate_rules candidate ≡ p
        → MarksBy o p (λ groups. foreign_line groups 0 (split line_feed candidate)) r → MarkGiven question candidate r
    go (refused number line) e p f k = no_mark (sym k ∙ s)
    go (accepted q) e (refused number line) f k = no_mark (sym k ∙ s)
    go (accepted q) e (accepted c) f k = both q c e f _ refl k

-- ---- trees get one of the three marks, and never a refusal
pub one_of_three : {t u : Tree} {marks : List ℕ} (r : Marking) → MarksTree t marks u r → (marking_says r ≡ mark 0) ⊎ ((marking_says r ≡ mark 1) ⊎ (marking_says r ≡ mark 2))
one_of_three (Ok Right) M = inl refl
one_of_three (Ok OtherLamps) M = inr (inl refl)
one_of_three (Ok NotGathered) M = inr (inr refl)
one_of_three (Err refusal) M = no_mark (M.other_lamps.always (λ e. no_mark (M.not_gathered.always (e, λ g. no_mark (M.right.always (e, g))))))

-- ---- 1. "It says right exactly when the candidate's tree is equivalent and gathered."
-- both files are accepted, the drawing is over the question's groups, equivalent to its tree and gathered for its marks, if it has any
pub record RightDrawing (question candidate : List ℕ) : Type 0 where
  pub state : ReadingState
  pub drawn : ReadingState
  pub question_read : reading question ≡ accepted state
  pub candidate_read : read_with candidate_rules candidate ≡ accepted drawn
  pub own_groups : foreign_line state.groups 0 (split line_feed candidate) ≡ 0
  pub tree : Tree
  pub tree_is : tree_of state.entries ≡ some tree
  pub drawing : Tree
  pub drawing_is : tree_of drawn.entries ≡ some drawing
  pub equivalent : Equivalent tree drawing
  pub gathered : GatheredFor state.marks drawing

module _ (question candidate : List ℕ) (r : Marking) (M : Marks question candidate r) where
  is_right : marking_says r ≡ mark 0 → RightDrawing question candidate
  is_right s =
      let G = mark_given question candidate r 0 M s in
      let k = G.trees in
      let both = k.4.right.only s in
      record {
        state = G.state;
        drawn = G.drawn;
        question_read = G.question_read;
        candidate_read = G.candidate_read;
        own_groups = G.own_groups;
        tree = k.0;
        tree_is = k.1;
        drawing = k.2;
        drawing_is = k.3;
        equivalent = both.0;
        gathered = both.1;
      }

  right_is : RightDrawing question candidate → marking_says r ≡ mark 0
  right_is R =
      let k : MarksRead R.state R.drawn 0 r = rw (R.question_read, R.candidate_read, R.own_groups) at M.by in
      let t = same_tree R.tree_is k.1 in
      let u = same_tree R.drawing_is k.3 in
      k.4.right.always (rw (← t, ← u) R.equivalent, rw (← u) R.gathered)

  pub right_exactly : Exactly (marking_says r ≡ mark 0) (RightDrawing question candidate)
  right_exactly = record { only = is_right; always = right_is }

  -- 4. "A question without marks is judged on its lamps only.": 2 is never answered
  pub unmarked_never_2 : (q : ReadingState) → reading question ≡ accepted q → q.marks ≡ [] → marking_says r ≡ mark 2 → ⊥
  unmarked_never_2 q e none s =
      let G = mark_given question candidate r 2 M s in
      let k = G.trees in
      let z : G.state.marks ≡ [] = ap (λ (st : ReadingState). st.marks) (same_state G.question_read e) ∙ none in
      (k.4.not_gathered.only s).1 (gathered_none G.state.marks k.2 (ap length z))

-- ---- the tree that the question's lifts leave, by a right table
module _ (question : List ℕ) (q : ReadingState) (e : reading question ≡ accepted q) (t : Tree) (is : tree_of q.entries ≡ some t) where
  A : Accepted sheet_rules question q
  A = accepted_sheet_lem question q e

  as_written : A.tree ≡ t
  as_written = same_tree A.is is

  -- 3. "For a question answered 19 no drawing is ever right.": where no tree is gathered that is equivalent to the tree as written
  pub cannot_be_right : CannotBeGathered (is_in q.marks) t → 1 ≤ length q.marks → (candidate : List ℕ) (r : Marking) → Marks question candidate r → marking_says r ≡ mark 0 → ⊥
  cannot_be_right C some_mark candidate r M s =
      let R = (right_exactly question candidate r M).only s in
      let state = same_state R.question_read e in
      let tree : R.tree ≡ t = same_tree R.tree_is (rw state is) in
      let held = gathered_some q.marks R.drawing some_mark (rw state at R.gathered) in
      C.never R.drawing held.0 (rw tree at R.equivalent) held.1

  module _ (m : MoveTable) (R : moves.Right m) where
    abbrev left : Tree
    left = tree_after m t q.lifts

    K : Keeps t left
    K = after_keeps R t q.lifts (rw as_written at A.nodes)

    left_is : tree_of (postfix left) ≡ some left
    left_is = tree_of_postfix left K.most

    -- a tree over the groups of `left` that is equivalent to it and gathered is right
    pub right_typed : (u : Tree) (p : ℕ) → Equivalent left u → Gathered (is_in q.marks) u p → Over (is_in (groups left)) u → size u ≤ most_nodes → RightDrawing question (typed u)
    right_typed u p equivalent gathered own most =
        let known : q.groups ≡ groups t = A.known ∙ ap groups as_written in
        let few : length (groups t) ≤ most_groups = rw as_written at A.different in
        let over : Over (is_in (groups t)) u = over_implies (λ g i. leaves_over (is_in (groups t)) left (K.over (is_in (groups t)) (over_groups t)) g (sym (groups_leaves left g) ∙ i)) u own in
        let read = typed_accepted candidate_rules u (omega arith) refl most most (omega (arith, groups_most t u over)) in
        record {
          state = q;
          drawn = _;
          question_read = e;
          candidate_read = read;
          own_groups = foreign_lines q.groups (typed u) _ read ∙ foreign_none q.groups u (rw known over);
          tree = t;
          tree_is = is;
          drawing = u;
          drawing_is = tree_of_postfix u most;
          equivalent = equivalent_trans (equivalent_sym K.equivalent) equivalent;
          gathered = gathered_for q.marks u p gathered;
        }

    -- 2. "The tree that our own gathering returns, typed as tree lines, is always marked right."
    pub own_tree_right : (out out' : List ℕ) (nodes holder : ℕ) → Gathers (postfix (tree_after m t q.lifts)) q.marks out out' (Ok (record { nodes = nodes; holder = holder }))
        → (u : Tree) → tree_of (take nodes out') ≡ some u → (r : Marking) → Marks question (typed u) r → marking_says r ≡ mark 0
    unfolding GathersTree
    own_tree_right out out' nodes holder G u own r M =
        let R : GatheredTo left q.marks out out' nodes holder = G.gathers (done_faultless G) left left_is in
        let front : take nodes out' ≡ postfix R.result = ap (take nodes) R.written ∙ take_over (postfix R.result) out nodes (R.counted ∙ sym (postfix_length R.result)) in
        let same : R.result ≡ u = same_tree (ap tree_of front ∙ tree_of_postfix R.result R.most) own in
        (right_exactly question (typed u) r M).always (subst (λ (x : Tree). RightDrawing question (typed x)) same (right_typed R.result holder R.equivalent R.gathered R.own R.most))

    -- so where our gathering of the tree that the lifts leave is refused with 19
    pub never_right : (out out' : List ℕ) (refusal : Refusal) → refusal_number refusal ≡ 19 → Gathers (postfix (tree_after m t q.lifts)) q.marks out out' (Err refusal)
        → (candidate : List ℕ) (r : Marking) → Marks question candidate r → marking_says r ≡ mark 0 → ⊥
    unfolding GathersTree
    never_right out out' refusal e G =
        let clear = cannot_faultless e G in
        let C : CannotBeGathered (is_in q.marks) left = (G.gathers clear left left_is).2 in
        cannot_be_right (record { never = λ u p f g. C.never u p (equivalent_trans K.equivalent f) g }) (faultless _ _ _ clear).some_mark
