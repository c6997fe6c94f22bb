-- Laws of a step by a right table: it keeps what the tree selects in every rig and the groups of its leaves, and A's level falls by one. A step replaces a left
-- side by an entry (`Makes`); each law follows from that. When there is none: `stuck_exactly`, `blocked_exactly`.
use mathlib.Core.Path.{◌≡◌, refl, sym, ap, subst, ◌∙◌}
use mathlib.Core.Bool.{Bool, true, false, true≢false, false≢true}
use mathlib.Core.Logic.{◌⊎◌, inl, inr}
use mathlib.Core.Option.{Option, some, none}
use mathlib.Core.List.{List, [], ◌∷◌, ◌++◌}
use Prim.Native.Nat.{ℕ, suc, ◌+◌, ◌≤◌}
use native.Mathlib.Omega.{arith}
use borrow.Author.Tests.{lt-leb, leb-false}
use lib.ListN.{length, length-append}
use Rattle.common.specs.Exactly.{Exactly}
use Rattle.tree.specs.Tree.{Operator, union, difference, intersection, Basic, plus, minus, operator_of, Tree, node, selects, apply, Over, WithoutIntersection}
use Rattle.tree.specs.Context.{Side, Frame, frame, sided, plug}
use Rattle.tree.proofs.ContextLaws.{without_frame}
use Rattle.words.specs.Formula.{Formula, value, frames_of, level_of_a}
use Rattle.moves.specs.Moves.{State, state_number, state_of, Input, input_of, basic, state_with, input_with, Move, replace_t, replace_t_with_d, MoveTable, ours}
use Rattle.moves.specs.NextState.{state_in}
use Rattle.moves.specs.InnerEntries.{optional_number, entry_of, only_t}
use Rattle.words.proofs.FormulaLaws.{both, agree_at, Replaces, above_level}
use Rattle.moves.proofs.MoveLaws.{formula_t, formula_t_with_d, frames_t, frames_t_with_d, RightMove, Right, ours_right, alone_number}
use Rattle.words.proofs.EntryLaws.{plain, value_plain, without_evaluate, evaluate_without, evaluate, entry_same, evaluate_selects, over_evaluate, evaluate_over}
use Rattle.step.specs.Step.{Outcome, stuck, blocked, moved, needs, step_by, move_at, step}

-- ---- what a step does: an entry takes the place of a left side for which it may stand
pub record Makes (c e : List Frame) : Type 0 where
  pub entry : Formula
  pub side : Formula
  pub may : Replaces entry side
  pub b : Tree
  pub c' : Tree
  pub d : Tree
  pub r : List Frame
  pub was : c ≡ frames_of b c' d side ++ r
  pub is : e ≡ frames_of b c' d entry ++ r

abbrev Made : List Frame → Outcome → Type 0
Made c stuck = Unit {0}
Made c blocked = Unit {0}
Made c (moved e) = Makes c e

module _ (s : Side) (o : Basic) (t : Side) (q : Basic) (b c : Tree) where
  made : (r : List Frame) (v : Move) → RightMove s o t q v → Made (frame s (operator_of o) b ∷ (frame t (operator_of q) c ∷ r)) (step_by v b c r)
  made r (replace_t p) ok = record {
    entry = p;
    side = formula_t s o t q;
    may = ok;
    b = b;
    c' = c;
    d = c;
    r = r;
    was = ap (λ (x : List Frame). x ++ r) (sym (frames_t s o t q b c c));
    is = refl;
  }
  made [] (replace_t_with_d f) ok = tt
  made (frame u k d ∷ r) (replace_t_with_d f) ok = go k
    where
      with_d_lem : (k : Basic) → Makes (frame s (operator_of o) b ∷ (frame t (operator_of q) c ∷ (frame u (operator_of k) d ∷ r))) (frames_of b c d (f (input_of u k)) ++ r)
      with_d_lem k = record {
        entry = f (input_of u k);
        side = formula_t_with_d s o t q u k;
        may = ok u k;
        b = b;
        c' = c;
        d = d;
        r = r;
        was = ap (λ (x : List Frame). x ++ r) (sym (frames_t_with_d s o t q u k b c d));
        is = refl;
      }

      go : (k : Operator) → Made (frame s (operator_of o) b ∷ (frame t (operator_of q) c ∷ (frame u k d ∷ r))) (step_by (replace_t_with_d f) b c (frame u k d ∷ r))
      go union = with_d_lem plus
      go difference = with_d_lem minus
      go intersection = tt

-- a right table's move is right whatever is above T
right_at : {m : MoveTable} → Right m → (s : Side) (o : Basic) (t : Side) (q : Basic) (r : List Frame) → RightMove s o t q (move_at m r (state_of s o t q))
right_at R s o t q [] = ours_right.each s o t q
right_at R s o t q (f ∷ r) = R.each s o t q

-- ---- a right table
module _ {m : MoveTable} (R : Right m) where
  made_two : (s : Side) (o : Basic) (t : Side) (q : Basic) (b c : Tree) (r : List Frame)
      → Made (frame s (operator_of o) b ∷ (frame t (operator_of q) c ∷ r)) (step_by (move_at m r (state_of s o t q)) b c r)
  made_two s o t q b c r = made s o t q b c r (move_at m r (state_of s o t q)) (right_at R s o t q r)

  made_step : (c : List Frame) → Made c (step m c)
  unfolding step
  made_step [] = tt
  made_step (f ∷ []) = tt
  made_step (frame s union b ∷ (frame t union c ∷ r)) = made_two s plus t plus b c r
  made_step (frame s union b ∷ (frame t difference c ∷ r)) = made_two s plus t minus b c r
  made_step (frame s union b ∷ (frame t intersection c ∷ r)) = tt
  made_step (frame s difference b ∷ (frame t union c ∷ r)) = made_two s minus t plus b c r
  made_step (frame s difference b ∷ (frame t difference c ∷ r)) = made_two s minus t minus b c r
  made_step (frame s difference b ∷ (frame t intersection c ∷ r)) = tt
  made_step (frame s intersection b ∷ (frame t q c ∷ r)) = tt

  module _ (c e : List Frame) (h : step m c ≡ moved e) where
    pub makes : Makes c e
    makes = subst (Made c) h (made_step c)

    -- ---- a step keeps what the tree comes to, for operators that mean f
    step_same : (f : Operator → Bool → Bool → Bool) → ((p l : Formula) → Replaces p l → (a b c d : Bool) → value f a b c d p ≡ value f a b c d l) → (v : ℕ → Bool) (a : Tree)
        → evaluate f v (plug a e) ≡ evaluate f v (plug a c)
    step_same f ok v a =
        let M = makes in
        ap (λ (x : List Frame). evaluate f v (plug a x)) M.is
        ∙ entry_same f v M.entry M.side M.may.once_new M.may.once_old (ok M.entry M.side M.may) a M.b M.c' M.d M.r
        ∙ sym (ap (λ (x : List Frame). evaluate f v (plug a x)) M.was)

    -- ---- "Two trees are equivalent if they select the same lamps in every rig": a step keeps what the tree selects
    pub step_selects : (v : ℕ → Bool) (a : Tree) → selects v (plug a e) ≡ selects v (plug a c)
    step_selects v a = sym (evaluate_selects v (plug a e)) ∙ step_same apply (λ p l K. agree_at apply p l K.selects_same) v a ∙ evaluate_selects v (plug a c)

    -- ---- a step keeps which groups the leaves have
    module _ (n : ℕ → Bool) (a : Tree) where
      same_groups : evaluate both n (plug a e) ≡ evaluate both n (plug a c)
      same_groups = step_same both (λ p l K. agree_at both p l K.parts_same) n a

      pub step_over : Over n (plug a c) → Over n (plug a e)
      step_over o = evaluate_over n (plug a e) (same_groups ∙ over_evaluate n (plug a c) o)

      pub step_over_back : Over n (plug a e) → Over n (plug a c)
      step_over_back o = evaluate_over n (plug a c) (sym same_groups ∙ over_evaluate n (plug a e) o)

    -- ---- a step keeps that a tree is without `I`: the entries have none
    pub step_without : (a : Tree) → WithoutIntersection (plug a c) → WithoutIntersection (plug a e)
    step_without a w =
        evaluate_without (λ g. true) (plug a e)
        (step_same plain (λ p l K a b c d. value_plain a b c d p ∙ agree_at both p l K.parts_same a b c d ∙ sym (value_plain a b c d l)) (λ g. true) a
        ∙ without_evaluate (λ g. true) (λ g. refl) (plug a c) w)

    -- ---- A's level falls by exactly one
    pub step_level : length e + 1 ≡ length c
    step_level = omega (arith, makes.may.higher, ap length makes.was, ap length makes.is, level makes.side, level makes.entry)
      where
        level : (p : Formula) → length (frames_of makes.b makes.c' makes.d p ++ makes.r) ≡ level_of_a p + length makes.r
        level p =
            length-append (frames_of makes.b makes.c' makes.d p) makes.r
            ∙ ap (λ (n : ℕ). n + length makes.r) (above_level (λ s o q. frame s (operator_of o) (value node makes.b makes.b makes.c' makes.d q)) p)

-- ---- a step by its move
pub by_t : (v : Move) (i : Input) (b c : Tree) (r : List Frame) → only_t v ≡ true → step_by v b c r ≡ moved (frames_of b c c (entry_of v i) ++ r)
by_t (replace_t p) i b c r e = refl
by_t (replace_t_with_d f) i b c r e = absurd (false≢true e)

pub no_d : (v : Move) (b c : Tree) → only_t v ≡ false → step_by v b c [] ≡ stuck
no_d (replace_t p) b c e = absurd (true≢false e)
no_d (replace_t_with_d f) b c e = refl

module _ (v : Move) (b c : Tree) (u : Side) (w : Operator) (d : Tree) (r : List Frame) (h : only_t v ≡ false) where
  with_d_lem : step_by v b c (frame u w d ∷ r) ≡ needs (input_with u (basic w)) (λ i. moved (frames_of b c d (entry_of v i) ++ r))
  with_d_lem = go v h
    where
      go : (v : Move) → only_t v ≡ false → step_by v b c (frame u w d ∷ r) ≡ needs (input_with u (basic w)) (λ i. moved (frames_of b c d (entry_of v i) ++ r))
      go (replace_t p) e = absurd (true≢false e)
      go (replace_t_with_d f) e = refl

  pub no_input : input_with u (basic w) ≡ none → step_by v b c (frame u w d ∷ r) ≡ blocked
  no_input e = with_d_lem ∙ ap (λ (y : Option Input). needs y (λ i. moved (frames_of b c d (entry_of v i) ++ r))) e

  pub by_t_with_d : (i : Input) → input_with u (basic w) ≡ some i → step_by v b c (frame u w d ∷ r) ≡ moved (frames_of b c d (entry_of v i) ++ r)
  by_t_with_d i e = with_d_lem ∙ ap (λ (y : Option Input). needs y (λ i. moved (frames_of b c d (entry_of v i) ++ r))) e

-- ---- when there is no step, of any context of at least two frames and by any table
-- the innermost of these frames is an `I`'s
abbrev pub UnderIntersection : List Frame → Type 0
UnderIntersection [] = ⊥
UnderIntersection (frame u w d ∷ r) = w ≡ intersection

differ : {X : Type 0} → ◌≡◌ {A = ℕ} 0 1 → X
differ z = absurd (omega arith)

stuck_move : (m : Move) (b c : Tree) (r : List Frame) → step_by m b c r ≡ stuck → (r ≡ []) × (only_t m ≡ false)
stuck_move (replace_t p) b c r h = differ cc
stuck_move (replace_t_with_d f) b c [] h = (refl, refl)
stuck_move (replace_t_with_d f) b c (frame u union d ∷ r) h = differ cc
stuck_move (replace_t_with_d f) b c (frame u difference d ∷ r) h = differ cc
stuck_move (replace_t_with_d f) b c (frame u intersection d ∷ r) h = differ cc

blocked_move : (m : Move) (b c : Tree) (r : List Frame) → step_by m b c r ≡ blocked → UnderIntersection r × (only_t m ≡ false)
blocked_move (replace_t p) b c r h = differ cc
blocked_move (replace_t_with_d f) b c [] h = differ cc
blocked_move (replace_t_with_d f) b c (frame u union d ∷ r) h = differ cc
blocked_move (replace_t_with_d f) b c (frame u difference d ∷ r) h = differ cc
blocked_move (replace_t_with_d f) b c (frame u intersection d ∷ r) h = (refl, refl)

-- a node has a state and the table's move for it replaces T with D
abbrev pub NeedsD : MoveTable → Option State → Type 0
NeedsD m none = ⊥
NeedsD m (some x) = only_t (m x) ≡ false

-- ours does in states 5 to 9, a school's in every state
pub ours_needs_d : (y : Option State) → Exactly (NeedsD ours y) (5 ≤ optional_number y)
ours_needs_d none = record { only = λ e. absurd e; always = λ h. absurd (omega arith) }
ours_needs_d (some x) = record {
  only = λ e. leb-false (state_number x) 4 (sym (alone_number x) ∙ e);
  always = λ h. alone_number x ∙ lt-leb (state_number x) 4 h;
}

module _ (m : MoveTable) (b c : Tree) where
  stuck_state : (r : List Frame) (y : Option State) → Exactly (needs y (λ x. step_by (move_at m r x) b c r) ≡ stuck) ((suc (suc (length r)) ≡ 2) × (5 ≤ optional_number y))
  stuck_state r none = record { only = λ h. differ cc; always = λ h. absurd (omega (arith, h.1)) }
  stuck_state [] (some x) = record {
    only = λ h. (refl, (ours_needs_d (some x)).only (stuck_move (ours x) b c [] h).1);
    always = λ h. no_d (ours x) b c ((ours_needs_d (some x)).always h.1);
  }
  stuck_state (f ∷ r) (some x) = record { only = λ h. some_frame (stuck_move (m x) b c (f ∷ r) h).0; always = λ h. absurd (omega (arith, h.0)) }
    where
      some_frame : {X : Type 0} → f ∷ r ≡ [] → X
      some_frame e = differ cc

  blocked_state : (r : List Frame) (y : Option State) → Exactly (needs y (λ x. step_by (move_at m r x) b c r) ≡ blocked) ((y ≡ none) ⊎ (NeedsD m y × UnderIntersection r))
  blocked_state r none = record { only = λ h. inl refl; always = λ h. refl }
  blocked_state [] (some x) = record { only = λ h. absurd (blocked_move (ours x) b c [] h).0; always = λ h. go h }
    where
      go : (some x ≡ none) ⊎ (NeedsD m (some x) × UnderIntersection []) → step_by (ours x) b c [] ≡ blocked
      go (inl e) = differ cc
      go (inr e) = absurd e.1
  blocked_state (frame u w d ∷ r) (some x) = record {
    only = λ h. let K = blocked_move (m x) b c (frame u w d ∷ r) h in inr (K.1, K.0);
    always = λ h. go h;
  }
    where
      go : (some x ≡ none) ⊎ (NeedsD m (some x) × UnderIntersection (frame u w d ∷ r)) → step_by (m x) b c (frame u w d ∷ r) ≡ blocked
      go (inl e) = differ cc
      go (inr e) = no_input (m x) b c u w d r e.0 (ap (λ (w : Operator). input_with u (basic w)) e.1)

-- "A step is refused with 15 exactly when A is at level 2 in states 5 to 9" (request 2)
pub stuck_exactly : (m : MoveTable) (s : Side) (o : Operator) (b : Tree) (t : Side) (q : Operator) (c : Tree) (r : List Frame)
    → let above = frame s o b ∷ (frame t q c ∷ r) in
    Exactly (step m above ≡ stuck) ((length above ≡ 2) × (5 ≤ optional_number (state_in above)))
unfolding step
stuck_exactly m s o b t q c r = stuck_state m b c r (state_with s (basic o) t (basic q))

no_state_exactly : (s : Side) (o : Operator) (t : Side) (q : Operator) → Exactly (state_with s (basic o) t (basic q) ≡ none) ((o ≡ intersection) ⊎ (q ≡ intersection))
no_state_exactly s o t q = record { only = λ h. only o q h; always = λ h. always o q h }
  where
    only : (o q : Operator) → state_with s (basic o) t (basic q) ≡ none → (o ≡ intersection) ⊎ (q ≡ intersection)
    only union union h = differ cc
    only union difference h = differ cc
    only union intersection h = inr refl
    only difference union h = differ cc
    only difference difference h = differ cc
    only difference intersection h = inr refl
    only intersection q h = inl refl

    always : (o q : Operator) → (o ≡ intersection) ⊎ (q ≡ intersection) → state_with s (basic o) t (basic q) ≡ none
    always o q (inl e) = ap (λ (o : Operator). state_with s (basic o) t (basic q)) e
    always o q (inr e) = ap (λ (q : Operator). state_with s (basic o) t (basic q)) e ∙ second (basic o)
      where
        second : (x : Option Basic) → state_with s x t none ≡ none
        second (some b) = refl
        second none = refl

-- with 27 exactly when the parent or the grandparent is an `I` or, where the table's move replaces T with D, the node above T (requests 6 and 7)
pub blocked_exactly : (m : MoveTable) (s : Side) (o : Operator) (b : Tree) (t : Side) (q : Operator) (c : Tree) (r : List Frame)
    → let above = frame s o b ∷ (frame t q c ∷ r) in
    Exactly (step m above ≡ blocked) (((o ≡ intersection) ⊎ (q ≡ intersection)) ⊎ (NeedsD m (state_in above) × UnderIntersection r))
unfolding step
blocked_exactly m s o b t q c r = record {
  only = λ h. first (K.only h);
  always = λ h. K.always (second h);
}
  where
    y : Option State
    y = state_with s (basic o) t (basic q)

    K : Exactly (needs y (λ x. step_by (move_at m r x) b c r) ≡ blocked) ((y ≡ none) ⊎ (NeedsD m y × UnderIntersection r))
    K = blocked_state m b c r y

    first : (y ≡ none) ⊎ (NeedsD m y × UnderIntersection r) → ((o ≡ intersection) ⊎ (q ≡ intersection)) ⊎ (NeedsD m y × UnderIntersection r)
    first (inl e) = inl ((no_state_exactly s o t q).only e)
    first (inr e) = inr e

    second : ((o ≡ intersection) ⊎ (q ≡ intersection)) ⊎ (NeedsD m y × UnderIntersection r) → (y ≡ none) ⊎ (NeedsD m y × UnderIntersection r)
    second (inl e) = inl ((no_state_exactly s o t q).always e)
    second (inr e) = inr e

-- never in a tree without `I`
pub never_blocked : (m : MoveTable) (c : List Frame) (a : Tree) → WithoutIntersection (plug a c) → step m c ≡ blocked → ⊥
unfolding step plug
never_blocked m [] a w h = differ cc
never_blocked m (f ∷ []) a w h = differ cc
never_blocked m (frame s o b ∷ (frame t q c ∷ r)) a w h = go r w ((blocked_exactly m s o b t q c r).only h)
  where
    go : (r : List Frame) → WithoutIntersection (plug a (frame s o b ∷ (frame t q c ∷ r)))
        → ((o ≡ intersection) ⊎ (q ≡ intersection)) ⊎ (NeedsD m (state_with s (basic o) t (basic q)) × UnderIntersection r) → ⊥
    go r w (inl (inl e)) = without_frame a s o b (frame t q c ∷ r) w e
    go r w (inl (inr e)) = without_frame (sided s (node o) a b) t q c r w e
    go [] w (inr e) = e.1
    go (frame u x d ∷ r) w (inr e) = without_frame (sided t (node q) (sided s (node o) a b) c) u x d r w e.1
