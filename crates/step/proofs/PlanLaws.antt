-- What the frames that were looked up say of the step.
use mathlib.Core.Path.{◌≡◌, refl, sym, ap, subst, ◌∙◌}
use mathlib.Core.Bool.{true, false, true≢false, false≢true}
use mathlib.Core.Option.{Option, some, none}
use mathlib.Core.List.{List, [], ◌∷◌}
use Prim.Native.Nat.{ℕ, ◌≤◌, ◌<◌}
use native.Mathlib.Omega.{arith}
use borrow.Author.Tests.{le-leb, lt-leb}
use lib.ListN.{length}
use Rattle.tree.specs.Tree.{Operator, Tree, node}
use Rattle.std.specs.Prelude.{Option as Maybe, Some, None}
use Rattle.tree.specs.declared.Operand.{Operand}
use Rattle.tree.specs.declared.Above.{Above}
use Rattle.tree.specs.Context.{Side, Frame, frame, sided}
use Rattle.moves.specs.Moves.{State, state_number, Input, basic, state_with, input_with, Move, replace_t, replace_t_with_d, MoveTable, ours}
use Rattle.moves.specs.NextState.{state_in, state_after}
use Rattle.moves.specs.InnerEntries.{number_of, input_operand, InputIs, operand_number, entry_of, only_t, AloneUpTo}
use Rattle.moves.proofs.TableLaws.{input_column, column_input, kind_input}
use Rattle.moves.proofs.MoveLaws.{Right, ours_right, once_entry, two_left, alone_number}
use Rattle.step.specs.Step.{stuck, blocked, moved, needs, move_at, step, step_by}
use Rattle.step.specs.InnerStanding.{StateIs}
use Rattle.step.specs.InnerSteps.{UnderIs, ReplaceIs}
use Rattle.step.specs.declared.Plan.{Plan}
use Rattle.step.specs.declared.Node.{Node}
use Rattle.step.proofs.StepLaws.{step_level, by_t, no_d, no_input, by_t_with_d}
use Rattle.step.proofs.NextStateLaws.{next_state_lem}

-- an entry of T alone is the same for all inputs
all_alike : (v : Move) → only_t v ≡ true → (i j : Input) → entry_of v i ≡ entry_of v j
all_alike (replace_t p) e i j = refl
all_alike (replace_t_with_d f) e i j = absurd (false≢true e)

step_two : (m : MoveTable) (s : Side) (o : Operator) (b : Tree) (t : Side) (q : Operator) (c : Tree) (r : List Frame)
    → step m (frame s o b ∷ (frame t q c ∷ r)) ≡ needs (state_with s (basic o) t (basic q)) (λ x. step_by (move_at m r x) b c r)
unfolding step
step_two m s o b t q c r = refl

-- ---- by how many frames there are
pub no_parent : (m : MoveTable) (c : List Frame) → c ≡ [] → step m c ≡ stuck
no_parent m c e = ap (step m) e ∙ (unfold step in refl)

-- a part at level 0 or 1 has no state
pub no_state : (e : List Frame) → length e ≤ 1 → state_in e ≡ none
no_state [] h = refl
no_state (f ∷ []) h = refl
no_state (f ∷ (g ∷ r)) h = absurd (omega arith)

-- a node has the state that its number says
numbered : (n : ℕ) (y : Option State) → Some n ≡ number_of y → (x : State) × (y ≡ some x) × (n ≡ state_number x)
numbered n (some x) e = (x, refl, cc)
numbered n none e = absurd cc

unnumbered : (y : Option State) → number_of y ≡ None → y ≡ none
unnumbered (some x) e = absurd cc
unnumbered none e = refl

module _ {l : List ℕ} {a : Tree} {c : List Frame} {above₁ : Above} (G : UnderIs l a c above₁) where
  pub no_grandparent : (m : MoveTable) → G.rest ≡ [] → step m c ≡ stuck
  no_grandparent m e = ap (step m) (G.is ∙ ap (λ (r : List Frame). frame G.side G.operator G.sibling ∷ r) e) ∙ (unfold step in refl)

  module _ {above₂ : Above} (H : UnderIs l (sided G.side (node G.operator) a G.sibling) G.rest above₂) where
    abbrev with_two : List Frame → List Frame
    with_two r = frame G.side G.operator G.sibling ∷ (frame H.side H.operator H.sibling ∷ r)

    two : c ≡ with_two H.rest
    two = G.is ∙ ap (λ (r : List Frame). frame G.side G.operator G.sibling ∷ r) H.is

    abbrev its_state : Option State
    its_state = state_with G.side (basic G.operator) H.side (basic H.operator)

    pub two_frames : {n : Maybe ℕ} → n ≡ number_of its_state → StateIs c n
    two_frames e = e ∙ sym (ap (λ (c : List Frame). number_of (state_in c)) two)

    module _ (n : Node) (S : StateIs c n.state) where
      -- it has a number where it has a state
      by_number : n.state ≡ number_of its_state
      by_number = S ∙ ap (λ (c : List Frame). number_of (state_in c)) two

      -- a node without a state has no step
      pub blocked_without_state : (m : MoveTable) → n.state ≡ None → step m c ≡ blocked
      blocked_without_state m z =
          ap (step m) two ∙ step_two m G.side G.operator G.sibling H.side H.operator H.sibling H.rest
          ∙ ap (λ (y : Option State). needs y (λ x. step_by (move_at m H.rest x) G.sibling H.sibling H.rest)) (unnumbered its_state (sym by_number ∙ z))

      module _ {m : MoveTable} (R : Right m) {st : ℕ} (one : n.state ≡ Some st) where
        Numbered : (x : State) × (its_state ≡ some x) × (st ≡ state_number x)
        Numbered = numbered st its_state (sym one ∙ by_number)

        -- the plan of a step that replaces T alone
        abbrev pub alone_plan : Maybe Operand → Plan
        alone_plan input = record { alone = true; state = st; input = input; b = above₁.sibling; c = above₂.sibling; d = above₂.sibling; old = above₂.parent }

        abbrev x : State
        x = Numbered.0

        -- the step, by the two frames and what is above them
        step_is : {r : List Frame} → H.rest ≡ r → step m c ≡ step_by (move_at m r x) G.sibling H.sibling r
        step_is {r} e =
            ap (step m) (two ∙ ap with_two e) ∙ step_two m G.side G.operator G.sibling H.side H.operator H.sibling r
            ∙ ap (λ (y : Option State). needs y (λ x. step_by (move_at m r x) G.sibling H.sibling r)) Numbered.1

        -- T alone is replaced by our entry, which is the same for all inputs
        t_here : {input : Maybe Operand} (letter : Option Input) → InputIs input letter → only_t (ours x) ≡ true → move_at m H.rest x ≡ ours x
            → ((e : List Frame) → step m c ≡ moved e → state_in e ≡ state_after (ours x) letter) → ReplaceIs m l n c (alone_plan input)
        t_here {input} letter q h own s =
            let i = column_input input in
            let made = step_is refl ∙ ap (λ (v : Move). step_by v G.sibling H.sibling H.rest) own ∙ by_t (ours x) i.0 G.sibling H.sibling H.rest h in
            record {
              at_state = x;
              move = ours x;
              at_input = i.0;
              letter = letter;
              b = G.sibling;
              c' = H.sibling;
              d = H.sibling;
              x = _;
              r = H.rest;
              state_is = Numbered.2;
              alone_is = h;
              own = λ e. refl;
              table = λ e. absurd (true≢false e);
              input_is = i.1;
              small = λ e. absurd (true≢false e);
              letter_is = q;
              same_entry = λ j e. all_alike (ours x) h j i.0;
              names_once = once_entry ours ours_right x i.0;
              two = two_left ours ours_right x;
              range_b = G.range;
              range_c = H.range;
              range_d = H.range;
              cut_b = G.entries;
              cut_c = H.entries;
              cut_d = H.entries;
              stretch = H.parent;
              moves = made;
              next = s _ made;
            }

        -- there is no D
        module _ (e : H.rest ≡ []) where
          pub t_without_d : st ≤ 4 → ReplaceIs m l n c (alone_plan None)
          t_without_d h =
              t_here none refl (alone_number x ∙ le-leb (state_number x) 4 (omega (arith, Numbered.2))) (ap (λ (r : List Frame). move_at m r x) e)
              (λ f s. no_state f (omega (arith, step_level R c f s, ap length (two ∙ ap with_two e))))

          pub stuck_without_d : 4 < st → step m c ≡ stuck
          stuck_without_d h = step_is e ∙ no_d (ours x) G.sibling H.sibling (alone_number x ∙ lt-leb (state_number x) 4 (omega (arith, Numbered.2)))

        -- there is one
        module _ {last : ℕ} (L : AloneUpTo m last) {above₃ : Above} (K : UnderIs l (sided H.side (node H.operator) (sided G.side (node G.operator) a G.sibling) H.sibling) H.rest above₃) where
          abbrev its_input : Option Input
          its_input = input_with K.side (basic K.operator)

          input_is : InputIs above₃.operand its_input
          input_is = subst (λ (k : Maybe Operand). InputIs k its_input) (sym K.kind) (kind_input K.side K.operator)

          state_after_lem : (e : List Frame) → step m c ≡ moved e → state_in e ≡ state_after (m x) its_input
          state_after_lem e s =
              next_state_lem R G.side G.operator H.side H.operator K.side G.sibling H.sibling K.sibling K.rest e x Numbered.1 K.operator
              (sym (ap (step m) (two ∙ ap with_two K.is)) ∙ s)

          pub t_alone : st ≤ last → ReplaceIs m l n c (alone_plan above₃.operand)
          t_alone h =
              let only : only_t (m x) ≡ true = L.says x ∙ le-leb (state_number x) last (omega (arith, Numbered.2)) in
              let own : m x ≡ ours x = L.own x only in
              t_here its_input input_is (sym (ap only_t own) ∙ only) (ap (λ (r : List Frame). move_at m r x) K.is ∙ own)
              (λ f s. state_after_lem f s ∙ ap (λ (v : Move). state_after v its_input) own)

          with_d_lem : last < st → only_t (m x) ≡ false
          with_d_lem h = L.says x ∙ lt-leb (state_number x) last (omega (arith, Numbered.2))

          pub blocked_without_input : above₃.operand ≡ None → last < st → step m c ≡ blocked
          blocked_without_input k h =
              step_is K.is ∙ no_input (m x) G.sibling H.sibling K.side K.operator K.sibling K.rest (with_d_lem h) (go its_input input_is)
            where
              go : (y : Option Input) → InputIs above₃.operand y → y ≡ none
              go (some i) f = absurd cc
              go none f = refl

          pub t_with_d : {k : Operand} → above₃.operand ≡ Some k → last < st
              → ReplaceIs m l n c (record { alone = false; state = st; input = Some k; b = above₁.sibling; c = above₂.sibling; d = above₃.sibling; old = above₃.parent })
          t_with_d {k} q h = go its_input refl input_is
            where
              go : (y : Option Input) → its_input ≡ y → InputIs above₃.operand y
                  → ReplaceIs m l n c (record { alone = false; state = st; input = Some k; b = above₁.sibling; c = above₂.sibling; d = above₃.sibling; old = above₃.parent })
              go none e f = absurd cc
              go (some i) e f =
                  let letter : Some k ≡ Some (input_operand i) = sym q ∙ f in
                  let same : k ≡ input_operand i = cc in
                  let made = step_is K.is ∙ by_t_with_d (m x) G.sibling H.sibling K.side K.operator K.sibling K.rest (with_d_lem h) i e in
                  record {
                    at_state = x;
                    move = m x;
                    at_input = i;
                    letter = some i;
                    b = G.sibling;
                    c' = H.sibling;
                    d = K.sibling;
                    x = _;
                    r = K.rest;
                    state_is = Numbered.2;
                    alone_is = with_d_lem h;
                    own = λ e. absurd (false≢true e);
                    table = λ e. refl;
                    input_is = ap operand_number same ∙ input_column i;
                    small = λ e. letter;
                    letter_is = letter;
                    same_entry = λ j e. (let z : j ≡ i = cc in ap (entry_of (m x)) z);
                    names_once = once_entry m R x i;
                    two = two_left m R x;
                    range_b = G.range;
                    range_c = H.range;
                    range_d = K.range;
                    cut_b = G.entries;
                    cut_c = H.entries;
                    cut_d = K.entries;
                    stretch = K.parent;
                    moves = made;
                    next = state_after_lem _ made ∙ ap (state_after (m x)) e;
                  }
