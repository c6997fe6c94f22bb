-- A table is right if each of its entries may stand for its left side: ours is, by one computed test, and so is every school's whose words stand
-- for theirs.
use mathlib.Core.Path.{◌≡◌, refl, sym, subst, ◌∙◌}
use mathlib.Core.Bool.{Bool, ◌&&◌}
use mathlib.Core.List.{List, [], ◌∷◌}
use Prim.Native.Nat.{ℕ}
use native.Mathlib.Omega.{arith}
use lib.Dec.{T, eqb, eqb→eq, leb}
use lib.ListN.{length, length-append}
use Rattle.tree.specs.Tree.{Basic, plus, minus, operator_of, Tree, apply}
use Rattle.tree.specs.Context.{Side, left, right, frame, sided}
use Rattle.tree.proofs.TreeLaws.{and_left, and_right}
use Rattle.words.specs.Formula.{Formula, A, B, C, D, join, frames_of, once, level_of_a, value, agree}
use Rattle.moves.specs.Moves.{State, state1, state2, state3, state4, state5, state6, state7, state8, state9, state_number, state_of, Input, input_a, input_b, input_c, input_d, input_of, Move, replace_t, replace_t_with_d, MoveTable, ours, school}
use Rattle.moves.specs.LeftSides.{left_side, stands_for}
use Rattle.moves.specs.NextState.{kind, kinds_above, kind_of_input, left_above}
use Rattle.moves.specs.InnerEntries.{entry_of, only_t, TableBy, TableIs}
use Rattle.words.proofs.Cases.{all_kinds, at_kind}
use Rattle.words.proofs.FormulaLaws.{replaces, Replaces, may_replace, agree_at, above_level}
use Rattle.moves.proofs.TableLaws.{same_entry}
use Rattle.moves.proofs.SideLaws.{asks_all, all_agree, same_parts}

-- ---- the left sides
-- T, and T with D, as formulas
abbrev pub formula_t : Side → Basic → Side → Basic → Formula
formula_t s o t q = sided t (join q) (sided s (join o) A B) C

abbrev pub formula_t_with_d : Side → Basic → Side → Basic → Side → Basic → Formula
formula_t_with_d s o t q u w = sided u (join w) (formula_t s o t q) D

-- the frames that T, and T with D, stand for
pub frames_t : (s : Side) (o : Basic) (t : Side) (q : Basic) (b c d : Tree) → frames_of b c d (formula_t s o t q) ≡ frame s (operator_of o) b ∷ (frame t (operator_of q) c ∷ [])
frames_t left o left q b c d = refl
frames_t left o right q b c d = refl
frames_t right o left q b c d = refl
frames_t right o right q b c d = refl

pub frames_t_with_d : (s : Side) (o : Basic) (t : Side) (q : Basic) (u : Side) (w : Basic) (b c d : Tree)
    → frames_of b c d (formula_t_with_d s o t q u w) ≡ frame s (operator_of o) b ∷ (frame t (operator_of q) c ∷ (frame u (operator_of w) d ∷ []))
frames_t_with_d left o left q left w b c d = refl
frames_t_with_d left o left q right w b c d = refl
frames_t_with_d left o right q left w b c d = refl
frames_t_with_d left o right q right w b c d = refl
frames_t_with_d right o left q left w b c d = refl
frames_t_with_d right o left q right w b c d = refl
frames_t_with_d right o right q left w b c d = refl
frames_t_with_d right o right q right w b c d = refl

-- T with D selects as the left side of its state and input does ("either order of its operands"), has A once and at level 3, and asks all parts
abbrev is_side : Side → Basic → Side → Basic → Side → Basic → Bool
is_side s o t q u k =
    (once (formula_t_with_d s o t q u k) && eqb (level_of_a (formula_t_with_d s o t q u k)) 3)
    && (asks_all (formula_t_with_d s o t q u k) && agree apply (formula_t_with_d s o t q u k) (left_side (state_of s o t q) (input_of u k)))

every_side : (s : Side) (o : Basic) (t : Side) (q : Basic) (u : Side) (k : Basic) → T (is_side s o t q u k)
every_side s o t q u k =
    at_kind (λ u k. is_side s o t q u k)
    (at_kind (λ t q. all_kinds (λ u k. is_side s o t q u k))
    (at_kind (λ s o. all_kinds (λ t q. all_kinds (λ u k. is_side s o t q u k))) tt s o) t q) u k

-- ---- a word that stands for its left side may replace T with D
pub stands_replaces : (s : Side) (o : Basic) (t : Side) (q : Basic) (u : Side) (k : Basic) (p : Formula) → T (stands_for (state_of s o t q) (input_of u k) p)
    → Replaces p (formula_t_with_d s o t q u k)
stands_replaces s o t q u k p ok =
    let l = formula_t_with_d s o t q u k in
    let side = left_side (state_of s o t q) (input_of u k) in
    let tests = every_side s o t q u k in
    let first = and_left (once l && eqb (level_of_a l) 3) (asks_all l && agree apply l side) tests in
    let others = and_right (once l && eqb (level_of_a l) 3) (asks_all l && agree apply l side) tests in
    let fits = and_right (once p) (eqb (level_of_a p) 2 && agree apply p side) ok in
    let low = eqb→eq (level_of_a p) 2 (and_left (eqb (level_of_a p) 2) (agree apply p side) fits) in
    let high = eqb→eq (level_of_a l) 3 (and_right (once l) (eqb (level_of_a l) 3) first) in
    let same : (a b c d : Bool) → value apply a b c d p ≡ value apply a b c d l =
    λ a b c d. agree_at apply p side (and_right (eqb (level_of_a p) 2) (agree apply p side) fits) a b c d ∙ sym (agree_at apply l side (and_right (asks_all l) (agree apply l side) others) a b c d) in
    record {
      once_new = and_left (once p) (eqb (level_of_a p) 2 && agree apply p side) ok;
      once_old = and_left (once l) (eqb (level_of_a l) 3) first;
      higher = omega (arith, low, high);
      selects_same = all_agree apply p l same;
      parts_same = same_parts p l (and_left (asks_all l) (agree apply l side) others) same;
    }

-- ---- right tables
abbrev pub RightMove : Side → Basic → Side → Basic → Move → Type 0
RightMove s o t q (replace_t p) = Replaces p (formula_t s o t q)
RightMove s o t q (replace_t_with_d f) = (u : Side) (k : Basic) → Replaces (f (input_of u k)) (formula_t_with_d s o t q u k)

pub record Right (m : MoveTable) : Type 0 where
  pub each : (s : Side) (o : Basic) (t : Side) (q : Basic) → RightMove s o t q (m (state_of s o t q))

-- a school's
pub school_right : (f : State → Input → Formula) → ((x : State) (i : Input) → T (stands_for x i (f x i))) → Right (school f)
school_right f ok = record { each = λ s o t q u k. stands_replaces s o t q u k (f (state_of s o t q) (input_of u k)) (ok (state_of s o t q) (input_of u k)) }

-- ours
abbrev right_move : Side → Basic → Side → Basic → Move → Bool
right_move s o t q (replace_t p) = replaces p (formula_t s o t q)
right_move s o t q (replace_t_with_d f) = all_kinds (λ u k. stands_for (state_of s o t q) (input_of u k) (f (input_of u k)))

every_move : (s : Side) (o : Basic) (t : Side) (q : Basic) → T (right_move s o t q (ours (state_of s o t q)))
every_move s o t q =
    at_kind (λ t q. right_move s o t q (ours (state_of s o t q)))
    (at_kind (λ s o. all_kinds (λ t q. right_move s o t q (ours (state_of s o t q)))) tt s o) t q

pub ours_right : Right ours
ours_right = record { each = λ s o t q. go s o t q (ours (state_of s o t q)) (every_move s o t q) }
  where
    go : (s : Side) (o : Basic) (t : Side) (q : Basic) (m : Move) → T (right_move s o t q m) → RightMove s o t q m
    go s o t q (replace_t p) ok = may_replace p (formula_t s o t q) ok
    go s o t q (replace_t_with_d f) ok =
        λ u k. stands_replaces s o t q u k (f (input_of u k)) (at_kind (λ u k. stands_for (state_of s o t q) (input_of u k) (f (input_of u k))) ok u k)

-- a table as the code holds it
pub table_right : {m : MoveTable} {signs lengths : List ℕ} → TableIs m signs lengths → Right m
table_right {m} {signs} {lengths} K = go lengths K.by
  where
    go : (ns : List ℕ) → TableBy m signs ns → Right m
    go [] k = subst Right (sym k) ours_right
    go (x ∷ ns) k = subst Right (sym k.1) (school_right k.0 k.2.stands)

-- ---- a right table by states and inputs
-- each state and each input has some operators and sides
of_state : (P : State → Type 0) → ((s : Side) (o : Basic) (t : Side) (q : Basic) → P (state_of s o t q)) → (x : State) → P x
of_state P h state1 = h left plus left plus
of_state P h state2 = h left plus right minus
of_state P h state3 = h left minus left minus
of_state P h state4 = h right minus left minus
of_state P h state5 = h left plus left minus
of_state P h state6 = h left minus left plus
of_state P h state7 = h right minus left plus
of_state P h state8 = h left minus right minus
of_state P h state9 = h right minus right minus

of_input : (P : Input → Type 0) → ((u : Side) (k : Basic) → P (input_of u k)) → (i : Input) → P i
of_input P h input_a = h left plus
of_input P h input_b = h left minus
of_input P h input_c = h right plus
of_input P h input_d = h right minus

level_t : (s : Side) (o : Basic) (t : Side) (q : Basic) → level_of_a (formula_t s o t q) ≡ 2
level_t left o left q = refl
level_t left o right q = refl
level_t right o left q = refl
level_t right o right q = refl

module _ (m : MoveTable) (R : Right m) where
  -- each entry names A once
  pub once_entry : (x : State) (i : Input) → T (once (entry_of (m x) i))
  once_entry x i = of_state (λ x. T (once (entry_of (m x) i))) (λ s o t q. go s o t q (m (state_of s o t q)) (R.each s o t q)) x
    where
      go : (s : Side) (o : Basic) (t : Side) (q : Basic) (v : Move) → RightMove s o t q v → T (once (entry_of v i))
      go s o t q (replace_t p) r = r.once_new
      go s o t q (replace_t_with_d f) r = of_input (λ i. T (once (f i))) (λ u k. (r u k).once_new) i

  -- and each move leaves two frames above A
  pub two_left : (x : State) (i : Input) → length (left_above (m x) i) ≡ 2
  two_left x i = of_state (λ x. length (left_above (m x) i) ≡ 2) (λ s o t q. go s o t q (m (state_of s o t q)) (R.each s o t q)) x
    where
      high : (s : Side) (o : Basic) (t : Side) (q : Basic) (u : Side) (k : Basic) → level_of_a (formula_t_with_d s o t q u k) ≡ 3
      high s o t q u k =
          eqb→eq (level_of_a (formula_t_with_d s o t q u k)) 3
          (and_right (once (formula_t_with_d s o t q u k)) (eqb (level_of_a (formula_t_with_d s o t q u k)) 3)
          (and_left (once (formula_t_with_d s o t q u k) && eqb (level_of_a (formula_t_with_d s o t q u k)) 3) _ (every_side s o t q u k)))

      go : (s : Side) (o : Basic) (t : Side) (q : Basic) (v : Move) → RightMove s o t q v → length (left_above v i) ≡ 2
      go s o t q (replace_t p) r =
          let z = length-append (kinds_above p) (kind_of_input i ∷ []) in
          omega (arith, r.higher, level_t s o t q, above_level (λ s o q. kind s (operator_of o)) p)
      go s o t q (replace_t_with_d f) r =
          of_input (λ i. length (kinds_above (f i)) ≡ 2) (λ u k. omega (arith, (r u k).higher, high s o t q u k, above_level (λ s o q. kind s (operator_of o)) (f (input_of u k)))) i

-- ours replaces T alone in states 1 to 4, a school's in none
pub alone_number : (x : State) → only_t (ours x) ≡ leb (state_number x) 4
alone_number x = same_entry (λ x i. only_t (ours x)) (λ x i. leb (state_number x) 4) refl x input_a
