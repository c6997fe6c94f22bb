-- The code's constant tables are the definitions' values in order: a table of all values of a function, and its entry at a place.
-- That such a table is the code's is a computation.
use mathlib.Core.Path.{◌≡◌, refl, sym, ap, ap₂, ◌∙◌}
use mathlib.Core.List.{List, [], ◌∷◌}
use Prim.Native.Nat.{ℕ, zero, suc, ◌-◌, ◌≤◌, ◌<◌, ◌%◌}
use native.Mathlib.Omega.{arith}
use lib.ListN.{get_or}
use mathlib.Core.Option.{Option, some, none}
use Rattle.tree.specs.Tree.{Operator, union, difference, intersection, Basic, plus, minus, operator_of}
use Rattle.tree.specs.Context.{Side, left, right}
use Rattle.std.specs.Prelude.{Option as Maybe, Some, None}
use Rattle.std.proofs.lemmas.Option.{none-some}
use Rattle.tree.specs.InnerPart.{kind_of}
use Rattle.tree.specs.declared.Operand.{Operand}
use Rattle.tree.specs.declared.Operand.TheVariants.{LeftOfUnion, LeftOfDifference, RightOfUnion, RightOfDifference}
use Rattle.moves.specs.Moves.{State, state1, state2, state3, state4, state5, state6, state7, state8, state9, Input, input_a, input_b, input_c, input_d, state_of, basic, state_with, input_with, state_number, input_number}
use Rattle.moves.specs.InnerEntries.{optional_number, input_operand, InputIs, operand_number, column}

abbrev pub by_state : {X : Type 0} → (State → X) → List X
by_state f = f state1 ∷ f state2 ∷ f state3 ∷ f state4 ∷ f state5 ∷ f state6 ∷ f state7 ∷ f state8 ∷ f state9 ∷ []

abbrev pub by_input : {X : Type 0} → (Input → X) → List X
by_input f = f input_a ∷ f input_b ∷ f input_c ∷ f input_d ∷ []

abbrev pub by_kind : {X : Type 0} → (Side → Basic → X) → List X
by_kind f = f left plus ∷ f left minus ∷ f right plus ∷ f right minus ∷ []

at_state : {X : Type 0} (f : State → X) (d : X) (x : State) → get_or (by_state f) (state_number x - 1) d ≡ f x
at_state f d state1 = refl
at_state f d state2 = refl
at_state f d state3 = refl
at_state f d state4 = refl
at_state f d state5 = refl
at_state f d state6 = refl
at_state f d state7 = refl
at_state f d state8 = refl
at_state f d state9 = refl

at_input : {X : Type 0} (f : Input → X) (d : X) (i : Input) → get_or (by_input f) (input_number i) d ≡ f i
at_input f d input_a = refl
at_input f d input_b = refl
at_input f d input_c = refl
at_input f d input_d = refl

at_kind : {X : Type 0} (f : Side → Basic → X) (d : X) (s : Side) (o : Basic) → get_or (by_kind f) (column (kind_of s (operator_of o))) d ≡ f s o
at_kind f d left plus = refl
at_kind f d left minus = refl
at_kind f d right plus = refl
at_kind f d right minus = refl

-- by states and inputs
pub entry_at : {X : Type 0} (f : State → Input → X) (d : X) (x : State) (i : Input) (s n : ℕ) → s ≡ state_number x → n ≡ input_number i
    → get_or (get_or (by_state (λ x. by_input (f x))) (s - 1) []) n d ≡ f x i
entry_at f d x i s n p q = rw (p, q) (rw (at_state (λ x. by_input (f x)) [] x) (at_input (f x) d i))

-- two tables with the same values in order are of the same function
pub same_entry : {X : Type 0} (f g : State → Input → X) → by_state (λ x. by_input (f x)) ≡ by_state (λ x. by_input (g x)) → (x : State) (i : Input) → f x i ≡ g x i
same_entry f g e x i =
    sym (entry_at f (f x i) x i (state_number x) (input_number i) refl refl)
    ∙ ap (λ t. get_or (get_or t (state_number x - 1) []) (input_number i) (f x i)) e
    ∙ entry_at g (f x i) x i (state_number x) (input_number i) refl refl

-- by two kinds, each by its place in a row
pub entry_of_kinds : {X : Type 0} (f : Side → Basic → Side → Basic → X) (d : X) (s : Side) (o : Basic) (t : Side) (q : Basic) (m n : ℕ)
    → m ≡ column (kind_of s (operator_of o)) → n ≡ column (kind_of t (operator_of q))
    → get_or (get_or (by_kind (λ s o. by_kind (f s o))) m []) n d ≡ f s o t q
entry_of_kinds f d s o t q m n p r = rw (p, r) (rw (at_kind (λ s o. by_kind (f s o)) [] s o) (at_kind (f s o) d t q))

-- ---- how large the numbers are, and that an input is T's kind
pub state_range : (x : State) → (1 ≤ state_number x) × (state_number x ≤ 9)
state_range state1 = omega arith
state_range state2 = omega arith
state_range state3 = omega arith
state_range state4 = omega arith
state_range state5 = omega arith
state_range state6 = omega arith
state_range state7 = omega arith
state_range state8 = omega arith
state_range state9 = omega arith

pub input_range : (i : Input) → input_number i < 4
input_range input_a = omega arith
input_range input_b = omega arith
input_range input_c = omega arith
input_range input_d = omega arith

-- an input's place in a row of the table of entries, and that any place is one's
pub input_column : (i : Input) → operand_number (input_operand i) ≡ input_number i
input_column input_a = refl
input_column input_b = refl
input_column input_c = refl
input_column input_d = refl

pub input_round : (i : Input) → input_number i % 4 ≡ input_number i
input_round input_a = refl
input_round input_b = refl
input_round input_c = refl
input_round input_d = refl

-- any number, read as that of an input
pub rest_input : (n : ℕ) → (i : Input) × (n % 4 ≡ input_number i)
rest_input n = go (n % 4) (omega arith)
  where
    go : (k : ℕ) → k < 4 → (i : Input) × (k ≡ input_number i)
    go zero h = (input_a, refl)
    go (suc zero) h = (input_b, refl)
    go (suc (suc zero)) h = (input_c, refl)
    go (suc (suc (suc zero))) h = (input_d, refl)
    go (suc (suc (suc (suc k)))) h = absurd (omega arith)

pub column_input : (k : Maybe Operand) → (i : Input) × (column k ≡ input_number i)
column_input None = (input_a, refl)
column_input (Some LeftOfUnion) = (input_a, refl)
column_input (Some LeftOfDifference) = (input_b, refl)
column_input (Some RightOfUnion) = (input_c, refl)
column_input (Some RightOfDifference) = (input_d, refl)

-- the kinds of frames, and which of them are inputs
pub kind_input : (s : Side) (o : Operator) → InputIs (kind_of s o) (input_with s (basic o))
kind_input left union = refl
kind_input left difference = refl
kind_input left intersection = refl
kind_input right union = refl
kind_input right difference = refl
kind_input right intersection = refl

-- the kinds that there are, are those of the two operators of the entries
pub record IsBasic (o : Operator) : Type 0 where
  pub same : Basic
  pub is : o ≡ operator_of same
  pub back : basic o ≡ some same

pub small_kind : (s : Side) (o : Operator) (k : Operand) → kind_of s o ≡ Some k → IsBasic o
small_kind s union k h = record { same = plus; is = refl; back = refl }
small_kind s difference k h = record { same = minus; is = refl; back = refl }
small_kind s intersection k h = absurd cc

no_kind : (s : Side) (o : Operator) → None ≡ kind_of s o → basic o ≡ none
no_kind s union e = absurd (none-some _ e)
no_kind s difference e = absurd (none-some _ e)
no_kind s intersection e = refl

-- the state by the places of two kinds
module _ (s : Side) (o : Operator) (t : Side) (q : Operator) where
  pub state_of_kinds : (k l : Operand) → Some k ≡ kind_of s o → Some l ≡ kind_of t q
      → get_or (get_or (by_kind (λ s o. by_kind (λ t q. state_number (state_of s o t q)))) (operand_number k) []) (operand_number l) 0 ≡ optional_number (state_with s (basic o) t (basic q))
  state_of_kinds k l e f =
      let O = small_kind s o k (sym e) in
      let Q = small_kind t q l (sym f) in
      entry_of_kinds (λ s o t q. state_number (state_of s o t q)) 0 s O.same t Q.same (operand_number k) (operand_number l)
      (ap column e ∙ ap (λ (o : Operator). column (kind_of s o)) O.is) (ap column f ∙ ap (λ (q : Operator). column (kind_of t q)) Q.is)
      ∙ sym (ap₂ (λ (x y : Option Basic). optional_number (state_with s x t y)) O.back Q.back)

  pub no_first : None ≡ kind_of s o → 0 ≡ optional_number (state_with s (basic o) t (basic q))
  no_first e = sym (ap (λ (x : Option Basic). optional_number (state_with s x t (basic q))) (no_kind s o e))

  pub no_second : None ≡ kind_of t q → 0 ≡ optional_number (state_with s (basic o) t (basic q))
  no_second e = none_second (basic o) ∙ sym (ap (λ (y : Option Basic). optional_number (state_with s (basic o) t y)) (no_kind t q e))
    where
      none_second : (x : Option Basic) → 0 ≡ optional_number (state_with s x t none)
      none_second (some b) = refl
      none_second none = refl
