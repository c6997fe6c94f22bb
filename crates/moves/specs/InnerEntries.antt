-- The numbers by which the code's tables are read, a table's entry, and what functions answer of these. No contract of one of 01's calls cites this file.
use Rattle.std.specs.Prelude.{◌≡◌, List, [], ◌∷◌, ◌++◌, ℕ, ◌-◌, ◌*◌, ◌%◌, ◌≤◌, T, leb, length, get_or, take, drop, replicate, Bool, true, false, Some, None}
use Rattle.std.specs.Prelude.{Option as Maybe}
use Rattle.std.proofs.Math.Option.{Option, some, none}
use Rattle.tree.specs.declared.Operand.{Operand}
use Rattle.tree.specs.declared.Operand.TheVariants.{LeftOfUnion, LeftOfDifference, RightOfUnion, RightOfDifference}
use Rattle.words.specs.Formula.{Formula, once}
use Rattle.moves.specs.Moves.{State, state_number, Input, input_number, under, Move, MoveTable, school, place_number, replace_t, replace_t_with_d, ours}
use Rattle.moves.specs.LeftSides.{stands_for}
use Rattle.moves.specs.NextState.{left_above, state_after}
use Rattle.words.specs.Word.{most_signs, word}
use Rattle.words.specs.InnerWords.{blank}

-- a state's number; where there is none, 0
abbrev pub optional_number : Option State → ℕ
optional_number (some x) = state_number x
optional_number none = 0

-- the same as the code has it, with nothing where there is none
abbrev pub number_of : Option State → Maybe ℕ
number_of (some x) = Some (state_number x)
number_of none = None

-- an input as the code has it: which operand T is
abbrev pub input_operand : Input → Operand
input_operand i = under i LeftOfUnion LeftOfDifference RightOfUnion RightOfDifference

abbrev pub InputIs : Maybe Operand → Option Input → Type 0
InputIs n (some i) = n ≡ Some (input_operand i)
InputIs n none = n ≡ None

-- an input's place in a row of the move table, a's where there is none
abbrev pub operand_number : Operand → ℕ
operand_number LeftOfUnion = 0
operand_number LeftOfDifference = 1
operand_number RightOfUnion = 2
operand_number RightOfDifference = 3

abbrev pub column : Maybe Operand → ℕ
column None = 0
column (Some k) = operand_number k

-- an entry of the move table
abbrev pub entry_of : Move → Input → Formula
entry_of (replace_t p) i = p
entry_of (replace_t_with_d f) i = f i

-- a row of the move table holds 13 signs
abbrev pub row_signs : ℕ
row_signs = 13

abbrev pub padded : List ℕ → List ℕ
padded w = w ++ replicate (row_signs - length w) blank

-- the word is the move entry's for the state and the input that have these numbers; where there is no input, that for one of them
abbrev pub EntryIs : ℕ → ℕ → List ℕ → Type 0
EntryIs state input w = (x : State) (i : Input) → state ≡ state_number x → input % 4 ≡ input_number i → w ≡ padded (word (entry_of (ours x) i))

-- whether a move replaces T alone
abbrev pub only_t : Move → Bool
only_t (replace_t p) = true
only_t (replace_t_with_d f) = false

-- a word, blanks after it or not, is the formula's
pub record WordIs (w : List ℕ) (p : Formula) : Type 0 where
  pub blanks : ℕ
  pub is : w ≡ word p ++ replicate blanks blank

-- a word is that of a move under an input, names A once, and the move leaves two frames above A
pub record LeavesTwo (w : List ℕ) (v : Move) (i : Input) : Type 0 where
  pub its_word : WordIs w (entry_of v i)
  pub names_once : T (once (entry_of v i))
  pub two : length (left_above v i) ≡ 2

-- .. where there is an input
abbrev pub LeavesTwoUnder : List ℕ → Move → Option Input → Type 0
LeavesTwoUnder w v (some i) = LeavesTwo w v i
LeavesTwoUnder w v none = Unit {0}

-- the number of the state after a step, by its word, whether T alone is replaced, and the input: for whichever move that is
abbrev pub NextIs : List ℕ → Bool → Maybe Operand → Maybe ℕ → Type 0
NextIs w b input r = (v : Move) (i : Option Input) → only_t v ≡ b → InputIs input i → LeavesTwoUnder w v i → r ≡ number_of (state_after v i)

-- ---- a table as the code holds it
-- a school's words: their signs, in rows of 31, and their lengths
pub record WordsHeld (f : State → Input → Formula) (signs lengths : List ℕ) : Type 0 where
  pub stands : (x : State) (i : Input) → T (stands_for x i (f x i))
  pub short : (x : State) (i : Input) → length (word (f x i)) ≤ most_signs
  pub count : length lengths ≡ 36
  pub room : length signs ≡ 1116
  pub measured : (x : State) (i : Input) → get_or lengths (place_number x i) 0 ≡ length (word (f x i))
  pub spelled : (x : State) (i : Input) → take (length (word (f x i))) (drop (most_signs * place_number x i) signs) ≡ word (f x i)

-- nothing stands for ours
abbrev pub TableBy : MoveTable → List ℕ → List ℕ → Type 0
TableBy m signs [] = m ≡ ours
TableBy m signs (n ∷ ns) = (f : State → Input → Formula) × (m ≡ school f) × WordsHeld f signs (n ∷ ns)

pub record TableIs (m : MoveTable) (signs lengths : List ℕ) : Type 0 where
  pub by : TableBy m signs lengths

-- these are some table
abbrev pub SomeTable : List ℕ → List ℕ → Type 0
SomeTable signs lengths = (m : MoveTable) × TableIs m signs lengths

-- such a table replaces T alone in the states up to `last`, there with our own entries
pub record AloneUpTo (m : MoveTable) (last : ℕ) : Type 0 where
  pub signs : List ℕ
  pub lengths : List ℕ
  pub holds : TableIs m signs lengths
  pub says : (x : State) → only_t (m x) ≡ leb (state_number x) last
  pub own : (x : State) → only_t (m x) ≡ true → m x ≡ ours x
