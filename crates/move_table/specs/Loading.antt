-- Request 7 of 02, "A school's own move table": what loading a table comes to, for any bytes, the first fault first.
use Rattle.std.specs.Prelude.{Bool, true, false, cond, ◌&&◌, List, [], ◌∷◌, ◌++◌, ℕ, ◌+◌, eqb, length, get_or, drop}
use Rattle.std.proofs.Math.Option.{Option, some, none}
use Rattle.tree.specs.Tree.{is_up_to}
use Rattle.text.specs.Decimal.{nought}
use Rattle.text.specs.Line.{tab, line_feed}
use Rattle.words.specs.Formula.{Formula, A}
use Rattle.words.specs.Word.{sign_of, allowed, most_signs}
use Rattle.moves.specs.Moves.{State, state1, state2, state3, state4, state5, state6, state7, state8, state9, state_number, Input, input_a, input_b, input_c, input_d, under, MoveTable, school, place_number}
use Rattle.moves.specs.LeftSides.{entry_for}

-- ---- the lines
-- a line's place in the table
pub record Place : Type 0 where
  pub state : State
  pub input : Input

-- "states rising and a to d within each"
abbrev pub in_state : State → List Place
in_state x =
    record { state = x; input = input_a } ∷ record { state = x; input = input_b } ∷ record { state = x; input = input_c } ∷ record { state = x; input = input_d } ∷ []

-- "A table is 36 lines"
abbrev pub places : List Place
places =
    in_state state1 ++ (in_state state2 ++ (in_state state3 ++ (in_state state4 ++ (in_state state5 ++ (in_state state6 ++ (in_state state7 ++ (in_state state8 ++ in_state state9)))))))

-- the letters a to d
abbrev pub letter : Input → ℕ
letter i = under i 97 98 99 100

-- "parted and ended as a sheet's: state, input letter, word": these four bytes, the word, and LF
abbrev pub front : Place → List ℕ
front at = (nought + state_number at.state) ∷ tab ∷ letter at.input ∷ tab ∷ []

abbrev pub front_bytes : ℕ
front_bytes = 4

-- the allowed signs with which some bytes begin
unfoldable pub signs_in : List ℕ → List ℕ
signs_in [] = []
signs_in (b ∷ bs) = cond (allowed (sign_of b)) (b ∷ signs_in bs) []

-- the word of the line with which some bytes begin, and the bytes after that line
abbrev pub word_in : List ℕ → List ℕ
word_in bytes = signs_in (drop front_bytes bytes)

abbrev pub line_bytes : List ℕ → ℕ
line_bytes bytes = front_bytes + length (word_in bytes) + 1

-- whether some bytes begin with others
unfoldable pub starts_with : List ℕ → List ℕ → Bool
starts_with [] bs = true
starts_with (x ∷ xs) [] = false
starts_with (x ∷ xs) (b ∷ bs) = eqb b x && starts_with xs bs

-- whether they begin with a line of good form for its place: what is no such line, "a word of no signs or over 31 among them, is refused with 28"
abbrev pub begins : Place → List ℕ → Bool
begins at bytes =
    starts_with (front at) bytes && (is_up_to most_signs (length (word_in bytes)) && starts_with (line_feed ∷ []) (drop (front_bytes + length (word_in bytes)) bytes))

-- ---- the whole
-- the formulas of the 36 words in order; or the first fault's number and its line
pub data Loaded : Type 0 where
  loaded : List Formula → Loaded
  refused : ℕ → ℕ → Loaded

-- a line's entry before those of the later lines: "the earlier line comes first"
abbrev pub onto : Formula → Loaded → Loaded
onto p (loaded ps) = loaded (p ∷ ps)
onto p (refused number line) = refused number line

-- "A word of allowed signs that makes no tree, or fails otherwise, is refused with 29 and its line"
abbrev pub with_entry : ℕ → Option Formula → Loaded → Loaded
with_entry n none rest = refused 29 n
with_entry n (some p) rest = onto p rest

-- the lines from line n on, for these places: "is refused with 28 and its line; a table that ends early gets 28 at the line after its last"
unfoldable pub load_from : List Place → ℕ → List ℕ → Loaded
load_from [] n [] = loaded []
load_from [] n (b ∷ bytes) = refused 28 n
load_from (at ∷ later) n bytes =
    cond (begins at bytes) (with_entry n (entry_for at.state at.input (word_in bytes)) (load_from later (n + 1) (drop (line_bytes bytes) bytes))) (refused 28 n)

-- a table of any bytes
unfoldable pub loading : List ℕ → Loaded
loading bytes = load_from places 1 bytes

-- ---- the move table that it is
-- its formula for a state and an input
abbrev pub entry_in : List Formula → State → Input → Formula
entry_in ps x i = get_or ps (place_number x i) A

abbrev pub school_table : List Formula → MoveTable
school_table ps = school (entry_in ps)
