-- What the calls for other languages leave in the memory lent to them: what the call of 01 leaves, and its answer as numbers.
use Rattle.std.specs.Prelude.{◌≡◌, cond, ◌&&◌, List, [], ◌∷◌, ℕ, ◌%◌, eqb, length, get_or}
use Rattle.std.proofs.Math.Option.{map}
use Rattle.std.proofs.lemmas.List.Edits.{sets}
use Rattle.common.specs.Answer.{Answer, done, refused_with, answer_by}
use Rattle.tree.specs.Tree.{Tree}
use Rattle.tree.specs.Parse.{tree_of}
use Rattle.move_table.specs.Packing.{empty}
use Rattle.move_table.specs.declared.LoadedTable.{LoadedTable}
use Rattle.lift.specs.Lift.{Result}
use Rattle.lift.specs.Answer.{result_says, lift_buffer}
use Rattle.gather.specs.Answer.{Gathering, gathering_says, Gathers}
use Rattle.coder.specs.Coding.{encode_fault, code_of_list, buffer_after}
use Rattle.questions.specs.Answer.{tree_at, value_or30, in_array}
use Rattle.player.specs.Instructions.{Lamps}
use Rattle.player.specs.Playing.{bytes_by}

-- the number, 0 for done
abbrev pub answer_number : Answer → ℕ
answer_number (done values) = 0
answer_number (refused_with number) = number

-- the number, and behind it the values
abbrev pub answer_numbers : Answer → List ℕ
answer_numbers (done values) = 0 ∷ values
answer_numbers (refused_with number) = number ∷ []

-- a number of an answer as 32 bits: the first is 01's number (0 for done), then come its values; 0 where it has no more
abbrev pub stored32 : List ℕ → ℕ → ℕ
stored32 numbers i = get_or numbers i 0 % 4294967296

-- the array with an answer at its front, as far as it has places: four numbers, and behind them what stood there
abbrev pub with_answer : Answer → List ℕ → List ℕ
with_answer a array =
    sets array 0 (stored32 (answer_numbers a) 0 ∷ stored32 (answer_numbers a) 1 ∷ stored32 (answer_numbers a) 2 ∷ stored32 (answer_numbers a) 3 ∷ [])

-- a school's table from two lists; zeros where they have not as many numbers as a table
abbrev pub table_from : List ℕ → List ℕ → LoadedTable
table_from signs lengths = cond (eqb (length signs) 1116 && eqb (length lengths) 36) (record { signs = signs; lengths = lengths }) empty

-- a lift with this result: what it leaves in the buffer, and its answer
pub record LiftCall (x : Result) (out out' answer answer' : List ℕ) : Type 0 where
  pub leaves : out' ≡ lift_buffer x out
  pub stores : answer' ≡ with_answer (result_says x) answer

-- "only the gathered tree may vary"
pub record GatherCall (tree marks out out' answer answer' : List ℕ) : Type 0 where
  pub verdict : Gathering
  pub gathers : Gathers tree marks out out' verdict
  pub stores : answer' ≡ with_answer (gathering_says verdict) answer

-- `encode`, the same, of a device: its least buffer, its code of a tree, and a code's numbers
pub record EncodeCall {I : Type 0} (least : ℕ) (code : Tree → List I) (numbers : List I → List ℕ) (tree out out' answer answer' : List ℕ) : Type 0 where
  pub written : out' ≡ buffer_after least code numbers tree out
  pub stores : answer' ≡ with_answer (answer_by (encode_fault least tree out) (length (code_of_list code (tree_of tree)) ∷ [])) answer

-- the number alone, 0 for done, by the first fault and the lamps lit
pub record PlayCall (fault : ℕ) (lit : Lamps) (lamps lamps' : List ℕ) (number : ℕ) : Type 0 where
  pub numbered : number ≡ fault
  pub written : lamps' ≡ bytes_by fault lit lamps

-- the tree with an index: its entries with 0 behind them at the array's front, as far as it has places, and how many they are
pub record TreeCall (index : ℕ) (entries entries' answer answer' : List ℕ) : Type 0 where
  pub holds : entries' ≡ sets entries 0 (in_array (tree_at index))
  pub stores : answer' ≡ with_answer (value_or30 (map length (tree_at index))) answer
