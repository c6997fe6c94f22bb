-- What `encode` answers and leaves, and what `run_of` answers. 01, "The instructions".
use Rattle.std.specs.Prelude.{◌≡◌, cond, List, [], ◌∷◌, ℕ, eqb, ltb, length, Result, Ok, Err}
use Rattle.std.proofs.Math.Option.{Option, some, none}
use Rattle.common.specs.Answer.{Answer, done, refused_with, answer_by}
use Rattle.tree.specs.Tree.{Tree, size}
use Rattle.tree.specs.Context.{Place}
use Rattle.tree.specs.Parse.{tree_of, is_some, locate}
use Rattle.tree.specs.Writing.{over}
use Rattle.player.specs.Instructions.{numbers_of}
use Rattle.code.specs.Code.{code}
use Rattle.code.specs.Runs.{run_first, run_count}
use Rattle.coder.specs.declared.Refusal.{Refusal}
use Rattle.coder.specs.declared.Refusal.TheVariants.{ShortBuffer, NotATree}
use Rattle.coder.specs.declared.Run.{Run}

-- "20 its buffer is under 32,764 numbers": four for each of 8,191 instructions
abbrev pub least_buffer : ℕ
least_buffer = 32764

-- the code that a list asks for, of a device whose code of a tree is `code`
abbrev pub code_of_list : {I : Type 0} → (Tree → List I) → Option Tree → List I
code_of_list code none = []
code_of_list code (some t) = code t

-- 01's number of each refusal: "20 its buffer is under .. numbers; 12"
abbrev pub refusal_number : Refusal → ℕ
refusal_number ShortBuffer = 20
refusal_number NotATree = 12

-- 01's number and value for each answer: "Coding answers the number of instructions"; or the fault's number
abbrev pub coded_says : Result ℕ Refusal → Answer
coded_says (Ok n) = done (n ∷ [])
coded_says (Err r) = refused_with (refusal_number r)

-- "It refuses, buffer unchanged: 20 its buffer is under .. numbers; 12": the number of the first fault, 0 where there is none
abbrev pub encode_fault : ℕ → (tree out : List ℕ) → ℕ
encode_fault least tree out = cond (ltb (length out) least) 20 (cond (is_some (tree_of tree)) 0 12)

-- the buffer afterwards: done, the numbers of the code, and behind them what stood there; refused, "buffer unchanged". Of a device: the
-- least buffer, its code, and the numbers of its code
abbrev pub buffer_after : {I : Type 0} → ℕ → (Tree → List I) → (List I → List ℕ) → (tree out : List ℕ) → List ℕ
buffer_after least code numbers tree out = cond (eqb (encode_fault least tree out) 0) (over (numbers (code_of_list code (tree_of tree))) out) out

-- What a call answers, and what the buffer is afterwards: "one per node, and writes nothing past the last"
pub record EncodesBy {I : Type 0} (least : ℕ) (code : Tree → List I) (numbers : List I → List ℕ) (tree out : List ℕ) (r : Result ℕ Refusal) (after : List ℕ) : Type 0 where
  pub says : coded_says r ≡ answer_by (encode_fault least tree out) (length (code_of_list code (tree_of tree)) ∷ [])
  pub written : after ≡ buffer_after least code numbers tree out

-- of 01's player
abbrev pub Encodes : (tree out : List ℕ) (r : Result ℕ Refusal) (after : List ℕ) → Type 0
Encodes = EncodesBy least_buffer (λ t. code t 0) numbers_of

-- "the run's first instruction from 1, and its length", of a node's part and its context
abbrev pub run_at : Place → Run
run_at s = record { first = run_first s.part s.above; count = run_count s.part s.above }

-- what `run_of` answers for the node at a position; 0 and 0 where there is no such node
abbrev pub run_of : Option Tree → ℕ → Run
run_of none p = record { first = 0; count = 0 }
run_of (some t) p = cond (ltb p (size t)) (run_at (locate t [] p)) (record { first = 0; count = 0 })
