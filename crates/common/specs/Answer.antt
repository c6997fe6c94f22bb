-- Document 01: "Where an answer is an enum, a definition states this paper's number and values for each of its cases. The promises use
-- that definition." This is what such a definition gives, one for each enum.
use Rattle.std.specs.Prelude.{cond, List, ℕ, eqb}

-- done with its values, which has the number 0 ("number 0 if done"), or refused with its number
pub data Answer : Type 0 where
  done : (values : List ℕ) → Answer
  refused_with : (number : ℕ) → Answer

-- of a call that is refused by its first fault: that fault's number is given, 0 where there is none, and the values if it is done
abbrev pub answer_by : ℕ → List ℕ → Answer
answer_by fault values = cond (eqb fault 0) (done values) (refused_with fault)
