-- Writing into a buffer, as the functions of all crates that write say it to each other.
use Rattle.std.specs.Prelude.{◌≡◌, List, ℕ, ◌+◌, length}
use Rattle.std.proofs.lemmas.List.Edits.{sets}

-- xs were written into the buffer `out` from index `at` on, which left `out'`; the next index is `next`
pub record Wrote {A : Type 0} (out : List A) (at : ℕ) (out' : List A) (next : ℕ) (xs : List A) : Type 0 where
  pub list : out' ≡ sets out at xs
  pub ends : next ≡ at + length xs
  pub same : length out' ≡ length out
