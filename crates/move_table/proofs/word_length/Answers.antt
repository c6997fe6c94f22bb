-- `word_length`: the first byte that is no sign, or the length, says how many signs the bytes begin with.
use Rattle.std.proofs.Common.{◌≡◌, ◌<◌, length, get_or, true, false, ℕ, rules}
use Rattle.std.specs.List.{EachIndex}
use Rattle.std.specs.Option.{MatchOption}
use Rattle.words.specs.Word.{sign_of, allowed}
use Rattle.move_table.proofs.LineLaws.{signs_found}
use Rattle.move_table.proofs.word_length.Goals as goal

pub returns : goal.returns
returns c =
    let bytes = c.args.bytes.now in
    let found : MatchOption c.position.result (EachIndex bytes (λ k. allowed (sign_of (get_or bytes k 0)) ≡ true))
    (λ i. (i < length bytes) × ((k : ℕ) → k < i → allowed (sign_of (get_or bytes k 0)) ≡ true) × (allowed (sign_of (get_or bytes i 0)) ≡ false)) = search rules in
    rw c.unwrap_or.ensures (signs_found bytes c.position.result found)
