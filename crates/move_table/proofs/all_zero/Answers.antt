-- `all_zero`: true where each byte is 0, false where one isn't.
use Rattle.std.proofs.Common.{◌≡◌, ◌≢◌, get_or, rules}
use Rattle.std.specs.List.{All, SomeIndex}
use Rattle.std.specs.Bool.{MatchBool}
use Rattle.move_table.proofs.PackingLaws.{zeros_tested}
use Rattle.move_table.proofs.all_zero.Goals as goal

pub returns : goal.returns
returns c =
    let bytes = c.args.bytes.now in
    let tested : MatchBool c.all.result (All (λ b. b ≡ 0) bytes) (SomeIndex bytes (λ k. get_or bytes k 0 ≢ 0)) = search rules in
    zeros_tested bytes c.all.result tested
