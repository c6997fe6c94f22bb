-- `ends_line`: past the end there is no LF.
use Rattle.std.proofs.Common.{◌≡◌, length, ◌<◌, ◌≤◌, get_or, false, rules, nat_eq}
use Rattle.std.specs.Option.{MatchOption}
use Rattle.move_table.proofs.LineLaws.{starts_at}
use Rattle.move_table.proofs.ends_line.Goals as goal

pub returns : goal.returns
returns c =
    let bytes = c.args.bytes.now in
    let read : MatchOption c.get.result ((length bytes ≤ c.args.at) × (c.eq.result ≡ false)) (λ _. (c.args.at < length bytes) × (c.eq.result ≡ nat_eq (get_or bytes c.args.at 0) 10)) = search rules in
    starts_at bytes c.args.at c.get.result c.eq.result read
