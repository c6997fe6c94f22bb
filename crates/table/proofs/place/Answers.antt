-- `table::place` meets its contract: `position` finds the first that is the group, or none.
use Rattle.std.specs.Prelude.{◌==◌, take}
use Rattle.std.proofs.Common.{rules}
use Rattle.std.proofs.lemmas.Iterator.{YieldsList-from_slice}
use Rattle.std.proofs.lemmas.Iterator.Search.{position_from_yields_List}
use borrow.Author.Tests.{tests}
use Rattle.table.proofs.TableLaws.{place_among}
use Rattle.table.proofs.place.Goals as goal

pub returns : goal.returns
returns c =
    let known = take c.min.result c.args.groups.now in
    rw (c.unwrap_or.ensures, position_from_yields_List (λ x. x == c.args.g) _ _ c.position.result c.position.ensures.ran (YieldsList-from_slice known cc) (λ x b q k. search (rules, tests)))
    (place_among c.args.groups.now c.args.g c.min.result c.min.ensures)
