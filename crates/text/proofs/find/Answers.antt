-- `find`: as many bytes stand ahead as `position` passes.
use Rattle.std.proofs.Common.{rules, tests}
use Rattle.std.proofs.lemmas.Iterator.{YieldsList-from_slice}
use Rattle.std.proofs.lemmas.Iterator.Search.{position_from_yields_List}
use lib.Dec.{eqb}
use Rattle.text.proofs.PartsLaws.{ahead_by}
use Rattle.text.proofs.find.Goals as goal

pub returns : goal.returns
returns c =
    let a = c.args in
    ahead_by _ _ _ (position_from_yields_List (λ x. eqb x a.b) _ _ c.position.result c.position.ensures.ran (YieldsList-from_slice a.bytes.now cc) (λ x b q k. search (rules, tests)))
