use mathlib.Core.Path.{◌∙◌}
use Rattle.exports.proofs.store_all.Goals as goal

pub returns : goal.returns
returns c =
    let one = c.store.ensures in
    let two = c.store-2.ensures in
    let three = c.store-3.ensures in
    let four = c.store-4.ensures in
    four ∙ rw (three, two, one)
