-- Some pair is wrong exactly if the patch is.
use mathlib.Core.Path.{◌∙◌}
use borrow.Author.Rules.{rules}
use Rattle.std.proofs.Common.{tests}
use Rattle.std.proofs.lemmas.Iterator.{YieldsList-from_slice}
use Rattle.std.proofs.lemmas.Iterator.Search.{any_from_yields_List}
use Rattle.player.specs.Playing.{wrong_pair}
use Rattle.player.proofs.ListLaws.{of_pair, chunks_of, any_patch}
use Rattle.player.proofs.wrong_patch.Goals as goal

pub returns : goal.returns
returns c =
    any_from_yields_List (of_pair wrong_pair) _ _ _ c.any.ensures.ran (YieldsList-from_slice (chunks_of 2 c.args.patch.now) cc) (λ x b q k. search (rules, tests))
    ∙ any_patch c.args.patch.now
