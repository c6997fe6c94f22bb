-- Some instruction is wrong exactly if the code is.
use mathlib.Core.Path.{◌∙◌}
use borrow.Author.Rules.{rules}
use Rattle.std.proofs.Common.{tests}
use Rattle.std.proofs.lemmas.Iterator.{YieldsList-from_slice}
use Rattle.std.proofs.lemmas.Iterator.Search.{any_from_yields_List}
use Rattle.player.specs.Playing.{wrong_instruction}
use Rattle.player.proofs.ListLaws.{of_four, chunks_of, any_code}
use Rattle.player.proofs.wrong_code.Goals as goal

pub returns : goal.returns
returns c =
    any_from_yields_List (of_four wrong_instruction) _ _ _ c.any.ensures.ran (YieldsList-from_slice (chunks_of 4 c.args.code.now) cc) (λ x b q k. search (rules, tests))
    ∙ any_code c.args.code.now
