use mathlib.Core.Path.{sym, ap, ◌∙◌}
use Rattle.tree.proofs.ParseLaws.{the_tree}
use Rattle.holding.specs.InnerHolding.{holder}
use Rattle.gather.proofs.HoldingLaws.{says_gathered}
use Rattle.gather.proofs.WholeLaws.{tree_listed}
use Rattle.gather.proofs.is_gathered.Goals as goal

pub holding-requires : goal.holding-requires
holding-requires c = tree_listed (the_tree _ (sym c.is_tree.ensures ∙ c.if-is_tree.true))

pub returns-then-is_tree : goal.returns-then-is_tree
returns-then-is_tree c =
    let T = the_tree _ (sym c.is_tree.ensures ∙ c.if-is_tree.true) in
    rw c.is_some.ensures (says_gathered T _ (c.holder.ensures ∙ ap holder (c.holding.ensures T.tree T.list)))
