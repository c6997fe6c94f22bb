use mathlib.Core.Path.{sym, ◌∙◌}
use Rattle.splits.proofs.SplitLaws.{below_sized, use_below_top, use_at_top}
use Rattle.splits.proofs.use_of.Goals as goal

pub use_below-requires : goal.use_below-requires
use_below-requires c = below_sized _ c.requires c.if-v-n.true

pub returns-then-v-n : goal.returns-then-v-n
returns-then-v-n c = c.use_below.ensures ∙ sym (use_below_top _ _ _ _ _ c.if-v-n.true)

pub returns-then-allowed_top : goal.returns-then-allowed_top
returns-then-allowed_top c = sym (use_at_top _ _ _ _ _ c.if-v-n.false ∙ rw (sym c.allowed_top.ensures ∙ c.if-allowed_top.true))

pub returns-else-allowed_top : goal.returns-else-allowed_top
returns-else-allowed_top c = sym (use_at_top _ _ _ _ _ c.if-v-n.false ∙ rw (sym c.allowed_top.ensures ∙ c.if-allowed_top.false))
