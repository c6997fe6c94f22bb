use mathlib.Core.Path.{sym, ap, ◌∙◌}
use native.Mathlib.Omega.{arith}
use Rattle.gather.specs.Answer.{GathersTree}
use Rattle.holding.specs.InnerHolding.{holder}
use Rattle.gather.proofs.HoldingLaws.{status_not}
use Rattle.gather.proofs.GatheredLaws.{returned_rearranged}
use Rattle.gather.proofs.WholeLaws.{faultless, faultless_list, the_same, copied, copied_returned}
use Rattle.gather.proofs.gather_tree.Goals as goal

pub holding-requires : goal.holding-requires
holding-requires c = faultless_list (faultless _ _ _ c.requires)

pub rearrange-requires : goal.rearrange-requires
rearrange-requires c = record { out_value = c.requires; fact = λ t p e g. status_not (ap holder (sym (c.holding.ensures t e)) ∙ sym c.holder.ensures ∙ c.in-None.is) g }

pub copy-nodes-requires : goal.copy-nodes-requires
copy-nodes-requires c = let f = faultless _ _ _ c.requires in omega (arith, f.space, (faultless_list f).2)

pub returns-in-None : goal.returns-in-None
returns-in-None c =
    let done = c.rearrange.ensures in record {
      gathers_tree = done.gathers_tree;
      by = λ t q. returned_rearranged t (ap holder (sym (c.holding.ensures t (the_same q))) ∙ sym c.holder.ensures ∙ c.in-None.is) (done.by t q);
    }

pub returns-in-Some : goal.returns-in-Some
unfolding GathersTree
returns-in-Some c =
    let f = faultless _ _ _ c.requires in
    let named = sym c.holder.ensures ∙ c.in-Some.is in record {
      gathers_tree = λ t q. copied t q f.space c.copy-nodes.ensures (ap holder (sym (c.holding.ensures t (the_same q))) ∙ named);
      by = λ t q. copied_returned t q f.space c.copy-nodes.ensures (ap holder (sym (c.holding.ensures t (the_same q))) ∙ named);
    }
