-- `estimate` is the definition's recursion: a variable less at each call.
use mathlib.Core.Path.{◌≡◌, ap, ◌∙◌}
use mathlib.Core.Bool.{true}
use native.Mathlib.Omega.{arith}
use borrow.Author.Rules.{rules}
use Rattle.splits.specs.InnerSplits.{is_drop}
use Rattle.splits.specs.InnerSplits as inner
use Rattle.splits.specs.declared.Holder.TheVariants.{Absent}
use Rattle.splits.proofs.SplitLaws.{splits_top, below_most, first_sized, second_sized, sized_more, estimate_none, estimate_one, estimate_is, estimate_drop, estimate_small}
use Rattle.splits.proofs.+estimate.Goals as goal

pub returns-then-k-eq0 : goal.returns-then-k-eq0
returns-then-k-eq0 t c = estimate_none _ _ _ c.if-k-eq0.true

-- here and below: a table of a variable more than k - 1
pub top_form-form-requires : goal.top_form-form-requires
top_form-form-requires t c = (_, sized_more c.requires c.if-k-eq0.false)

pub returns-then-k-eq1 : goal.returns-then-k-eq1
returns-then-k-eq1 t c = rw c.if-k-eq1.true (estimate_one _ _ _ _ c.top_form-form.ensures c.leaves_by.ensures)

pub split-parts-requires : goal.split-parts-requires
split-parts-requires t c = splits_top (sized_more c.requires c.if-k-eq0.false)

pub estimate-a-requires : goal.estimate-a-requires
estimate-a-requires t c = (omega arith, first_sized (sized_more c.requires c.if-k-eq0.false) c.split-parts.ensures)

pub returns-then-eq : goal.returns-then-eq
returns-then-eq t c =
    let drops : is_drop c.top_form-form.result ≡ true = search rules in
    estimate_drop _ _ _ _ c.if-k-eq0.false c.top_form-form.ensures _ drops (c.estimate-a.ensures ∙ ap (inner.estimate _ Absent) c.split-parts.ensures.first)

pub estimate-b-requires : goal.estimate-b-requires
estimate-b-requires t c = (omega arith, second_sized (sized_more c.requires c.if-k-eq0.false) c.split-parts.ensures)

pub leaves_by-requires-2 : goal.leaves_by-requires-2
leaves_by-requires-2 t c =
    let most = below_most (sized_more c.requires c.if-k-eq0.false) in
    (rw c.estimate-a.ensures (estimate_small _ _ _ most), rw c.estimate-b.ensures (estimate_small _ _ _ most))

pub returns : goal.returns
returns t c =
    let parts = c.split-parts.ensures in
    c.leaves_by-2.ensures
    ∙ estimate_is _ _ _ _ c.if-k-eq0.false c.top_form-form.ensures _ _ (c.estimate-a.ensures ∙ ap (inner.estimate _ Absent) parts.first) (c.estimate-b.ensures ∙ ap (inner.estimate _ Absent) parts.second)
