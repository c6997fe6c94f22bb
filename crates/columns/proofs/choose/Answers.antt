use mathlib.Core.Path.{refl, ◌∙◌}
use native.Mathlib.Nat.{mod-lt}
use native.Mathlib.Omega.{arith}
use Rattle.columns.proofs.ColumnLaws.{scanned_at, choice_constant, choice_true, choice_false}
use Rattle.columns.proofs.choose.Goals as goal
use Rattle.columns.proofs.choose.Goals.{then-t-i, else-t-i}

pub returns-in_default : goal.returns-in_default
returns-in_default c = choice_constant _ _ _ _ refl (omega (arith, c.in_default.ensures))

pub settle-requires : goal.settle-requires
settle-requires c =
    let s = c.requires in
    elim c.if-t-i.branch [
      | then-t-i w ↦ rw w.scan-is (scanned_at _ _ _ _ _ s c.in-Some.ensures.1 s.positive (mod-lt _ s.positive))
      | else-t-i w ↦ rw w.scan-is (scanned_at _ _ _ _ _ s c.in-Some.ensures.1 (mod-lt _ s.positive) s.positive)
    ]

pub returns : goal.returns
returns c =
    elim c.if-t-i.branch [
      | then-t-i w ↦ choice_true _ _ _ _ c.in-Some.ensures.0 _ c.in-Some.ensures.1 w.if-t-i.true (c.settle.ensures ∙ rw w.scan-is)
      | else-t-i w ↦ choice_false _ _ _ _ c.in-Some.ensures.0 _ c.in-Some.ensures.1 w.if-t-i.false (c.settle.ensures ∙ rw w.scan-is)
    ]
