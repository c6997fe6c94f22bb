-- `frame_after` meets its contract: what is left to find at `i` is what was at `from`.
use mathlib.Core.Path.{sym, ap, ◌∙◌}
use mathlib.Core.List.{◌∷◌}
use Prim.Native.Nat.{ℕ, ◌+◌}
use native.Mathlib.Omega.{arith}
use lib.Dec.{eqb}
use lib.ListN.{drop, get_or}
use Rattle.std.specs.Prelude.{Option, is_some}
use Rattle.tree.specs.Tree.{operator_of}
use Rattle.tree.specs.InnerPart.{side_of}
use Rattle.tree.specs.declared.Operand.{Operand}
use Rattle.words.specs.InnerAbove.{kinds_after}
use Rattle.words.proofs.AboveLaws.{basic_none, basic_some, no_operand, after_end, after_part, after_other, after_frame, after_operator}
use Rattle.words.proofs.frame_after.Goals as goal
use Rattle.words.proofs.frame_after.Goals.{then-is_some, else-is_some+in_ok-operator+else-operands-lt2}

pub returns-in_err-operator : goal.returns-in_err-operator
returns-in_err-operator c =
    let l = c.loop-i in
    let other = ap is_some (sym c.part_of.ensures) ∙ sym c.is_some.ensures ∙ c.if-is_some.false in
    let w = c.args.word.now in
    rw c.from_residual.ensures (l.invariant.1 ∙ after_other w l.i l.operands c.loop-i-test.true other (basic_none (get_or w l.i 0) (sym c.operator_of.ensures ∙ c.in_err-operator.was)))

pub returns-in_err-operand : goal.returns-in_err-operand
returns-in_err-operand c =
    let o = basic_some (get_or c.args.word.now c.loop-i.i 0) _ (sym c.operator_of.ensures ∙ c.in_ok-operator.was) in
    no_operand (side_of (eqb c.loop-i.operands 0)) o.0 (c.in_err-operand.ensures (operator_of o.0) o.2)

pub returns-then-operands-lt2 : goal.returns-then-operands-lt2
returns-then-operands-lt2 c =
    let l = c.loop-i in
    let w = c.args.word.now in
    let other = ap is_some (sym c.part_of.ensures) ∙ sym c.is_some.ensures ∙ c.if-is_some.false in
    let o = basic_some (get_or w l.i 0) _ (sym c.operator_of.ensures ∙ c.in_ok-operator.was) in
    l.invariant.1 ∙ after_frame w l.i l.operands c.loop-i-test.true other o.0 o.1 c.if-operands-lt2.true
    ∙ ap (λ (k : Option Operand). k ∷ kinds_after 0 (drop (l.i + 1) w)) (sym (c.in_ok-operand.ensures (operator_of o.0) o.2))

pub loop-i-preserved : goal.loop-i-preserved
loop-i-preserved c =
    let l = c.loop-i in
    let w = c.args.word.now in
    let h = c.loop-i-test.true in
    let named = ap is_some (sym c.part_of.ensures) ∙ sym c.is_some.ensures in
    elim c.if-is_some.branch [
      | then-is_some q ↦ (omega arith, l.invariant.1 ∙ after_part w l.i l.operands h (named ∙ q.if-is_some.true) ∙ ap (λ (k : ℕ). kinds_after k (drop (l.i + 1) w)) (sym q.operands-is))
      | else-is_some+in_ok-operator+else-operands-lt2 q ↦
          let o = basic_some (get_or w l.i 0) _ (sym q.operator_of.ensures ∙ q.in_ok-operator.was) in
          (omega arith, l.invariant.1 ∙ after_operator w l.i l.operands h (named ∙ q.if-is_some.false) o.0 o.1 q.if-operands-lt2.false ∙ ap (λ (k : ℕ). kinds_after k (drop (l.i + 1) w)) (sym q.operands-is))
    ]

pub returns : goal.returns
returns c = let l = c.loop-i in l.invariant.1 ∙ after_end c.args.word.now l.i l.operands c.loop-i-test.false
