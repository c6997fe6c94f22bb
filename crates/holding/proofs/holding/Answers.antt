use mathlib.Core.Path.{◌≡◌, refl}
use mathlib.Core.List.{List}
use Prim.Native.Nat.{ℕ, ◌+◌, ◌-◌, ◌≤◌, ◌<◌}
use native.Mathlib.Omega.{arith}
use lib.ListN.{length, get_or, length-set}
use Rattle.tree.specs.Tree.{Tree, postfix, is_in, sign, union}
use Rattle.tree.proofs.PassLaws.{Passing, passing_start}
use Rattle.table.specs.InnerTable.{Listed}
use Rattle.table.proofs.EntryLaws.{turn_group, turn_operator, turn_two, turn_end}
use Rattle.holding.specs.InnerHolding.{leaf_status, node_status}
use Rattle.holding.specs.declared.Status.{Status}
use Rattle.holding.specs.declared.Status.TheVariants.{Free}
use Rattle.holding.proofs.holding.Goals as goal
use Rattle.holding.proofs.holding.Goals.{then-x-lt-UNION, else-x-lt-UNION}

pub loop-at-init : goal.loop-at-init
loop-at-init c = (omega arith, refl, λ t e. passing_start (leaf_status (is_in c.args.marks.now)) node_status Free t _)

-- an operator finds two operands
two : (list marks : List ℕ) → Listed list → (i : ℕ) (stack : List Status) (top : ℕ) → i < length list → sign union ≤ get_or list i 0
    → ((t : Tree) → list ≡ postfix t → Passing (leaf_status (is_in marks)) node_status Free t i stack top) → 2 ≤ top
two list marks p i stack top less operator passing =
    turn_two (leaf_status (is_in marks)) node_status Free list p.0 p.1 i stack top less operator (passing p.0 p.1)

pub overflow_sub-left : goal.overflow_sub-left
overflow_sub-left c = two _ _ c.requires _ _ _ (omega arith) c.if-x-lt-UNION.false c.loop-at.invariant.2

pub loop-at-preserved : goal.loop-at-preserved
loop-at-preserved c =
    let a = c.args in
    let l = c.loop-at in
    let within = c.requires.2 in
    elim c.if-x-lt-UNION.branch [
      | then-x-lt-UNION w ↦
          rw (w.stack-is, w.top-is) (omega arith, simp length-set l.invariant.1, λ t e. turn_group (leaf_status (is_in a.marks.now)) node_status Free a.list.now t e l.at l.stack l.top w.leaf_status.result (omega arith) w.if-x-lt-UNION.true (omega arith) (λ h. w.leaf_status.ensures) (l.invariant.2 t e))
      | else-x-lt-UNION w ↦
          let h : 2 ≤ l.top = two _ _ c.requires _ _ _ (omega arith) w.if-x-lt-UNION.false l.invariant.2 in
          let last : l.top - 2 + 1 ≡ l.top - 1 = omega arith in
          rw (w.stack-is, w.top-is, last) (omega arith, simp length-set l.invariant.1, λ t e. turn_operator (leaf_status (is_in a.marks.now)) node_status Free a.list.now t e l.at l.stack l.top w.merge.result (omega arith) w.if-x-lt-UNION.false (omega arith) (λ o q. rw last at w.merge.ensures) (l.invariant.2 t e))
    ]

pub returns : goal.returns
returns c = let l = c.loop-at in let a = c.args in λ t e. turn_end (leaf_status (is_in a.marks.now)) node_status Free a.list.now t e l.at l.stack l.top (omega arith) (l.invariant.2 t e)
