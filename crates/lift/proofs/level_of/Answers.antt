-- `level_of` meets its contract: the level so far and what the rest of the list adds make up the part's level.
use mathlib.Core.Path.{◌≡◌, ◌∙◌}
use mathlib.Core.List.{List}
use Prim.Native.Nat.{ℕ, ◌-◌}
use native.Mathlib.Omega.{arith}
use lib.ListN.{length, take, drop}
use Rattle.lift.proofs.LevelLaws.{rises, rises_up, rises_operator, rises_leaf, rises_end, part_level}
use Rattle.lift.proofs.level_of.Goals as goal
use Rattle.lift.proofs.level_of.Goals.{then-entry-lt-UNION, else-entry-lt-UNION+then-operands-le1, else-entry-lt-UNION+else-operands-le1}

pub loop-entry-preserved : goal.loop-entry-preserved
loop-entry-preserved c =
    let l = c.loop-entry in
    let rest : List ℕ = take (length c.args.list.now - c.args.to) (drop c.args.to c.args.list.now) in
    elim c.if-entry-lt-UNION.branch [
      | then-entry-lt-UNION w ↦ rw w.operands-is (omega (arith, rises_leaf rest l.entry-index l.operands c.loop-entry-test.true w.if-entry-lt-UNION.true))
      | else-entry-lt-UNION+then-operands-le1 w ↦ rw w.operands-is (omega (arith, rises_up rest l.entry-index l.operands c.loop-entry-test.true w.if-entry-lt-UNION.false w.if-operands-le1.true))
      | else-entry-lt-UNION+else-operands-le1 w ↦ rw w.operands-is (omega (arith, rises_operator rest l.entry-index l.operands c.loop-entry-test.true w.if-entry-lt-UNION.false w.if-operands-le1.false))
    ]

pub returns-clause-by_index : goal.returns-clause-by_index
returns-clause-by_index c = λ from a k P.
    let l = c.loop-entry in
    let rest : List ℕ = take (length c.args.list.now - c.args.to) (drop c.args.to c.args.list.now) in
    let e : l.level ≡ rises 0 (drop c.args.to c.args.list.now) = omega (arith, l.invariant.2, rises_end rest l.entry-index l.operands c.loop-entry-test.false) in
    e ∙ part_level P
