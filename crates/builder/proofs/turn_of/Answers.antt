use Prim.Native.Nat.{◌≤◌}
use native.Mathlib.Omega.{arith}
use Rattle.splits.proofs.SplitLaws.{splits}
use Rattle.builder.proofs.TurnLaws.{turn_sized, turn_below, turned}
use Rattle.builder.proofs.turn_of.Goals as goal

pub split_taken-form-requires : goal.split_taken-form-requires
split_taken-form-requires c = turn_sized c.requires.1 c.requires.0

pub power-requires : goal.power-requires
power-requires c = let pre = c.requires in let h = turn_below pre.1 pre.0 c.split_taken-form.ensures in omega (arith, pre.0.few)

pub split-requires : goal.split-requires
split-requires c =
    let pre = c.requires in
    let h : c.split_taken-form.result.variable ≤ c.args.n = omega (arith, turn_below pre.1 pre.0 c.split_taken-form.ensures, pre.1) in
    rw c.power.ensures (splits (turn_sized pre.1 pre.0) _ h)

pub without-rest-requires : goal.without-rest-requires
without-rest-requires c = let pre = c.requires in (turn_below pre.1 pre.0 c.split_taken-form.ensures, pre.0.few)

pub returns : goal.returns
returns c =
    let pre = c.requires in
    turned pre.1 pre.0 c.split_taken-form.ensures c.power.ensures c.split.ensures c.without-rest.ensures c.first_holder.ensures c.second_holder.ensures
