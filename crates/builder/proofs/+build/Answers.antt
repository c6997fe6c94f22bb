-- `build` writes the tree of a table: one turn is a split by one variable, the parts are the recursive calls, a variable less at each.
use mathlib.Core.Path.{◌≡◌, sym, ◌∙◌}
use mathlib.Core.Bool.{false}
use mathlib.Core.List.{List}
use Prim.Native.Nat.{ℕ, ◌+◌, ◌-◌, ◌≤◌}
use native.Mathlib.Omega.{arith}
use lib.Dec.{eqb}
use lib.ListN.{length, take}
use Rattle.tree.specs.InnerWriting.{Wrote}
use Rattle.free_tables.specs.InnerTables.{Table, half}
use Rattle.splits.specs.declared.Holder.{Holder}
use Rattle.builder.specs.InnerBuilding.{Ready, Holding, Turned, Built, most_for, variable_list, left_written, ends_there, before_written}
use Rattle.builder.specs.declared.Turn.{Turn}
use Rattle.builder.proofs.TurnLaws.{Begun, Passed, call_a, left_need, built_left, before_need, call_b, after_need, operate_need, built_all, built_none}
use Rattle.builder.proofs.+build.Goals as goal

-- what is known once the split is chosen
begun : {t : ℕ} {m : Holder} {table : Table} {gs hs out : List ℕ} {at : ℕ} {r : Turn} {xs : List ℕ} → length gs ≡ t → (length gs ≡ 0 → ⊥)
    → Ready m table gs → Holding m hs → at + most_for m (length gs) (length hs) ≤ length out → Turned m table gs (length gs - 1) r
    → xs ≡ variable_list hs r.x → Begun t m table gs hs out at (length gs - 1) r xs
begun left some ready holding room turned list =
    record { left = left; count = omega (arith, some); ready = ready; holding = holding; room = room; turned = turned; list = list }

-- and once all is written that stands before b
passed : {d : ℕ} {m : Holder} {t : Table} {gs hs out : List ℕ} {at n : ℕ} {r : Turn} {xs o₁ : List ℕ} {i : ℕ} {o₂ : List ℕ} {left : ℕ} {o₃ : List ℕ} {middle : ℕ}
    → Begun d m t gs hs out at n r xs → Built r.a.holder (take (half t) r.a.rows) (take n r.rest) hs out at o₁ i
    → Wrote o₁ i o₂ left (left_written r.form (eqb at i) xs) → ends_there r.form (eqb at left) ≡ false
    → Wrote o₂ left o₃ middle (before_written r.form xs) → Passed d m t gs hs out at n r xs left o₃ middle
passed begun a left_done goes before =
    record { begun = begun; o₁ = _; i = _; a = a; o₂ = _; left_done = left_done; goes = goes; before = before }

pub returns-then-k-eq0 : goal.returns-then-k-eq0
returns-then-k-eq0 t c = built_none c.if-k-eq0.true

pub build-a-requires : goal.build-a-requires
build-a-requires t c =
    let p = c.requires in
    call_a (begun c.decreases c.if-k-eq0.false p.ready p.holding p.holder_in_bounds c.turn_of-turn.ensures c.variable_list-xs.ensures)

pub write_left-left-requires : goal.write_left-left-requires
write_left-left-requires t c =
    let p = c.requires in
    left_need (begun c.decreases c.if-k-eq0.false p.ready p.holding p.holder_in_bounds c.turn_of-turn.ensures c.variable_list-xs.ensures) c.build-a.ensures

pub returns-then-ends_there : goal.returns-then-ends_there
returns-then-ends_there t c =
    let p = c.requires in
    built_left (begun c.decreases c.if-k-eq0.false p.ready p.holding p.holder_in_bounds c.turn_of-turn.ensures c.variable_list-xs.ensures) c.build-a.ensures c.write_left-left.ensures
    (sym c.ends_there.ensures ∙ c.if-ends_there.true)

pub write_before-middle-requires : goal.write_before-middle-requires
write_before-middle-requires t c =
    let p = c.requires in
    before_need (begun c.decreases c.if-k-eq0.false p.ready p.holding p.holder_in_bounds c.turn_of-turn.ensures c.variable_list-xs.ensures) c.build-a.ensures c.write_left-left.ensures
    (sym c.ends_there.ensures ∙ c.if-ends_there.false)

pub build-b-requires : goal.build-b-requires
build-b-requires t c =
    let p = c.requires in
    call_b (passed (begun c.decreases c.if-k-eq0.false p.ready p.holding p.holder_in_bounds c.turn_of-turn.ensures c.variable_list-xs.ensures) c.build-a.ensures c.write_left-left.ensures
    (sym c.ends_there.ensures ∙ c.if-ends_there.false) c.write_before-middle.ensures)

pub write_after-right-requires : goal.write_after-right-requires
write_after-right-requires t c =
    let p = c.requires in
    after_need (passed (begun c.decreases c.if-k-eq0.false p.ready p.holding p.holder_in_bounds c.turn_of-turn.ensures c.variable_list-xs.ensures) c.build-a.ensures c.write_left-left.ensures
    (sym c.ends_there.ensures ∙ c.if-ends_there.false) c.write_before-middle.ensures) c.build-b.ensures

pub operate-requires : goal.operate-requires
operate-requires t c =
    let p = c.requires in
    operate_need (passed (begun c.decreases c.if-k-eq0.false p.ready p.holding p.holder_in_bounds c.turn_of-turn.ensures c.variable_list-xs.ensures) c.build-a.ensures c.write_left-left.ensures
    (sym c.ends_there.ensures ∙ c.if-ends_there.false) c.write_before-middle.ensures) c.build-b.ensures c.write_after-right.ensures

pub returns : goal.returns
returns t c =
    let p = c.requires in
    built_all (passed (begun c.decreases c.if-k-eq0.false p.ready p.holding p.holder_in_bounds c.turn_of-turn.ensures c.variable_list-xs.ensures) c.build-a.ensures c.write_left-left.ensures
    (sym c.ends_there.ensures ∙ c.if-ends_there.false) c.write_before-middle.ensures) c.build-b.ensures c.write_after-right.ensures c.outer.ensures c.operate.ensures
