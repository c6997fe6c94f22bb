-- `load`: the table so far, and the lines that are left.
use mathlib.Core.Path.{◌≡◌, refl, sym, ap, ◌∙◌}
use Prim.Native.Nat.{◌+◌}
use native.Mathlib.Omega.{arith}
use lib.ListN.{length-set}
use Rattle.std.specs.Prelude.{None, Err}
use Rattle.std.specs.Option.{ok_or}
use Rattle.std.proofs.lemmas.Result.{err_from_is_err_and}
use Rattle.move_table.specs.Packing.{load_says, loading_says}
use Rattle.move_table.specs.declared.Refusal.{Refusal}
use Rattle.move_table.specs.declared.Fault.TheVariants.{BadLine}
use Rattle.move_table.proofs.LoadLaws.{nothing_loaded, line_room, stops_at_line, stops_at_word, loads_more, stops_past, all_loaded}
use Rattle.move_table.proofs.load.Goals as goal

pub loop-place-init : goal.loop-place-init
loop-place-init c = (refl, refl, nothing_loaded _ _ _ refl refl)

pub returns-in_err-n : goal.returns-in_err-n
returns-in_err-n c =
    let loop = c.loop-place in
    let bad : Refusal = record { fault = BadLine; line = loop.place + 1 } in
    let none : c.line_signs.result ≡ None = c.in_err-n.ensures.ok_part in
    let told : Err c.in_err-n.field-0.0 ≡ Err bad = c.in_err-n.ensures.value ∙ ap (λ o. ok_or o bad) none in
    let same : c.in_err-n.field-0.0 ≡ bad = cc in
    let p = err_from_is_err_and c.from_residual.result c.from_residual.ensures.1 in
    let given : c.from_residual.result ≡ Err bad = p.1 ∙ ap Err (p.2 ∙ same) in
    ap load_says given
    ∙ ap loading_says (sym (stops_at_line c.args.bytes.now loop.place loop.at loop.signs loop.lengths loop.invariant.2 c.loop-place-test.true (sym c.line_signs.ensures ∙ none)))

pub slice_bounds-word-end : goal.slice_bounds-word-end
slice_bounds-word-end c =
    let loop = c.loop-place in
    line_room c.args.bytes.now loop.place loop.at c.in_ok-n.n (sym c.in_ok-n.ensures.ok_part ∙ c.line_signs.ensures)

pub returns-then-not-stands : goal.returns-then-not-stands
returns-then-not-stands c =
    let loop = c.loop-place in
    ap loading_says (sym (stops_at_word c.args.bytes.now loop.place loop.at loop.signs loop.lengths loop.invariant.2 c.loop-place-test.true c.in_ok-n.n (sym c.in_ok-n.ensures.ok_part ∙ c.line_signs.ensures) _ refl c.stands.result
    c.stands.ensures c.if-not-stands.true))

pub loop-place-preserved : goal.loop-place-preserved
loop-place-preserved c =
    let loop = c.loop-place in
    let n = c.in_ok-n.n in (
      c.copy-at.ensures.same ∙ loop.invariant.0,
      length-set loop.lengths loop.place n ∙ loop.invariant.1,
      loads_more c.args.bytes.now loop.place loop.at loop.signs loop.lengths loop.invariant.2 c.loop-place-test.true n (sym c.in_ok-n.ensures.ok_part ∙ c.line_signs.ensures) _ refl c.stands.result
          c.stands.ensures c.if-not-stands.false _ _ _ c.copy-at.ensures refl,
    )

pub returns-then-at-bytes : goal.returns-then-at-bytes
returns-then-at-bytes c =
    let loop = c.loop-place in
    ap loading_says (sym (stops_past c.args.bytes.now loop.place loop.at loop.signs loop.lengths loop.invariant.2 (omega (arith, loop.auto.place-end, c.loop-place-test.false)) c.if-at-bytes.true))

pub returns : goal.returns
returns c =
    let loop = c.loop-place in
    all_loaded c.args.bytes.now loop.place loop.at loop.signs loop.lengths loop.invariant.2 (omega (arith, loop.auto.place-end, c.loop-place-test.false)) c.if-at-bytes.false
