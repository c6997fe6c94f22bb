use mathlib.Core.Path.{refl, sym, ◌∙◌}
use native.Mathlib.Nat.{zero-mod}
use native.Mathlib.Omega.{arith}
use Rattle.forms.specs.InnerForms.{first_row, second_row}
use Rattle.free_tables.specs.InnerTables.{first_part, second_part}
use Rattle.free_tables.proofs.SplitLaws.{place_turn, pair_rule, filled_none, filled_more, filled_all}
use Rattle.free_tables.proofs.split.Goals as goal

pub loop-r-init : goal.loop-r-init
loop-r-init c = (sym (zero-mod _), filled_none _ _ refl, filled_none _ _ refl)

pub loop-r-preserved : goal.loop-r-preserved
loop-r-preserved c =
    let form = c.args.form in
    let loop = c.loop-r in
    let most = c.requires.most in (
      place_turn loop.r loop.k _ _ loop.invariant.0 c.next_place-k.ensures,
      filled_more _ loop.invariant.1 (omega arith) (c.first_row.ensures ∙ pair_rule (first_row form) _ _ loop.r loop.k loop.invariant.0),
      filled_more _ loop.invariant.2 (omega arith) (c.second_row.ensures ∙ pair_rule (second_row form) _ _ loop.r loop.k loop.invariant.0),
    )

pub returns : goal.returns
unfolding first_part second_part
returns c =
    let most = c.requires.most in
    let loop = c.loop-r in
    record { first = filled_all _ loop.invariant.1 c.loop-r-test.false (omega arith); second = filled_all _ loop.invariant.2 c.loop-r-test.false (omega arith) }
