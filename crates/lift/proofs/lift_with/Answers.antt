-- `lift_with` meets its contract: by the table that was handed over, or refused with 29.
use mathlib.Core.Path.{sym, ◌∙◌}
use borrow.Author.Rules.{rules}
use Rattle.lift.specs.declared.Refusal.TheVariants.{NotATable}
use Rattle.lift.proofs.WholeLaws.{refuses, lifts_same}
use Rattle.lift.proofs.SchoolLaws.{table_held, by_table, no_table}
use Rattle.lift.proofs.lift_with.Goals as goal

pub returns-then-not-is_loaded : goal.returns-then-not-is_loaded
returns-then-not-is_loaded c = refuses NotATable (no_table c.args.table _ _ _ _ (sym c.is_loaded.ensures ∙ c.if-not-is_loaded.true))

pub lift_by-requires : goal.lift_by-requires
lift_by-requires c =
    let H = table_held c.args.table (search rules) (search rules) (sym c.is_loaded.ensures ∙ c.if-not-is_loaded.false) in
    (_, H.holds)

pub returns : goal.returns
returns c =
    let H = table_held c.args.table (search rules) (search rules) (sym c.is_loaded.ensures ∙ c.if-not-is_loaded.false) in
    lifts_same (by_table H _ _ _ _) (c.lift_by.ensures _ H.holds)
