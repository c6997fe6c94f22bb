-- `is_row`: the length, the zeros after the word, and the word.
use mathlib.Core.Path.{sym, ap, ◌∙◌}
use mathlib.Core.Bool.{true, false≢true}
use Prim.Native.Nat.{◌≤◌}
use borrow.Author.Rules.{rules}
use borrow.Author.Tests.{le-leb}
use Rattle.text.proofs.PartsLaws.{rest_all}
use Rattle.move_table.specs.Packing.{all_zero}
use Rattle.move_table.specs.InnerLoading.{place_at}
use Rattle.move_table.proofs.LineLaws.{both_true, place_number_lem}
use Rattle.move_table.proofs.PackingLaws.{row_tested}
use Rattle.move_table.proofs.is_row.Goals as goal
use Rattle.move_table.proofs.is_row.Goals.{then-contains, else-contains}

pub returns-then-all_zero : goal.returns-then-all_zero
returns-then-all_zero c =
    let args = c.args in
    let at = place_at args.place in
    elim c.if-contains.branch [
      | then-contains w ↦
          let few : (1 ≤ args.n) × (args.n ≤ 31) = search rules in
          c.stands.ensures at.state at.input (sym (place_number_lem args.place c.requires.place_bound))
          ∙ sym (row_tested at args.row.now args.n _ true true (both_true (le-leb 1 args.n few.0) (le-leb args.n 31 few.1)) (w.all_zero.ensures ∙ ap all_zero (rest_all args.n args.row.now)) (sym w.value-is ∙ c.if-all_zero.true))
      | else-contains w ↦ absurd (false≢true (sym w.if-contains.false ∙ sym w.value-is ∙ c.if-all_zero.true))
    ]
