-- `line_signs`: the four bytes before the word are there.
use mathlib.Core.Path.{sym, ◌∙◌}
use Rattle.move_table.specs.InnerLoading.{place_at}
use Rattle.move_table.proofs.LineLaws.{front_room}
use Rattle.move_table.proofs.line_signs.Goals as goal

pub slice_bounds-word_length-count : goal.slice_bounds-word_length-count
slice_bounds-word_length-count c = front_room (place_at c.args.place) c.args.bytes.now (sym c.has_front.ensures ∙ c.if-has_front.true)

pub slice_bounds-word_length-start : goal.slice_bounds-word_length-start
slice_bounds-word_length-start c = front_room (place_at c.args.place) c.args.bytes.now (sym c.has_front.ensures ∙ c.if-has_front.true)
