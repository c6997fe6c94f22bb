-- `replace` meets its contract: the new list's length is the sum of its three parts', and A begins after the signs before it.
use mathlib.Core.Path.{ap, ◌∙◌}
use mathlib.Core.List.{List}
use Prim.Native.Nat.{ℕ, ◌+◌}
use native.Mathlib.Omega.{arith}
use lib.ListN.{length}
use Rattle.words.specs.InnerWords.{spell}
use Rattle.words.proofs.ReplaceLaws.{replaced_length, written}
use Rattle.words.proofs.replace.Goals as goal

pub returns-then-nodes-gt-MOST_NODES : goal.returns-then-nodes-gt-MOST_NODES
returns-then-nodes-gt-MOST_NODES c =
    let g = c.args in
    record { by_word = omega (arith, c.word_width.ensures.by_index g.list.now c.requires.within, replaced_length g.list.now g.parts g.word.now g.old c.requires.old_within) }

pub write_replaced-requires-clause-end_in_bounds : goal.write_replaced-requires-clause-end_in_bounds
write_replaced-requires-clause-end_in_bounds c =
    let g = c.args in
    omega (arith, c.word_width.ensures.by_index g.list.now c.requires.within, replaced_length g.list.now g.parts g.word.now g.old c.requires.old_within)

pub returns : goal.returns
returns c =
    let g = c.args in
    let same = c.word_width.ensures.by_index g.list.now c.requires.within in
    record {
      by_word = (
        ap (λ (n : ℕ). g.old.from + n) (c.word_width-2.ensures.by_index g.list.now c.requires.within ∙ ap (λ (w : List ℕ). length (spell g.list.now g.parts w)) c.place_of_a-before.ensures.signs_before),
        written c.write_replaced.ensures _ (omega (arith, same, replaced_length g.list.now g.parts g.word.now g.old c.requires.old_within)) c.if-nodes-gt-MOST_NODES.false c.requires.list_len_bound.1,
      );
    }
