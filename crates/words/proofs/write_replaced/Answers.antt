-- `write_replaced` meets its contract: three writings, one after another.
use mathlib.Core.Path.{ap}
use mathlib.Core.List.{List, ◌++◌}
use Prim.Native.Nat.{ℕ, ◌≤◌}
use native.Mathlib.Omega.{arith}
use lib.ListN.{length, take}
use lib.Seq.{length-take-le}
use Rattle.tree.proofs.WritingLaws.{wrote_then, wrote_as}
use Rattle.words.specs.InnerWords.{spell, replaced}
use Rattle.words.proofs.ReplaceLaws.{rest_of, replaced_length}
use Rattle.words.proofs.write_replaced.Goals as goal

-- how much is written first, and in all
pub copy-first-requires : goal.copy-first-requires
copy-first-requires c =
    let g = c.args in
    let within = c.requires.old_within in
    let h : g.old.from ≤ length g.list.now = omega (arith, within.low, within.high) in
    omega (arith, length-take-le g.old.from g.list.now h, c.requires.end_in_bounds, replaced_length g.list.now g.parts g.word.now g.old within)

pub write_word-second-requires-clause-word_in_bounds : goal.write_word-second-requires-clause-word_in_bounds
write_word-second-requires-clause-word_in_bounds c =
    let g = c.args in
    let within = c.requires.old_within in
    let h : g.old.from ≤ length g.list.now = omega (arith, within.low, within.high) in
    let first = c.copy-first.ensures in
    omega (arith, first.ends, first.same, length-take-le g.old.from g.list.now h, c.requires.end_in_bounds, replaced_length g.list.now g.parts g.word.now g.old within)

pub copy-requires : goal.copy-requires
copy-requires c =
    let g = c.args in
    let within = c.requires.old_within in
    let h : g.old.from ≤ length g.list.now = omega (arith, within.low, within.high) in
    let first = c.copy-first.ensures in
    let second = c.write_word-second.ensures in
    omega (arith, first.ends, first.same, second.ends, second.same, length-take-le g.old.from g.list.now h, c.requires.end_in_bounds, replaced_length g.list.now g.parts g.word.now g.old within)

pub returns : goal.returns
unfolding replaced
returns c =
    let g = c.args in
    wrote_as (wrote_then c.copy-first.ensures (wrote_then c.write_word-second.ensures c.copy.ensures))
    (ap (λ (x : List ℕ). take g.old.from g.list.now ++ (spell g.list.now g.parts g.word.now ++ x)) (rest_of g.list.now g.old.to c.requires.old_within.high))
