use mathlib.Core.Path.{◌≡◌}
use mathlib.Core.Bool.{false}
use mathlib.Core.List.{[]}
use Prim.Native.Nat.{◌≤◌}
use lib.ListN.{length}
use Rattle.left_sides.specs.declared.Known.{Known}
use Rattle.left_sides.proofs.ReadingLaws.{Reading}
use Rattle.left_sides.proofs.of_word.Given as goal

-- what a read outside the array would give
abbrev pub outside : Known
outside = record { names = false; once = false; level = 0; meaning = [] }

abbrev pub invariant-loop-sign : goal.invariant-loop-sign
invariant-loop-sign l = (l.top ≤ l.sign-index) × (length l.waiting ≡ 31) × Reading outside l.word l.sign-index l.waiting l.top
