use lib.ListN.{take}
use Rattle.tree.specs.InnerWriting.{Wrote}
use Rattle.words.specs.InnerWords.{spell}
use Rattle.words.proofs.write_word.Given as goal

abbrev pub invariant-loop-sign : goal.invariant-loop-sign
invariant-loop-sign l = Wrote l.initial.out l.at l.out l.next (spell l.list l.parts (take l.sign-index l.word))
