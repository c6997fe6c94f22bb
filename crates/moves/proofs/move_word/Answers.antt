-- `move_word` meets its contract: the constant table is the definition's words in order, each padded to 13 signs.
use mathlib.Core.List.{[]}
use Prim.Native.Nat.{◌%◌}
use Rattle.moves.specs.Moves.{ours}
use Rattle.words.specs.Word.{word}
use Rattle.moves.specs.InnerEntries.{padded, entry_of}
use Rattle.moves.proofs.TableLaws.{entry_at}
use Rattle.moves.proofs.move_word.Goals as goal

pub returns : goal.returns
returns c = λ x i. entry_at (λ x i. padded (word (entry_of (ours x) i))) [] x i c.args.state (c.args.input % 4)
