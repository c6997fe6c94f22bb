-- What is written so far and what is left make up the whole.
use Rattle.printing.proofs.PrintingLaws.{WroteUpTo, code_text, text_left}
use Rattle.printing.proofs.put_code.Given as goal

abbrev pub invariant-loop-four : goal.invariant-loop-four
invariant-loop-four l = WroteUpTo (code_text l.device l.code) (text_left l.device l.fours l.four-index) l.initial.out l.at l.out l.next
