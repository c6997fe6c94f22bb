-- What a line's reading answers and the reader's phases, by the numbers that specs/Reading.antt has for them.
use Rattle.std.specs.Prelude.{ℕ, Result, Ok, Err}
use Rattle.sheet.specs.Reading.{ended}
use Rattle.sheet.specs.declared.Fault.{Fault}
use Rattle.sheet.specs.Faults.{fault_number}
use Rattle.sheet.specs.declared.Phase.{Phase}
use Rattle.sheet.specs.declared.Phase.TheVariants.{Tree, Lifts, Marks, End, Ended}

-- the fault that a line's reading answers; 0 is none
abbrev pub fault_in : {A : Type 0} → Result A Fault → ℕ
fault_in (Ok x) = 0
fault_in (Err fault) = fault_number fault

-- the place of a line, and the phase after the end
abbrev pub phase_number : Phase → ℕ
phase_number Tree = 0
phase_number Lifts = 1
phase_number Marks = 2
phase_number End = 3
phase_number Ended = ended
