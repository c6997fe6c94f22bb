-- The line of an answer fits into its array, and stands in it.
use mathlib.Core.Path.{◌≡◌}
use mathlib.Core.List.{List, [], ◌∷◌}
use Prim.Native.Nat.{ℕ, ◌^◌, ◌≤◌, ◌<◌}
use native.Mathlib.Omega.{arith}
use lib.ListN.{length, replicate, length-append}
use Rattle.tree.specs.InnerWriting.{Wrote}
use Rattle.tree.proofs.WritingLaws.{wrote_over}
use Rattle.text.specs.Line.{line}
use Rattle.text.specs.Inner.{field, fields_after}
use Rattle.text.proofs.DecimalLaws.{digits_length}
use Rattle.text.proofs.LineLaws.{line_length}
use Rattle.printing.specs.Key.{NO}
use Rattle.printing.proofs.PrintingLaws.{line_three}
use Rattle.marking.specs.Marking.{mark_number, file_number}
use Rattle.marking.specs.Text.{MARK, line_bytes, in_line}
use Rattle.marking.specs.declared.Verdict.{Verdict}
use Rattle.marking.specs.declared.Verdict.TheVariants.{Right, OtherLamps, NotGathered}
use Rattle.marking.specs.declared.File.{File}
use Rattle.marking.specs.declared.File.TheVariants.{Question, Candidate}

pub mark_small : (verdict : Verdict) → mark_number verdict ≤ 9
mark_small Right = omega arith
mark_small OtherLamps = omega arith
mark_small NotGathered = omega arith

pub file_small : (file : File) → file_number file ≤ 9
file_small Question = omega arith
file_small Candidate = omega arith

pub mark_fits : (n : ℕ) → n ≤ 9 → length (line MARK (n ∷ [])) ≤ line_bytes
unfolding fields_after
mark_fits n h = omega (arith, line_length MARK (n ∷ []), length-append (field n) [], digits_length 0 n (omega arith))

pub refusal_fits : (number at file : ℕ) → number < 10 ^ 3 → at < 10 ^ 20 → file ≤ 9 → length (line NO (number ∷ at ∷ file ∷ [])) ≤ line_bytes
refusal_fits number at file h k l =
    omega (arith, line_three NO number at file, digits_length 2 number (omega arith), digits_length 19 at (omega arith), digits_length 0 file (omega arith))

-- written into a new array
pub put_in_line : {out : List ℕ} {n : ℕ} (bytes : List ℕ) → length bytes ≤ line_bytes → Wrote (replicate line_bytes 0) 0 out n bytes → record { bytes = out; count = n } ≡ in_line bytes
put_in_line {n = n} bytes h w = let counted : n ≡ length bytes = omega (arith, w.ends) in rw (wrote_over w h, counted)
