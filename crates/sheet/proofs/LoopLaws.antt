-- The loop of `read_lines`: what is left of the lines, read from the state that the reader's numbers stand for, gives the
-- whole sheet's outcome.
use mathlib.Core.Path.{◌≡◌, refl, sym, ap, ap₂, ◌∙◌}
use mathlib.Core.List.{List}
use Prim.Native.Nat.{ℕ, ◌+◌, ◌≤◌, ◌<◌}
use Rattle.std.proofs.Common.{Result, Ok, Err}
use Rattle.std.specs.Result.{MatchResult, IsErrAnd}
use Rattle.std.proofs.lemmas.Result.{err_from_is_err_and}
use native.Mathlib.Omega.{arith}
use borrow.Author.Tests.{eq-eqb, ne_eqb, lt-ltb, le-ltb}
use lib.ListN.{length, drop}
use Rattle.text.specs.Parts.{split}
use Rattle.text.specs.Line.{line_feed}
use Rattle.sheet.specs.InnerLines.{line_at}
use Rattle.sheet.specs.Rules.{Rules, sheet_rules, candidate_rules}
use Rattle.sheet.specs.Reading.{most_bytes, ReadingState, ended, fault_of, state_after, nothing_read, ReadingOutcome, accepted, refused, read_lines, read_with, sheet_with, sheet_of}
use Rattle.sheet.specs.Faults.{fault_number}
use Rattle.sheet.specs.InnerFaults.{phase_number}
use Rattle.sheet.specs.InnerHolding.{Holds, AfterLine, Gives}
use Rattle.sheet.specs.InnerDrawing.{drawing_with, drawing_of}
use Rattle.sheet.specs.declared.Fault.{Fault}
use Rattle.sheet.specs.declared.Refusal.{Refusal}
use Rattle.sheet.specs.declared.Reader.{Reader}
use Rattle.sheet.proofs.LineAtLaws.{one_line, lines_end}
use Rattle.sheet.proofs.HoldLaws.{numbered}

pub record Running (rules : Rules) (s : List ℕ) {N : ℕ} (p : Reader N) (at : ℕ) : Type 0 where
  pub st : ReadingState
  pub held : Holds rules st p
  pub left : read_with rules s ≡ read_lines rules st p.line at (split line_feed (drop at s))

pub running_nothing_read : {N : ℕ} (rules : Rules) (s : List ℕ) (p : Reader N) → Holds rules nothing_read p → p.line ≡ 0 → length s ≤ most_bytes → Running rules s p 0
unfolding read_with
running_nothing_read rules s p k z h = record { st = nothing_read; held = k; left = rw (le-ltb most_bytes (length s) h, z) }

pub read_long : (rules : Rules) (s : List ℕ) → most_bytes < length s → read_with rules s ≡ refused 1 0
unfolding read_with
read_long rules s h = rw (lt-ltb most_bytes (length s) h)

module _ {rules : Rules} {s : List ℕ} {N : ℕ} {p : Reader N} {at : ℕ} (R : Running rules s p at) where
  -- one line more
  module _ (h : at < length s) where
    pub running_refused : {f : Fault} {r : Reader N} → AfterLine rules R.st (line_at rules s at).line (line_at rules s at).next (p.line + 1) (Err f) r
        → read_with rules s ≡ refused (fault_number f) r.line
    running_refused {f} {r} w =
        R.left ∙ (one_line rules s at h).goes R.st p.line ∙ rw (← w.fault, ne_eqb (fault_number f) 0 (numbered f)) (ap (refused (fault_number f)) (sym w.counted))

    pub running_next : {r : Reader N} → AfterLine rules R.st (line_at rules s at).line (line_at rules s at).next (p.line + 1) (Ok tt) r → Running rules s r (line_at rules s at).next
    running_next w =
        let e : fault_of rules R.st (line_at rules s at).line ≡ 0 = sym w.fault in
        record {
          st = state_after R.st (line_at rules s at).line (line_at rules s at).next;
          held = w.holds e;
          left = R.left ∙ (one_line rules s at h).goes R.st p.line ∙ rw (eq-eqb (fault_of rules R.st (line_at rules s at).line) 0 e, w.counted);
        }

  -- no line more
  module _ (h : length s ≤ at) where
    pub running_accepted : phase_number p.phase ≡ ended → read_with rules s ≡ accepted R.st
    running_accepted e = R.left ∙ lines_end rules R.st p.line at s h ∙ rw (eq-eqb R.st.phase ended (sym R.held.phase ∙ e))

    pub running_open : (phase_number p.phase ≡ ended → ⊥) → read_with rules s ≡ refused 10 (p.line + 1)
    running_open n = R.left ∙ lines_end rules R.st p.line at s h ∙ rw (ne_eqb R.st.phase ended (λ e. n (R.held.phase ∙ e)))

-- ---- a line's fault, and the refusal that is made of it
pub refusal_of : (made : Fault → Refusal → Type 0) (answer : Result (Unit {0}) Fault) (handed : Result (Unit {0}) Refusal) (refusal : Refusal)
    → MatchResult answer (λ x. handed ≡ Ok x) (λ f. IsErrAnd handed (made f)) → handed ≡ Err refusal → (f : Fault) × (answer ≡ Err f) × made f refusal
refusal_of made (Ok x) handed refusal m e = absurd (let z : ◌≡◌ {A = ℕ} 0 1 = cc in omega arith)
refusal_of made (Err f) handed refusal m e =
    let p = err_from_is_err_and handed m in
    (f, refl, (let z : p.0 ≡ refusal = cc in rw z at p.2))

pub answered_ok : (made : Fault → Refusal → Type 0) (answer : Result (Unit {0}) Fault) (handed : Result (Unit {0}) Refusal) {x : Unit {0}}
    → MatchResult answer (λ x. handed ≡ Ok x) (λ f. IsErrAnd handed (made f)) → handed ≡ Ok x → answer ≡ Ok x
answered_ok made (Ok x) handed m e = cc
answered_ok made (Err f) handed m e =
    let p = err_from_is_err_and handed m in
    absurd (let z : ◌≡◌ {A = ℕ} 0 1 = cc in omega arith)

-- ---- the outcome as an answer
pub gives_fault : {N : ℕ} (rules : Rules) (o : ReadingOutcome) (answer : Result (Reader N) Refusal) (f : Fault) (line : ℕ) → o ≡ refused (fault_number f) line
    → answer ≡ Err (record { fault = f; line = line }) → Gives rules o answer
gives_fault rules o answer f line e q = rw (e, q) (refl, refl)

pub gives_accepted : (o : ReadingOutcome) (r : Reader sheet_rules.nodes) → Gives sheet_rules o (Ok r)
    → Ok (record { tree = r.tree; nodes = r.nodes; marks = r.marks; marked = r.marked; start = r.start; lifts = r.lifts }) ≡ sheet_of o
unfolding sheet_with sheet_of
gives_accepted (accepted st) r g = rw (g.entries, g.nodes, g.marks, g.marked, g.start, g.lifts)
gives_accepted (refused number line) r g = absurd g

pub gives_drawing : (o : ReadingOutcome) (r : Reader candidate_rules.nodes) → Gives candidate_rules o (Ok r) → Ok (record { tree = r.tree; nodes = r.nodes }) ≡ drawing_of o
unfolding drawing_with drawing_of
gives_drawing (accepted st) r g = rw (g.entries, g.nodes)
gives_drawing (refused number line) r g = absurd g

pub gives_refused : (o : ReadingOutcome) (refusal : Refusal) → Gives sheet_rules o {N = sheet_rules.nodes} (Err refusal) → Err (fault_number refusal.fault, refusal.line) ≡ sheet_of o
unfolding sheet_of
gives_refused (accepted st) refusal g = absurd g
gives_refused (refused number line) refusal g = rw (g.0, g.1)

-- by whatever rules
pub gives_refused_by : (rules : Rules) (o : ReadingOutcome) (N : ℕ) (refusal : Refusal) → Gives rules o {N = N} (Err refusal) → refused (fault_number refusal.fault) refusal.line ≡ o
gives_refused_by rules (accepted st) N refusal g = absurd g
gives_refused_by rules (refused number line) N refusal g = ap₂ refused g.0 g.1

pub gives_no_drawing : (o : ReadingOutcome) (refusal : Refusal) → Gives candidate_rules o {N = candidate_rules.nodes} (Err refusal) → Err (fault_number refusal.fault, refusal.line) ≡ drawing_of o
unfolding drawing_of
gives_no_drawing (accepted st) refusal g = absurd g
gives_no_drawing (refused number line) refusal g = rw (g.0, g.1)
