-- The line at a byte, and one line more of reading.
use Rattle.std.proofs.Common.{None}
use mathlib.Core.Path.{◌≡◌, refl, sym, ap, ◌∙◌}
use mathlib.Core.Bool.{Bool, true, false, cond}
use mathlib.Core.List.{List}
use Prim.Native.Nat.{ℕ, ◌+◌, ◌≤◌, ◌<◌}
use native.Mathlib.Nat.{le_of_lt}
use native.Mathlib.Omega.{arith}
use borrow.Author.Tests.{ne_eqb, ltb-true, ltb-false}
use lib.Dec.{eqb, ltb}
use lib.ListN.{length, take, drop, drop_of_length-le, length-drop}
use lib.Seq.{drop-drop, length-take-le}
use Rattle.tree.specs.Tree.{most_group}
use Rattle.text.specs.Parts.{Parts, last, part, split}
use Rattle.text.specs.Inner.{ahead}
use Rattle.text.specs.Line.{line_feed}
use Rattle.text.proofs.PartsLaws.{split_all, split_first, ahead_most}
use Rattle.sheet.specs.Form.{line_of}
use Rattle.sheet.specs.InnerLines.{first_line, line_at}
use Rattle.sheet.specs.Rules.{Rules}
use Rattle.sheet.specs.Reading.{ReadingState, ended, fault_of, state_after, accepted, refused, read_lines}
use Rattle.sheet.specs.InnerHolding.{InRange}
use Rattle.sheet.specs.declared.LineAt.{LineAt}
use Rattle.sheet.proofs.FormLaws.{line_range, forms_alike}

pub line_past : (rules : Rules) (s : List ℕ) (at : ℕ) → length s ≤ at → line_at rules s at ≡ record { line = None; next = at }
unfolding line_at split
line_past rules s at h = rw (drop_of_length-le s h) (ap (λ (n : ℕ). record { line = None; next = n }) (omega arith))

pub line_cut : (rules : Rules) (s : List ℕ) (at : ℕ) → at < length s → ahead line_feed (drop at s) ≡ length (drop at s) → line_at rules s at ≡ record { line = None; next = length s }
unfolding line_at
line_cut rules s at h e = rw (split_all line_feed (drop at s) e) (ap (λ (n : ℕ). record { line = None; next = n }) (omega (arith, length-drop at s)))

-- the same from any byte on, by how many bytes are left
pub line_cut_at : (rules : Rules) (s : List ℕ) (at k : ℕ) → k ≡ ahead line_feed (drop at s) → k ≡ length (drop at s) → line_at rules s at ≡ record { line = None; next = at + k }
unfolding line_at
line_cut_at rules s at k e h = rw (split_all line_feed (drop at s) (sym e ∙ h), h)

pub line_whole : (rules : Rules) (s : List ℕ) (at k : ℕ) → k ≡ ahead line_feed (drop at s) → k < length (drop at s) → line_at rules s at ≡ record { line = line_of rules (take k (drop at s)); next = at + k + 1 }
unfolding line_at
line_whole rules s at k e h = rw (split_first line_feed (drop at s) (rw e at h), ← e, length-take-le k (drop at s) (le_of_lt h))

first_range : (rules : Rules) → rules.last_group ≤ most_group → (at : ℕ) (ps : Parts) → InRange (first_line rules at ps).line
first_range rules m at (last l) = tt
first_range rules m at (part l ls) = line_range rules m l

-- the numbers of the line at a byte are in their ranges
pub line_at_range : (rules : Rules) → rules.last_group ≤ most_group → (s : List ℕ) (at : ℕ) → InRange (line_at rules s at).line
unfolding line_at
line_at_range rules m s at = first_range rules m at (split line_feed (drop at s))

first_alike : (r s : Rules) → r.last_group ≡ s.last_group → r.intersections ≡ s.intersections → (at : ℕ) (ps : Parts) → first_line r at ps ≡ first_line s at ps
first_alike r s e f at (last l) = refl
first_alike r s e f at (part l ls) = rw (forms_alike r s e f l)

-- and depend on the last group and on whether `I` may stand only
pub line_at_alike : (r s : Rules) → r.last_group ≡ s.last_group → r.intersections ≡ s.intersections → (bytes : List ℕ) (at : ℕ) → line_at r bytes at ≡ line_at s bytes at
unfolding line_at
line_at_alike r s e f bytes at = first_alike r s e f at (split line_feed (drop at bytes))

-- one line more: it takes a byte at least, and reading goes on after it or stops with its fault
pub record OneLine (rules : Rules) (s : List ℕ) (at : ℕ) (here : LineAt) : Type 0 where
  pub more : at < here.next
  pub within : here.next ≤ length s
  pub goes : (st : ReadingState) (n : ℕ) → read_lines rules st n at (split line_feed (drop at s))
      ≡ cond (eqb (fault_of rules st here.line) 0) (read_lines rules (state_after st here.line here.next) (n + 1) here.next (split line_feed (drop here.next s)))
      (refused (fault_of rules st here.line) (n + 1))

cut_line : (rules : Rules) (s : List ℕ) (at : ℕ) → at < length s → ahead line_feed (drop at s) ≡ length (drop at s) → OneLine rules s at (line_at rules s at)
unfolding read_lines fault_of
cut_line rules s at h e =
    rw (line_cut rules s at h e) (record {
      more = h;
      within = omega arith;
      goes = λ st n. rw (split_all line_feed (drop at s) e, ne_eqb (length (drop at s)) 0 (λ z. omega (arith, length-drop at s)));
    })

whole_line : (rules : Rules) (s : List ℕ) (at : ℕ) → at < length s → ahead line_feed (drop at s) < length (drop at s) → OneLine rules s at (line_at rules s at)
unfolding read_lines
whole_line rules s at h k =
    let a = ahead line_feed (drop at s) in
    let q : at + (a + 1) ≡ at + a + 1 = omega arith in
    rw (line_whole rules s at a refl k) (record {
      more = omega arith;
      within = omega (arith, length-drop at s);
      goes = λ st n. rw (split_first line_feed (drop at s) k, length-take-le a (drop at s) (le_of_lt k), drop-drop, q);
    })

pub one_line : (rules : Rules) (s : List ℕ) (at : ℕ) → at < length s → OneLine rules s at (line_at rules s at)
one_line rules s at h = go (ltb (ahead line_feed (drop at s)) (length (drop at s))) refl
  where
    go : (b : Bool) → ltb (ahead line_feed (drop at s)) (length (drop at s)) ≡ b → OneLine rules s at (line_at rules s at)
    go true q = whole_line rules s at h (ltb-true (ahead line_feed (drop at s)) (length (drop at s)) q)
    go false q = cut_line rules s at h (omega (arith, ltb-false (ahead line_feed (drop at s)) (length (drop at s)) q, ahead_most line_feed (drop at s)))

-- lines used up
pub lines_end : (rules : Rules) (st : ReadingState) (n at : ℕ) (s : List ℕ) → length s ≤ at
    → read_lines rules st n at (split line_feed (drop at s)) ≡ cond (eqb st.phase ended) (accepted st) (refused 10 (n + 1))
unfolding read_lines split
lines_end rules st n at s h = rw (drop_of_length-le s h)
