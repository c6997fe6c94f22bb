-- What reading accepts: one tree within the limits, marks that are its groups, lifts that stand line by line. The proof
-- follows the lines with a sound state and the lifts read so far; each line takes a byte at least.
use Rattle.std.proofs.Common.{Option, Some, None, Ok, Err}
use mathlib.Core.Path.{◌≡◌, refl, sym, ap, ap₂, ◌∙◌}
use mathlib.Core.Bool.{Bool, true, false, cond}
use mathlib.Core.List.{List, [], ◌∷◌, ◌++◌}
use mathlib.Core.Option.{some}
use Prim.Native.Nat.{ℕ, zero, suc, ◌+◌, ◌≤◌, ◌<◌}
use native.Mathlib.Omega.{arith}
use borrow.Author.Tests.{eqb-true, eqb-false, ltb-true, ltb-false}
use lib.Dec.{eqb, ltb}
use lib.ListN.{length, replicate, take, drop, length-append}
use Rattle.tree.specs.Tree.{Tree, most_nodes, most_group, postfix, size, is_in, collect, groups, leaves, most_groups}
use Rattle.tree.specs.InnerGroups.{Distinct, leaves_in}
use Rattle.tree.specs.Parse.{tree_of}
use Rattle.tree.proofs.TreeLaws.{postfix_length}
use Rattle.tree.proofs.GroupLaws.{groups_leaves, leaves_postfix}
use Rattle.tree.proofs.ParseLaws.{parse_sound, tree_of_postfix}
use Rattle.tree.proofs.WritingLaws.{take_over}
use Rattle.text.specs.Parts.{Parts, last, part, split}
use Rattle.text.specs.Line.{line_feed}
use Rattle.sheet.specs.Form.{line_of}
use Rattle.sheet.specs.InnerLines.{line_at, LiftRange, LiftsTo}
use Rattle.sheet.specs.Rules.{Rules, sheet_rules, candidate_rules}
use Rattle.sheet.specs.Reading.{most_bytes, LiftLine, ReadingState, ended, trees, fault_of, entered, state_after, nothing_read, ReadingOutcome, accepted, refused, read_lines, read_with, reading, sheet_with, sheet_of}
use Rattle.sheet.specs.InnerHolding.{InRange, Sound}
use Rattle.sheet.specs.InnerDrawing.{drawing_with, drawing_of}
use Rattle.sheet.specs.declared.Sheet.{Sheet}
use Rattle.sheet.specs.declared.Drawing.{Drawing}
use Rattle.sheet.specs.declared.Line.{Line}
use Rattle.sheet.specs.declared.Line.TheVariants.{Group, Operator, Lift, Mark, End}
use Rattle.sheet.proofs.EntriesLaws.{one_tree}
use Rattle.sheet.proofs.LineAtLaws.{line_at_range, one_line, lines_end}
use Rattle.sheet.proofs.SoundLaws.{order_none, none_of, bad_fault, sound_next, sound_nothing_read}
use Rattle.sheet.proofs.HoldLaws.{marks_few}

-- what reading accepted: one tree within the limits, marks that are groups of it, each once, and lifts that stand line by line
-- from the byte `start` on
pub record Accepted (rules : Rules) (sheet : List ℕ) (st : ReadingState) : Type 0 where
  pub tree : Tree
  pub is : tree_of st.entries ≡ some tree
  pub list : st.entries ≡ postfix tree
  pub nodes : size tree ≤ most_nodes
  pub known : st.groups ≡ groups tree
  pub different : length (groups tree) ≤ most_groups
  pub once : Distinct st.marks
  pub marked : (g : ℕ) → is_in st.marks g ≡ true → is_in (leaves tree) g ≡ true
  pub few : length st.marks ≤ most_groups
  pub end : ℕ
  pub asked : LiftsTo rules sheet st.start st.lifts end

pub no_outcome : {st : ReadingState} {n line : ℕ} {X : Type 0} → refused n line ≡ accepted st → X
no_outcome e = absurd (let z : ◌≡◌ {A = ℕ} 0 1 = cc in omega arith)

-- ---- a line of an accepted file has no fault, and what comes after it is accepted
module _ (rules : Rules) (end : ReadingState) where
  pub record PassedLine (st : ReadingState) (n at : ℕ) (k : Option Line) (ls : Parts) : Type 0 where
    pub faultless : fault_of rules st k ≡ 0
    pub later : read_lines rules (state_after st k at) (n + 1) at ls ≡ accepted end

  pub passed_line : (st : ReadingState) (n at : ℕ) (l : List ℕ) (ls : Parts) → read_lines rules st n at (part l ls) ≡ accepted end → PassedLine st n (at + length l + 1) (line_of rules l) ls
  unfolding read_lines
  passed_line st n at l ls e = go (eqb (fault_of rules st k) 0) refl e
    where
      k : Option Line
      k = line_of rules l

      go : (b : Bool) → eqb (fault_of rules st k) 0 ≡ b
          → cond b (read_lines rules (state_after st k (at + length l + 1)) (n + 1) (at + length l + 1) ls) (refused (fault_of rules st k) (n + 1)) ≡ accepted end
          → PassedLine st n (at + length l + 1) k ls
      go true q e = record { faultless = eqb-true (fault_of rules st k) 0 q; later = e }
      go false q e = no_outcome e

  -- nothing comes after the last line
  pub passed_last : (st : ReadingState) (n at : ℕ) (l : List ℕ) → read_lines rules st n at (last l) ≡ accepted end → st ≡ end
  unfolding read_lines
  passed_last st n at l e = go (eqb (length l) 0) (eqb st.phase ended) e
    where
      go : (a b : Bool) → cond a (cond b (accepted st) (refused 10 (n + 1))) (refused 2 (n + 1)) ≡ accepted end → st ≡ end
      go true true e = cc
      go true false e = no_outcome e
      go false b e = no_outcome e

  -- the first line stands at byte 0
  pub passed_start : (s : List ℕ) → read_with rules s ≡ accepted end → read_lines rules nothing_read 0 0 (split line_feed s) ≡ accepted end
  unfolding read_with
  passed_start s e = go (ltb most_bytes (length s)) e
    where
      go : (b : Bool) → cond b (refused 1 0) (read_lines rules nothing_read 0 0 (split line_feed s)) ≡ accepted end → read_lines rules nothing_read 0 0 (split line_feed s) ≡ accepted end
      go true e = no_outcome e
      go false e = e

-- ---- the lifts read so far: the byte after them is the next line's until a mark or the end comes
record Path (rules : Rules) (s : List ℕ) (st : ReadingState) (at : ℕ) : Type 0 where
  to : ℕ
  lifts : LiftsTo rules s st.start st.lifts to
  here : st.phase ≤ 1 → to ≡ at
  none_yet : st.phase ≤ 0 → st.lifts ≡ []

lifts_none : (rules : Rules) (s : List ℕ) (at : ℕ) → LiftsTo rules s at [] at
unfolding LiftsTo
lifts_none rules s at = refl

lifts_snoc : (rules : Rules) (s : List ℕ) (from at : ℕ) (ms : List LiftLine) (m : LiftLine) → LiftsTo rules s from ms at → (line_at rules s at).line ≡ Some (Lift m.position m.levels) → LiftRange m
    → LiftsTo rules s from (ms ++ (m ∷ [])) (line_at rules s at).next
unfolding LiftsTo
lifts_snoc rules s from at [] m e l r = rw e (l, r, refl)
lifts_snoc rules s from at (k ∷ ms) m e l r = (e.0, e.1, lifts_snoc rules s (line_at rules s from).next at ms m e.2 l r)

path_entered : (rules : Rules) (s : List ℕ) (st : ReadingState) (at x after : ℕ) (gs : List ℕ) → Path rules s st at → st.phase ≤ 0
    → Path rules s (entered st x gs after) after
path_entered rules s st at x after gs p h =
    let e = p.none_yet h in
    record { to = after; lifts = rw e (lifts_none rules s after); here = λ _. refl; none_yet = λ _. e }

path_over : (rules : Rules) (s : List ℕ) (st : ReadingState) (at after phase : ℕ) (ms : List ℕ) → Path rules s st at → 1 < phase
    → Path rules s (record { phase = phase; entries = st.entries; groups = st.groups; marks = ms; start = st.start; lifts = st.lifts }) after
path_over rules s st at after phase ms p h =
    record { to = p.to; lifts = p.lifts; here = λ z. absurd (omega arith); none_yet = λ z. absurd (omega arith) }

path_next : (rules : Rules) (s : List ℕ) (st : ReadingState) (at : ℕ) (l : Option Line) → Path rules s st at → (line_at rules s at).line ≡ l → InRange l → fault_of rules st l ≡ 0
    → Path rules s (state_after st l (line_at rules s at).next) (line_at rules s at).next
path_next rules s st at None p q r e = absurd (bad_fault rules st e)
path_next rules s st at (Some (Group g)) p q r e = path_entered rules s st at g _ _ p (order_none st.phase (length (trees st.entries)) 0 (none_of rules st (Some (Group g)) e).0).0
path_next rules s st at (Some (Operator x)) p q r e = path_entered rules s st at x _ _ p (order_none st.phase (length (trees st.entries)) 0 (none_of rules st (Some (Operator x)) e).0).0
path_next rules s st at (Some (Lift k n)) p q r e =
    let h : p.to ≡ at = p.here (order_none st.phase (length (trees st.entries)) 1 (none_of rules st (Some (Lift k n)) e).0).0 in
    record {
      to = (line_at rules s at).next;
      lifts = lifts_snoc rules s st.start at st.lifts (record { position = k; levels = n }) (rw h at p.lifts) q r;
      here = λ z. refl;
      none_yet = λ z. absurd (omega arith);
    }
path_next rules s st at (Some (Mark g)) p q r e = path_over rules s st at _ 2 _ p (omega arith)
path_next rules s st at (Some End) p q r e = path_over rules s st at _ ended _ p (omega arith)

-- ---- at the end
accepted_of : (rules : Rules) (s : List ℕ) (st : ReadingState) (at : ℕ) → rules.nodes ≤ most_nodes → Sound rules st → Path rules s st at → st.phase ≡ ended → Accepted rules s st
accepted_of rules s st at m S p e =
    let w = one_tree st.entries S.forest (S.one (λ z. omega (arith, e))) in
    let t : Tree = w.0 in
    let l : st.entries ≡ postfix t = parse_sound st.entries t w.1 in
    let n : size t ≤ most_nodes = omega (arith, m, S.nodes, ap length l, postfix_length t) in
    let k : st.groups ≡ groups t = S.known ∙ ap (λ (xs : List ℕ). collect [] (leaves_in xs)) l ∙ ap (collect []) (leaves_postfix t) in
    record {
      tree = t;
      is = ap tree_of l ∙ tree_of_postfix t n;
      list = l;
      nodes = n;
      known = k;
      different = rw k at S.different;
      once = S.once;
      marked = λ g i. sym (groups_leaves t g) ∙ ap (λ (xs : List ℕ). is_in xs g) (sym k) ∙ S.marked g i;
      few = marks_few S;
      end = p.to;
      asked = p.lifts;
    }

-- ---- line by line; `fuel` bounds how many bytes are left
module _ (rules : Rules) (s : List ℕ) (m : rules.nodes ≤ most_nodes) (g : rules.last_group ≤ most_group) (end : ReadingState) where
  at_end : (st : ReadingState) (n at : ℕ) → Sound rules st → Path rules s st at → cond (eqb st.phase ended) (accepted st) (refused 10 (n + 1)) ≡ accepted end → Accepted rules s end
  at_end st n at S p e = go (eqb st.phase ended) refl e
    where
      go : (b : Bool) → eqb st.phase ended ≡ b → cond b (accepted st) (refused 10 (n + 1)) ≡ accepted end → Accepted rules s end
      go true q e = let z : st ≡ end = cc in rw z at (accepted_of rules s st at m S p (eqb-true st.phase ended q))
      go false q e = no_outcome e

  -- what is shown of each state on the way: if reading from there accepts `end`, `end` has what an accepted sheet has
  abbrev Ends : ℕ → Type 0
  Ends fuel = (st : ReadingState) (n at : ℕ) → length s ≤ at + fuel → Sound rules st → Path rules s st at
      → read_lines rules st n at (split line_feed (drop at s)) ≡ accepted end → Accepted rules s end

  accepted_lines : (fuel : ℕ) → Ends fuel
  accepted_lines zero st n at f S p e = at_end st n at S p (sym (lines_end rules st n at s (omega arith)) ∙ e)
  accepted_lines (suc fuel) st n at f S p e = go (ltb at (length s)) refl (accepted_lines fuel)
    where
      l : Option Line
      l = (line_at rules s at).line

      to : ℕ
      to = (line_at rules s at).next

      more : at < length s → Ends fuel → (b : Bool) → eqb (fault_of rules st l) 0 ≡ b → cond b (read_lines rules (state_after st l to) (n + 1) to (split line_feed (drop to s))) (refused (fault_of rules st l) (n + 1)) ≡ accepted end
          → Accepted rules s end
      more h ih true q e =
          let z = eqb-true (fault_of rules st l) 0 q in
          ih (state_after st l to) (n + 1) to (omega (arith, (one_line rules s at h).more)) (sound_next rules st S l to (line_at_range rules g s at) z) (path_next rules s st at l p refl (line_at_range rules g s at) z) e
      more h ih false q e = no_outcome e

      go : (b : Bool) → ltb at (length s) ≡ b → Ends fuel → Accepted rules s end
      go true q ih = let h = ltb-true at (length s) q in more h ih (eqb (fault_of rules st l) 0) refl (sym ((one_line rules s at h).goes st n) ∙ e)
      go false q ih = at_end st n at S p (sym (lines_end rules st n at s (ltb-false at (length s) q)) ∙ e)

  pub accepted_within : read_with rules s ≡ accepted end → Accepted rules s end
  accepted_within e = accepted_lines (length s) nothing_read 0 0 (omega arith) (sound_nothing_read rules) start (passed_start rules end s e)
    where
      start : Path rules s nothing_read 0
      start = record { to = 0; lifts = lifts_none rules s 0; here = λ _. refl; none_yet = λ _. refl }

-- what an accepted sheet has, and an accepted drawing
pub accepted_sheet_lem : (s : List ℕ) (st : ReadingState) → reading s ≡ accepted st → Accepted sheet_rules s st
accepted_sheet_lem s st e = accepted_within sheet_rules s (omega arith) (omega arith) st e

pub accepted_drawing_lem : (s : List ℕ) (st : ReadingState) → read_with candidate_rules s ≡ accepted st → Accepted candidate_rules s st
accepted_drawing_lem s st e = accepted_within candidate_rules s (omega arith) (omega arith) st e

-- it is within the limit of bytes
pub accepted_short : (s : List ℕ) (st : ReadingState) → reading s ≡ accepted st → length s ≤ most_bytes
unfolding read_with
accepted_short s st e = go (ltb most_bytes (length s)) refl e
  where
    go : (b : Bool) → ltb most_bytes (length s) ≡ b → cond b (refused 1 0) (read_lines sheet_rules nothing_read 0 0 (split line_feed s)) ≡ accepted st → length s ≤ most_bytes
    go true q e = no_outcome e
    go false q e = ltb-false most_bytes (length s) q

-- ---- a refusal's number is not 0, by whatever rules
refused_line : (o : ReadingOutcome) (f n number line : ℕ) → cond (eqb f 0) o (refused f n) ≡ refused number line
    → (o ≡ refused number line → number ≡ 0 → ⊥) → number ≡ 0 → ⊥
refused_line o f n number line e later z = go (eqb f 0) refl e
  where
    go : (b : Bool) → eqb f 0 ≡ b → cond b o (refused f n) ≡ refused number line → ⊥
    go true q e = later e z
    go false q e = let r : f ≡ number = cc in eqb-false f 0 q (r ∙ z)

refused_lines : (rules : Rules) (ps : Parts) (st : ReadingState) (n at number line : ℕ) → read_lines rules st n at ps ≡ refused number line → number ≡ 0 → ⊥
unfolding read_lines
refused_lines rules (last l) st n at number line e z = go (eqb (length l) 0) (eqb st.phase ended) e
  where
    go : (a b : Bool) → cond a (cond b (accepted st) (refused 10 (n + 1))) (refused 2 (n + 1)) ≡ refused number line → ⊥
    go true true e = let q : ◌≡◌ {A = ℕ} 0 1 = cc in omega arith
    go true false e = let q : number ≡ 10 = cc in omega arith
    go false b e = let q : number ≡ 2 = cc in omega arith
refused_lines rules (part l ls) st n at number line e z =
    refused_line _ (fault_of rules st (line_of rules l)) (n + 1) number line e (refused_lines rules ls _ _ _ number line) z

pub refused_number : (rules : Rules) (s : List ℕ) (number line : ℕ) → read_with rules s ≡ refused number line → number ≡ 0 → ⊥
unfolding read_with
refused_number rules s number line e z = go (ltb most_bytes (length s)) e
  where
    go : (b : Bool) → cond b (refused 1 0) (read_lines rules nothing_read 0 0 (split line_feed s)) ≡ refused number line → ⊥
    go true e = let q : number ≡ 1 = cc in omega arith
    go false e = refused_lines rules (split line_feed s) nothing_read 0 0 number line e z

-- ---- what an answer tells of what reading comes to
parted : {a b c d : ℕ} {X : Type 0} → ◌≡◌ {A = ℕ × ℕ} (a, b) (c, d) → (a ≡ c → b ≡ d → X) → X
parted e f = f (ap (λ (p : ℕ × ℕ). p.0) e) (ap (λ (p : ℕ × ℕ). p.1) e)

pub sheet_accepted : (o : ReadingOutcome) {sheet : Sheet} → Ok sheet ≡ sheet_of o → (st : ReadingState) × (o ≡ accepted st) × (sheet ≡ sheet_with st)
unfolding sheet_of
sheet_accepted (accepted st) e = (st, refl, cc)
sheet_accepted (refused number line) e = absurd (let z : ◌≡◌ {A = ℕ} 0 1 = cc in omega arith)

pub sheet_refused : (o : ReadingOutcome) (number line : ℕ) → Err (number, line) ≡ sheet_of o → o ≡ refused number line
unfolding sheet_of
sheet_refused (accepted st) n l e = absurd (let z : ◌≡◌ {A = ℕ} 0 1 = cc in omega arith)
sheet_refused (refused number line) n l e = parted (cc) (λ p q. ap₂ refused (sym p) (sym q))

pub drawing_accepted : (o : ReadingOutcome) {drawing : Drawing} → Ok drawing ≡ drawing_of o → (st : ReadingState) × (o ≡ accepted st) × (drawing ≡ drawing_with st)
unfolding drawing_of
drawing_accepted (accepted st) e = (st, refl, cc)
drawing_accepted (refused number line) e = absurd (let z : ◌≡◌ {A = ℕ} 0 1 = cc in omega arith)

pub drawing_refused : (o : ReadingOutcome) (number line : ℕ) → Err (number, line) ≡ drawing_of o → o ≡ refused number line
unfolding drawing_of
drawing_refused (accepted st) n l e = absurd (let z : ◌≡◌ {A = ℕ} 0 1 = cc in omega arith)
drawing_refused (refused number line) n l e = parted (cc) (λ p q. ap₂ refused (sym p) (sym q))

-- ---- the arrays of an accepted sheet's answer hold its tree's entries and its marks
pub answered_tree : (st : ReadingState) → take (sheet_with st).nodes (sheet_with st).tree ≡ st.entries
unfolding sheet_with
answered_tree st = take_over st.entries (replicate sheet_rules.nodes 0) (length st.entries) refl

pub answered_marks : (st : ReadingState) → take (sheet_with st).marked (sheet_with st).marks ≡ st.marks
unfolding sheet_with
answered_marks st = take_over st.marks (replicate most_groups 0) (length st.marks) refl

-- and have room for them
pub answered_long : (st : ReadingState) → ((sheet_with st).nodes ≤ length (sheet_with st).tree) × ((sheet_with st).marked ≤ length (sheet_with st).marks)
unfolding sheet_with
answered_long st = (
  omega (arith, length-append st.entries (drop (length st.entries) (replicate sheet_rules.nodes 0))),
  omega (arith, length-append st.marks (drop (length st.marks) (replicate most_groups 0))),
)

-- the same of a drawing's answer
pub drawn_tree : (st : ReadingState) → take (drawing_with st).nodes (drawing_with st).tree ≡ st.entries
unfolding drawing_with
drawn_tree st = take_over st.entries (replicate most_nodes 0) (length st.entries) refl

pub drawn_long : (st : ReadingState) → (drawing_with st).nodes ≤ length (drawing_with st).tree
unfolding drawing_with
drawn_long st = omega (arith, length-append st.entries (drop (length st.entries) (replicate most_nodes 0)))
