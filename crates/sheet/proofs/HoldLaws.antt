-- The reader's numbers and arrays follow the state: a line's fault in the reader's numbers, and what each kind of line leaves.
use mathlib.Core.Path.{◌≡◌, refl, sym, ◌∙◌}
use mathlib.Core.Bool.{Bool, true, false, not, cond, ◌&&◌}
use mathlib.Core.List.{List, [], ◌∷◌, ◌++◌}
use Prim.Native.Nat.{ℕ, ◌+◌, ◌-◌, ◌≤◌, ◌<◌}
use Rattle.std.proofs.Common.{Option, Some, None, Ok, Err}
use native.Mathlib.Omega.{arith}
use lib.Dec.{leb, ltb}
use lib.ListN.{length, replicate, set, take, length-append, length-replicate}
use Rattle.tree.specs.Tree.{is_group, is_in, with_new, most_groups}
use Rattle.tree.specs.Pass.{pass}
use Rattle.tree.specs.InnerWriting.{Wrote}
use Rattle.tree.proofs.GroupLaws.{distinct_most}
use Rattle.tree.proofs.WritingLaws.{wrote_nothing, wrote_one, wrote_then, wrote_as, wrote_over, wrote_take}
use Rattle.sheet.specs.Rules.{Rules}
use Rattle.sheet.specs.Reading.{LiftLine, ReadingState, trees, first_fault, place_fault, order_fault, kind_fault, fault_of, entered, state_after, nothing_read}
use Rattle.sheet.specs.Faults.{fault_number}
use Rattle.sheet.specs.InnerFaults.{phase_number}
use Rattle.sheet.specs.InnerHolding.{InRange, Sound, Holds, AfterLine, GivesState}
use Rattle.sheet.specs.declared.Fault.{Fault}
use Rattle.sheet.specs.declared.Fault.TheVariants.{TooManyBytes, NoForm, OutOfPlace, TooFewTrees, TooManyNodes, TooManyGroups, NotOneTree, UnknownMark, MarkTwice, NoEnd}
use Rattle.sheet.specs.declared.Phase.{Phase}
use Rattle.sheet.specs.declared.Phase.TheVariants.{Tree as TreePhase, Lifts, Marks, Ended}
use Rattle.sheet.specs.declared.Line.{Line}
use Rattle.sheet.specs.declared.Line.TheVariants.{Group, Operator, Lift, Mark, End}
use Rattle.sheet.specs.declared.Reader.{Reader}
use Rattle.sheet.proofs.EntriesLaws.{more_group, more_operator}
use Rattle.sheet.proofs.SoundLaws.{none_of, first_none, first_some, first_second, sound_next, sound_mark, sound_lift, sound_end, sound_nothing_read}

-- every fault has a number
pub numbered : (f : Fault) → fault_number f ≡ 0 → ⊥
numbered TooManyBytes e = omega arith
numbered NoForm e = omega arith
numbered OutOfPlace e = omega arith
numbered TooFewTrees e = omega arith
numbered TooManyNodes e = omega arith
numbered TooManyGroups e = omega arith
numbered NotOneTree e = omega arith
numbered UnknownMark e = omega arith
numbered MarkTwice e = omega arith
numbered NoEnd e = omega arith

-- where tasks may stand, no line has that fault; and a task without it is in such a file
pub place_none : (l : Option Line) → 0 ≡ place_fault true l
place_none (Some (Lift q n)) = refl
place_none (Some (Mark g)) = refl
place_none (Some (Group g)) = refl
place_none (Some (Operator x)) = refl
place_none (Some End) = refl
place_none None = refl

pub tasks_may : (tasks : Bool) → ◌≡◌ {A = ℕ} (cond tasks 0 3) 0 → tasks ≡ true
tasks_may true e = refl
tasks_may false e = absurd (omega arith)

-- ---- the first of two faults, where the code has the first as f
pub order_first : (f F rest : ℕ) → f ≡ F → (f ≡ 0 → ⊥) → first_fault F rest ≡ f
order_first f F rest e n = rw (← e) (first_some f rest n)

pub order_second : (f F rest : ℕ) → f ≡ F → f ≡ 0 → first_fault F rest ≡ rest
order_second f F rest e z = first_second F rest (sym e ∙ z)

pub marks_few : {rules : Rules} {st : ReadingState} → Sound rules st → length st.marks ≤ most_groups
marks_few {st = st} S = omega (arith, distinct_most st.marks st.groups S.once S.marked, S.different)

module _ {rules : Rules} {st : ReadingState} {N : ℕ} {p : Reader N} (h : Holds rules st p) where
  pub nodes_is : p.nodes ≡ length st.entries
  nodes_is = omega (arith, h.entries.ends)

  pub different_is : p.different ≡ length st.groups
  different_is = omega (arith, h.known.ends)

  pub marked_is : p.marked ≡ length st.marks
  marked_is = omega (arith, h.marked.ends)

  pub tree_long : length p.tree ≡ rules.nodes
  tree_long = h.entries.same ∙ length-replicate rules.nodes 0

  pub groups_long : length p.groups ≡ most_groups
  groups_long = h.known.same

  pub marks_long : length p.marks ≡ most_groups
  marks_long = h.marked.same

  pub different_few : p.different ≤ length p.groups
  different_few = omega (arith, different_is, groups_long, h.sound.different)

  pub marked_few : p.marked ≤ most_groups
  marked_few = omega (arith, marked_is, marks_few h.sound)

  known_take : take p.different p.groups ≡ st.groups
  known_take = wrote_take h.known h.sound.different

  marked_take : take p.marked p.marks ≡ st.marks
  marked_take = wrote_take h.marked (marks_few h.sound)

  -- ---- a line's fault, in the reader's numbers
  abbrev order : ℕ → ℕ
  order place = order_fault (phase_number p.phase) p.waiting place

  pub fault_group : (g : ℕ) → fault_of rules st (Some (Group g))
      ≡ first_fault (order 0) (cond (leb N p.nodes) 5 (cond (not (is_in (take p.different p.groups) g) && leb most_groups p.different) 6 0))
  unfolding fault_of
  fault_group g = rw (h.phase, h.waits, h.room, nodes_is, known_take, different_is)

  pub fault_operator : (x : ℕ) → fault_of rules st (Some (Operator x)) ≡ first_fault (order 0) (cond (ltb p.waiting 2) 4 (cond (leb N p.nodes) 5 0))
  unfolding fault_of
  fault_operator x = rw (h.phase, h.waits, h.room, nodes_is)

  pub fault_lift : p.tasks ≡ true → (q n : ℕ) → fault_of rules st (Some (Lift q n)) ≡ first_fault (order 1) 0
  unfolding fault_of
  fault_lift a q n = rw (← h.tasks, a, h.phase, h.waits)

  -- of a mark, the faults after that of a file without tasks
  abbrev pub later_mark : ℕ → ℕ
  later_mark g = first_fault (order 2) (cond (is_in (take p.different p.groups) g) (cond (is_in (take p.marked p.marks) g) 9 0) 8)

  later_mark_lem : (g : ℕ) → first_fault (order_fault st.phase (length (trees st.entries)) 2) (kind_fault rules st (Some (Mark g))) ≡ later_mark g
  later_mark_lem g = rw (h.phase, h.waits, known_take, marked_take)

  pub fault_mark : p.tasks ≡ true → (g : ℕ) → fault_of rules st (Some (Mark g)) ≡ later_mark g
  unfolding fault_of
  fault_mark a g = rw (← h.tasks, a) (later_mark_lem g)

  pub fault_end : fault_of rules st (Some End) ≡ first_fault (order 3) 0
  unfolding fault_of
  fault_end = rw (h.phase, h.waits)

  pub fault_bad : fault_of rules st None ≡ 2
  unfolding fault_of
  fault_bad = refl

  -- a task in a file without tasks
  pub fault_place : (l : Option Line) → (place_fault p.tasks l ≡ 0 → ⊥) → fault_of rules st l ≡ place_fault p.tasks l
  unfolding fault_of
  fault_place (Some (Lift q n)) e = rw (← h.tasks) (first_some _ _ e)
  fault_place (Some (Mark g)) e = rw (← h.tasks) (first_some _ _ e)
  fault_place (Some (Group g)) e = absurd (e refl)
  fault_place (Some (Operator x)) e = absurd (e refl)
  fault_place (Some End) e = absurd (e refl)
  fault_place None e = absurd (e refl)

  -- ---- a line with a fault
  pub stepped_faulty : (l : Option Line) (after line : ℕ) (f : Fault) (r : Reader N) → r.line ≡ line → fault_of rules st l ≡ fault_number f → AfterLine rules st l after line (Err f) r
  stepped_faulty l after line f r c e = record { fault = sym e; counted = c; holds = λ z. absurd (numbered f (sym e ∙ z)) }

  -- with that of a file without tasks, and with that of its order
  pub stepped_place : (l : Option Line) (after line : ℕ) (f : Fault) (r : Reader N) → r.line ≡ line → fault_number f ≡ place_fault p.tasks l → AfterLine rules st l after line (Err f) r
  stepped_place l after line f r c q = stepped_faulty l after line f r c (fault_place l (λ z. numbered f (q ∙ z)) ∙ sym q)

  pub stepped_order : (l : Option Line) (after place rest : ℕ) (f : Fault) → fault_of rules st l ≡ first_fault (order place) rest → fault_number f ≡ order place
      → AfterLine rules st l after p.line (Err f) p
  stepped_order l after place rest f e q = stepped_faulty l after p.line f p refl (e ∙ first_some (order place) rest (λ z. numbered f (q ∙ z)) ∙ sym q)

  -- ---- a line without fault
  stepped_on : (l : Option Line) (after : ℕ) (r : Reader N) → r.line ≡ p.line → fault_of rules st l ≡ 0 → Holds rules (state_after st l after) r → AfterLine rules st l after p.line (Ok tt) r
  stepped_on l after r c e k = record { fault = sym e; counted = c; holds = λ z. k }

  holds_entered : (x after w d : ℕ) (gs array : List ℕ) → Sound rules (entered st x gs after) → w ≡ length (trees (st.entries ++ (x ∷ []))) → w ≤ p.nodes + 1
      → Wrote (replicate most_groups 0) 0 array d gs
      → Holds rules (entered st x gs after) {N = N} (record { tasks = p.tasks; line = p.line; phase = p.phase; tree = set p.tree p.nodes x; nodes = p.nodes + 1; waiting = w; groups = array; different = d; marks = p.marks; marked = p.marked; start = after; lifts = p.lifts })
  holds_entered x after w d gs array S e m k = record {
    sound = S;
    room = h.room;
    tasks = h.tasks;
    phase = h.phase;
    waits = e;
    within = m;
    entries = wrote_then h.entries (wrote_one p.tree p.nodes x);
    known = k;
    marked = h.marked;
    start = refl;
    lifts = h.lifts;
    few = h.few;
  }

  waits_group : (g : ℕ) → is_group g ≡ true → p.waiting + 1 ≡ length (trees (st.entries ++ (g ∷ [])))
  waits_group g r = omega (arith, h.waits, (more_group st.entries g r h.sound.forest).count)

  pub stepped_group_old : (g after : ℕ) → is_group g ≡ true → fault_of rules st (Some (Group g)) ≡ 0 → is_in (take p.different p.groups) g ≡ true
      → AfterLine rules st (Some (Group g)) after p.line (Ok tt) {N = N} (record { tasks = p.tasks; line = p.line; phase = p.phase; tree = set p.tree p.nodes g; nodes = p.nodes + 1; waiting = p.waiting + 1; groups = p.groups; different = p.different; marks = p.marks; marked = p.marked; start = after; lifts = p.lifts })
  stepped_group_old g after r e i =
      let q : is_in st.groups g ≡ true = rw known_take at i in
      stepped_on (Some (Group g)) after _ refl e
      (holds_entered g after (p.waiting + 1) p.different (with_new st.groups g) p.groups (sound_next rules st h.sound (Some (Group g)) after r e) (waits_group g r)
      (omega (arith, h.within)) (wrote_as h.known (rw q)))

  pub stepped_group_new : (g after : ℕ) → is_group g ≡ true → fault_of rules st (Some (Group g)) ≡ 0 → is_in (take p.different p.groups) g ≡ false
      → AfterLine rules st (Some (Group g)) after p.line (Ok tt) {N = N} (record { tasks = p.tasks; line = p.line; phase = p.phase; tree = set p.tree p.nodes g; nodes = p.nodes + 1; waiting = p.waiting + 1; groups = set p.groups p.different g; different = p.different + 1; marks = p.marks; marked = p.marked; start = after; lifts = p.lifts })
  stepped_group_new g after r e i =
      let q : is_in st.groups g ≡ false = rw known_take at i in
      stepped_on (Some (Group g)) after _ refl e
      (holds_entered g after (p.waiting + 1) (p.different + 1) (with_new st.groups g) (set p.groups p.different g) (sound_next rules st h.sound (Some (Group g)) after r e) (waits_group g r)
      (omega (arith, h.within)) (wrote_as (wrote_then h.known (wrote_one p.groups p.different g)) (rw q)))

  pub stepped_operator : (x after : ℕ) → InRange (Some (Operator x)) → fault_of rules st (Some (Operator x)) ≡ 0 → 2 ≤ p.waiting
      → AfterLine rules st (Some (Operator x)) after p.line (Ok tt) {N = N} (record { tasks = p.tasks; line = p.line; phase = p.phase; tree = set p.tree p.nodes x; nodes = p.nodes + 1; waiting = p.waiting - 1; groups = p.groups; different = p.different; marks = p.marks; marked = p.marked; start = after; lifts = p.lifts })
  stepped_operator x after r e two =
      let w : p.waiting - 1 ≡ length (trees (st.entries ++ (x ∷ []))) = omega (arith, h.waits, (more_operator st.entries x r.0 r.1 (omega (arith, h.waits)) h.sound.forest).count) in
      stepped_on (Some (Operator x)) after _ refl e
      (holds_entered x after (p.waiting - 1) p.different st.groups p.groups (sound_next rules st h.sound (Some (Operator x)) after r e) w (omega (arith, h.within)) h.known)

  -- a line after the tree lines changes neither the tree nor its groups
  holds_over : (phase : Phase) (marked lifts : ℕ) (ms array : List ℕ) (ls : List LiftLine)
      → Sound rules (record { phase = phase_number phase; entries = st.entries; groups = st.groups; marks = ms; start = st.start; lifts = ls })
      → Wrote (replicate most_groups 0) 0 array marked ms → lifts ≡ length ls → lifts ≤ p.line
      → Holds rules (record { phase = phase_number phase; entries = st.entries; groups = st.groups; marks = ms; start = st.start; lifts = ls }) {N = N}
      (record { tasks = p.tasks; line = p.line; phase = phase; tree = p.tree; nodes = p.nodes; waiting = p.waiting; groups = p.groups; different = p.different; marks = array; marked = marked; start = p.start; lifts = lifts })
  holds_over phase marked lifts ms array ls S w e f = record {
    sound = S;
    room = h.room;
    tasks = h.tasks;
    phase = refl;
    waits = h.waits;
    within = h.within;
    entries = h.entries;
    known = h.known;
    marked = w;
    start = h.start;
    lifts = e;
    few = f;
  }

  pub stepped_lift : (q n after : ℕ) → fault_of rules st (Some (Lift q n)) ≡ 0 → p.lifts < p.line → AfterLine rules st (Some (Lift q n)) after p.line (Ok tt) {N = N} (record { tasks = p.tasks; line = p.line; phase = Lifts; tree = p.tree; nodes = p.nodes; waiting = p.waiting; groups = p.groups; different = p.different; marks = p.marks; marked = p.marked; start = p.start; lifts = p.lifts + 1 })
  stepped_lift q n after e m =
      let l = length-append st.lifts (record { position = q; levels = n } ∷ []) in
      stepped_on (Some (Lift q n)) after _ refl e
      (holds_over Lifts _ _ _ _ _ (sound_lift rules st h.sound q n after (none_of rules st (Some (Lift q n)) e).0) h.marked (omega (arith, h.lifts, l)) (omega arith))

  pub stepped_mark : (g after : ℕ) → fault_of rules st (Some (Mark g)) ≡ 0 → AfterLine rules st (Some (Mark g)) after p.line (Ok tt) {N = N} (record { tasks = p.tasks; line = p.line; phase = Marks; tree = p.tree; nodes = p.nodes; waiting = p.waiting; groups = p.groups; different = p.different; marks = set p.marks p.marked g; marked = p.marked + 1; start = p.start; lifts = p.lifts })
  stepped_mark g after e =
      let z = none_of rules st (Some (Mark g)) e in
      stepped_on (Some (Mark g)) after _ refl e
      (holds_over Marks _ _ _ _ _ (sound_mark rules st h.sound g after z.0 z.1) (wrote_then h.marked (wrote_one p.marks p.marked g)) h.lifts h.few)

  -- there is room for a mark without fault
  pub mark_room : (g : ℕ) → later_mark g ≡ 0 → p.marked < most_groups
  mark_room g e =
      let z = first_none (order_fault st.phase (length (trees st.entries)) 2) (kind_fault rules st (Some (Mark g))) (later_mark_lem g ∙ e) in
      omega (arith, marks_few (sound_mark rules st h.sound g 0 z.0 z.1), length-append st.marks (g ∷ []), marked_is)

  pub stepped_end : (after : ℕ) → fault_of rules st (Some End) ≡ 0 → AfterLine rules st (Some End) after p.line (Ok tt) {N = N} (record { tasks = p.tasks; line = p.line; phase = Ended; tree = p.tree; nodes = p.nodes; waiting = p.waiting; groups = p.groups; different = p.different; marks = p.marks; marked = p.marked; start = p.start; lifts = p.lifts })
  stepped_end after e =
      stepped_on (Some End) after _ refl e
      (holds_over Ended _ _ _ _ _ (sound_end rules st h.sound after (none_of rules st (Some End) e).0) h.marked h.lifts h.few)

  -- one line more has been read
  pub holds_counted : Holds rules st {N = N} (record { tasks = p.tasks; line = p.line + 1; phase = p.phase; tree = p.tree; nodes = p.nodes; waiting = p.waiting; groups = p.groups; different = p.different; marks = p.marks; marked = p.marked; start = p.start; lifts = p.lifts })
  holds_counted = record {
    sound = h.sound;
    room = h.room;
    tasks = h.tasks;
    phase = h.phase;
    waits = h.waits;
    within = h.within;
    entries = h.entries;
    known = h.known;
    marked = h.marked;
    start = h.start;
    lifts = h.lifts;
    few = omega (arith, h.few);
  }

  -- ---- at the end
  pub holds_gives : GivesState rules st p
  holds_gives = record {
    entries = wrote_over h.entries (omega (arith, h.sound.nodes, length-replicate {A = ℕ} rules.nodes 0));
    nodes = nodes_is;
    marks = wrote_over h.marked (marks_few h.sound);
    marked = marked_is;
    start = h.start;
    lifts = h.lifts;
  }

-- ---- at the start
no_trees : ◌≡◌ {A = ℕ} 0 (length (trees []))
unfolding trees pass
no_trees = refl

pub holds_nothing_read : (N : ℕ) (rules : Rules) → N ≡ rules.nodes
    → Holds rules nothing_read {N = N} (record { tasks = rules.tasks; line = 0; phase = TreePhase; tree = replicate N 0; nodes = 0; waiting = 0; groups = replicate most_groups 0; different = 0; marks = replicate most_groups 0; marked = 0; start = 0; lifts = 0 })
holds_nothing_read N rules e = record {
  sound = sound_nothing_read rules;
  room = e;
  tasks = refl;
  phase = refl;
  waits = no_trees;
  within = omega arith;
  entries = rw e (wrote_nothing (replicate rules.nodes 0) 0);
  known = wrote_nothing (replicate most_groups 0) 0;
  marked = wrote_nothing (replicate most_groups 0) 0;
  start = refl;
  lifts = refl;
  few = omega arith;
}
