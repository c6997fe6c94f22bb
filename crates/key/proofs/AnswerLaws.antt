-- The key of a sheet that reading accepts, put together: its lifts, then what follows them.
use Rattle.std.proofs.Common.{Ok, Err}
use mathlib.Core.Path.{◌≡◌, refl, sym, ap, subst, ◌∙◌}
use mathlib.Core.List.{List, [], ◌∷◌, ◌++◌, append-nil}
use mathlib.Core.Option.{Option, some}
use Prim.Native.Nat.{ℕ, ◌*◌, ◌≤◌, ◌<◌}
use native.Mathlib.Omega.{arith}
use lib.ListN.{length, take}
use Rattle.std.specs.Prelude.{Ok, Err}
use Rattle.common.specs.Answer.{done}
use Rattle.tree.specs.Tree.{Tree, postfix, size, most_nodes}
use Rattle.tree.specs.Writing.{over}
use Rattle.tree.specs.InnerWriting.{Wrote}
use Rattle.tree.proofs.WritingLaws.{wrote_then, wrote_as, wrote_over}
use Rattle.tree.proofs.TreeLaws.{postfix_length}
use Rattle.tree.proofs.GroupLaws.{groups_leaves}
use Rattle.text.specs.Line.{line, lines}
use Rattle.text.proofs.LineLaws.{lines_append}
use Rattle.moves.specs.Moves.{MoveTable}
use Rattle.moves.proofs.MoveLaws.{Right}
use Rattle.words.specs.Formula.{Formula}
use Rattle.moves.specs.InnerEntries.{TableIs}
use Rattle.move_table.specs.Loading as table
use Rattle.move_table.specs.Loading.{Loaded, loading, school_table}
use Rattle.move_table.specs.Packing.{packed, fault_number, load_says, loading_says}
use Rattle.move_table.specs.declared.LoadedTable.{LoadedTable}
use Rattle.move_table.specs.declared.Refusal.{Refusal}
use Rattle.move_table.proofs.SchoolLaws.{loaded_table, refused_fault, table_loaded, table_refused}
use Rattle.sheet.specs.Rules.{sheet_rules}
use Rattle.sheet.specs.Reading.{ReadingState, ReadingOutcome, accepted, refused, reading, sheet_with, sheet_of}
use Rattle.sheet.specs.declared.Sheet.{Sheet}
use Rattle.sheet.proofs.AcceptedLaws.{accepted_sheet_lem, accepted_short, answered_tree, answered_marks, answered_long, sheet_accepted, sheet_refused, Accepted}
use Rattle.printing.proofs.PrintingLaws.{no_most}
use Rattle.printing.specs.Key.{NO, Key, refusal, text, lift_rows, held_rows, instruction_rows}
use Rattle.lift_lines.specs.Lifting.{tree_after, lift_answers}
use Rattle.key.specs.Call.{key_bytes, KeyOf, KeyWith, key_says, KeyCall}
use Rattle.key.specs.InnerKeyOf.{held_by, code_by, key_in, key_for, key_by, key_for_school, school_key_of, KeyBy}
use Rattle.lift_lines.specs.Inner.{lift_bytes, IsList, Asked, LiftedAll}
use Rattle.key.specs.Inner.{AllButCode, Markable, Finished, PutsHeld, ReadAs, WroteKey, PutsBeforeCode}
use Rattle.lift_lines.specs.declared.Progress.{Progress}
use Rattle.key.specs.declared.ShortBuffer.{ShortBuffer}
use Rattle.std.proofs.Common.{Result, Ok, Err}
use Rattle.sheet.proofs.LiftLineLaws.{lifts_few}
use Rattle.lift_lines.proofs.LiftingLaws.{after_keeps}
use Rattle.key.proofs.FinishLaws.{copied, nothing_behind}
use Rattle.key.proofs.GatheringLaws.{markable_keeps}
use Rattle.key.proofs.DemandLaws.{demand_3}
use Rattle.printing.specs.declared.Device.{Device}
use Rattle.key.specs.Devices.{InstructionOf, row_for}

module _ (s : List ℕ) (st : ReadingState) (e : reading s ≡ accepted st) (A : Accepted sheet_rules s st) where
  -- at most 10,000 lifts
  pub few_lifts : lift_bytes * length st.lifts ≤ 160000
  few_lifts = omega (arith, lifts_few sheet_rules s st.start st.lifts A.end A.asked, accepted_short s st e)

  pub asked : Asked s st.start (length st.lifts) st.lifts
  asked = record { end = A.end; lines = A.asked; counted = refl }

  pub marks_in : Markable A.tree st.marks
  marks_in = record {
    few = A.different;
    once = A.once;
    among = λ g k. groups_leaves A.tree g ∙ A.marked g k;
  }

  pub marks_left : {m : MoveTable} → Right m → Markable (tree_after m A.tree st.lifts) st.marks
  marks_left R = markable_keeps (after_keeps R A.tree st.lifts A.nodes) marks_in

  -- the lifts' lines, then the rest
  pub answered : (d : Device) {m : MoveTable} → Right m → {tree' out out₁ out₂ : List ℕ} {r : Progress} {next : ℕ} → LiftedAll m A.tree st.lifts tree' r out out₁
      → Finished d (tree_after m A.tree st.lifts) st.marks out₁ r.next out₂ next → WroteKey d m (accepted st) out out₂ next
  answered d {m} R L F =
      let u = tree_after m A.tree st.lifts in
      let held = held_by u st.marks in
      let is = code_by d u st.marks in
      record {
        answers = subst (λ (o : Option Tree). KeyOf d m (accepted st) (key_in d m st o)) (sym A.is)
            (A.tree, A.is, demand_3 d R A.tree st.marks st.lifts A.nodes held is F.ends);
        wrote = wrote_as (wrote_then L.wrote F.wrote)
            (unfold text key_by in sym (lines_append (lift_rows (lift_answers m A.tree st.lifts)) (held_rows held ++ instruction_rows (row_for d) is)) ∙ ap (λ (o : Option Tree). text (row_for d) (key_in d m st o)) (sym A.is));
        most = omega (arith, L.most, F.most, few_lifts);
      }

-- a refusal's line is its text
pub refusal_text : (d : Device) (number at : ℕ) → line NO (number ∷ at ∷ []) ≡ text (row_for d) (refusal number at)
unfolding text lines
refusal_text d number at = sym (append-nil (line NO (number ∷ at ∷ [])))

-- ---- what `read` answers for such a sheet
pub record IsRead (s : List ℕ) (st : ReadingState) (read : Sheet) : Type 0 where
  pub is : reading s ≡ accepted st
  pub has : Accepted sheet_rules s st
  pub list : take read.nodes read.tree ≡ postfix has.tree
  pub long : read.nodes ≤ length read.tree
  pub counted : read.nodes ≡ size has.tree
  pub most : size has.tree ≤ most_nodes
  pub marks : take read.marked read.marks ≡ st.marks
  pub marks_long : read.marked ≤ length read.marks
  pub asks : Asked s read.start read.lifts st.lifts
  pub few : lift_bytes * read.lifts ≤ 160000

answer_is : (s : List ℕ) (st : ReadingState) (e : reading s ≡ accepted st) → IsRead s st (sheet_with st)
unfolding sheet_with
answer_is s st e =
    let A = accepted_sheet_lem s st e in
    record {
      is = e;
      has = A;
      list = answered_tree st ∙ A.list;
      long = (answered_long st).0;
      counted = ap length A.list ∙ postfix_length A.tree;
      most = A.nodes;
      marks = answered_marks st;
      marks_long = (answered_long st).1;
      asks = asked s st e A;
      few = few_lifts s st e A;
    }

pub is_read : {s : List ℕ} {read : Sheet} {st : ReadingState} → ReadAs s read st → IsRead s st read
is_read {s} {read} {st} R = subst (IsRead s st) (sym R.answers) (answer_is s st R.accepts)

module _ {s : List ℕ} {st : ReadingState} {read : Sheet} (I : IsRead s st read) where
  -- the tree's list in its array
  pub read_copied : {old tree : List ℕ} {next : ℕ} → most_nodes ≤ length old → Wrote old 0 tree next (take read.nodes read.tree) → IsList (take read.nodes tree) I.has.tree
  read_copied h w = copied read.nodes (record { list = I.list; most = I.most }) I.counted h w

  pub read_marks : {m : MoveTable} → Right m → Markable (tree_after m I.has.tree st.lifts) (take read.marked read.marks)
  read_marks R = rw I.marks (marks_left s st I.is I.has R)

  pub read_most : {m : MoveTable} {tree' out out₁ : List ℕ} {r : Progress} → LiftedAll m I.has.tree st.lifts tree' r out out₁ → r.next ≤ 160000
  read_most L = omega (arith, L.most, I.few, I.asks.counted)

  -- the lifts' lines and, if any, the HELD line are all but the code
  pub read_left : {m : MoveTable} → Right m → {tree₁ tree₂ out out₁ out₂ : List ℕ} {r left : Progress} → LiftedAll m I.has.tree st.lifts tree₁ r out out₁
      → PutsHeld tree₁ r.nodes (take read.marked read.marks) out₁ r.next tree₂ out₂ left → PutsBeforeCode (λ d. WroteKey d m (accepted st) out) tree₂ out₂ left
  read_left {m} R {tree₁} {tree₂} {out} {out₁} {out₂} {r} L P = record {
    inside = P.inside;
    room = omega (arith, P.most, read_most L);
    holds = λ d. record {
      whole = λ out' last v. answered s st I.is I.has d R L
          (subst (λ (ms : List ℕ). Finished d (tree_after m I.has.tree st.lifts) ms out₁ r.next out' last) I.marks ((P.holds d _ L.holds (read_marks R)).whole out' last v));
    };
  }

-- ---- a sheet of any bytes: accepted, or refused
pub accepted_read : (s : List ℕ) {read : Sheet} → Ok read ≡ sheet_of (reading s) → (st : ReadingState) × ReadAs s read st
accepted_read s e = let a = sheet_accepted (reading s) e in (a.0, record { accepts = a.1; answers = a.2 })

wrote_refused : (d : Device) (m : MoveTable) (s out out' : List ℕ) (n number at : ℕ) → Err (number, at) ≡ sheet_of (reading s) → n ≤ key_bytes
    → Wrote out 0 out' n (line NO (number ∷ at ∷ [])) → WroteKey d m (reading s) out out' n
wrote_refused d m s out out' n number at e most w =
    rw (sheet_refused (reading s) number at e) (record { answers = refl; wrote = unfold key_by in wrote_as w (refusal_text d number at); most = most })

-- no code follows a refusal
pub refused_left : (m : MoveTable) (s tree : List ℕ) {out out₁ : List ℕ} {next : ℕ} (number at : ℕ) → Err (number, at) ≡ sheet_of (reading s)
    → Wrote out 0 out₁ next (line NO (number ∷ at ∷ [])) → next ≤ key_bytes → (d : Device) → AllButCode d (WroteKey d m (reading s) out) tree 0 out₁ next
refused_left m s tree {out} {out₁} {next} number at e w h d = record {
  whole = λ out' last v.
      let all = nothing_behind d tree w v in
      wrote_refused d m s out out' last number at e (omega (arith, all.ends, w.ends)) all;
}

pub accepted_left : (m : MoveTable) (s : List ℕ) {out out₁ tree : List ℕ} {r : Progress} {o : ReadingOutcome} → reading s ≡ o → PutsBeforeCode (λ d. WroteKey d m o out) tree out₁ r
    → PutsBeforeCode (λ d. WroteKey d m (reading s) out) tree out₁ r
accepted_left m s {out} {out₁} {tree} {r} e P = subst (λ (o : ReadingOutcome). PutsBeforeCode (λ d. WroteKey d m o out) tree out₁ r) (sym e) P

-- ---- the contract of a call: both promises
abbrev pub Keys : (d : Device) → (Key (InstructionOf d) → Type 0) → List ℕ → List ℕ → Result ℕ ShortBuffer → List ℕ → Type 0
Keys d IsKey bytes out r out' = KeyCall d IsKey out r out' × KeyBy bytes out r out'

-- a key was written
pub call_written : (d : Device) (IsKey : Key (InstructionOf d) → Type 0) (k : Key (InstructionOf d)) {out out' : List ℕ} {n : ℕ} → IsKey k → key_bytes ≤ length out → n ≤ key_bytes → Wrote out 0 out' n (text (row_for d) k)
    → Keys d IsKey (text (row_for d) k) out (Ok n) out'
call_written d IsKey k {out} {out'} {n} answers room most w =
    let says : key_says (Ok n) ≡ some (done (length (text (row_for d) k) ∷ [])) = ap (λ (m : ℕ). some (done (m ∷ []))) (let z : n ≡ length (text (row_for d) k) = omega (arith, w.ends) in z) in
    let written : out' ≡ over (text (row_for d) k) out = wrote_over w (omega (arith, w.ends, most)) in (
      record { short = λ h. absurd (omega arith); long = λ h. record { key = k; answers = answers; says = says; written = written } },
      record { by = λ h. (says, written) },
    )

pub call_short : (d : Device) (IsKey : Key (InstructionOf d) → Type 0) (bytes out : List ℕ) → length out < key_bytes → Keys d IsKey bytes out (Err (record {})) out
call_short d IsKey bytes out h = (record { short = λ _. (refl, refl); long = λ k. absurd (omega arith) }, record { by = λ k. absurd (omega arith) })

-- by a table
pub call_by : (d : Device) (m : MoveTable) (s : List ℕ) {out out' : List ℕ} {n : ℕ} → key_bytes ≤ length out → WroteKey d m (reading s) out out' n
    → Keys d (KeyOf d m (reading s)) (key_by d m (reading s)) out (Ok n) out'
unfolding key_by
call_by d m s room W = call_written d (KeyOf d m (reading s)) (key_for d m (reading s)) W.answers room W.most W.wrote

-- ---- by a school's table
module _ (d : Device) (t s : List ℕ) {out out' : List ℕ} {n : ℕ} (room : key_bytes ≤ length out) where
  -- a key by what loading comes to
  by_loading : (o : Loaded) → loading t ≡ o → (k : Key (InstructionOf d)) → k ≡ key_for_school d o (reading s) → KeyWith d o (reading s) k → n ≤ key_bytes → Wrote out 0 out' n (text (row_for d) k)
      → Keys d (KeyWith d (loading t) (reading s)) (school_key_of d t s) out (Ok n) out'
  unfolding school_key_of
  by_loading o e k q K most w =
      subst (λ (o : Loaded). Keys d (KeyWith d o (reading s)) (text (row_for d) (key_for_school d o (reading s))) out (Ok n) out') (sym e)
      (subst (λ (x : Key (InstructionOf d)). Keys d (KeyWith d o (reading s)) (text (row_for d) x) out (Ok n) out') q (call_written d (KeyWith d o (reading s)) k K room most w))

  pub school_refused : (number line : ℕ) → loading t ≡ table.refused number line → n ≤ key_bytes → Wrote out 0 out' n (text (row_for d) (refusal number line))
      → Keys d (KeyWith d (loading t) (reading s)) (school_key_of d t s) out (Ok n) out'
  school_refused number line e most w = by_loading (table.refused number line) e (refusal number line) refl refl most w

  pub school_written : (ps : List Formula) → loading t ≡ table.loaded ps → WroteKey d (school_table ps) (reading s) out out' n
      → Keys d (KeyWith d (loading t) (reading s)) (school_key_of d t s) out (Ok n) out'
  unfolding key_by
  school_written ps e W = by_loading (table.loaded ps) e (key_for d (school_table ps) (reading s)) refl W.answers W.most W.wrote

-- a refusal's line has room
pub short_line : (t : List ℕ) (r : Refusal) → load_says (Err r) ≡ loading_says (loading t) → length (line NO (fault_number r.fault ∷ r.line ∷ [])) ≤ key_bytes
short_line t r e =
    let F = refused_fault t (fault_number r.fault) r.line (table_refused t r e) in
    omega (arith, no_most (fault_number r.fault) r.line (omega (arith, F.most)) (omega (arith, F.to)))

-- the table of an answer that is no refusal
pub record LoadedAs (t : List ℕ) (x : LoadedTable) : Type 0 where
  pub entries : List Formula
  pub is : loading t ≡ table.loaded entries
  pub holds : TableIs (school_table entries) x.signs x.lengths

pub loaded_as : (t : List ℕ) (x : LoadedTable) → load_says (Ok x) ≡ loading_says (loading t) → LoadedAs t x
loaded_as t x e =
    let L = table_loaded t x e in
    let holds : (x : LoadedTable) → x ≡ packed L.0 → TableIs (school_table L.0) x.signs x.lengths = λ x q. rw q (loaded_table t L.0 L.1) in
    record { entries = L.0; is = L.1; holds = holds x L.2 }
