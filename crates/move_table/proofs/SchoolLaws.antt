-- The move table that a loaded table is: each entry may stand at its place, and the words in their rows are the entries'. So also of a table by
-- value that anyone hands over. And which faults there are.
use mathlib.Core.Path.{◌≡◌, refl, sym, ap, ap₂, subst, ◌∙◌}
use mathlib.Core.Bool.{Bool, true, false, cond, ◌&&◌, false≢true}
use mathlib.Core.Option.{Option, some, none}
use mathlib.Core.List.{List, [], ◌∷◌, ◌++◌, append_assoc, map}
use Prim.Native.Nat.{ℕ, zero, suc, ◌+◌, ◌-◌, ◌*◌, ◌≤◌, ◌<◌}
use native.Mathlib.Omega.{arith}
use borrow.Author.Tests.{eqb-true, leb-true, le-leb}
use lib.Dec.{T, eqb, leb, eqb→eq}
use lib.ListN.{length, get_or, take, drop, replicate, length-append, length-drop, length-map, take-append-drop, drop_of_length-le}
use lib.Seq.{take_at, drop_at, drop-cons, drop-append-add, length-take-le}
use Rattle.std.specs.Prelude.{Ok, Err}
use Rattle.tree.specs.Tree.{is_up_to}
use Rattle.tree.proofs.TreeLaws.{and_left, and_right}
use Rattle.words.specs.Formula.{Formula, A}
use Rattle.words.specs.Word.{word, most_signs}
use Rattle.words.proofs.Cases.{first_true, second_true}
use Rattle.moves.specs.Moves.{State, Input, place_number}
use Rattle.moves.specs.LeftSides.{stands_for, entry_for}
use Rattle.moves.specs.InnerEntries.{WordsHeld, TableBy, TableIs}
use Rattle.moves.proofs.MoveLaws.{Right, school_right}
use Rattle.move_table.specs.Loading.{Place, places, word_in, line_bytes, begins, Loaded, loaded, refused, onto, load_from, loading, entry_in, school_table}
use Rattle.move_table.specs.Packing.{row, rows, lengths, packed, fault_number, load_says, loading_says, all_zero, entry_of_row, before, entries_of, unpacked}
use Rattle.move_table.specs.InnerLoading.{place_at, is_table}
use Rattle.move_table.specs.declared.LoadedTable.{LoadedTable}
use Rattle.move_table.specs.declared.Refusal.{Refusal}
use Rattle.move_table.proofs.LineLaws.{both_true, word_positive, numbered, places_numbered, place_of, place_below, line_of, line_front, formula_word}
use Rattle.move_table.proofs.LoadLaws.{entry_found, entry_of_word, load_cases, load_line, row_length}

-- ---- the entries of places
-- a formula may stand at a place, and its word is not too long
pub record Stands (at : Place) (p : Formula) : Type 0 where
  pub stands : T (stands_for at.state at.input p)
  pub short : length (word p) ≤ most_signs

-- one for each place
pub data Entries : List Place → List Formula → Type 0 where
  no_more : Entries [] []
  one_more : {at : Place} {p : Formula} {later : List Place} {ps : List Formula} → Stands at p → Entries later ps → Entries (at ∷ later) (p ∷ ps)

pub entries_count : {qs : List Place} {ps : List Formula} → Entries qs ps → length ps ≡ length qs
entries_count no_more = refl
entries_count (one_more s e) = ap suc (entries_count e)

entries_at : {qs : List Place} {ps : List Formula} → Entries qs ps → (d : Place) (n : ℕ) → n < length qs → Stands (get_or qs n d) (get_or ps n A)
entries_at no_more d n h = absurd (omega arith)
entries_at (one_more s e) d zero h = s
entries_at (one_more s e) d (suc n) h = entries_at e d n (omega arith)

pub stands_at : {ps : List Formula} → Entries places ps → (x : State) (i : Input) → Stands (record { state = x; input = i }) (entry_in ps x i)
stands_at {ps} e x i = subst (λ (at : Place). Stands at (entry_in ps x i)) (place_of x i) (unfold place_at in entries_at e _ (place_number x i) (place_below x i))

-- the entries of a table of all states and inputs, in order
abbrev pub listed : (State → Input → Formula) → List Place → List Formula
listed f qs = map (λ at. f at.state at.input) qs

pub listed_entries : (f : State → Input → Formula) (qs : List Place) → ((at : Place) → Stands at (f at.state at.input)) → Entries qs (listed f qs)
listed_entries f [] h = no_more
listed_entries f (at ∷ later) h = one_more (h at) (listed_entries f later h)

numbered_listed : (ps : List Formula) (qs : List Place) (k : ℕ) → T (numbered k qs) → k + length qs ≡ length ps → listed (entry_in ps) qs ≡ drop k ps
numbered_listed ps [] k t h = sym (drop_of_length-le ps {i = k} (omega arith))
numbered_listed ps (at ∷ later) k t h =
    let first : place_number at.state at.input ≡ k = eqb→eq _ _ (and_left (eqb (place_number at.state at.input) k) (numbered (suc k) later) (unfold numbered in t)) in
    let other = numbered_listed ps later (suc k) (and_right (eqb (place_number at.state at.input) k) (numbered (suc k) later) (unfold numbered in t)) (omega arith) in
    ap₂ (λ (n : ℕ) (l : List Formula). get_or ps n A ∷ l) first other ∙ sym (drop-cons ps k A (omega arith))

pub all_listed : (ps : List Formula) → length ps ≡ 36 → listed (entry_in ps) places ≡ ps
all_listed ps h = numbered_listed ps places 0 places_numbered (sym h)

-- ---- the lines
-- those of the places, with the words of a table's entries
unfoldable pub lines_for : (State → Input → Formula) → List Place → List ℕ
lines_for f [] = []
lines_for f (at ∷ later) = line_of at (word (f at.state at.input)) (lines_for f later)

-- such lines are loaded
lines_loaded : (f : State → Input → Formula) → ((at : Place) → Stands at (f at.state at.input)) → (qs : List Place) (n : ℕ) → load_from qs n (lines_for f qs) ≡ loaded (listed f qs)
lines_loaded f h [] n = unfold lines_for load_from in refl
lines_loaded f h (at ∷ later) n =
    let p = f at.state at.input in
    let written : lines_for f (at ∷ later) ≡ line_of at (word p) (lines_for f later) = (unfold lines_for in refl) in
    ap (load_from (at ∷ later) n) written ∙ load_line at later n (formula_word p (h at).short) (lines_for f later)
    ∙ rw (entry_of_word at.state at.input p (h at).stands, lines_loaded f h later (n + 1))

pub text_loaded : (f : State → Input → Formula) → ((at : Place) → Stands at (f at.state at.input)) → loading (lines_for f places) ≡ loaded (listed f places)
unfolding loading
text_loaded f h = lines_loaded f h places 1

-- and what is loaded is such lines
pub record Lines (qs : List Place) (ps : List Formula) (bytes : List ℕ) : Type 0 where
  pub entries : Entries qs ps
  pub text : (f : State → Input → Formula) → listed f qs ≡ ps → bytes ≡ lines_for f qs

-- what is loaded of an entry and the others
onto_loaded : (p : Formula) (r : Loaded) (ps : List Formula) → onto p r ≡ loaded ps → (qs : List Formula) × (r ≡ loaded qs) × (p ∷ qs ≡ ps)
onto_loaded p (loaded qs) ps e = (qs, refl, cc)
onto_loaded p (refused number line) ps e = absurd (let z : ◌≡◌ {A = ℕ} 0 1 = cc in omega arith)

onto_refused : (p : Formula) (r : Loaded) (number line : ℕ) → onto p r ≡ refused number line → r ≡ refused number line
onto_refused p (loaded qs) number line e = absurd (let z : ◌≡◌ {A = ℕ} 0 1 = cc in omega arith)
onto_refused p (refused m l) number line e = e

one_line : (at : Place) (later : List Place) (p : Formula) (ps : List Formula) (bytes : List ℕ) → begins at bytes ≡ true → entry_for at.state at.input (word_in bytes) ≡ some p
    → Lines later ps (drop (line_bytes bytes) bytes) → Lines (at ∷ later) (p ∷ ps) bytes
one_line at later p ps bytes b k others =
    let line = line_front at bytes b in
    let entry = entry_found at.state at.input (word_in bytes) p k in
    record {
      entries = one_more (record { stands = entry.stands; short = subst (λ (w : List ℕ). length w ≤ most_signs) entry.spelled line.few_signs }) others.entries;
      text = λ f e. line.text ∙ ap₂ (line_of at) (entry.spelled ∙ ap word (let z : p ≡ f at.state at.input = cc in z)) (others.text f (let z : listed f later ≡ ps = cc in z))
          ∙ (let z : line_of at (word (f at.state at.input)) (lines_for f later) ≡ lines_for f (at ∷ later) = (unfold lines_for in refl) in z);
    }

loaded_lines : (qs : List Place) (n : ℕ) (bytes : List ℕ) (ps : List Formula) → load_from qs n bytes ≡ loaded ps → Lines qs ps bytes
loaded_lines [] n [] ps e =
    let z : loaded [] ≡ loaded ps = (unfold load_from in e) in
    let y : [] ≡ ps = cc in subst (λ (ps : List Formula). Lines [] ps []) y (record { entries = no_more; text = λ f e. unfold lines_for in refl })
loaded_lines [] n (b ∷ bytes) ps e = let y : refused 28 n ≡ loaded ps = (unfold load_from in e) in absurd (let z : ◌≡◌ {A = ℕ} 0 1 = cc in omega arith)
loaded_lines (at ∷ later) n bytes ps e =
    load_cases at later n bytes (λ r. r ≡ loaded ps → Lines (at ∷ later) ps bytes)
    (λ b e. absurd (let z : ◌≡◌ {A = ℕ} 0 1 = cc in omega arith))
    (λ b k e. absurd (let z : ◌≡◌ {A = ℕ} 0 1 = cc in omega arith))
    (λ p b k e.
    let o = onto_loaded p (load_from later (n + 1) (drop (line_bytes bytes) bytes)) ps e in
    subst (λ (ps : List Formula). Lines (at ∷ later) ps bytes) o.2 (one_line at later p o.0 bytes b k (loaded_lines later (n + 1) (drop (line_bytes bytes) bytes) o.0 o.1)))
    e

pub loading_lines : (bytes : List ℕ) (ps : List Formula) → loading bytes ≡ loaded ps → Lines places ps bytes
unfolding loading
loading_lines bytes ps e = loaded_lines places 1 bytes ps e

-- ---- the rows
rows_count : {qs : List Place} {ps : List Formula} → Entries qs ps → length (rows ps) ≡ most_signs * length qs
rows_count no_more = unfold rows in refl
rows_count (one_more {at} {p} {later} {ps} s e) =
    let z : length (rows (p ∷ ps)) ≡ length (row (word p)) + length (rows ps) = (unfold rows in length-append (row (word p)) (rows ps)) in
    omega (arith, z, row_length (word p) s.short, rows_count e)

lengths_at : (ps : List Formula) (n : ℕ) → n < length ps → get_or (lengths ps) n 0 ≡ length (word (get_or ps n A))
lengths_at [] n h = absurd (omega arith)
lengths_at (p ∷ ps) zero h = refl
lengths_at (p ∷ ps) (suc n) h = lengths_at ps n (omega arith)

rows_at : {qs : List Place} {ps : List Formula} → Entries qs ps → (n : ℕ) → n < length qs → take (length (word (get_or ps n A))) (drop (most_signs * n) (rows ps)) ≡ word (get_or ps n A)
rows_at no_more n h = absurd (omega arith)
rows_at (one_more {at} {p} {later} {ps} s e) zero h =
    unfold rows in ap (take (length (word p))) (append_assoc (word p) (replicate (most_signs - length (word p)) 0) (rows ps))
    ∙ take_at (word p) (replicate (most_signs - length (word p)) 0 ++ rows ps) (length (word p)) refl
rows_at (one_more {at} {p} {later} {ps} s e) (suc n) h =
    let q = get_or ps n A in
    let past : drop (most_signs * suc n) (rows (p ∷ ps)) ≡ drop (most_signs * n) (rows ps) =
    (unfold rows in ap (λ (k : ℕ). drop k (row (word p) ++ rows ps)) (let z : most_signs * suc n ≡ length (row (word p)) + most_signs * n = omega (arith, row_length (word p) s.short) in z)
    ∙ drop-append-add (row (word p)) (rows ps) (most_signs * n)) in
    ap (take (length (word q))) past ∙ rows_at e n (omega arith)

words_held : {ps : List Formula} → Entries places ps → WordsHeld (entry_in ps) (rows ps) (lengths ps)
words_held {ps} e = record {
  stands = λ x i. (stands_at e x i).stands;
  short = λ x i. (stands_at e x i).short;
  count = length-map ps (λ p. length (word p)) ∙ entries_count e;
  room = rows_count e;
  measured = λ x i. lengths_at ps (place_number x i) (rw (entries_count e) (place_below x i));
  spelled = λ x i. rows_at e (place_number x i) (place_below x i);
}

entries_table : (ps : List Formula) → Entries places ps → TableIs (school_table ps) (rows ps) (lengths ps)
entries_table ps e = record { by = go ps e }
  where
    go : (ps : List Formula) → Entries places ps → TableBy (school_table ps) (rows ps) (lengths ps)
    go [] e = absurd (let z = entries_count e in omega arith)
    go (p ∷ ps) e = (entry_in (p ∷ ps), refl, words_held e)

-- ---- a table by value
zeros_only : (l : List ℕ) → all_zero l ≡ true → l ≡ replicate (length l) 0
unfolding all_zero
zeros_only [] e = refl
zeros_only (x ∷ l) e = ap₂ (λ (y : ℕ) (ys : List ℕ). y ∷ ys) (eqb-true x 0 (first_true (eqb x 0) (all_zero l) e)) (zeros_only l (second_true (eqb x 0) (all_zero l) e))

only_zeros : (n : ℕ) → all_zero (replicate n 0) ≡ true
unfolding all_zero
only_zeros zero = refl
only_zeros (suc n) = only_zeros n

-- a row of a table that loading made
record RowOf (at : Place) (signs : List ℕ) (n : ℕ) (p : Formula) : Type 0 where
  entry : Stands at p
  is_row : signs ≡ row (word p)
  measured : n ≡ length (word p)

row_found : (at : Place) (signs : List ℕ) (n : ℕ) (p : Formula) → length signs ≡ most_signs → entry_of_row at signs n ≡ some p → RowOf at signs n p
row_found at signs n p size e = go (is_up_to most_signs n && all_zero (drop n signs)) refl e
  where
    go : (b : Bool) → (is_up_to most_signs n && all_zero (drop n signs)) ≡ b → cond b (entry_for at.state at.input (take n signs)) none ≡ some p → RowOf at signs n p
    go false h e = absurd (let z : ◌≡◌ {A = ℕ} 0 1 = cc in omega arith)
    go true h e =
        let few : n ≤ most_signs = leb-true n most_signs (second_true (leb 1 n) (leb n most_signs) (first_true (is_up_to most_signs n) (all_zero (drop n signs)) h)) in
        let entry = entry_found at.state at.input (take n signs) p e in
        let count : length (word p) ≡ n = sym (ap length entry.spelled) ∙ length-take-le n signs (omega arith) in
        let zeros : drop n signs ≡ replicate (most_signs - length (word p)) 0 =
        zeros_only (drop n signs) (second_true (is_up_to most_signs n) (all_zero (drop n signs)) h)
        ∙ ap (λ (k : ℕ). replicate {A = ℕ} k 0) (length-drop n signs ∙ (let z : length signs - n ≡ most_signs - length (word p) = omega arith in z)) in
        record {
          entry = record { stands = entry.stands; short = omega arith };
          is_row = sym (take-append-drop n signs) ∙ ap₂ (λ (u v : List ℕ). u ++ v) entry.spelled zeros;
          measured = sym count;
        }

row_entry : (at : Place) (p : Formula) → Stands at p → entry_of_row at (row (word p)) (length (word p)) ≡ some p
row_entry at p s =
    let w = word p in
    let zeros : List ℕ = replicate (most_signs - length w) 0 in
    let test : (is_up_to most_signs (length w) && all_zero (drop (length w) (row w))) ≡ true =
    both_true (both_true (le-leb 1 (length w) (word_positive p)) (le-leb (length w) most_signs s.short)) (ap all_zero (drop_at w zeros (length w) refl) ∙ only_zeros (most_signs - length w)) in
    ap₂ (λ (b : Bool) (v : List ℕ). cond b (entry_for at.state at.input v) none) test (take_at w zeros (length w) refl) ∙ entry_of_word at.state at.input p s.stands

before_found : (o : Option Formula) (r : Option (List Formula)) (ps : List Formula) → before o r ≡ some ps → (p : Formula) × (qs : List Formula) × (o ≡ some p) × (r ≡ some qs) × (p ∷ qs ≡ ps)
before_found none r ps e = absurd (let z : ◌≡◌ {A = ℕ} 0 1 = cc in omega arith)
before_found (some p) none ps e = absurd (let z : ◌≡◌ {A = ℕ} 0 1 = cc in omega arith)
before_found (some p) (some qs) ps e = (p, qs, refl, refl, cc)

-- the entries of which a table by value is made
pub record MadeOf (qs : List Place) (signs ns : List ℕ) (ps : List Formula) : Type 0 where
  pub entries : Entries qs ps
  pub in_rows : signs ≡ rows ps
  pub measured : ns ≡ lengths ps

one_row : (at : Place) (later : List Place) (signs : List ℕ) (n : ℕ) (ns : List ℕ) (p : Formula) (ps : List Formula) → RowOf at (take most_signs signs) n p
    → MadeOf later (drop most_signs signs) ns ps → MadeOf (at ∷ later) signs (n ∷ ns) (p ∷ ps)
one_row at later signs n ns p ps r others = record {
  entries = one_more r.entry others.entries;
  in_rows = sym (take-append-drop most_signs signs) ∙ ap₂ (λ (u v : List ℕ). u ++ v) r.is_row others.in_rows ∙ (let z : row (word p) ++ rows ps ≡ rows (p ∷ ps) = (unfold rows in refl) in z);
  measured = ap₂ (λ (k : ℕ) (l : List ℕ). k ∷ l) r.measured others.measured;
}

made_of : (qs : List Place) (signs ns : List ℕ) (ps : List Formula) → length signs ≡ most_signs * length qs → length ns ≡ length qs → entries_of qs signs ns ≡ some ps → MadeOf qs signs ns ps
made_of [] [] [] ps h k e =
    let z : some [] ≡ some ps = (unfold entries_of in e) in
    let y : [] ≡ ps = cc in subst (λ (ps : List Formula). MadeOf [] [] [] ps) y (record { entries = no_more; in_rows = unfold rows in refl; measured = refl })
made_of [] (s ∷ signs) ns ps h k e = absurd (omega arith)
made_of [] [] (n ∷ ns) ps h k e = absurd (omega arith)
made_of (at ∷ later) signs [] ps h k e = absurd (omega arith)
made_of (at ∷ later) signs (n ∷ ns) ps h k e =
    let b = before_found (entry_of_row at (take most_signs signs) n) (entries_of later (drop most_signs signs) ns) ps (unfold entries_of in e) in
    let r = row_found at (take most_signs signs) n b.0 (length-take-le most_signs signs (omega arith)) b.2 in
    let others = made_of later (drop most_signs signs) ns b.1 (simp length-drop (omega arith)) (omega arith) b.3 in
    subst (λ (ps : List Formula). MadeOf (at ∷ later) signs (n ∷ ns) ps) b.4 (one_row at later signs n ns b.0 b.1 r others)

entries_made : {qs : List Place} {ps : List Formula} → Entries qs ps → entries_of qs (rows ps) (lengths ps) ≡ some ps
entries_made no_more = unfold entries_of in refl
entries_made (one_more {at} {p} {later} {ps} s e) =
    let first : take most_signs (rows (p ∷ ps)) ≡ row (word p) = (unfold rows in take_at (row (word p)) (rows ps) most_signs (row_length (word p) s.short)) in
    let rest : drop most_signs (rows (p ∷ ps)) ≡ rows ps = (unfold rows in drop_at (row (word p)) (rows ps) most_signs (row_length (word p) s.short)) in
    let turn : entries_of (at ∷ later) (rows (p ∷ ps)) (lengths (p ∷ ps))
    ≡ before (entry_of_row at (take most_signs (rows (p ∷ ps))) (length (word p))) (entries_of later (drop most_signs (rows (p ∷ ps))) (lengths ps)) = (unfold entries_of in refl) in
    turn
    ∙ ap₂ before (ap (λ (l : List ℕ). entry_of_row at l (length (word p))) first ∙ row_entry at p s) (ap (λ (l : List ℕ). entries_of later l (lengths ps)) rest ∙ entries_made e)

pub unpacked_made : (t : LoadedTable) (ps : List Formula) → length t.signs ≡ 1116 → length t.lengths ≡ 36 → unpacked t ≡ some ps → MadeOf places t.signs t.lengths ps
unpacked_made t ps h k e = made_of places t.signs t.lengths ps h k e

pub unpacked_packed : {ps : List Formula} → Entries places ps → unpacked (packed ps) ≡ some ps
unpacked_packed e = entries_made e

-- ---- for the crates above
module _ (bytes : List ℕ) (ps : List Formula) (e : loading bytes ≡ loaded ps) where
  pub loaded_table : TableIs (school_table ps) (rows ps) (lengths ps)
  loaded_table = entries_table ps (loading_lines bytes ps e).entries

  pub loaded_right : Right (school_table ps)
  loaded_right = school_right (entry_in ps) (λ x i. (stands_at (loading_lines bytes ps e).entries x i).stands)

  pub loaded_unpacked : unpacked (packed ps) ≡ some ps
  loaded_unpacked = unpacked_packed (loading_lines bytes ps e).entries

module _ (t : LoadedTable) (ps : List Formula) (signs-count : length t.signs ≡ 1116) (lengths-count : length t.lengths ≡ 36) (e : unpacked t ≡ some ps) where
  pub unpacked_table : TableIs (school_table ps) t.signs t.lengths
  unpacked_table =
      let made = unpacked_made t ps signs-count lengths-count e in
      rw (made.in_rows, made.measured) (entries_table ps made.entries)

-- ---- the faults
pub record Fault (number line : ℕ) (first last : ℕ) : Type 0 where
  pub least : 28 ≤ number
  pub most : number ≤ 29
  pub from : first ≤ line
  pub to : line ≤ last

fault_at : (k n first last number line : ℕ) → refused k n ≡ refused number line → (28 ≤ k) × (k ≤ 29) → (first ≤ n) × (n ≤ last) → Fault number line first last
fault_at k n first last number line e h l =
    let x : k ≡ number = cc in
    let y : n ≡ line = cc in
    record { least = omega (arith, x, h); most = omega (arith, x, h); from = omega (arith, y, l); to = omega (arith, y, l) }

refused_from : (qs : List Place) (n : ℕ) (bytes : List ℕ) (number line : ℕ) → load_from qs n bytes ≡ refused number line → Fault number line n (n + length qs)
refused_from [] n [] number line e = let y : loaded [] ≡ refused number line = (unfold load_from in e) in absurd (let z : ◌≡◌ {A = ℕ} 0 1 = cc in omega arith)
refused_from [] n (b ∷ bytes) number line e = fault_at 28 n n (n + 0) number line (unfold load_from in e) (omega arith) (omega arith)
refused_from (at ∷ later) n bytes number line e =
    load_cases at later n bytes (λ r. r ≡ refused number line → Fault number line n (n + suc (length later)))
    (λ b e. fault_at 28 n n (n + suc (length later)) number line e (omega arith) (omega arith))
    (λ b k e. fault_at 29 n n (n + suc (length later)) number line e (omega arith) (omega arith))
    (λ p b k e.
    let f = refused_from later (n + 1) (drop (line_bytes bytes) bytes) number line (onto_refused p (load_from later (n + 1) (drop (line_bytes bytes) bytes)) number line e) in
    record { least = f.least; most = f.most; from = omega (arith, f.from); to = omega (arith, f.to) })
    e

pub refused_fault : (bytes : List ℕ) (number line : ℕ) → loading bytes ≡ refused number line → Fault number line 1 37
unfolding loading
refused_fault bytes number line e = refused_from places 1 bytes number line e

-- ---- what the code's answers say
pub table_loaded : (bytes : List ℕ) (t : LoadedTable) → load_says (Ok t) ≡ loading_says (loading bytes) → (ps : List Formula) × (loading bytes ≡ loaded ps) × (t ≡ packed ps)
table_loaded bytes t e = go (loading bytes) refl e
  where
    go : (l : Loaded) → loading bytes ≡ l → load_says (Ok t) ≡ loading_says l → (ps : List Formula) × (loading bytes ≡ loaded ps) × (t ≡ packed ps)
    go (loaded ps) f e = (ps, f, cc)
    go (refused number line) f e = absurd (let z : ◌≡◌ {A = ℕ} 0 1 = cc in omega arith)

pub table_refused : (bytes : List ℕ) (r : Refusal) → load_says (Err r) ≡ loading_says (loading bytes) → loading bytes ≡ refused (fault_number r.fault) r.line
table_refused bytes r e = go (loading bytes) refl e
  where
    go : (l : Loaded) → loading bytes ≡ l → load_says (Err r) ≡ loading_says l → loading bytes ≡ refused (fault_number r.fault) r.line
    go (loaded ps) f e = absurd (let z : ◌≡◌ {A = ℕ} 0 1 = cc in omega arith)
    go (refused number line) f e =
        let p : (fault_number r.fault, r.line) ≡ (number, line) = cc in
        f ∙ ap (λ (q : ℕ × ℕ). refused q.0 q.1) (sym p)

pub has_entries : (o : Option (List Formula)) → is_table o ≡ true → (ps : List Formula) × (o ≡ some ps)
has_entries (some ps) e = (ps, refl)
has_entries none e = absurd (false≢true e)
