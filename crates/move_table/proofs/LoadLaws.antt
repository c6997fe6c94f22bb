-- Loading line by line: what one line adds, where loading stops, and the table so far.
use mathlib.Core.Path.{◌≡◌, refl, sym, ap, ap₂, subst, ◌∙◌}
use mathlib.Core.Bool.{Bool, true, false, cond, false≢true}
use mathlib.Core.Option.{Option, some, none}
use mathlib.Core.List.{List, [], ◌∷◌, ◌++◌, append_assoc, append-nil, map-append}
use Prim.Native.Nat.{ℕ, suc, ◌+◌, ◌-◌, ◌*◌, ◌≤◌, ◌<◌}
use native.Mathlib.Omega.{arith}
use lib.Dec.{T}
use lib.ListN.{length, get_or, set, take, drop, replicate, length-append, length-drop, length-map, length-replicate, replicate-append-replicate, drop_of_length-le}
use lib.Seq.{sets, sets-eq, take_at, drop_at, drop-drop, drop-append-add, set_at}
use Rattle.std.specs.Prelude.{Some, None, Ok}
use Rattle.text.proofs.PartsLaws.{rest_all}
use Rattle.tree.specs.InnerWriting.{Wrote}
use Rattle.tree.proofs.PassLaws.{here}
use Rattle.words.specs.Formula.{Formula}
use Rattle.words.specs.Word.{word, most_signs, formula_of}
use Rattle.words.proofs.ReadLaws.{formula_of_word, word_of_formula}
use Rattle.moves.specs.Moves.{State, Input}
use Rattle.moves.specs.LeftSides.{stands_for, if_stands, entry_for}
use Rattle.left_sides.specs.InnerStands.{is_formula, StandsIs}
use Rattle.move_table.specs.Loading.{Place, front_bytes, word_in, line_bytes, begins, Loaded, loaded, refused, onto, with_entry, load_from, loading}
use Rattle.move_table.specs.Packing.{row, rows, lengths, loading_says}
use Rattle.move_table.specs.InnerLoading.{place_at, line_signs}
use Rattle.move_table.proofs.LineLaws.{remaining, remaining_more, remaining_none, line_of, IsWord, line_word, line_rest, line_begins, Counted, line_counted, not_counted, place_number_lem, word_part}

-- ---- an entry
pub record Entry (x : State) (i : Input) (w : List ℕ) (p : Formula) : Type 0 where
  pub spelled : w ≡ word p
  pub stands : T (stands_for x i p)

pub entry_found : (x : State) (i : Input) (w : List ℕ) (p : Formula) → entry_for x i w ≡ some p → Entry x i w p
entry_found x i w p e = go (formula_of w) refl e
  where
    given : (q : Formula) (b : Bool) → stands_for x i q ≡ b → cond b (some q) none ≡ some p → (q ≡ p) × T (stands_for x i q)
    given q true f e = (cc, subst T (sym f) tt)
    given q false f e = absurd (let z : ◌≡◌ {A = ℕ} 0 1 = cc in omega arith)

    go : (o : Option Formula) → formula_of w ≡ o → if_stands x i o ≡ some p → Entry x i w p
    go none f e = absurd (let z : ◌≡◌ {A = ℕ} 0 1 = cc in omega arith)
    go (some q) f e =
        let k = given q (stands_for x i q) refl e in
        record { spelled = word_of_formula w p (f ∙ ap some k.0); stands = subst (λ (q : Formula). T (stands_for x i q)) k.0 k.1 }

pub entry_of_word : (x : State) (i : Input) (p : Formula) → T (stands_for x i p) → entry_for x i (word p) ≡ some p
entry_of_word x i p t = ap (if_stands x i) (formula_of_word p) ∙ go (stands_for x i p) t
  where
    go : (b : Bool) → T b → cond b (some p) none ≡ some p
    go true t = refl
    go false t = absurd t

pub is_entry : (o : Option Formula) → is_formula o ≡ true → (p : Formula) × (o ≡ some p)
is_entry (some p) e = (p, refl)
is_entry none e = absurd (false≢true e)

pub no_entry : (o : Option Formula) → is_formula o ≡ false → o ≡ none
no_entry (some p) e = absurd (false≢true (sym e))
no_entry none e = refl

-- ---- one line
module _ (at : Place) (later : List Place) (n : ℕ) (bytes : List ℕ) where
  pub load_no_line : begins at bytes ≡ false → load_from (at ∷ later) n bytes ≡ refused 28 n
  unfolding load_from
  load_no_line e = rw e

  pub load_no_entry : begins at bytes ≡ true → entry_for at.state at.input (word_in bytes) ≡ none → load_from (at ∷ later) n bytes ≡ refused 29 n
  unfolding load_from
  load_no_entry e f = rw e (rw f)

  pub load_entry : (p : Formula) → begins at bytes ≡ true → entry_for at.state at.input (word_in bytes) ≡ some p
      → load_from (at ∷ later) n bytes ≡ onto p (load_from later (n + 1) (drop (line_bytes bytes) bytes))
  unfolding load_from
  load_entry p e f = rw e (rw f)

  -- what holds in each of these cases holds
  pub load_cases : (P : Loaded → Type 0) → (begins at bytes ≡ false → P (refused 28 n))
      → (begins at bytes ≡ true → entry_for at.state at.input (word_in bytes) ≡ none → P (refused 29 n))
      → ((p : Formula) → begins at bytes ≡ true → entry_for at.state at.input (word_in bytes) ≡ some p → P (onto p (load_from later (n + 1) (drop (line_bytes bytes) bytes))))
      → P (load_from (at ∷ later) n bytes)
  load_cases P f g h = by (begins at bytes) refl (entry_for at.state at.input (word_in bytes)) refl
    where
      by : (b : Bool) → begins at bytes ≡ b → (o : Option Formula) → entry_for at.state at.input (word_in bytes) ≡ o → P (load_from (at ∷ later) n bytes)
      by false e o k = subst P (sym (load_no_line e)) (f e)
      by true e none k = subst P (sym (load_no_entry e k)) (g e k)
      by true e (some p) k = subst P (sym (load_entry p e k)) (h p e k)

-- a line that is written
pub load_line : (at : Place) (later : List Place) (n : ℕ) {w : List ℕ} → IsWord w → (rest : List ℕ)
    → load_from (at ∷ later) n (line_of at w rest) ≡ with_entry n (entry_for at.state at.input w) (load_from later (n + 1) rest)
unfolding load_from
load_line at later n W rest =
    rw (line_begins at W rest) (ap₂ (λ (v l : List ℕ). with_entry n (entry_for at.state at.input v) (load_from later (n + 1) l)) (line_word at W rest) (line_rest at W rest))

-- ---- no line more
load_past : (n b : ℕ) (bytes : List ℕ) → load_from [] n (b ∷ bytes) ≡ refused 28 n
unfolding load_from
load_past n b bytes = refl

load_done : (n : ℕ) → load_from [] n [] ≡ loaded []
unfolding load_from
load_done n = refl

-- ---- the lines so far
-- their entries before those of the later lines
unfoldable pub onto_all : List Formula → Loaded → Loaded
onto_all [] r = r
onto_all (p ∷ ps) r = onto p (onto_all ps r)

onto_all_more : (ps : List Formula) (p : Formula) (r : Loaded) → onto_all (ps ++ (p ∷ [])) r ≡ onto_all ps (onto p r)
unfolding onto_all
onto_all_more [] p r = refl
onto_all_more (q ∷ ps) p r = ap (onto q) (onto_all_more ps p r)

onto_all_refused : (ps : List Formula) (number line : ℕ) → onto_all ps (refused number line) ≡ refused number line
unfolding onto_all
onto_all_refused [] number line = refl
onto_all_refused (q ∷ ps) number line = ap (onto q) (onto_all_refused ps number line)

onto_all_loaded : (ps : List Formula) → onto_all ps (loaded []) ≡ loaded ps
unfolding onto_all
onto_all_loaded [] = refl
onto_all_loaded (q ∷ ps) = ap (onto q) (onto_all_loaded ps)

-- a row more
rows_more : (ps : List Formula) (p : Formula) → rows (ps ++ (p ∷ [])) ≡ rows ps ++ row (word p)
unfolding rows
rows_more [] p = append-nil (row (word p))
rows_more (q ∷ ps) p = ap (λ (l : List ℕ). row (word q) ++ l) (rows_more ps p) ∙ sym (append_assoc (row (word q)) (rows ps) (row (word p)))

pub row_length : (w : List ℕ) → length w ≤ most_signs → length (row w) ≡ most_signs
row_length w h = length-append w (replicate (most_signs - length w) 0) ∙ (let z = length-replicate {A = ℕ} (most_signs - length w) 0 in let y : length w + length (replicate (most_signs - length w) 0) ≡ most_signs = omega arith in y)

-- zeros after n of them
drop_zeros : (n k : ℕ) → n ≤ k → drop {A = ℕ} n (replicate k 0) ≡ replicate (k - n) 0
drop_zeros n k h =
    ap (λ (m : ℕ). drop {A = ℕ} n (replicate m 0)) (let z : k ≡ n + (k - n) = omega arith in z) ∙ ap (λ (l : List ℕ). drop n l) (sym (replicate-append-replicate n (k - n) 0))
    ∙ drop_at (replicate n 0) (replicate (k - n) 0) n (length-replicate n 0)

-- a word stored in its row, and its length
row_stored : (l w : List ℕ) (place : ℕ) → length l ≡ most_signs * place → length w ≤ most_signs → place < 36
    → sets (l ++ replicate (1116 - most_signs * place) 0) (most_signs * place) w ≡ (l ++ row w) ++ replicate (1116 - most_signs * (place + 1)) 0
row_stored l w place e h k =
    let zeros : List ℕ = replicate (1116 - most_signs * place) 0 in
    let later : List ℕ = replicate (1116 - most_signs * (place + 1)) 0 in
    let size = length-replicate {A = ℕ} (1116 - most_signs * place) 0 in
    let rest : drop (most_signs * place + length w) (l ++ zeros) ≡ replicate (most_signs - length w) 0 ++ later =
    ap (λ (n : ℕ). drop (n + length w) (l ++ zeros)) (sym e) ∙ drop-append-add l zeros (length w) ∙ drop_zeros (length w) (1116 - most_signs * place) (omega arith)
    ∙ ap (λ (n : ℕ). replicate {A = ℕ} n 0) (let z : 1116 - most_signs * place - length w ≡ (most_signs - length w) + (1116 - most_signs * (place + 1)) = omega arith in z)
    ∙ sym (replicate-append-replicate (most_signs - length w) (1116 - most_signs * (place + 1)) 0) in
    sets-eq w (l ++ zeros) (most_signs * place) (omega (arith, length-append l zeros))
    ∙ ap₂ (λ (u v : List ℕ). (u ++ w) ++ v) (take_at l zeros (most_signs * place) e) rest
    ∙ simp append_assoc

length_stored : (l : List ℕ) (n place : ℕ) → length l ≡ place → place < 36 → set (l ++ replicate (36 - place) 0) place n ≡ (l ++ (n ∷ [])) ++ replicate (36 - (place + 1)) 0
length_stored l n place e h =
    ap (λ (k : ℕ). set (l ++ replicate k 0) place n) (let z : 36 - place ≡ suc (36 - (place + 1)) = omega arith in z)
    ∙ set_at l 0 (replicate (36 - (place + 1)) 0) n place e ∙ sym (append_assoc l (n ∷ []) (replicate (36 - (place + 1)) 0))

-- the table so far: the entries of the lines before, in their rows
pub record Loads (bytes : List ℕ) (place at : ℕ) (signs ns : List ℕ) : Type 0 where
  pub entries : List Formula
  pub count : length entries ≡ place
  pub inside : at ≤ length bytes
  pub says : loading bytes ≡ onto_all entries (load_from (remaining place) (place + 1) (drop at bytes))
  pub filled : length (rows entries) ≡ most_signs * place
  pub in_rows : signs ≡ rows entries ++ replicate (1116 - most_signs * place) 0
  pub measured : ns ≡ lengths entries ++ replicate (36 - place) 0

pub nothing_loaded : (bytes signs ns : List ℕ) → signs ≡ replicate 1116 0 → ns ≡ replicate 36 0 → Loads bytes 0 0 signs ns
unfolding loading remaining onto_all rows
nothing_loaded bytes signs ns e f = record { entries = []; count = refl; inside = omega arith; says = refl; filled = refl; in_rows = e; measured = f }

-- ---- one line more
-- the bytes from an index on, as the code takes them
abbrev pub rest_of : List ℕ → ℕ → List ℕ
rest_of bytes at = take (length bytes - at) (drop at bytes)

-- a line of good form is whole
pub line_room : (bytes : List ℕ) (place at n : ℕ) → Some n ≡ line_signs (place_at place) (rest_of bytes at) → front_bytes + n ≤ length (rest_of bytes at)
line_room bytes place at n e = let line = line_counted (place_at place) (rest_of bytes at) n (sym e) in omega (arith, line.room)

module _ (bytes : List ℕ) (place at : ℕ) (signs ns : List ℕ) (L : Loads bytes place at signs ns) where
  here_loads : (h : place < 36) → loading bytes ≡ onto_all L.entries (load_from (place_at place ∷ remaining (place + 1)) (place + 1) (drop at bytes))
  here_loads h = L.says ∙ ap (λ (l : List Place). onto_all L.entries (load_from l (place + 1) (drop at bytes))) (remaining_more place h)

  stops : (number : ℕ) (h : place < 36) → load_from (place_at place ∷ remaining (place + 1)) (place + 1) (drop at bytes) ≡ refused number (place + 1) → loading bytes ≡ refused number (place + 1)
  stops number h e = here_loads h ∙ ap (onto_all L.entries) e ∙ onto_all_refused L.entries number (place + 1)

  pub stops_at_line : place < 36 → line_signs (place_at place) (rest_of bytes at) ≡ None → loading bytes ≡ refused 28 (place + 1)
  stops_at_line h e = stops 28 h (load_no_line (place_at place) (remaining (place + 1)) (place + 1) (drop at bytes) (not_counted (place_at place) (drop at bytes) (ap (line_signs (place_at place)) (sym (rest_all at bytes)) ∙ e)))

  -- where the line is of good form
  module _ (h : place < 36) (n : ℕ) (e : Some n ≡ line_signs (place_at place) (rest_of bytes at)) (w : List ℕ) (part : w ≡ take (front_bytes + n - front_bytes) (drop front_bytes (rest_of bytes at)))
      (fits : Bool) (told : StandsIs w place fits) where
    line : Counted (place_at place) (drop at bytes) n
    line = line_counted (place_at place) (drop at bytes) n (sym (e ∙ ap (line_signs (place_at place)) (rest_all at bytes)))

    its_part : w ≡ word_in (drop at bytes)
    its_part = part ∙ word_part at n bytes ∙ line.its_word

    its_entry : fits ≡ is_formula (entry_for (place_at place).state (place_at place).input (word_in (drop at bytes)))
    its_entry = told (place_at place).state (place_at place).input (sym (place_number_lem place h)) ∙ ap (λ (w : List ℕ). is_formula (entry_for (place_at place).state (place_at place).input w)) its_part

    pub stops_at_word : fits ≡ false → loading bytes ≡ refused 29 (place + 1)
    stops_at_word f =
        stops 29 h (load_no_entry (place_at place) (remaining (place + 1)) (place + 1) (drop at bytes) line.is_line
        (no_entry (entry_for (place_at place).state (place_at place).input (word_in (drop at bytes))) (sym its_entry ∙ f)))

    pub loads_more : fits ≡ true → (signs' ns' : List ℕ) (next : ℕ) → Wrote signs (most_signs * place) signs' next w → ns' ≡ set ns place n → Loads bytes (place + 1) (at + (front_bytes + n + 1)) signs' ns'
    loads_more f signs' ns' next W g =
        let rest = drop at bytes in
        let found = is_entry (entry_for (place_at place).state (place_at place).input (word_in rest)) (sym its_entry ∙ f) in
        let p = found.0 in
        let ps = L.entries in
        let E = entry_found (place_at place).state (place_at place).input (word_in rest) p found.1 in
        let spelled : w ≡ word p = its_part ∙ E.spelled in
        let size : n ≡ length (word p) = line.counted ∙ ap length E.spelled in
        let short : length (word p) ≤ most_signs = omega (arith, line.few) in
        record {
          entries = ps ++ (p ∷ []);
          count = omega (arith, length-append ps (p ∷ []), L.count);
          inside = omega (arith, line.room, L.inside, length-drop at bytes);
          says = here_loads h
              ∙ ap (onto_all ps) (load_entry (place_at place) (remaining (place + 1)) (place + 1) rest p line.is_line found.1
              ∙ ap (λ (l : List ℕ). onto p (load_from (remaining (place + 1)) (place + 1 + 1) l)) (drop-drop (line_bytes rest) at bytes ∙ ap (λ (k : ℕ). drop (at + (front_bytes + k + 1)) bytes) (sym line.counted)))
              ∙ sym (onto_all_more ps p (load_from (remaining (place + 1)) (place + 1 + 1) (drop (at + (front_bytes + n + 1)) bytes)));
          filled = ap length (rows_more ps p) ∙ (let z = length-append (rows ps) (row (word p)) in let y = row_length (word p) short in let f = L.filled in let x : length (rows ps ++ row (word p)) ≡ most_signs * (place + 1) = omega arith in x);
          in_rows = W.list ∙ ap₂ (λ (l v : List ℕ). sets l (most_signs * place) v) L.in_rows spelled ∙ row_stored (rows ps) (word p) place L.filled short h
              ∙ ap (λ (l : List ℕ). l ++ replicate (1116 - most_signs * (place + 1)) 0) (sym (rows_more ps p));
          measured = g ∙ ap₂ (λ (l : List ℕ) (k : ℕ). set l place k) L.measured size ∙ length_stored (lengths ps) (length (word p)) place (length-map ps (λ p. length (word p)) ∙ L.count) h
              ∙ ap (λ (l : List ℕ). l ++ replicate (36 - (place + 1)) 0) (sym (map-append (λ (p : Formula). length (word p)) ps (p ∷ [])));
        }

  -- ---- past the last line
  module _ (h : place ≡ 36) where
    past_loads : loading bytes ≡ onto_all L.entries (load_from [] (place + 1) (drop at bytes))
    past_loads = L.says ∙ ap (λ (l : List Place). onto_all L.entries (load_from l (place + 1) (drop at bytes))) (remaining_none place h)

    pub stops_past : at < length bytes → loading bytes ≡ refused 28 37
    stops_past k = past_loads ∙ ap (onto_all L.entries) (ap (load_from [] (place + 1)) (here bytes at k) ∙ load_past (place + 1) (get_or bytes at 0) (drop (at + 1) bytes)) ∙ onto_all_refused L.entries 28 (place + 1) ∙ ap (refused 28) (let z : place + 1 ≡ 37 = omega arith in z)

    pub all_loaded : length bytes ≤ at → Ok (record { signs = signs; lengths = ns }) ≡ loading_says (loading bytes)
    all_loaded k =
        let e : loading bytes ≡ loaded L.entries =
        past_loads ∙ ap (onto_all L.entries) (ap (load_from [] (place + 1)) (drop_of_length-le bytes k) ∙ load_done (place + 1)) ∙ onto_all_loaded L.entries in
        ap₂ (λ (l m : List ℕ). Ok (record { signs = l; lengths = m }))
        (L.in_rows ∙ ap (λ (k : ℕ). rows L.entries ++ replicate (1116 - most_signs * k) 0) h ∙ append-nil (rows L.entries))
        (L.measured ∙ ap (λ (k : ℕ). lengths L.entries ++ replicate (36 - k) 0) h ∙ append-nil (lengths L.entries))
        ∙ sym (ap loading_says e)
