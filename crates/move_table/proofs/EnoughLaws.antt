-- The first 1,297 bytes of a table decide what loading comes to: a line has at most 36 bytes, and one byte more is a 37th line.
use mathlib.Core.Path.{◌≡◌, refl, sym, ap, ◌∙◌}
use mathlib.Core.Bool.{Bool, true, false, false≢true}
use mathlib.Core.List.{List, [], ◌∷◌, ◌++◌, append_assoc}
use Prim.Native.Nat.{ℕ, zero, suc, ◌+◌, ◌-◌, ◌*◌, ◌≤◌}
use native.Mathlib.Omega.{arith}
use lib.ListN.{length, take, drop, length-append, take-append-drop}
use lib.Seq.{take-append-add}
use Rattle.text.specs.Line.{line_feed}
use Rattle.moves.specs.LeftSides.{entry_for}
use Rattle.move_table.specs.Loading.{Place, places, front, front_bytes, word_in, line_bytes, begins, with_entry, load_from, loading}
use Rattle.move_table.proofs.LineLaws.{line_of, line_front, line_is_word, line_begins}
use Rattle.move_table.proofs.LoadLaws.{load_line, load_no_line}

-- a line of good form, with fewer bytes after it
line_take : (at : Place) (w rest : List ℕ) (k : ℕ) → front_bytes + length w + 1 ≤ k → take k (line_of at w rest) ≡ line_of at w (take (k - (front_bytes + length w + 1)) rest)
line_take at w rest k h =
    let before = front at ++ (w ++ (line_feed ∷ [])) in
    let m = k - (front_bytes + length w + 1) in
    let e : (tail : List ℕ) → before ++ tail ≡ line_of at w tail = λ tail. simp append_assoc in
    let n : length before ≡ front_bytes + length w + 1 = simp length-append (omega arith) in
    let z : k ≡ length before + m = omega arith in
    ap (take k) (sym (e rest)) ∙ ap (λ (i : ℕ). take i (before ++ rest)) z ∙ take-append-add before rest m ∙ e (take m rest)

-- or with more: what begins with a line of good form does so with more bytes after it
begins_more : (at : Place) (bytes more : List ℕ) → begins at bytes ≡ true → begins at (bytes ++ more) ≡ true
begins_more at bytes more e =
    let L = line_front at bytes e in
    let rest = drop (line_bytes bytes) bytes in
    let t : bytes ++ more ≡ line_of at (word_in bytes) (rest ++ more) = ap (λ (l : List ℕ). l ++ more) L.text ∙ (let z : line_of at (word_in bytes) rest ++ more ≡ line_of at (word_in bytes) (rest ++ more) = simp append_assoc in z) in
    ap (begins at) t ∙ line_begins at (line_is_word L) (rest ++ more)

enough_from : (qs : List Place) (n k : ℕ) (bytes : List ℕ) → 36 * length qs + 1 ≤ k → load_from qs n (take k bytes) ≡ load_from qs n bytes
enough_from [] n zero bytes h = absurd (omega arith)
enough_from [] n (suc k) [] h = refl
enough_from [] n (suc k) (b ∷ bytes) h = unfold load_from in refl
enough_from (at ∷ later) n k bytes h = go (λ m rest h. enough_from later (n + 1) m rest h) (begins at bytes) refl
  where
    go : ((m : ℕ) (rest : List ℕ) → 36 * length later + 1 ≤ m → load_from later (n + 1) (take m rest) ≡ load_from later (n + 1) rest) → (b : Bool) → begins at bytes ≡ b → load_from (at ∷ later) n (take k bytes) ≡ load_from (at ∷ later) n bytes
    go f true e =
        let L = line_front at bytes e in
        let W = line_is_word L in
        let w = word_in bytes in
        let rest = drop (line_bytes bytes) bytes in
        let m = k - (front_bytes + length w + 1) in
        ap (λ (l : List ℕ). load_from (at ∷ later) n (take k l)) L.text
        ∙ ap (load_from (at ∷ later) n) (line_take at w rest k (omega (arith, L.few_signs)))
        ∙ load_line at later n W (take m rest)
        ∙ ap (with_entry n (entry_for at.state at.input w)) (f m rest (omega (arith, L.few_signs)))
        ∙ sym (ap (load_from (at ∷ later) n) L.text ∙ load_line at later n W rest)
    go f false e = load_no_line at later n (take k bytes) (shorter (begins at (take k bytes)) refl) ∙ sym (load_no_line at later n bytes e)
      where
        shorter : (b : Bool) → begins at (take k bytes) ≡ b → begins at (take k bytes) ≡ false
        shorter false f = f
        shorter true f = absurd (false≢true (sym (ap (begins at) (take-append-drop k bytes) ∙ e) ∙ begins_more at (take k bytes) (drop k bytes) f))

-- so a program need not read more of a file
pub enough_bytes : (bytes : List ℕ) → loading (take 1297 bytes) ≡ loading bytes
unfolding loading
enough_bytes bytes = enough_from places 1 1297 bytes (omega arith)
