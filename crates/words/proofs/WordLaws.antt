-- Laws of words: what each sign stands for, one sign more, the signs before A, and that a formula's word stands for the formula's list.
use mathlib.Core.Path.{◌≡◌, refl, sym, ap, subst, ◌∙◌}
use mathlib.Core.Bool.{Bool, true, false, not, cond, ◌&&◌, ◌||◌, true≢false}
use mathlib.Core.List.{List, [], ◌∷◌, ◌++◌, append_assoc, append-nil}
use Prim.Native.Nat.{ℕ, zero, suc, ◌+◌, ◌-◌, ◌≤◌, ◌<◌}
use native.Mathlib.Omega.{arith}
use native.Mathlib.Numerals.{add-one}
use borrow.Author.Tests.{leb-true, ne_eqb, eq-eqb}
use lib.Dec.{T, leb}
use lib.ListN.{length, get_or, take, drop, replicate, length-append, length-take, length-drop, take-append-drop, drop_of_length-le}
use lib.Seq.{take-suc}
use Rattle.tree.specs.Tree.{Basic, plus, minus, operator_of, Tree, node, sign, postfix}
use Rattle.tree.specs.declared.Stretch.{Stretch}
use Rattle.tree.specs.Context.{left, right, Frame, frame, before}
use Rattle.tree.proofs.TreeLaws.{and_left}
use Rattle.tree.proofs.PassLaws.{here}
use Rattle.std.specs.Prelude.{Some, None}
use Rattle.words.specs.Formula.{Formula, A, B, C, D, join, names_a, value, frames_of, once}
use Rattle.words.specs.Word.{operator_sign, word}
use Rattle.words.specs.InnerWords.{first_part, last_part, blank, cut, Range, part_at, part_of, operator_number, sign_for, spell, leading}
use Rattle.words.proofs.Cases.{second_true}
use Rattle.words.proofs.FormulaLaws.{without_a}

-- ---- one sign
module _ (l : List ℕ) (parts : List Stretch) (s : ℕ) where
  pub sign_part : (p : ℕ) → part_of s ≡ Some p → sign_for l parts s ≡ cut l (part_at parts p)
  unfolding sign_for
  sign_part p e = rw e

  pub sign_operator : (x : ℕ) → part_of s ≡ None → operator_number s ≡ Some x → sign_for l parts s ≡ x ∷ []
  unfolding sign_for
  sign_operator x e f = rw (e, f)

  pub sign_nothing : part_of s ≡ None → operator_number s ≡ None → sign_for l parts s ≡ []
  unfolding sign_for
  sign_nothing e f = rw (e, f)

  -- a formula's operator
  pub operator_entry : (o : Basic) → s ≡ operator_sign o → sign_for l parts s ≡ sign (operator_of o) ∷ []
  unfolding sign_for
  operator_entry plus h = rw h
  operator_entry minus h = rw h

-- the parts are the first four
pub part_number : (s p : ℕ) → part_of s ≡ Some p → p < 4
part_number s p e = go (leb first_part s && leb s last_part) refl e
  where
    go : (b : Bool) → (leb first_part s && leb s last_part) ≡ b → cond b (Some (s - first_part)) None ≡ Some p → p < 4
    go true h e =
        let q : s - 65 ≡ p = cc in
        omega (arith, leb-true s 68 (second_true (leb 65 s) (leb s 68) h), q)
    go false h e = absurd cc

pub cut_length : (l : List ℕ) (s : Stretch) → Range l s → length (cut l s) ≡ s.to - s.from
cut_length l s r = simp (length-take, length-drop) (omega (arith, r.low, r.high))

-- ---- a word
module _ (l : List ℕ) (parts : List Stretch) where
  pub spell_append : (v w : List ℕ) → spell l parts (v ++ w) ≡ spell l parts v ++ spell l parts w
  unfolding spell
  spell_append [] w = refl
  spell_append (s ∷ v) w = ap (λ (x : List ℕ). sign_for l parts s ++ x) (spell_append v w) ∙ sym (append_assoc (sign_for l parts s) (spell l parts v) (spell l parts w))

  spell_one : (s : ℕ) → spell l parts (s ∷ []) ≡ sign_for l parts s
  unfolding spell
  spell_one s = append-nil (sign_for l parts s)

  pub spell_blanks : (n : ℕ) → spell l parts (replicate n blank) ≡ []
  unfolding spell sign_for
  spell_blanks zero = refl
  spell_blanks (suc n) = spell_blanks n

  -- one sign more
  pub spell_more : (w : List ℕ) (i : ℕ) → i < length w → spell l parts (take (i + 1) w) ≡ spell l parts (take i w) ++ sign_for l parts (get_or w i 0)
  spell_more w i h =
      ap (λ (k : ℕ). spell l parts (take k w)) (add-one i) ∙ ap (spell l parts) (take-suc w i 0 h) ∙ spell_append (take i w) (get_or w i 0 ∷ [])
      ∙ ap (λ (x : List ℕ). spell l parts (take i w) ++ x) (spell_one (get_or w i 0))

  pub spell_more_length : (w : List ℕ) (i : ℕ) → i < length w → length (spell l parts (take (i + 1) w)) ≡ length (spell l parts (take i w)) + length (sign_for l parts (get_or w i 0))
  spell_more_length w i h = ap length (spell_more w i h) ∙ length-append (spell l parts (take i w)) (sign_for l parts (get_or w i 0))

  pub spell_none : length (spell l parts []) ≡ 0
  unfolding spell
  spell_none = refl

  pub spell_short : (w : List ℕ) (i : ℕ) → length (spell l parts (take i w)) ≤ length (spell l parts w)
  spell_short w i =
      let e : length (spell l parts w) ≡ length (spell l parts (take i w)) + length (spell l parts (drop i w)) =
      ap (λ (x : List ℕ). length (spell l parts x)) (sym (take-append-drop i w)) ∙ ap length (spell_append (take i w) (drop i w))
      ∙ length-append (spell l parts (take i w)) (spell l parts (drop i w)) in
      omega arith

-- ---- the signs before A
-- where a scan for A stands at i: at A, at another sign, past the end
module _ (w : List ℕ) (i : ℕ) where
  pub leading_at : i < length w → leading w ≡ take i w ++ leading (drop i w) → get_or w i 0 ≡ first_part → take i w ≡ leading w
  leading_at h p e = sym (p ∙ ap (λ (x : List ℕ). take i w ++ x) (rw (here w i h) (unfold leading in simp (eq-eqb (get_or w i 0) 65 e))) ∙ append-nil (take i w))

  pub leading_more : i < length w → leading w ≡ take i w ++ leading (drop i w) → (get_or w i 0 ≡ first_part → ⊥) → leading w ≡ take (i + 1) w ++ leading (drop (i + 1) w)
  leading_more h p n =
      let e : leading (drop i w) ≡ get_or w i 0 ∷ leading (drop (i + 1) w) = rw (here w i h) (unfold leading in simp (ne_eqb (get_or w i 0) 65 n)) in
      p ∙ rw e (sym (ap (λ (x : List ℕ). x ++ leading (drop (i + 1) w)) (ap (λ (k : ℕ). take k w) (add-one i) ∙ take-suc w i 0 h)
      ∙ append_assoc (take i w) (get_or w i 0 ∷ []) (leading (drop (i + 1) w))))

  pub leading_all : length w ≤ i → leading w ≡ take i w ++ leading (drop i w) → take i w ≡ leading w
  leading_all h p = sym (p ∙ ap (λ (x : List ℕ). take i w ++ x) (rw (drop_of_length-le w h) (unfold leading in refl)) ∙ append-nil (take i w))

-- ---- a formula's word
pub not_named : (o : Basic) (p q : Formula) → names_a (join o p q) ≡ false → (names_a p ≡ false) × (names_a q ≡ false)
not_named o p q e = go (names_a p) (names_a q) refl refl e
  where
    go : (x y : Bool) → names_a p ≡ x → names_a q ≡ y → (x || y) ≡ false → (names_a p ≡ false) × (names_a q ≡ false)
    go true y g h e = absurd (true≢false e)
    go false true g h e = absurd (true≢false e)
    go false false g h e = (g, h)

pub word_join : (o : Basic) (p q : Formula) (w : List ℕ) → word (join o p q) ++ w ≡ word p ++ (word q ++ (operator_sign o ∷ w))
word_join o p q w = simp append_assoc

leading_sign : (o : Basic) (w : List ℕ) → leading (operator_sign o ∷ w) ≡ operator_sign o ∷ leading w
unfolding leading
leading_sign plus w = refl
leading_sign minus w = refl

leading_past : (p : Formula) → names_a p ≡ false → (w : List ℕ) → leading (word p ++ w) ≡ word p ++ leading w
leading_past A e w = absurd (true≢false e)
leading_past B e w = unfold leading in refl
leading_past C e w = unfold leading in refl
leading_past D e w = unfold leading in refl
leading_past (join o p q) e w =
    let n = not_named o p q e in
    ap leading (word_join o p q w) ∙ leading_past p n.0 (word q ++ (operator_sign o ∷ w))
    ∙ ap (λ (x : List ℕ). word p ++ x) (leading_past q n.1 (operator_sign o ∷ w) ∙ ap (λ (x : List ℕ). word q ++ x) (leading_sign o w))
    ∙ sym (word_join o p q (leading w))

-- the four stretches hold the lists of a, b, c and d
pub record Parts (l : List ℕ) (parts : List Stretch) (a b c d : Tree) : Type 0 where
  pub of_a : cut l (part_at parts 0) ≡ postfix a
  pub of_b : cut l (part_at parts 1) ≡ postfix b
  pub of_c : cut l (part_at parts 2) ≡ postfix c
  pub of_d : cut l (part_at parts 3) ≡ postfix d

pub before_append : (e r : List Frame) → before (e ++ r) ≡ before r ++ before e
unfolding before
before_append [] r = sym (append-nil (before r))
before_append (frame left o b ∷ e) r = before_append e r
before_append (frame right o b ∷ e) r = ap (λ (x : List ℕ). x ++ postfix b) (before_append e r) ∙ append_assoc (before r) (before e) (postfix b)

module _ (l : List ℕ) (parts : List Stretch) (a b c d : Tree) (P : Parts l parts a b c d) where
  part_sign : (s k : ℕ) → part_of s ≡ Some k → spell l parts (s ∷ []) ≡ cut l (part_at parts k)
  part_sign s k e = spell_one l parts s ∙ sign_part l parts s k e

  pub spell_word : (p : Formula) → spell l parts (word p) ≡ postfix (value node a b c d p)
  unfolding postfix
  spell_word A = part_sign 65 0 refl ∙ P.of_a
  spell_word B = part_sign 66 1 refl ∙ P.of_b
  spell_word C = part_sign 67 2 refl ∙ P.of_c
  spell_word D = part_sign 68 3 refl ∙ P.of_d
  spell_word (join o p q) =
      spell_append l parts (word p) (word q ++ (operator_sign o ∷ []))
      ∙ ap (λ (x : List ℕ). spell l parts (word p) ++ x) (spell_append l parts (word q) (operator_sign o ∷ []) ∙ ap (λ (x : List ℕ). spell l parts (word q) ++ x) (spell_one l parts (operator_sign o) ∙ operator_entry l parts (operator_sign o) o refl))
      ∙ ap (λ (x : List ℕ). x ++ (spell l parts (word q) ++ (sign (operator_of o) ∷ []))) (spell_word p)
      ∙ ap (λ (x : List ℕ). postfix (value node a b c d p) ++ (x ++ (sign (operator_of o) ∷ []))) (spell_word q)

  -- what stands before A in a formula's list is what the signs before A stand for
  pub before_frames : (p : Formula) → T (once p) → (w : List ℕ) → before (frames_of b c d p) ≡ spell l parts (leading (word p ++ w))
  unfolding before
  before_frames A t w = unfold leading spell in refl
  before_frames B t w = absurd t
  before_frames C t w = absurd t
  before_frames D t w = absurd t
  before_frames (join o p q) t w =
      go (λ t. before_frames p t (word q ++ (operator_sign o ∷ w))) (λ t. before_frames q t (operator_sign o ∷ w)) (names_a p) refl t
      ∙ ap (λ (x : List ℕ). spell l parts (leading x)) (sym (word_join o p q w))
    where
      go : (T (once p) → before (frames_of b c d p) ≡ spell l parts (leading (word p ++ (word q ++ (operator_sign o ∷ w)))))
          → (T (once q) → before (frames_of b c d q) ≡ spell l parts (leading (word q ++ (operator_sign o ∷ w))))
          → (m : Bool) → names_a p ≡ m → T (cond m (once p && not (names_a q)) (once q))
          → before (cond m (frames_of b c d p ++ (frame left (operator_of o) (value node b b c d q) ∷ [])) (frames_of b c d q ++ (frame right (operator_of o) (value node b b c d p) ∷ [])))
          ≡ spell l parts (leading (word p ++ (word q ++ (operator_sign o ∷ w))))
      go hp hq true e t = before_append (frames_of b c d p) (frame left (operator_of o) (value node b b c d q) ∷ []) ∙ hp (and_left (once p) (not (names_a q)) t)
      go hp hq false e t =
          before_append (frames_of b c d q) (frame right (operator_of o) (value node b b c d p) ∷ [])
          ∙ ap (λ (x : List ℕ). x ++ before (frames_of b c d q)) (ap postfix (without_a b a b c d p (subst (λ (m : Bool). T (not m)) (sym e) tt)) ∙ sym (spell_word p))
          ∙ ap (λ (x : List ℕ). spell l parts (word p) ++ x) (hq t)
          ∙ sym (spell_append l parts (word p) (leading (word q ++ (operator_sign o ∷ w))))
          ∙ ap (spell l parts) (sym (leading_past p e (word q ++ (operator_sign o ∷ w))))
