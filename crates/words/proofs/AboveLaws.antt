-- The scan of a word for what stands above A: its turns, and that of a formula's word it finds the frames above A in the formula.
use mathlib.Core.Path.{◌≡◌, refl, sym, ap, ◌∙◌}
use mathlib.Core.Bool.{Bool, true, false, not, cond, ◌&&◌, true≢false}
use mathlib.Core.List.{List, [], ◌∷◌, ◌++◌, append_assoc, append-nil}
use Prim.Native.Nat.{ℕ, zero, suc, ◌+◌, ◌-◌, ◌≤◌, ◌<◌}
use native.Mathlib.Omega.{arith}
use native.Mathlib.Numerals.{add-one}
use borrow.Author.Tests.{lt-ltb, le-ltb, eq-eqb, ne_eqb}
use lib.Dec.{T}
use lib.ListN.{length, get_or, drop, replicate, drop_of_length-le}
use Rattle.tree.specs.Tree.{Basic, plus, minus, operator_of, sign}
use Rattle.tree.specs.Context.{Side, left, right}
use Rattle.tree.specs.InnerPart.{kind_of}
use Rattle.tree.specs.declared.Operand.{Operand}
use Rattle.tree.proofs.TreeLaws.{and_left}
use Rattle.tree.proofs.PassLaws.{here}
use Rattle.words.specs.Formula.{Formula, A, B, C, D, join, names_a, once}
use Rattle.words.specs.InnerWords.{first_part, blank, part_of, basic_of, operator_number, leading}
use Rattle.words.specs.Word.{operator_sign, word}
use Rattle.words.specs.InnerAbove.{trailing, PlaceIs, frame_kind, kinds_by, kinds_after, FrameAfter, kinds, AboveIs}
use Rattle.std.specs.Prelude.{Option, Some, None, is_some, MatchOption}
use Rattle.std.specs.Option.{option_map}
use Rattle.words.specs.declared.WordFrame.{WordFrame}
use Rattle.words.proofs.WordLaws.{word_join, not_named}

-- ---- an operator by its sign, and the kind of its frame
pub basic_none : (s : ℕ) → operator_number s ≡ None → basic_of s ≡ None
basic_none s e = go (basic_of s) e
  where
    go : (o : Option Basic) → option_map (λ o. sign (operator_of o)) o ≡ None → o ≡ None
    go None e = refl
    go (Some o) e = absurd cc

pub basic_some : (s x : ℕ) → operator_number s ≡ Some x → (o : Basic) × (basic_of s ≡ Some o) × (x ≡ sign (operator_of o))
basic_some s x e = go (basic_of s) refl e
  where
    go : (y : Option Basic) → basic_of s ≡ y → option_map (λ o. sign (operator_of o)) y ≡ Some x → (o : Basic) × (basic_of s ≡ Some o) × (x ≡ sign (operator_of o))
    go None f e = absurd cc
    go (Some o) f e = (o, f, cc)

pub no_operand : {X : Type 0} (s : Side) (o : Basic) → None ≡ kind_of s (operator_of o) → X
no_operand s plus e = absurd cc
no_operand s minus e = absurd cc

-- ---- a turn of the loop of `frame_after`
module _ (w : List ℕ) (i n : ℕ) where
  pub after_end : length w ≤ i → kinds_after n (drop i w) ≡ []
  after_end h = rw (drop_of_length-le w h) (unfold kinds_after in refl)

  module _ (h : i < length w) where
    pub after_part : is_some (part_of (get_or w i 0)) ≡ true → kinds_after n (drop i w) ≡ kinds_after (n + 1) (drop (i + 1) w)
    after_part p = rw (here w i h) (unfold kinds_after in rw p)

    module _ (p : is_some (part_of (get_or w i 0)) ≡ false) where
      by_operator : {o : Option Basic} → basic_of (get_or w i 0) ≡ o
          → kinds_after n (drop i w) ≡ kinds_by n o (kinds_after 0 (drop (i + 1) w)) (kinds_after (n - 1) (drop (i + 1) w))
      by_operator e = rw (here w i h) (unfold kinds_after in rw (p, e))

      pub after_other : basic_of (get_or w i 0) ≡ None → kinds_after n (drop i w) ≡ []
      after_other e = by_operator e

      module _ (o : Basic) (e : basic_of (get_or w i 0) ≡ Some o) where
        pub after_frame : n < 2 → kinds_after n (drop i w) ≡ frame_kind n o ∷ kinds_after 0 (drop (i + 1) w)
        after_frame m = by_operator e ∙ simp (lt-ltb n 2 m)

        pub after_operator : 2 ≤ n → kinds_after n (drop i w) ≡ kinds_after (n - 1) (drop (i + 1) w)
        after_operator m = by_operator e ∙ simp (le-ltb n 2 m)

-- ---- what `frame_after` answers
pub no_frame : (w : List ℕ) (from n end : ℕ) → kinds_after 0 (drop from w) ≡ kinds_after n (drop end w) → ((m : ℕ) → kinds_after m (drop end w) ≡ []) → FrameAfter w from None
no_frame w from n end e f = e ∙ f n

pub a_frame : (w : List ℕ) (from : ℕ) (k : Operand) (k' : Option Operand) (end : ℕ) → kinds_after 0 (drop from w) ≡ k' ∷ kinds_after 0 (drop end w) → Some k ≡ k'
    → FrameAfter w from (Some (record { operand = k; end = end }))
a_frame w from k k' end e f = e ∙ ap (λ (x : Option Operand). x ∷ kinds_after 0 (drop end w)) (sym f)

-- ---- a turn of a scan for A
module _ (w : List ℕ) (i : ℕ) where
  pub trailing_at : i < length w → get_or w i 0 ≡ first_part → drop (i + 1) w ≡ trailing (drop i w)
  trailing_at h e = sym (rw (here w i h) (unfold trailing in simp (eq-eqb (get_or w i 0) 65 e)))

  pub trailing_more : i < length w → (get_or w i 0 ≡ first_part → ⊥) → trailing (drop i w) ≡ trailing (drop (i + 1) w)
  trailing_more h n = rw (here w i h) (unfold trailing in simp (ne_eqb (get_or w i 0) 65 n))

  pub trailing_end : length w ≤ i → drop (i + 1) w ≡ trailing (drop i w)
  trailing_end h = (let k : length w ≤ i + 1 = omega arith in drop_of_length-le w k) ∙ sym (rw (drop_of_length-le w h) (unfold trailing in refl))

-- ---- what `place_of_a` answers
-- the place of the first sign that is A's, or the end
pub place_is : (w : List ℕ) (r : ℕ) → r ≤ length w → ((k : ℕ) → k < r → get_or w k 0 ≡ first_part → ⊥) → (r < length w → get_or w r 0 ≡ first_part) → PlaceIs w r
unfolding leading trailing
place_is [] zero h before at = record { within = h; signs_before = refl; signs_after = refl }
place_is [] (suc r) h before at = absurd (omega arith)
place_is (s ∷ w) zero h before at =
    let e : s ≡ 65 = at (omega arith) in
    record { within = h; signs_before = simp (eq-eqb s 65 e); signs_after = simp (eq-eqb s 65 e) }
place_is (s ∷ w) (suc r) h before at =
    let P = place_is w r (omega arith) (λ k l. before (suc k) (omega arith)) (λ l. at (omega arith)) in
    let n : s ≡ 65 → ⊥ = before 0 (omega arith) in
    record {
      within = h;
      signs_before = simp (ne_eqb s 65 n) (ap (λ (x : List ℕ). s ∷ x) P.signs_before);
      signs_after = ap (λ (k : ℕ). drop k (s ∷ w)) (add-one (suc r)) ∙ ap (λ (k : ℕ). drop k w) (sym (add-one r)) ∙ simp (ne_eqb s 65 n) P.signs_after;
    }

-- ---- a formula's word
-- after the word of a formula one operand more has come
kinds_past : (p : Formula) (n : ℕ) (w : List ℕ) → kinds_after n (word p ++ w) ≡ kinds_after (n + 1) w
kinds_past A n w = unfold kinds_after in refl
kinds_past B n w = unfold kinds_after in refl
kinds_past C n w = unfold kinds_after in refl
kinds_past D n w = unfold kinds_after in refl
kinds_past (join o p q) n w =
    ap (kinds_after n) (word_join o p q w) ∙ kinds_past p n (word q ++ (operator_sign o ∷ w)) ∙ kinds_past q (n + 1) (operator_sign o ∷ w) ∙ joined o
  where
    less : n + 1 + 1 - 1 ≡ n + 1
    less = omega arith

    joined : (o : Basic) → kinds_after (n + 1 + 1) (operator_sign o ∷ w) ≡ kinds_after (n + 1) w
    joined plus = unfold kinds_after in simp (le-ltb (n + 1 + 1) 2 (omega arith), less)
    joined minus = unfold kinds_after in simp (le-ltb (n + 1 + 1) 2 (omega arith), less)

kind_left : (o : Basic) (w : List ℕ) → kinds_after 1 (operator_sign o ∷ w) ≡ kind_of left (operator_of o) ∷ kinds_after 0 w
unfolding kinds_after
kind_left plus w = refl
kind_left minus w = refl

kind_right : (o : Basic) (w : List ℕ) → kinds_after 0 (operator_sign o ∷ w) ≡ kind_of right (operator_of o) ∷ kinds_after 0 w
unfolding kinds_after
kind_right plus w = refl
kind_right minus w = refl

-- A is not in the word of a formula that does not name it
trailing_sign : (o : Basic) (w : List ℕ) → trailing (operator_sign o ∷ w) ≡ trailing w
unfolding trailing
trailing_sign plus w = refl
trailing_sign minus w = refl

trailing_past : (p : Formula) → names_a p ≡ false → (w : List ℕ) → trailing (word p ++ w) ≡ trailing w
trailing_past A e w = absurd (true≢false e)
trailing_past B e w = unfold trailing in refl
trailing_past C e w = unfold trailing in refl
trailing_past D e w = unfold trailing in refl
trailing_past (join o p q) e w =
    let n = not_named o p q e in
    ap trailing (word_join o p q w) ∙ trailing_past p n.0 (word q ++ (operator_sign o ∷ w)) ∙ trailing_past q n.1 (operator_sign o ∷ w) ∙ trailing_sign o w

-- the signs after A make the frames above A, and whatever comes after the word makes those above them
kinds_above_lem : (p : Formula) → T (once p) → (w : List ℕ) → kinds_after 0 (trailing (word p ++ w)) ≡ kinds p ++ kinds_after 0 w
kinds_above_lem A t w = unfold trailing in refl
kinds_above_lem B t w = absurd t
kinds_above_lem C t w = absurd t
kinds_above_lem D t w = absurd t
kinds_above_lem (join o p q) t w =
    ap (λ (x : List ℕ). kinds_after 0 (trailing x)) (word_join o p q w)
    ∙ go (λ t. kinds_above_lem p t (word q ++ (operator_sign o ∷ w))) (λ t. kinds_above_lem q t (operator_sign o ∷ w)) (names_a p) refl t
  where
    go : (T (once p) → kinds_after 0 (trailing (word p ++ (word q ++ (operator_sign o ∷ w)))) ≡ kinds p ++ kinds_after 0 (word q ++ (operator_sign o ∷ w)))
        → (T (once q) → kinds_after 0 (trailing (word q ++ (operator_sign o ∷ w))) ≡ kinds q ++ kinds_after 0 (operator_sign o ∷ w))
        → (m : Bool) → names_a p ≡ m → T (cond m (once p && not (names_a q)) (once q))
        → kinds_after 0 (trailing (word p ++ (word q ++ (operator_sign o ∷ w))))
        ≡ cond m (kinds p ++ (kind_of left (operator_of o) ∷ [])) (kinds q ++ (kind_of right (operator_of o) ∷ [])) ++ kinds_after 0 w
    go hp hq true e t =
        hp (and_left (once p) (not (names_a q)) t)
        ∙ ap (λ (x : List (Option Operand)). kinds p ++ x) (kinds_past q 0 (operator_sign o ∷ w) ∙ kind_left o w)
        ∙ sym (append_assoc (kinds p) (kind_of left (operator_of o) ∷ []) (kinds_after 0 w))
    go hp hq false e t =
        ap (kinds_after 0) (trailing_past p e (word q ++ (operator_sign o ∷ w))) ∙ hq t
        ∙ ap (λ (x : List (Option Operand)). kinds q ++ x) (kind_right o w)
        ∙ sym (append_assoc (kinds q) (kind_of right (operator_of o) ∷ []) (kinds_after 0 w))

kinds_blanks : (k : ℕ) → kinds_after 0 (replicate k blank) ≡ []
unfolding kinds_after
kinds_blanks zero = refl
kinds_blanks (suc k) = refl

word_above : (p : Formula) (k : ℕ) (w : List ℕ) → T (once p) → w ≡ word p ++ replicate k blank → kinds_after 0 (trailing w) ≡ kinds p
word_above p k w t e =
    ap (λ (x : List ℕ). kinds_after 0 (trailing x)) e ∙ kinds_above_lem p t (replicate k blank)
    ∙ ap (λ (x : List (Option Operand)). kinds p ++ x) (kinds_blanks k) ∙ append-nil (kinds p)

-- ---- what `above_a` answers
module _ {w : List ℕ} (from : ℕ) (e : drop from w ≡ trailing w) where
  found : (p : Formula) (blanks : ℕ) → T (once p) → w ≡ word p ++ replicate blanks blank → kinds_after 0 (drop from w) ≡ kinds p
  found p k t f = ap (kinds_after 0) e ∙ word_above p k w t f

  pub frames_found : (own parent : Option WordFrame) → FrameAfter w from own → MatchOption own (parent ≡ None) (λ f. FrameAfter w f.end parent)
      → {r s : Option Operand} → r ≡ option_map (λ f. f.operand) own → s ≡ option_map (λ f. f.operand) parent → AboveIs w (record { own = r; parent = s })
  frames_found own parent F G e h = record {
    is = λ p k t f. let all = sym (found p k t f) in (e ∙ first own F ∙ ap (λ x. get_or x 0 None) (sym all), h ∙ second own parent F G ∙ ap (λ x. get_or x 1 None) (sym all));
  }
    where
      first : (own : Option WordFrame) → FrameAfter w from own → option_map (λ f. f.operand) own ≡ get_or (kinds_after 0 (drop from w)) 0 None
      first None F = sym (ap (λ x. get_or x 0 None) F)
      first (Some f) F = sym (ap (λ x. get_or x 0 None) F)

      second : (own parent : Option WordFrame) → FrameAfter w from own → MatchOption own (parent ≡ None) (λ f. FrameAfter w f.end parent)
          → option_map (λ f. f.operand) parent ≡ get_or (kinds_after 0 (drop from w)) 1 None
      second None parent F G = ap (option_map (λ f. f.operand)) G ∙ sym (ap (λ x. get_or x 1 None) F)
      second (Some f) None F G = sym (ap (λ x. get_or x 0 None) G) ∙ sym (ap (λ x. get_or x 1 None) F)
      second (Some f) (Some g) F G = sym (ap (λ x. get_or x 0 None) G) ∙ sym (ap (λ x. get_or x 1 None) F)

pub two_frames : {w : List ℕ} (from : ℕ) (own parent : WordFrame) → drop from w ≡ trailing w → FrameAfter w from (Some own) → FrameAfter w own.end (Some parent)
    → AboveIs w (record { own = Some own.operand; parent = Some parent.operand })
two_frames {w} from own parent e F G = frames_found from e (Some own) (Some parent) F G refl refl
