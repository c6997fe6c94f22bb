-- A word is read back: a formula's word is that formula, and a word that is some formula is that formula's word.
use mathlib.Core.Path.{◌≡◌, refl, sym, ap, ◌∙◌}
use mathlib.Core.Bool.{Bool, true, false, cond}
use mathlib.Core.Option.{Option, some, none}
use mathlib.Core.List.{List, [], ◌∷◌, ◌++◌, append_assoc, append-nil}
use Prim.Native.Nat.{ℕ}
use native.Mathlib.Omega.{arith}
use lib.Dec.{eqb}
use borrow.Author.Tests.{eqb-true}
use Rattle.tree.specs.Tree.{Basic, plus, minus}
use Rattle.words.specs.Formula.{Formula, A, B, C, D, join}
use Rattle.words.specs.Word.{operator_sign, word, Sign, part, operator, neither, sign_of, pushed, and_then, waiting, alone, formula_of}
use Rattle.words.proofs.WordLaws.{word_join}

-- ---- a formula's word
waiting_operator : (o : Basic) (w : List ℕ) (p q : Formula) (ps : List Formula) → waiting (operator_sign o ∷ w) (q ∷ (p ∷ ps)) ≡ waiting w (join o p q ∷ ps)
unfolding waiting
waiting_operator plus w p q ps = refl
waiting_operator minus w p q ps = refl

-- after the signs of a formula's word the formula waits
waiting_word : (p : Formula) (w : List ℕ) (ps : List Formula) → waiting (word p ++ w) ps ≡ waiting w (p ∷ ps)
waiting_word A w ps = unfold waiting in refl
waiting_word B w ps = unfold waiting in refl
waiting_word C w ps = unfold waiting in refl
waiting_word D w ps = unfold waiting in refl
waiting_word (join o p q) w ps =
    ap (λ (v : List ℕ). waiting v ps) (word_join o p q w) ∙ waiting_word p (word q ++ (operator_sign o ∷ w)) ps ∙ waiting_word q (operator_sign o ∷ w) (p ∷ ps)
    ∙ waiting_operator o w p q ps

pub formula_of_word : (p : Formula) → formula_of (word p) ≡ some p
unfolding formula_of
formula_of_word p = ap (λ (w : List ℕ). alone (waiting w [])) (sym (append-nil (word p))) ∙ ap alone (waiting_word p [] []) ∙ (unfold waiting in refl)

-- ---- the word of a formula that was read
-- what a sign writes
abbrev Writes : Sign → ℕ → Type 0
Writes (part p) s = word p ≡ s ∷ []
Writes (operator o) s = s ≡ operator_sign o
Writes neither s = Unit {0}

sign_writes : (s : ℕ) → Writes (sign_of s) s
sign_writes s =
    by (part A) 65 _ refl (by (part B) 66 _ refl (by (part C) 67 _ refl (by (part D) 68 _ refl (by (operator plus) 43 _ refl (by (operator minus) 45 _ refl tt)))))
  where
    -- by one sign's byte, or as the others say
    by : (g : Sign) (n : ℕ) (r : Sign) → Writes g n → Writes r s → Writes (cond (eqb s n) g r) s
    by g n r is others = go (eqb s n) refl
      where
        go : (b : Bool) → eqb s n ≡ b → Writes (cond b g r) s
        go true e = rw (eqb-true s n e) is
        go false e = others

-- the words of the formulas that wait, the earliest first
unfoldable words_of : List Formula → List ℕ
words_of [] = []
words_of (p ∷ ps) = words_of ps ++ word p

-- one sign more
pushed_words : (g : Sign) (s : ℕ) → Writes g s → (ps qs : List Formula) → pushed g ps ≡ some qs → words_of ps ++ (s ∷ []) ≡ words_of qs
unfolding words_of
pushed_words (part p) s e ps qs h = let z : p ∷ ps ≡ qs = cc in rw (sym z) (ap (λ (w : List ℕ). words_of ps ++ w) (sym e))
pushed_words (operator o) s e [] qs h = absurd (let z : ◌≡◌ {A = ℕ} 0 1 = cc in omega arith)
pushed_words (operator o) s e (q ∷ []) qs h = absurd (let z : ◌≡◌ {A = ℕ} 0 1 = cc in omega arith)
pushed_words (operator o) s e (q ∷ (p ∷ ps)) qs h = let z : join o p q ∷ ps ≡ qs = cc in rw (sym z) (rw e (simp append_assoc))
pushed_words neither s e ps qs h = absurd (let z : ◌≡◌ {A = ℕ} 0 1 = cc in omega arith)

waiting_words : (w : List ℕ) (ps qs : List Formula) → waiting w ps ≡ some qs → words_of ps ++ w ≡ words_of qs
waiting_words [] ps qs e = append-nil (words_of ps) ∙ ap words_of (let z : some ps ≡ some qs = (unfold waiting in e) in let y : ps ≡ qs = cc in y)
waiting_words (s ∷ w) ps qs e = go (pushed (sign_of s) ps) refl (waiting_words w) (unfold waiting in e)
  where
    go : (r : Option (List Formula)) → pushed (sign_of s) ps ≡ r → ((ps qs : List Formula) → waiting w ps ≡ some qs → words_of ps ++ w ≡ words_of qs)
        → and_then r (λ ps. waiting w ps) ≡ some qs → words_of ps ++ (s ∷ w) ≡ words_of qs
    go none h f e = absurd (let z : ◌≡◌ {A = ℕ} 0 1 = cc in omega arith)
    go (some rs) h f e =
        sym (append_assoc (words_of ps) (s ∷ []) w) ∙ ap (λ (v : List ℕ). v ++ w) (pushed_words (sign_of s) s (sign_writes s) ps rs h) ∙ f rs qs e

pub word_of_formula : (w : List ℕ) (p : Formula) → formula_of w ≡ some p → w ≡ word p
unfolding formula_of words_of
word_of_formula w p e = waiting_words w [] (p ∷ []) (only (waiting w []) e)
  where
    only : (r : Option (List Formula)) → alone r ≡ some p → r ≡ some (p ∷ [])
    only none e = absurd (let z : ◌≡◌ {A = ℕ} 0 1 = cc in omega arith)
    only (some []) e = absurd (let z : ◌≡◌ {A = ℕ} 0 1 = cc in omega arith)
    only (some (q ∷ [])) e = let z : q ≡ p = cc in rw z
    only (some (q ∷ (r ∷ rs))) e = absurd (let z : ◌≡◌ {A = ℕ} 0 1 = cc in omega arith)
