-- One turn of each loop: an entry written, and an entry read.
use mathlib.Core.Path.{◌≡◌, refl, sym, ap, ◌∙◌}
use mathlib.Core.Bool.{Bool, true, false, cond, false≢true}
use mathlib.Core.List.{List, [], ◌∷◌, flat_map}
use mathlib.Core.Option.{some}
use Prim.Native.Nat.{ℕ, suc, ◌+◌, ◌-◌, ◌*◌, ◌≤◌, ◌<◌}
use native.Mathlib.Omega.{arith}
use borrow.Author.Tests.{ltb-false}
use lib.Dec.{ltb}
use lib.ListN.{length, get_or, set, take, drop, replicate, drop_of_length-le, get_elem?}
use lib.Seq.{take_all}
use Rattle.tree.specs.Tree.{union, sign, is_in}
use Rattle.tree.specs.Pass.{entry_of}
use Rattle.tree.specs.InnerWriting.{Wrote}
use Rattle.tree.proofs.PassLaws.{here}
use Rattle.tree.proofs.ParseLaws.{formed, formed_tree}
use Rattle.tree.proofs.WritingLaws.{wrote_nothing, wrote_next, wrote_over}
use Rattle.questions.specs.Questions.{entries, lists, questions_of, lengths}
use Rattle.questions.specs.Answer.{most_entries, index_of, in_array}
use Rattle.questions.specs.InnerCounts.{are_entries, is_question, count, behind_operator, after, by_kind, ahead, part_at, Located, of_length}
use Rattle.questions.proofs.ListLaws.{at_below, at_some, Every}
use Rattle.questions.proofs.OrderLaws.{and_split}
use Rattle.questions.proofs.TreeLaws.{of_entry, tested}
use Rattle.questions.proofs.WordLaws.{words, words_count, Fits, counts, words_begin, Begun, words_at, of_length_words, questions_ahead, questions_below}
use Rattle.questions.proofs.IndexLaws.{index_found}

-- at most one tree more waits
pub after_most : (x w : ℕ) → after x w ≤ w + 1
after_most x w = go (ltb x (sign union))
  where
    go : (b : Bool) → cond b (w + 1) (w - 1) ≤ w + 1
    go true = omega arith
    go false = omega arith

-- ---- the list with an index: its first i entries are written, and what is left of it has index `rest` among the lists that go on
pub record Writing (n k : ℕ) (written : List ℕ) (w rest i : ℕ) : Type 0 where
  pub list : List ℕ
  pub whole : get_elem? (questions_of n) k ≡ some list
  pub long : length list ≡ n
  pub wrote : Wrote (replicate most_entries 0) 0 written i (take i list)
  pub left : get_elem? (words (n - i) w) rest ≡ some (drop i list)

pub writing_none : (n k : ℕ) → n ≤ most_entries → k < count n 0 → Writing n k (replicate most_entries 0) 0 k 0
writing_none n k h q =
    let s = at_some (words n 0) k (omega (arith, words_count n 0)) in
    let e : get_elem? (questions_of n) k ≡ some s.0 = ap (λ (a : List (List ℕ)). get_elem? a k) (of_length_words n h) ∙ s.1 in
    let z : n - 0 ≡ n = omega arith in
    record {
      list = s.0;
      whole = e;
      long = (questions_below n k s.0 h e).1;
      wrote = wrote_nothing (replicate most_entries 0) 0;
      left = ap (λ (m : ℕ). get_elem? (words m 0) k) z ∙ s.1;
    }

module _ {n k : ℕ} {written : List ℕ} {w rest i : ℕ} (W : Writing n k written w rest i) (more : i < n) where
  -- how many lists go on, behind each group and behind each operator
  abbrev groups : ℕ
  groups = count (n - i - 1) (w + 1)

  abbrev operators : ℕ
  operators = behind_operator (n - i - 1) w

  left_more : get_elem? (words (suc (n - i - 1)) w) rest ≡ some (drop i W.list)
  left_more = let z : suc (n - i - 1) ≡ n - i = omega arith in ap (λ (m : ℕ). get_elem? (words m w) rest) z ∙ W.left

  pub writing_below : rest < 3 * groups + 2 * operators
  writing_below = unfold count in omega (arith, at_below (words (suc (n - i - 1)) w) rest (drop i W.list) left_more, words_count (suc (n - i - 1)) w)

  begun : Begun (n - i - 1) w rest (drop i W.list)
  begun = words_at (n - i - 1) w rest (drop i W.list) left_more

  -- one entry more, by what `beginning` finds
  module _ {a b x j : ℕ} (L : Located entries (by_kind a b) rest x j) (ea : a ≡ groups) (eb : b ≡ operators) where
    place : Located entries (counts (n - i - 1) w) rest x j
    place = rw (ea, eb) at L

    pub writing_fits : Fits w x
    writing_fits = rw (← place.part) at begun.fits

    pub writing_more : Writing n k (set written i x) (after x w) j (i + 1)
    writing_more =
        let l = W.list in
        let split : get_or l i 0 ∷ drop (i + 1) l ≡ part_at entries (counts (n - i - 1) w) rest ∷ begun.rest = sym (here l i (omega (arith, W.long))) ∙ begun.list in
        let first : get_or l i 0 ≡ x = (let h : get_or l i 0 ≡ part_at entries (counts (n - i - 1) w) rest = cc in h) ∙ sym place.part in
        let behind : drop (i + 1) l ≡ begun.rest = cc in
        let z : n - (i + 1) ≡ n - i - 1 = omega arith in
        record {
          list = l;
          whole = W.whole;
          long = W.long;
          wrote = rw (← first) (wrote_next l i (omega (arith, W.long)) W.wrote);
          left = ap (λ (m : ℕ). get_elem? (words m (after x w)) j) z ∙ rw (place.part, place.index, behind) begun.at;
        }

-- what stands there at last
pub written_all : {n k : ℕ} {written : List ℕ} {w rest i : ℕ} → Writing n k written w rest i → n ≤ most_entries → n ≤ i → (l : List ℕ) → get_elem? (questions_of n) k ≡ some l → written ≡ in_array (some l)
written_all {n} {k} {written} {w} {rest} {i} W m h l e =
    let q : some W.list ≡ some l = sym W.whole ∙ e in
    let same : W.list ≡ l = cc in
    let full : take i W.list ≡ l = take_all i W.list (omega (arith, W.long)) ∙ same in
    wrote_over (rw full at W.wrote) (omega (arith, W.long, ap length same))

-- ---- a list's index: `index` and where what is left of it stands among the lists that go on
pub record Reading (list : List ℕ) (index w i : ℕ) : Type 0 where
  pub few : length list ≤ most_entries
  pub entries : are_entries (drop i list) ≡ true
  pub forms : formed w (drop i list) ≡ true
  pub found : (k : ℕ) → get_elem? (words (length list - i) w) k ≡ some (drop i list) → index_of list ≡ some (index + k)

pub reading_none : (list : List ℕ) → is_question list ≡ true → Reading list (ahead lengths of_length (length list)) 0 0
reading_none list e =
    let T = tested list e in
    let z : length list - 0 ≡ length list = omega arith in
    record {
      few = T.few;
      entries = T.entries;
      forms = formed_tree list (omega (arith, T.few)) ∙ T.tree;
      found = λ k g. index_found (ahead lengths of_length (length list) + k) list (questions_ahead (length list) k list T.few (sym (ap (λ (m : ℕ). get_elem? (words m 0) k) z) ∙ g));
    }

-- an entry that makes waiting trees one with what follows
formed_more : (w x : ℕ) (l : List ℕ) → is_in entries x ≡ true → formed w (x ∷ l) ≡ true → Fits w x × (formed (after x w) l ≡ true)
unfolding formed entry_of Every
formed_more w x l e =
    of_entry (λ x. formed w (x ∷ l) ≡ true → Fits w x × (formed (after x w) l ≡ true))
    (group 1 (omega arith), (group 2 (omega arith), (group 3 (omega arith), (operator (ltb w 2) refl, (operator (ltb w 2) refl, tt))))) x e
  where
    group : (x : ℕ) → x < sign union → formed (w + 1) l ≡ true → Fits w x × (formed (w + 1) l ≡ true)
    group x h f = (λ k. absurd (omega arith), f)

    operator : {A : Type 0} (b : Bool) → ltb w 2 ≡ b → cond b false (formed (w - 1) l) ≡ true → (A → 2 ≤ w) × (formed (w - 1) l ≡ true)
    operator true q f = absurd (false≢true f)
    operator false q f = (λ h. ltb-false w 2 q, f)

-- no entry is left where one tree waits
one_tree : (w : ℕ) → formed w [] ≡ true → get_elem? (words 0 w) 0 ≡ some []
unfolding words lists flat_map
one_tree w e = rw e

module _ {list : List ℕ} {index w i : ℕ} (R : Reading list index w i) where
  -- the entry that is read
  entry : i < length list → (is_in entries (get_or list i 0) ≡ true) × (are_entries (drop (i + 1) list) ≡ true)
  entry h = and_split (is_in entries (get_or list i 0)) (are_entries (drop (i + 1) list)) (unfold are_entries in (ap are_entries (sym (here list i h)) ∙ R.entries))

  step : i < length list → Fits w (get_or list i 0) × (formed (after (get_or list i 0) w) (drop (i + 1) list) ≡ true)
  step h = formed_more w (get_or list i 0) (drop (i + 1) list) (entry h).0 (ap (formed w) (sym (here list i h)) ∙ R.forms)

  pub reading_fits : i < length list → Fits w (get_or list i 0)
  reading_fits h = (step h).0

  reading_on : i < length list → Reading list (index + ahead entries (counts (length list - i - 1) w) (get_or list i 0)) (after (get_or list i 0) w) (i + 1)
  reading_on h =
      let x = get_or list i 0 in
      let m = length list - i - 1 in
      let p = ahead entries (counts m w) x in
      let more : length list - i ≡ suc m = omega arith in
      let less : length list - (i + 1) ≡ m = omega arith in
      record {
        few = R.few;
        entries = (entry h).1;
        forms = (step h).1;
        found = λ k g.
            (let b = words_begin m w x (entry h).0 (step h).0 k (drop (i + 1) list) (sym (ap (λ (m : ℕ). get_elem? (words m (after x w)) k) less) ∙ g) in
            let z : index + (p + k) ≡ index + p + k = omega arith in
            R.found (p + k) (ap (λ (m : ℕ). get_elem? (words m w) (p + k)) more ∙ b ∙ ap some (sym (here list i h))) ∙ ap some z);
      }

  -- by what `preceding` finds
  pub reading_more : {a b p : ℕ} → i < length list → p ≡ ahead entries (by_kind a b) (get_or list i 0) → a ≡ count (length list - i - 1) (w + 1) → b ≡ behind_operator (length list - i - 1) w
      → Reading list (index + p) (after (get_or list i 0) w) (i + 1)
  reading_more h e ea eb = rw (e, ea, eb) (reading_on h)

  pub reading_all : length list ≤ i → index_of list ≡ some index
  reading_all h =
      let e : drop i list ≡ [] = drop_of_length-le list h in
      let z : index + 0 ≡ index = omega arith in
      let n : length list - i ≡ 0 = omega arith in
      R.found 0 (ap (λ (m : ℕ). get_elem? (words m w) 0) n ∙ one_tree w (ap (formed w) (sym e) ∙ R.forms) ∙ ap some (sym e)) ∙ ap some z

-- ---- whether all are entries, entry by entry
module _ (list : List ℕ) (i : ℕ) where
  pub entries_on : i < length list → is_in entries (get_or list i 0) ≡ true → are_entries (drop i list) ≡ are_entries (drop (i + 1) list)
  entries_on h e = rw (here list i h) (unfold are_entries in rw e)

  pub entries_stop : i < length list → is_in entries (get_or list i 0) ≡ false → are_entries (drop i list) ≡ false
  entries_stop h e = rw (here list i h) (unfold are_entries in rw e)

  pub entries_end : length list ≤ i → are_entries (drop i list) ≡ true
  entries_end h = rw (drop_of_length-le list h) (unfold are_entries in refl)
