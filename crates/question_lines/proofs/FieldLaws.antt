-- An entry's byte, the fields of entries as they are written, and the line in its array.
use mathlib.Core.Path.{◌≡◌, refl, sym, ap, ◌∙◌, subst}
use mathlib.Core.Bool.{true}
use mathlib.Core.List.{List, [], ◌∷◌, ◌++◌, append_assoc, append-nil}
use mathlib.Core.Option.{Option, some}
use Prim.Native.Nat.{ℕ, ◌+◌, ◌^◌, ◌≤◌, ◌<◌}
use native.Mathlib.Numerals.{add-one}
use native.Mathlib.Omega.{arith}
use lib.ListN.{length, length-append, length-take, take, get_or, replicate}
use lib.Seq.{take-suc}
use Rattle.tree.specs.Tree.{union, difference, sign, is_in}
use Rattle.tree.specs.Pass.{entry_of}
use Rattle.tree.specs.InnerWriting.{Wrote}
use Rattle.tree.proofs.WritingLaws.{wrote_over}
use Rattle.text.specs.Decimal.{spell, digits}
use Rattle.text.specs.Parts.{join}
use Rattle.text.specs.Line.{tab, line_feed, line}
use Rattle.text.specs.Inner.{field, fields_after}
use Rattle.text.proofs.DecimalLaws.{digits_length}
use Rattle.text.proofs.LineLaws.{line_length}
use Rattle.sheet.specs.Form.{letter_for}
use Rattle.printing.specs.Key.{NO}
use Rattle.questions.specs.Questions.{entries, questions}
use Rattle.std.specs.Prelude.{Result, Ok, Err}
use Rattle.questions.specs.Answer.{refusal_number, GivesTree}
use Rattle.questions.specs.InnerCounts.{are_entries}
use Rattle.questions.specs.declared.Question.{Question}
use Rattle.questions.specs.declared.Refusal.{Refusal}
use Rattle.questions.specs.declared.Refusal.TheVariants.{NoQuestion}
use Rattle.questions.proofs.ListLaws.{at_below, Every}
use Rattle.questions.proofs.TreeLaws.{of_entry, tested, question_test, only_questions}
use Rattle.questions.proofs.WordLaws.{questions_count}
use Rattle.questions.proofs.Theorems.{tree_done, tree_refused}
use Rattle.question_lines.specs.Lines.{printed_as, fields_of, line_text, line_bytes, in_line, line_at}
use Rattle.question_lines.specs.InnerFields.{entries_after}

-- ---- an entry's byte
pub union_byte : {b x : ℕ} → b ≡ letter_for union → x ≡ sign union → b ∷ [] ≡ printed_as (entry_of x)
union_byte p e = rw (p, e) (unfold entry_of in refl)

pub difference_byte : {b x : ℕ} → b ≡ letter_for difference → x ≡ sign difference → b ∷ [] ≡ printed_as (entry_of x)
difference_byte p e = rw (p, e) (unfold entry_of in refl)

-- what is no operator is a group of one digit
pub record GroupByte (x : ℕ) : Type 0 where
  pub small : x ≤ 3
  pub byte : (48 + x) ∷ [] ≡ printed_as (entry_of x)

pub group_byte : (x : ℕ) → is_in entries x ≡ true → (x ≡ sign union → ⊥) → (x ≡ sign difference → ⊥) → GroupByte x
unfolding Every entry_of digits spell
group_byte =
    of_entry (λ x. (x ≡ sign union → ⊥) → (x ≡ sign difference → ⊥) → GroupByte x) (
      λ u d. record { small = omega arith; byte = refl },
      (
        λ u d. record { small = omega arith; byte = refl },
        (
          λ u d. record { small = omega arith; byte = refl },
          (λ u d. absurd (u refl), (λ u d. absurd (d refl), tt)),
        ),
      ),
    )

-- ---- each entry after a tab
after_append : (a b : List ℕ) → entries_after (a ++ b) ≡ entries_after a ++ entries_after b
unfolding entries_after
after_append [] b = refl
after_append (x ∷ a) b = rw (after_append a b) (sym (append_assoc (tab ∷ printed_as (entry_of x)) (entries_after a) (entries_after b)))

pub after_none : (l : List ℕ) → entries_after (take 0 l) ≡ []
unfolding entries_after
after_none l = refl

pub after_next : (l : List ℕ) (i parting b : ℕ) → parting ≡ tab → i < length l → b ∷ [] ≡ printed_as (entry_of (get_or l i 0)) → entries_after (take i l) ++ (parting ∷ b ∷ []) ≡ entries_after (take (i + 1) l)
unfolding entries_after
after_next l i parting b p h e =
    rw p (ap (λ (c : List ℕ). entries_after (take i l) ++ (tab ∷ c)) (e ∙ sym (append-nil (printed_as (entry_of (get_or l i 0)))))
    ∙ sym (rw (add-one i, take-suc l i 0 h) (after_append (take i l) (get_or l i 0 ∷ []))))

-- ---- the line
join_after : (first l : List ℕ) → join tab (fields_of first l) ≡ first ++ entries_after l
unfolding join fields_of entries_after
join_after first [] = sym (append-nil first)
join_after first (x ∷ l) = rw (join_after (printed_as (entry_of x)) l)

pub line_written : (index : ℕ) (l : List ℕ) → (digits index ++ entries_after l) ++ (line_feed ∷ []) ≡ line_text index (some l)
unfolding line_text
line_written index l = rw (join_after (digits index) l)

-- an index has at most four digits
pub index_few : (i : ℕ) → i < 3477 → length (digits i) ≤ 4
index_few i h = digits_length 3 i (omega arith)

pub put_in_line : {out : List ℕ} {n : ℕ} {bytes : List ℕ} → n ≤ line_bytes → Wrote (replicate line_bytes 0) 0 out n bytes → record { bytes = out; count = n } ≡ in_line bytes
put_in_line {out} {n} {bytes} h w = let counted : n ≡ length bytes = omega (arith, w.ends) in rw (wrote_over w (omega arith), counted)

-- ---- by what `tree_at` answers
pub record TreeGiven (i n : ℕ) (held l : List ℕ) : Type 0 where
  pub index : i < 3477
  pub room : n ≤ length held
  pub count : n ≡ length l
  pub few : length l ≤ 7
  pub entries : are_entries l ≡ true
  pub line : in_line (line_text i (some l)) ≡ line_at i

pub tree_given : {i : ℕ} {q : Question} {r : Result Question Refusal} → GivesTree i r → r ≡ Ok q → TreeGiven i q.count q.entries (take q.count q.entries)
tree_given {i} {q} G d =
    let l = take q.count q.entries in
    let e = tree_done (subst (GivesTree i) d G) in
    let T = tested l (question_test l (only_questions i l e.0)) in
    record {
      index = omega (arith, at_below questions i l e.0, questions_count);
      room = omega (arith, e.1, length-take q.count q.entries);
      count = sym e.1;
      few = T.few;
      entries = T.entries;
      line = ap (λ (o : Option (List ℕ)). in_line (line_text i o)) (sym e.0);
    }

pub refusal_given : {i n : ℕ} {refusal : Refusal} {r : Result Question Refusal} → GivesTree i r → r ≡ Err refusal → n ≡ refusal_number refusal → in_line (line NO (n ∷ [])) ≡ line_at i
unfolding line_text
refusal_given {i} {refusal = NoQuestion} G d e = ap (λ (n : ℕ). in_line (line NO (n ∷ []))) e ∙ ap (λ (o : Option (List ℕ)). in_line (line_text i o)) (sym (tree_refused (subst (GivesTree i) d G)))

-- ---- a refusal's line fits
pub refusal_fits : (n : ℕ) → n < 10 ^ 5 → length (line NO (n ∷ [])) ≤ line_bytes
unfolding fields_after
refusal_fits n h = omega (arith, line_length NO (n ∷ []), length-append (field n) [], digits_length 4 n h)

pub refusal_few : {out out₁ : List ℕ} {m : ℕ} (n : ℕ) → n < 10 ^ 5 → Wrote out 0 out₁ m (line NO (n ∷ [])) → m ≤ line_bytes
refusal_few n h w = omega (arith, w.ends, refusal_fits n h)
