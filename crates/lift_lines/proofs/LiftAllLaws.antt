-- The loop over the lifts: after i of them, what is written and what is left to write from the present tree make up the whole.
use Rattle.std.proofs.Common.{Some}
use mathlib.Core.Path.{◌≡◌, refl, sym, ap, ◌∙◌}
use mathlib.Core.List.{List, [], ◌∷◌, ◌++◌}
use mathlib.Core.Logic.{◌⊎◌, inl, inr}
use Prim.Native.Nat.{ℕ, suc, ◌+◌, ◌-◌, ◌*◌, ◌≤◌, ◌<◌}
use native.Mathlib.Omega.{arith}
use lib.ListN.{length, take}
use Rattle.tree.specs.Tree.{Tree, most_nodes}
use Rattle.text.specs.Line.{lines}
use Rattle.moves.specs.Moves.{MoveTable}
use Rattle.sheet.specs.Rules.{sheet_rules}
use Rattle.sheet.specs.InnerLines.{line_at, LiftRange, LiftsTo}
use Rattle.sheet.specs.Reading.{LiftLine}
use Rattle.sheet.specs.declared.Line.TheVariants.{Lift}
use Rattle.sheet.specs.declared.LineAt.{LineAt}
use Rattle.printing.specs.Key.{lift_row, lift_rows}
use Rattle.printing.specs.Inner.{row_text}
use Rattle.lift_lines.specs.Inner.{lift_bytes, IsList, LiftedOne, Asked, LiftedAll}
use Rattle.lift_lines.specs.Lifting.{lifting, tree_left, lift_answer, tree_after, lift_answers}
use Rattle.lift_lines.specs.declared.Progress.{Progress}
use Rattle.printing.proofs.PrintingLaws.{WroteUpTo, up_to_start, up_to_next, up_to_end}

-- the text of the answers of a list of lifts
abbrev pub lift_text : MoveTable → Tree → List LiftLine → List ℕ
lift_text m t ls = lines (lift_rows (lift_answers m t ls))

-- what the loop has reached after i lifts
pub record Reached (m : MoveTable) (sheet : List ℕ) (t : Tree) (ls : List LiftLine) (count i : ℕ) (tree : List ℕ) (entries : ℕ) (out₀ out : List ℕ) (at next : ℕ) : Type 0 where
  pub present : Tree
  pub rest : List LiftLine
  pub holds : IsList (take entries tree) present
  pub asked : Asked sheet at (count - i) rest
  pub wrote : WroteUpTo (lift_text m t ls) (lift_text m present rest) out₀ 0 out next
  pub leads : tree_after m present rest ≡ tree_after m t ls
  pub most : next ≤ lift_bytes * i

pub reached_start : (m : MoveTable) (sheet : List ℕ) (t : Tree) (ls : List LiftLine) (start count : ℕ) (tree : List ℕ) (nodes : ℕ) (out : List ℕ) → IsList (take nodes tree) t → Asked sheet start count ls
    → Reached m sheet t ls count 0 tree nodes out out start 0
reached_start m sheet t ls start count tree nodes out w a = record {
  present = t;
  rest = ls;
  holds = w;
  asked = record { end = a.end; lines = a.lines; counted = omega (arith, a.counted) };
  wrote = up_to_start (lift_text m t ls) out 0;
  leads = refl;
  most = omega arith;
}

-- the next lift line
pub record Turn (sheet : List ℕ) (at : ℕ) (rest : List LiftLine) : Type 0 where
  pub line : LiftLine
  pub more : List LiftLine
  pub is : rest ≡ line ∷ more
  pub read : (line_at sheet_rules sheet at).line ≡ Some (Lift line.position line.levels)
  pub range : LiftRange line

pub turn : (sheet : List ℕ) (at n : ℕ) (rest : List LiftLine) → Asked sheet at n rest → 0 < n → Turn sheet at rest
turn sheet at n [] A h = absurd (omega (arith, A.counted))
turn sheet at n (l ∷ more) A h = unfold LiftsTo in record { line = l; more = more; is = refl; read = A.lines.0; range = A.lines.1 }

-- the numbers that the code takes from the line are its own
pub same_lift : {sheet : List ℕ} {at : ℕ} {rest : List LiftLine} (T : Turn sheet at rest) (r : LineAt) → r ≡ line_at sheet_rules sheet at → {p n : ℕ} → r.line ≡ Some (Lift p n)
    → (p ≡ T.line.position) × (n ≡ T.line.levels)
same_lift {sheet} {at} {rest} T r e {p} {n} f =
    let q : Some (Lift p n) ≡ Some (Lift T.line.position T.line.levels) = sym f ∙ ap (λ (x : LineAt). x.line) e ∙ T.read in
    (cc, cc)

next_asked : (sheet : List ℕ) (at n : ℕ) (l : LiftLine) (more : List LiftLine) → Asked sheet at (suc n) (l ∷ more) → Asked sheet (line_at sheet_rules sheet at).next n more
unfolding LiftsTo
next_asked sheet at n l more A = record { end = A.end; lines = A.lines.2; counted = omega (arith, A.counted) }

-- one lift more
text_next : (m : MoveTable) (t : Tree) (l : LiftLine) (more : List LiftLine) → lift_text m t (l ∷ more) ≡ row_text (lift_row (lift_answer l (lifting m t l))) ++ lift_text m (tree_left t (lifting m t l)) more
unfolding lines lift_rows lift_answers
text_next m t l more = refl

after_next : (m : MoveTable) (t : Tree) (l : LiftLine) (more : List LiftLine) → tree_after m t (l ∷ more) ≡ tree_after m (tree_left t (lifting m t l)) more
unfolding tree_after
after_next m t l more = refl

module _ {m : MoveTable} {sheet : List ℕ} {t : Tree} {ls : List LiftLine} {count i : ℕ} {tree : List ℕ} {entries : ℕ} {out₀ out : List ℕ} {at next : ℕ}
    (R : Reached m sheet t ls count i tree entries out₀ out at next) where
  pub reached_turn : i < count → Turn sheet at R.rest
  reached_turn h = turn sheet at (count - i) R.rest R.asked (omega arith)

  pub reached_next : {tree' out' : List ℕ} {r : Progress} → i < count → (T : Turn sheet at R.rest) → LiftedOne m R.present T.line tree' r out next out'
      → Reached m sheet t ls count (i + 1) tree' r.nodes out₀ out' (line_at sheet_rules sheet at).next r.next
  reached_next h T L =
      let n : count - i ≡ suc (count - (i + 1)) = omega arith in
      let A : Asked sheet at (suc (count - (i + 1))) (T.line ∷ T.more) = rw (← n, ← T.is) R.asked in
      record {
        present = tree_left R.present (lifting m R.present T.line);
        rest = T.more;
        holds = L.holds;
        asked = next_asked sheet at (count - (i + 1)) T.line T.more A;
        wrote = up_to_next (lift_text m R.present R.rest) (ap (lift_text m R.present) T.is ∙ text_next m R.present T.line T.more) R.wrote L.wrote;
        leads = sym (after_next m R.present T.line T.more) ∙ ap (tree_after m R.present) (sym T.is) ∙ R.leads;
        most = omega (arith, R.most, L.most);
      }

  -- at the end
  pub reached_end : i ≡ count → count ≡ length ls → entries ≤ most_nodes → LiftedAll m t ls tree (record { nodes = entries; next = next }) out₀ out
  reached_end e k f = go R.rest refl
    where
      go : (rest : List LiftLine) → R.rest ≡ rest → LiftedAll m t ls tree (record { nodes = entries; next = next }) out₀ out
      go [] q =
          let z : tree_after m t ls ≡ R.present = sym R.leads ∙ ap (tree_after m R.present) q ∙ (unfold tree_after in refl) in
          record {
            holds = rw z R.holds;
            fits = f;
            wrote = up_to_end (lift_text m R.present R.rest) (ap (lift_text m R.present) q ∙ (unfold lines lift_rows lift_answers in refl)) R.wrote;
            most = omega (arith, R.most);
          }
      go (l ∷ more) q = absurd (omega (arith, R.asked.counted, ap (length {A = LiftLine}) q))

-- 2 is none of 0, 1, 3, 4 and 5
pub not_two : {X : Type 0} → (◌≡◌ {A = ℕ} 2 0) ⊎ ((◌≡◌ {A = ℕ} 2 1) ⊎ ((◌≡◌ {A = ℕ} 2 3) ⊎ ((◌≡◌ {A = ℕ} 2 4) ⊎ (◌≡◌ {A = ℕ} 2 5)))) → X
not_two (inl e) = absurd (omega arith)
not_two (inr (inl e)) = absurd (omega arith)
not_two (inr (inr (inl e))) = absurd (omega arith)
not_two (inr (inr (inr (inl e)))) = absurd (omega arith)
not_two (inr (inr (inr (inr e)))) = absurd (omega arith)
