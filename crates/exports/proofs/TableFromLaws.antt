-- A school's table from two slices.
use mathlib.Core.Path.{◌≡◌, refl, sym, ap, ap₂, ◌∙◌}
use mathlib.Core.Bool.{Bool, true, false, cond, ◌&&◌, false≢true}
use mathlib.Core.List.{List, ◌++◌, append-nil}
use Prim.Native.Nat.{ℕ}
use native.Mathlib.Omega.{arith}
use borrow.Author.Tests.{eqb-true}
use lib.Dec.{eqb}
use lib.ListN.{length, replicate, length-replicate, drop_of_length-le}
use Rattle.tree.specs.InnerWriting.{Wrote}
use Rattle.tree.proofs.WritingLaws.{wrote_over}
use Rattle.move_table.specs.Packing.{empty}
use Rattle.move_table.specs.declared.LoadedTable.{LoadedTable}
use Rattle.exports.specs.Storing.{table_from}

pub both_lengths : (signs lengths : List ℕ) → (eqb (length signs) 1116 && eqb (length lengths) 36) ≡ true → (length signs ≡ 1116) × (length lengths ≡ 36)
both_lengths signs lengths e = go (eqb (length signs) 1116) (eqb (length lengths) 36) (λ f. eqb-true (length signs) 1116 f) (λ f. eqb-true (length lengths) 36 f) e
  where
    go : (x y : Bool) → (x ≡ true → length signs ≡ 1116) → (y ≡ true → length lengths ≡ 36) → (x && y) ≡ true → (length signs ≡ 1116) × (length lengths ≡ 36)
    go true y f g e = (f refl, g e)
    go false y f g e = absurd (false≢true e)

-- zeros that are written over whole
all_written : (n : ℕ) (xs out : List ℕ) (r : ℕ) → length xs ≡ n → Wrote (replicate n 0) 0 out r xs → out ≡ xs
all_written n xs out r e w =
    let z = length-replicate {A = ℕ} n 0 in
    wrote_over w (omega arith) ∙ ap (λ (ys : List ℕ). xs ++ ys) (drop_of_length-le (replicate n 0) {i = length xs} (omega arith)) ∙ append-nil xs

pub table_written : (signs lengths : List ℕ) {rows counts : List ℕ} {r s : ℕ} → (eqb (length signs) 1116 && eqb (length lengths) 36) ≡ true
    → Wrote (replicate 1116 0) 0 rows r signs → Wrote (replicate 36 0) 0 counts s lengths
    → ◌≡◌ {A = LoadedTable} (record { signs = rows; lengths = counts }) (table_from signs lengths)
table_written signs lengths {rows} {counts} {r} {s} e w v =
    let L = both_lengths signs lengths e in
    ap₂ (λ (l m : List ℕ). record { signs = l; lengths = m }) (all_written 1116 signs rows r L.0 w) (all_written 36 lengths counts s L.1 v)
    ∙ sym (ap (λ (b : Bool). cond b (record { signs = signs; lengths = lengths }) empty) e)

pub table_zeros : (signs lengths : List ℕ) → (eqb (length signs) 1116 && eqb (length lengths) 36) ≡ false → empty ≡ table_from signs lengths
table_zeros signs lengths e = sym (ap (λ (b : Bool). cond b (record { signs = signs; lengths = lengths }) empty) e)
