-- A school's table that is handed over by value.
use mathlib.Core.Path.{◌≡◌, refl, ap}
use mathlib.Core.Bool.{true, false, true≢false}
use mathlib.Core.Option.{Option, some, none}
use mathlib.Core.List.{List}
use Prim.Native.Nat.{ℕ}
use lib.ListN.{length}
use Rattle.words.specs.Formula.{Formula}
use Rattle.moves.specs.InnerEntries.{TableIs}
use Rattle.move_table.specs.Loading.{school_table}
use Rattle.move_table.specs.Packing.{unpacked, table_of}
use Rattle.move_table.specs.InnerLoading.{is_table}
use Rattle.move_table.specs.declared.LoadedTable.{LoadedTable}
use Rattle.move_table.proofs.SchoolLaws.{unpacked_table, has_entries}
use Rattle.lift.specs.Lift.{refused, lift_of}
use Rattle.lift.specs.School.{lift_by, lift_with}

-- it is that of these entries
pub record Held (t : LoadedTable) : Type 0 where
  pub entries : List Formula
  pub is : unpacked t ≡ some entries
  pub holds : TableIs (school_table entries) t.signs t.lengths

pub table_held : (t : LoadedTable) → length t.signs ≡ 1116 → length t.lengths ≡ 36 → is_table (unpacked t) ≡ true → Held t
table_held t h k e = let E = has_entries (unpacked t) e in record { entries = E.0; is = E.1; holds = unpacked_table t E.0 h k E.1 }

pub by_table : {t : LoadedTable} (H : Held t) (room : ℕ) (l : List ℕ) (p k : ℕ) → lift_with t room l p k ≡ lift_of (school_table H.entries) room l p k
by_table H room l p k = ap (λ (o : Option (List Formula)). lift_by (table_of o) room l p k) H.is

pub no_table : (t : LoadedTable) (room : ℕ) (l : List ℕ) (p k : ℕ) → is_table (unpacked t) ≡ false → lift_with t room l p k ≡ refused 29
no_table t room l p k e = go (unpacked t) refl e
  where
    go : (o : Option (List Formula)) → unpacked t ≡ o → is_table o ≡ false → lift_with t room l p k ≡ refused 29
    go (some ps) q z = absurd (true≢false z)
    go none q z = ap (λ (o : Option (List Formula)). lift_by (table_of o) room l p k) q
