-- Tests joined by "or" that came out false: what an instruction without fault 23, a patch without fault 24 and a pair without fault 25
-- say of their numbers.
use mathlib.Core.Path.{◌≡◌, refl}
use mathlib.Core.Bool.{Bool, true, false, cond, ◌||◌, not, true≢false}
use mathlib.Core.List.{List}
use Prim.Native.Nat.{ℕ, ◌*◌, ◌%◌, ◌≤◌, ◌<◌}
use lib.Dec.{eqb, leb, ltb}
use lib.ListN.{length}
use borrow.Author.Tests.{eq-eqb, ne_eqb, leb-false, ltb-false}
use Rattle.player.specs.Limits.{register_count, last_group, last_lamp, most_pairs, outside}
use Rattle.player.specs.Instructions.{add, both, load_kind, kind_of}
use Rattle.player.specs.Playing.{wrong_instruction, wrong_pair_count, wrong_pair}

pub or_left : (x y : Bool) → (x || y) ≡ false → x ≡ false
or_left true y h = h
or_left false y h = refl

pub or_right : (x y : Bool) → (x || y) ≡ false → y ≡ false
or_right true y h = absurd (true≢false h)
or_right false y h = h

-- An instruction can be carried out: it has no fault 23, and there is an entry for each register.
pub record Executable (kind target s t : ℕ) (registers : List (List ℕ)) : Type 0 where
  pub right : wrong_instruction kind target s t ≡ false
  pub all_registers : length registers ≡ register_count

module _ {kind target s t : ℕ} {registers : List (List ℕ)} (executable : Executable kind target s t registers) where
  pub right_target : target < register_count
  right_target = leb-false register_count target (or_left _ _ executable.right)

  -- what the test of the two last numbers comes to for a LOAD, and for the others
  rest : cond (eqb kind load_kind) (outside 1 last_group s || not (eqb t 0)) (outside (kind_of add) (kind_of both) kind || (leb register_count s || leb register_count t)) ≡ false
  rest = or_right (leb register_count target) _ executable.right

  pub right_group : kind ≡ load_kind → s ≤ last_group
  right_group e = ltb-false last_group s (or_right (ltb s 1) _ (or_left (outside 1 last_group s) (not (eqb t 0)) (rw (eq-eqb kind load_kind e) at rest)))

  sources : (kind ≡ load_kind → ⊥) → (leb register_count s || leb register_count t) ≡ false
  sources n = or_right (outside (kind_of add) (kind_of both) kind) _ (rw (ne_eqb kind load_kind n) at rest)

  pub right_s : (kind ≡ load_kind → ⊥) → s < register_count
  right_s n = leb-false register_count s (or_left _ _ (sources n))

  pub right_t : (kind ≡ load_kind → ⊥) → t < register_count
  right_t n = leb-false register_count t (or_right (leb register_count s) _ (sources n))

pub right_pairs : (n : ℕ) → wrong_pair_count n ≡ false → n ≤ 2 * most_pairs
right_pairs n right = ltb-false (2 * most_pairs) n (or_right (not (eqb (n % 2) 0)) _ right)

pub right_pair : (group lamp : ℕ) → wrong_pair group lamp ≡ false → (group ≤ last_group) × (1 ≤ lamp) × (lamp ≤ last_lamp)
right_pair group lamp right =
    let inside = or_right (outside 1 last_group group) _ right in (
      ltb-false last_group group (or_right (ltb group 1) _ (or_left _ _ right)),
      ltb-false lamp 1 (or_left _ _ inside),
      ltb-false last_lamp lamp (or_right (ltb lamp 1) _ inside),
    )
