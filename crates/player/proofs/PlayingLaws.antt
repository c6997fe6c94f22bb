-- Laws of a call of the player, for the crates above: which faults the code of well-formed instructions can have, and what a call
-- without a fault answers and leaves.
use mathlib.Core.Path.{◌≡◌, refl, ◌∙◌}
use mathlib.Core.Bool.{Bool, true, false, not, cond, true≢false}
use mathlib.Core.List.{List, [], ◌∷◌, ◌++◌}
use Prim.Native.Nat.{ℕ, ◌-◌, ◌*◌, ◌/◌, ◌%◌, ◌^◌, ◌≤◌, ◌<◌}
use native.Mathlib.Omega.{arith}
use borrow.Author.Tests.{eq-eqb, ne_eqb, le-ltb, lt-leb, ltb-false, eqb-true, eqb-false}
use lib.Dec.{eqb, ltb}
use lib.ListN.{length, get_or, drop, get_or-append}
use Rattle.std.specs.Prelude.{Ok, Err}
use Rattle.common.specs.Answer.{done}
use Rattle.player.specs.Limits.{register_count, last_group, last_lamp, byte_count, most_instructions}
use Rattle.player.specs.Instructions.{Lamps, Instruction, load, operate, lit_lamps, numbers_of, instructions}
use Rattle.player.specs.Patches.{rig}
use Rattle.player.specs.Bytes.{bit, bytes}
use Rattle.player.specs.Playing.{wrong_length, wrong_code, wrong_pair_count, wrong_patch, patch_fault, fault_by, play_fault, bytes_by, refusal_number, Played, played_says, PlaysBy}
use Rattle.player.specs.declared.Refusal.{Refusal}
use Rattle.player.specs.declared.Refusal.TheVariants.{ShortBuffer, WrongLength, WrongInstruction, WrongPairCount, WrongPair}
use Rattle.player.specs.InnerChecks.{lengths_fault}
use Rattle.player.proofs.InstructionLaws.{AllWellFormed, kind_not_load, kind_inside, numbers_length}
use Rattle.player.proofs.FaultLaws.{or_left, or_right}
use Rattle.player.proofs.ByteLaws.{bytes_length, byte_bit}

-- ---- the faults of the numbers of instructions
-- No fault 23 in well-formed instructions.
pub numbers_no_23 : (is : List Instruction) → AllWellFormed is → wrong_code (numbers_of is) ≡ false
unfolding AllWellFormed numbers_of wrong_code
numbers_no_23 [] h = refl
numbers_no_23 (load target group ∷ is) h =
    rw (lt-leb register_count target h.0.0, le-ltb group 1 h.0.1, le-ltb last_group group h.0.2, numbers_no_23 is h.1)
numbers_no_23 (operate o target s t ∷ is) h =
    rw (kind_not_load o, kind_inside o, lt-leb register_count target h.0.0, lt-leb register_count s h.0.1, lt-leb register_count t h.0.2, numbers_no_23 is h.1)

-- No fault 22 in the numbers of 1 to so many instructions.
pub length_right : (most n count : ℕ) → n ≡ 4 * count → 1 ≤ count → count ≤ most → wrong_length most n ≡ false
length_right most n count e some few = rw (ne_eqb n 0 (λ z. omega arith), le-ltb most (n / 4) (omega arith), eq-eqb (n % 4) 0 (omega arith))

-- and the other way round
pub length_fits : (most n : ℕ) → wrong_length most n ≡ false → (1 ≤ n) × (n / 4 ≤ most) × (n % 4 ≡ 0)
length_fits most n h =
    let some = eqb-false n 0 (or_left _ _ h) in
    let rest = or_right (eqb n 0) _ h in
    (omega (arith, some), ltb-false most (n / 4) (or_left _ _ rest), eqb-true (n % 4) 0 (go (eqb (n % 4) 0) (or_right (ltb most (n / 4)) _ rest)))
  where
    go : (b : Bool) → not b ≡ false → b ≡ true
    go true h = refl
    go false h = absurd (true≢false h)

module _ (is : List Instruction) (some : 1 ≤ length is) (few : length is ≤ most_instructions) where
  pub numbers_no_22 : wrong_length most_instructions (length (numbers_of is)) ≡ false
  numbers_no_22 = length_right most_instructions (length (numbers_of is)) (length is) (numbers_length is) some few

  -- So the player refuses them only for its bytes and its patch.
  pub numbers_fault : (patch lamps : List ℕ) → AllWellFormed is
      → play_fault (numbers_of is) patch lamps ≡ fault_by false false patch lamps
  numbers_fault patch lamps h = rw (numbers_no_22, numbers_no_23 is h)

-- ---- a call without a fault
only_done : (r : Played) → played_says r ≡ done [] → r ≡ Ok tt
only_done (Ok ok) e = refl
only_done (Err refusal) e = cc

-- It is done.
pub plays_done : {fault : ℕ} {lit : Lamps} {lamps : List ℕ} {r : Played} {after : List ℕ} → PlaysBy fault lit lamps r after → fault ≡ 0 → r ≡ Ok tt
plays_done {fault} {lit} {lamps} {r} P none = only_done r (P.says ∙ rw (eq-eqb fault 0 none))

-- ---- what a call answers
some_number : (refusal : Refusal) → refusal_number refusal ≡ 0 → ⊥
some_number ShortBuffer e = omega (arith, e)
some_number WrongLength e = omega (arith, e)
some_number WrongInstruction e = omega (arith, e)
some_number WrongPairCount e = omega (arith, e)
some_number WrongPair e = omega (arith, e)

pub refused : (fault : ℕ) (lit : Lamps) (lamps : List ℕ) (refusal : Refusal) → refusal_number refusal ≡ fault → PlaysBy fault lit lamps (Err refusal) lamps
refused fault lit lamps refusal e =
    let z : eqb fault 0 ≡ false = rw e at (ne_eqb (refusal_number refusal) 0 (some_number refusal)) in
    record { says = rw (z, e); written = rw z }

pub played : (fault : ℕ) (lit : Lamps) (lamps after : List ℕ) → fault ≡ 0 → after ≡ bytes lit ++ drop byte_count lamps → PlaysBy fault lit lamps (Ok tt) after
played fault lit lamps after e h =
    let z : eqb fault 0 ≡ true = eq-eqb fault 0 e in
    record { says = rw z; written = rw z h }

-- ---- what the checks without a fault say
pub lengths_right : (has22 : Bool) (bytes : ℕ) → 0 ≡ lengths_fault has22 bytes → (byte_count ≤ bytes) × (has22 ≡ false)
lengths_right has22 bytes = go (ltb bytes byte_count) refl has22
  where
    go : (a : Bool) → ltb bytes byte_count ≡ a → (b : Bool) → ◌≡◌ {A = ℕ} 0 (cond a 21 (cond b 22 0)) → (byte_count ≤ bytes) × (b ≡ false)
    go true e b h = absurd (omega arith)
    go false e true h = absurd (omega arith)
    go false e false h = (ltb-false bytes byte_count e, refl)

pub check_right : (patch : List ℕ) → 0 ≡ patch_fault patch → (wrong_pair_count (length patch) ≡ false) × (wrong_patch patch ≡ false)
check_right patch = go (wrong_pair_count (length patch)) (wrong_patch patch)
  where
    go : (a b : Bool) → ◌≡◌ {A = ℕ} 0 (cond a 24 (cond b 25 0)) → (a ≡ false) × (b ≡ false)
    go true b h = absurd (omega arith)
    go false true h = absurd (omega arith)
    go false false h = (refl, refl)

pub no_fault : (has22 has23 : Bool) (patch lamps : List ℕ) → byte_count ≤ length lamps → has22 ≡ false → has23 ≡ false → 0 ≡ patch_fault patch
    → fault_by has22 has23 patch lamps ≡ 0
no_fault has22 has23 patch lamps long h w right = rw (le-ltb (length lamps) byte_count long, h, w, ← right)

-- no fault: the bytes suffice, code and patch are right
pub record Faultless (has22 has23 : Bool) (patch lamps : List ℕ) : Type 0 where
  pub long : byte_count ≤ length lamps
  pub length_right : has22 ≡ false
  pub code_right : has23 ≡ false
  pub count_right : wrong_pair_count (length patch) ≡ false
  pub patch_right : wrong_patch patch ≡ false

pub faultless : (has22 has23 : Bool) (patch lamps : List ℕ) → fault_by has22 has23 patch lamps ≡ 0 → Faultless has22 has23 patch lamps
faultless b c patch lamps = go (ltb (length lamps) byte_count) refl b c (wrong_pair_count (length patch)) refl (wrong_patch patch) refl
  where
    go : (a : Bool) → ltb (length lamps) byte_count ≡ a → (b c d : Bool) → wrong_pair_count (length patch) ≡ d → (e : Bool) → wrong_patch patch ≡ e
        → fault_by b c patch lamps ≡ 0 → Faultless b c patch lamps
    go true p b c d q e r h = let z = simp (p, q, r) at h in absurd (omega arith)
    go false p true c d q e r h = let z = simp (p, q, r) at h in absurd (omega arith)
    go false p false true true q e r h = let z = simp (p, q, r) at h in absurd (omega arith)
    go false p false true false q true r h = let z = simp (p, q, r) at h in absurd (omega arith)
    go false p false true false q false r h = let z = simp (p, q, r) at h in absurd (omega arith)
    go false p false false true q e r h = let z = simp (p, q, r) at h in absurd (omega arith)
    go false p false false false q true r h = let z = simp (p, q, r) at h in absurd (omega arith)
    go false p false false false q false r h = record { long = ltb-false (length lamps) byte_count p; length_right = refl; code_right = refl; count_right = q; patch_right = r }

-- Each lamp's bit says whether the answer holds the lamp.
pub lamp_bit : (code patch lamps : List ℕ) → play_fault code patch lamps ≡ 0 → (n : ℕ) → 1 ≤ n → n ≤ last_lamp
    → get_or (bytes_by (play_fault code patch lamps) (lit_lamps (rig patch) (instructions code)) lamps) ((n - 1) / 8) 0 / 2 ^ ((n - 1) % 8) % 2 ≡ bit (lit_lamps (rig patch) (instructions code) n)
lamp_bit code patch lamps none n low high =
    let f : Lamps = lit_lamps (rig patch) (instructions code) in
    let within : (n - 1) / 8 < length (bytes f) = rw (bytes_length f) (omega arith) in
    rw (eq-eqb (play_fault code patch lamps) 0 none, get_or-append (bytes f) (drop byte_count lamps) 0 ((n - 1) / 8) within) (byte_bit f n low high)
