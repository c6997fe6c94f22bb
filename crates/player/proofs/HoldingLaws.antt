-- Words that hold sets of lamps, at the start and after one entry is written, and what an instruction does to the registers.
use mathlib.Core.Path.{◌≡◌, refl, sym, ◌∙◌}
use mathlib.Core.Bool.{Bool, true, false}
use mathlib.Core.List.{List, []}
use Prim.Native.Nat.{ℕ, ◌+◌, ◌*◌, ◌<◌}
use native.Mathlib.Omega.{arith}
use borrow.Author.Tests.{eq-eqb, ne_eqb, eqb-true, eqb-false}
use lib.Dec.{eqb}
use lib.ListN.{length, get_or, set, replicate, length-set, get_or-replicate}
use lib.Seq.{get_or-set_same, get_or-set_other}
use Rattle.player.specs.Instructions.{Lamps, Rig, Registers, combined, put, empty, step, load_kind, operation_with, instruction}
use Rattle.player.specs.Limits.{register_count}
use Rattle.player.specs.InnerWords.{word_width, word_count, HoldsSets, HoldsSet}
use Rattle.player.proofs.PackingLaws.{pack_off}

-- ---- one entry written
-- What holds of the entry written and of each other one holds of all.
pub written : {A : Type 0} (P : ℕ → A → Type 0) (l : List A) (i : ℕ) (x d : A) → i < length l → P i x → ((k : ℕ) → (k ≡ i → ⊥) → P k (get_or l k d))
    → (k : ℕ) → P k (get_or (set l i x) k d)
written P l i x d h here others k = go (eqb k i) refl
  where
    go : (b : Bool) → eqb k i ≡ b → P k (get_or (set l i x) k d)
    go true q = rw (eqb-true k i q, get_or-set_same l i x d h) here
    go false q =
        let n = eqb-false k i q in
        rw (get_or-set_other l i k x d n) (others k n)

-- ---- sets and registers
-- The words of a new set.
abbrev pub new_set : List ℕ
new_set = replicate word_count 0

pub holds_empty : HoldsSet new_set (empty 0)
holds_empty = record {
  size = refl;
  entry = λ i h. get_or-replicate word_count i 0 0 h ∙ sym (pack_off (empty 0) (word_width * i + 1) word_width (λ lamp a b. refl));
}

pub holds_none : HoldsSets (replicate register_count new_set) empty
holds_none = record { size = refl; entry = λ i h. rw (get_or-replicate register_count i new_set [] h) holds_empty }

pub holds_put : {registers : List (List ℕ)} {R : Registers} {words : List ℕ} {f : Lamps} → HoldsSets registers R → (target : ℕ) → target < register_count
    → HoldsSet words f → HoldsSets (set registers target words) (put R target f)
holds_put {registers} {R} {words} {f} h target l e = record {
  size = length-set registers target words ∙ h.size;
  entry = written (λ i x. i < register_count → HoldsSet x (put R target f i)) registers target words [] (omega (arith, h.size))
      (λ _. rw (eq-eqb target target refl) e) (λ i n lt. rw (ne_eqb i target n) (h.entry i lt));
}

-- ---- instructions
pub step_load : (G : Rig) (R : Registers) (kind target s t : ℕ) → kind ≡ load_kind → put R target (G s) ≡ step G (instruction kind target s t) R
step_load G R kind target s t e = rw (eq-eqb kind load_kind e)

pub step_combined : (G : Rig) (R : Registers) (kind target s t : ℕ) → (kind ≡ load_kind → ⊥)
    → put R target (combined (operation_with kind) (R s) (R t)) ≡ step G (instruction kind target s t) R
step_combined G R kind target s t n = rw (ne_eqb kind load_kind n)
