-- Laws of writing into a buffer.
use mathlib.Core.Path.{◌≡◌, refl, sym, ap, ◌∙◌}
use mathlib.Core.List.{List, [], ◌∷◌, ◌++◌}
use Prim.Native.Nat.{ℕ, suc, ◌+◌, ◌≤◌, ◌<◌}
use native.Mathlib.Omega.{arith}
use native.Mathlib.Numerals.{add-one}
use lib.ListN.{length, get_or, set, take, drop, length-append, length-set}
use lib.Seq.{sets, sets-eq, take_at, take-suc}
use Rattle.tree.specs.Writing.{over}
use Rattle.tree.specs.InnerWriting.{Wrote}

pub sets_append : {A : Type 0} (l vs ws : List A) (i j : ℕ) → i + length vs ≡ j → sets l i (vs ++ ws) ≡ sets (sets l i vs) j ws
sets_append l [] ws i j e = let z : i ≡ j = omega arith in rw z
sets_append l (v ∷ vs) ws i j e = sets_append (set l i v) vs ws (suc i) j (omega arith)

pub wrote_nothing : {A : Type 0} (out : List A) (at : ℕ) → Wrote out at out at []
wrote_nothing out at = record { list = refl; ends = omega arith; same = refl }

pub wrote_one : {A : Type 0} (out : List A) (at : ℕ) (x : A) → Wrote out at (set out at x) (at + 1) (x ∷ [])
wrote_one out at x = record { list = refl; ends = refl; same = length-set out at x }

-- one writing after another is one
pub wrote_then : {A : Type 0} {out out₁ out₂ : List A} {at at₁ at₂ : ℕ} {xs ys : List A} → Wrote out at out₁ at₁ xs → Wrote out₁ at₁ out₂ at₂ ys → Wrote out at out₂ at₂ (xs ++ ys)
wrote_then {A} {out} {out₁} {out₂} {at} {at₁} {at₂} {xs} {ys} f g = record {
  list = g.list ∙ ap (λ (o : List A). sets o at₁ ys) f.list ∙ sym (sets_append out xs ys at at₁ (sym f.ends));
  ends = omega (arith, f.ends, g.ends, length-append xs ys);
  same = g.same ∙ f.same;
}

-- the same with what was written said in another way
pub wrote_as : {A : Type 0} {out out₁ : List A} {at at₁ : ℕ} {xs ys : List A} → Wrote out at out₁ at₁ xs → xs ≡ ys → Wrote out at out₁ at₁ ys
wrote_as {A} {out} {out₁} {at} {at₁} w e = rw e at w

-- what was written from the front on, as 01 says it
pub wrote_over : {out out₁ : List ℕ} {n : ℕ} {xs : List ℕ} → Wrote out 0 out₁ n xs → length xs ≤ length out → out₁ ≡ over xs out
wrote_over {out} {out₁} {n} {xs} w h = w.list ∙ sets-eq xs out 0 (omega arith) ∙ ap (λ (k : ℕ). xs ++ drop k out) (let z : 0 + length xs ≡ length xs = omega arith in z)

-- the front of such a buffer
pub take_over : (xs out : List ℕ) (n : ℕ) → n ≡ length xs → take n (over xs out) ≡ xs
take_over xs out n e = take_at xs (drop (length xs) out) n (sym e)

pub wrote_take : {out out₁ : List ℕ} {n : ℕ} {xs : List ℕ} → Wrote out 0 out₁ n xs → length xs ≤ length out → take n out₁ ≡ xs
wrote_take {out} {out₁} {n} {xs} w h = rw (wrote_over w h) (take_over xs out n (omega (arith, w.ends)))

-- one entry more of a list that is copied
pub wrote_more : {A : Type 0} {out out₁ : List A} {at next : ℕ} (source : List A) (i : ℕ) (x : A) → i < length source → x ≡ get_or source i x
    → Wrote out at out₁ next (take i source) → Wrote out at (set out₁ next x) (next + 1) (take (i + 1) source)
wrote_more {A} source i x h e w =
    wrote_as (wrote_then w (wrote_one _ _ x)) (ap (λ (y : A). take i source ++ (y ∷ [])) e ∙ sym (ap (λ (k : ℕ). take k source) (add-one i) ∙ take-suc source i x h))

pub wrote_next : {out out₁ : List ℕ} {at next : ℕ} (source : List ℕ) (i : ℕ) → i < length source → Wrote out at out₁ next (take i source)
    → Wrote out at (set out₁ next (get_or source i 0)) (next + 1) (take (i + 1) source)
wrote_next source i h w =
    wrote_as (wrote_then w (wrote_one _ _ (get_or source i 0))) (sym (ap (λ (k : ℕ). take k source) (add-one i) ∙ take-suc source i 0 h))
