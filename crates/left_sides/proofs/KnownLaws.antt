-- What is known of the parts and of an operator's formula, and a table by its places.
use mathlib.Core.Path.{◌≡◌, refl, sym, ap, subst, ◌∙◌}
use mathlib.Core.Bool.{Bool, true, false, not, cond, ◌&&◌}
use mathlib.Core.List.{List, [], ◌∷◌, ◌++◌, foldr, map, zip_with}
use Prim.Native.Nat.{ℕ, zero, suc, ◌+◌, ◌-◌, ◌≤◌, ◌<◌}
use native.Mathlib.Omega.{arith}
use lib.Dec.{eqb}
use lib.ListN.{get_or}
use Rattle.tree.specs.Tree.{Basic, operator_of, apply}
use Rattle.words.specs.Formula.{Formula, A, B, C, D, join, names_a, level_of_a}
use Rattle.words.specs.InnerWords.{blank}
use Rattle.moves.specs.Moves.{State, Input, place_number}
use Rattle.moves.proofs.TableLaws.{by_state, by_input, same_entry}
use Rattle.left_sides.specs.declared.Known.{Known}
use Rattle.left_sides.specs.InnerKnown.{meaning, capped, known, PartIs}

-- ---- the parts
-- a part's row: its sign where a filling has it in
abbrev row_of : Formula → ℕ → List ℕ
row_of p s = map (λ b. cond b s blank) (meaning p)

-- what the code says of the part that a sign names
abbrev part_known : ℕ → Known
part_known s = record {
  names = eqb s 65;
  once = eqb s 65;
  level = 0;
  meaning = map (λ b. eqb b s) (get_or (row_of A 65 ∷ row_of B 66 ∷ row_of C 67 ∷ row_of D 68 ∷ []) (s - 65) []);
}

pub part_known_lem : (s : ℕ) → 65 ≤ s → s ≤ 68 → PartIs s (part_known s)
part_known_lem s h l = subst (λ (s : ℕ). PartIs s (part_known s)) (let e : 65 + (s - 65) ≡ s = omega arith in e) (go (s - 65) (omega arith))
  where
    go : (k : ℕ) → k < 4 → PartIs (65 + k) (part_known (65 + k))
    go zero h = (A, refl, refl)
    go (suc zero) h = (B, refl, refl)
    go (suc (suc zero)) h = (C, refl, refl)
    go (suc (suc (suc zero))) h = (D, refl, refl)
    go (suc (suc (suc (suc k)))) h = absurd (omega arith)

-- ---- an operator's formula, by what is known of its operands
module _ (o : Basic) (p q : Formula) (x y : Known) (e : x ≡ known p) (g : y ≡ known q) (level : ℕ) (m : List Bool)
    (v : m ≡ zip_with (apply (operator_of o)) x.meaning y.meaning) where
  pub joined_left : (b : Bool) → x.names ≡ true → b ≡ (x.once && not y.names) → ((n : ℕ) → x.level ≡ capped n → level ≡ capped (n + 1))
      → ◌≡◌ {A = Known} (record { names = true; once = b; level = level; meaning = m }) (known (join o p q))
  unfolding zip_with
  joined_left b t u k =
      let h : names_a p ≡ true = sym (ap (λ (z : Known). z.names) e) ∙ t in
      rw (k (level_of_a p) (ap (λ (z : Known). z.level) e), u, v, e, g, h)

  pub joined_right : x.names ≡ false → ((n : ℕ) → y.level ≡ capped n → level ≡ capped (n + 1))
      → ◌≡◌ {A = Known} (record { names = y.names; once = y.once; level = level; meaning = m }) (known (join o p q))
  unfolding zip_with
  joined_right t k =
      let h : names_a p ≡ false = sym (ap (λ (z : Known). z.names) e) ∙ t in
      rw (k (level_of_a q) (ap (λ (z : Known). z.level) g), v, e, g, h)

-- ---- a table by places: states rising, and inputs within each
abbrev by_place : {X : Type 0} → (State → Input → X) → List X
by_place f = foldr ◌++◌ [] (by_state (λ x. by_input (f x)))

pub at_place : {X : Type 0} (f : State → Input → X) (d : X) (x : State) (i : Input) (n : ℕ) → n ≡ place_number x i → get_or (by_place f) n d ≡ f x i
at_place f d x i n e = rw e (same_entry (λ x i. get_or (by_place f) (place_number x i) d) f refl x i)
