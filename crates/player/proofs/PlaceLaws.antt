-- Places of groups: none given yet, one more given, and a set put at a group's place.
use mathlib.Core.Path.{◌≡◌, refl, sym, ap, ◌∙◌}
use mathlib.Core.Bool.{cond}
use mathlib.Core.List.{List, []}
use Prim.Native.Nat.{ℕ, ◌+◌, ◌≤◌, ◌<◌}
use native.Mathlib.Omega.{arith}
use borrow.Author.Tests.{eq-eqb, ne_eqb}
use lib.Dec.{eqb}
use lib.ListN.{length, get_or, set, replicate, length-set, length-replicate, get_or-replicate}
use lib.Seq.{get_or-set_other}
use Rattle.player.specs.Limits.{last_group, most_pairs}
use Rattle.player.specs.Instructions.{Lamps, Rig, put, empty}
use Rattle.player.specs.InnerWords.{HoldsSet, Placed, place_count}
use Rattle.player.proofs.HoldingLaws.{written}

-- no place given: the index is all 0, and each set is empty
pub no_place : (groups places : ℕ) (words : List ℕ) → groups ≡ last_group + 1 → places ≡ place_count → HoldsSet words (empty 0)
    → Placed empty (replicate groups 0) (replicate places words) 0
no_place groups places words all_groups all_places none =
    let index : List ℕ = replicate groups 0 in
    let sets : List (List ℕ) = replicate places words in
    let nowhere : (g : ℕ) → g ≤ last_group → get_or index g 0 ≡ 0 = λ g le. get_or-replicate groups g 0 0 (omega arith) in
    let at : (p : ℕ) → p < place_count → HoldsSet (get_or sets p []) (empty 0) = λ p lt. rw (get_or-replicate places p words [] (omega arith)) none in
    record {
      indexed = record {
        all_groups = length-replicate groups 0 ∙ all_groups;
        all_places = length-replicate places words ∙ all_places;
        place = λ g le. omega (arith, nowhere g le);
      };
      holds = λ g le. rw (nowhere g le) (at 0 (omega arith));
      below = λ g le. omega (arith, nowhere g le);
      owner = λ p. 0;
      owned = λ g le some. absurd (some (nowhere g le));
      nobody = at 0 (omega arith);
      free = λ p lt. at p;
    }

module _ {G : Rig} {index : List ℕ} {sets : List (List ℕ)} {given : ℕ} (placed : Placed G index sets given) (group : ℕ) (right : group ≤ last_group) where
  -- the next place is a group's that has none
  pub place_given : given < most_pairs → get_or index group 0 ≡ 0 → Placed G (set index group (given + 1)) sets (given + 1)
  place_given room none =
      let indexed = placed.indexed in
      let within : group < length index = omega arith in
      let next = placed.free (given + 1) (omega arith) (omega arith) in
      let unnamed : HoldsSet (get_or sets 0 []) (G group) = rw none at (placed.holds group right) in
      let same : HoldsSet (get_or sets (given + 1) []) (G group) = record {
        size = next.size;
        entry = λ i h. next.entry i h ∙ sym (placed.nobody.entry i h) ∙ unnamed.entry i h;
      } in
      let owner : ℕ → ℕ = λ p. cond (eqb p (given + 1)) group (placed.owner p) in
      let each = written (λ g p. g ≤ last_group → (p ≤ given + 1) × HoldsSet (get_or sets p []) (G g) × ((p ≡ 0 → ⊥) → owner p ≡ g)) index group (given + 1) 0 within
      (λ _. (omega arith, same, λ some. rw (eq-eqb (given + 1) (given + 1) refl)))
      (λ g n le. let below = placed.below g le in
      (omega arith, placed.holds g le, λ some. rw (ne_eqb (get_or index g 0) (given + 1) (λ e. omega arith)) (placed.owned g le some))) in
      record {
        indexed = record {
          all_groups = length-set index group (given + 1) ∙ indexed.all_groups;
          all_places = indexed.all_places;
          place = λ g le. omega (arith, (each g le).0);
        };
        holds = λ g le. (each g le).1;
        below = λ g le. (each g le).0;
        owner = owner;
        owned = λ g le. (each g le).2;
        nobody = placed.nobody;
        free = λ p lt. placed.free p (omega arith);
      }

  -- a set put at the place of a group that has one becomes that group's, and no other's
  pub place_put : {words : List ℕ} {f : Lamps} → (get_or index group 0 ≡ 0 → ⊥) → HoldsSet words f
      → Placed (put G group f) index (set sets (get_or index group 0) words) given
  place_put {words} {f} some held =
      let indexed = placed.indexed in
      let place : ℕ = get_or index group 0 in
      let within : place < length sets = omega (arith, indexed.place group right) in
      let alone : (g : ℕ) → g ≤ last_group → get_or index g 0 ≡ place → g ≡ group =
      λ g le e. sym (placed.owned g le (λ z. some (sym e ∙ z))) ∙ ap placed.owner e ∙ placed.owned group right some in
      record {
        indexed = record { all_groups = indexed.all_groups; all_places = length-set sets place words ∙ indexed.all_places; place = indexed.place };
        holds = λ g le. written (λ p x. get_or index g 0 ≡ p → HoldsSet x (put G group f g)) sets place words [] within
            (λ e. rw (eq-eqb g group (alone g le e)) held)
            (λ p n e. rw (ne_eqb g group (λ x. n (sym e ∙ ap (λ (k : ℕ). get_or index k 0) x)), ← e) (placed.holds g le)) (get_or index g 0) refl;
        below = placed.below;
        owner = placed.owner;
        owned = placed.owned;
        nobody = rw (get_or-set_other sets place 0 words [] (λ e. some (sym e))) placed.nobody;
        free = λ p lt. rw (get_or-set_other sets place p words [] (λ e. omega (arith, placed.below group right))) (placed.free p lt);
      }
