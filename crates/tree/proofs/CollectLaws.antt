-- One turn of the loop that collects the groups of a list.
use mathlib.Core.Path.{◌≡◌, refl, sym, ap, ◌∙◌}
use mathlib.Core.Bool.{Bool, true, false, cond}
use mathlib.Core.List.{List, [], ◌∷◌, ◌++◌}
use Prim.Native.Nat.{ℕ, ◌+◌, ◌≤◌, ◌<◌}
use native.Mathlib.Omega.{arith}
use native.Mathlib.Numerals.{add-one}
use borrow.Author.Tests.{lt-ltb, le-ltb}
use lib.ListN.{length, get_or, set, take, drop, length-append, drop_of_length-le}
use lib.Seq.{take-suc-set, length-take-le}
use Rattle.std.specs.Prelude.{Option, Some, None, IsSome}
use Rattle.tree.specs.Tree.{union, sign, is_in, with_new, collect, most_groups}
use Rattle.tree.specs.InnerGroups.{leaves_in, Collected}
use Rattle.tree.specs.declared.group_list.Groups.{Groups}
use Rattle.tree.proofs.GroupLaws.{collect_longer}
use Rattle.tree.proofs.PassLaws.{here}

module _ (xs list : List ℕ) (i : ℕ) where
  pub collect_operator : i < length list → sign union ≤ get_or list i 0 → collect xs (leaves_in (drop i list)) ≡ collect xs (leaves_in (drop (i + 1) list))
  unfolding leaves_in
  collect_operator h l = rw (here list i h, le-ltb (get_or list i 0) (sign union) l)

  collect_group : i < length list → get_or list i 0 < sign union → collect xs (leaves_in (drop i list)) ≡ collect (with_new xs (get_or list i 0)) (leaves_in (drop (i + 1) list))
  unfolding leaves_in collect
  collect_group h l = rw (here list i h, lt-ltb (get_or list i 0) (sign union) l)

  pub collect_old : i < length list → get_or list i 0 < sign union → is_in xs (get_or list i 0) ≡ true → collect xs (leaves_in (drop i list)) ≡ collect xs (leaves_in (drop (i + 1) list))
  collect_old h l e = collect_group h l ∙ ap (λ (b : Bool). collect (cond b xs (xs ++ (get_or list i 0 ∷ []))) (leaves_in (drop (i + 1) list))) e

  pub collect_new : i < length list → get_or list i 0 < sign union → is_in xs (get_or list i 0) ≡ false
      → collect xs (leaves_in (drop i list)) ≡ collect (xs ++ (get_or list i 0 ∷ [])) (leaves_in (drop (i + 1) list))
  collect_new h l e = collect_group h l ∙ ap (λ (b : Bool). collect (cond b xs (xs ++ (get_or list i 0 ∷ []))) (leaves_in (drop (i + 1) list))) e

  pub collect_end : length list ≤ i → collect xs (leaves_in (drop i list)) ≡ xs
  unfolding leaves_in collect
  collect_end h = rw (drop_of_length-le list h)

-- ---- at most eight groups are found
pub some_found : (gs : List ℕ) (r : Option Groups) → Collected gs r → length gs ≤ most_groups → IsSome r
some_found gs None c few = absurd (omega arith)
some_found gs (Some found) c few = refl

-- ---- the array of groups
module _ (found list : List ℕ) (count i : ℕ) where
  -- a new group is written behind the others
  pub collect_written : i < length list → get_or list i 0 < sign union → is_in (take count found) (get_or list i 0) ≡ false → count < length found
      → collect (take count found) (leaves_in (drop i list)) ≡ collect (take (count + 1) (set found count (get_or list i 0))) (leaves_in (drop (i + 1) list))
  collect_written h l e r =
      collect_new (take count found) list i h l e
      ∙ ap (λ (xs : List ℕ). collect xs (leaves_in (drop (i + 1) list))) (sym (ap (λ (k : ℕ). take k (set found count (get_or list i 0))) (add-one count) ∙ take-suc-set found count (get_or list i 0) r))

  -- a ninth does not fit
  pub collect_many : {gs : List ℕ} → i < length list → get_or list i 0 < sign union → is_in (take count found) (get_or list i 0) ≡ false → count ≡ most_groups → length found ≡ most_groups
      → collect (take count found) (leaves_in (drop i list)) ≡ gs → most_groups < length gs
  collect_many {gs} h l e n r q =
      let f : length (take count found) ≡ most_groups = length-take-le count found (omega arith) ∙ n in
      let b = collect_longer (take count found ++ (get_or list i 0 ∷ [])) (leaves_in (drop (i + 1) list)) in
      let c : length gs ≡ length (collect (take count found ++ (get_or list i 0 ∷ [])) (leaves_in (drop (i + 1) list))) = ap length (sym q ∙ collect_new (take count found) list i h l e) in
      omega (arith, length-append (take count found) (get_or list i 0 ∷ []))

  pub collected : (gs : List ℕ) (r : Groups) → r.list ≡ found → r.count ≡ count → length list ≤ i → collect (take count found) (leaves_in (drop i list)) ≡ gs → Collected gs (Some r)
  collected gs r e n h q = rw (e, n) (sym (collect_end (take count found) list i h) ∙ q)
