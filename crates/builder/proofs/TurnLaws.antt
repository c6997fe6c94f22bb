-- One turn of `build`: what its calls need, and that what they write is the tree of the table.
use mathlib.Core.Path.{◌≡◌, refl, sym, ap, ◌∙◌}
use mathlib.Core.Bool.{Bool, true, false, cond}
use mathlib.Core.List.{List, [], ◌∷◌}
use mathlib.Core.Option.{Option, some}
use Prim.Native.Nat.{ℕ, suc, ◌+◌, ◌-◌, ◌^◌, ◌<◌, ◌≤◌}
use native.Mathlib.Nat.{le_refl, two-pow-succ}
use native.Mathlib.Omega.{arith}
use lib.Dec.{eqb}
use lib.ListN.{length, get_or, take, length-take}
use Rattle.tree.specs.Tree.{sign, operator_of, Tree, postfix, most_groups}
use Rattle.tree.specs.InnerWriting.{Wrote}
use Rattle.tree.proofs.WritingLaws.{wrote_nothing, wrote_as}
use Rattle.free_tables.specs.InnerTables.{Table, half, first_part, second_part, Parted}
use Rattle.free_tables.specs.declared.Parts.{Parts}
use Rattle.splits.specs.InnerSplits.{first_holder, second_holder, choose, Sized}
use Rattle.splits.specs.declared.Holder.{Holder}
use Rattle.splits.specs.declared.Split.{Split}
use Rattle.builder.specs.InnerBuilding.{postfix_optional, size_optional, outer, formed, variable_tree, without, build, most_for, most_formed, between, variable_list, left_written, ends_there, before_written, after_written, Ready, split_chosen, IsPart, Turned, HolderTree, Holding, Built}
use Rattle.builder.specs.declared.Part.{Part}
use Rattle.builder.specs.declared.Turn.{Turn}
use Rattle.builder.proofs.WritingLaws.{optional_length, variable_list_lem, has_right, form_ends, form_wrote, without_length, left_room, whole_room}
use Rattle.builder.proofs.ReadyLaws.{variable_size, SplitBuildable, split_buildable}
use Rattle.builder.proofs.SizeLaws.{most_grows, first_built, second_built, build_size}

-- ---- the split
module _ {m : Holder} {t : Table} {gs : List ℕ} {n : ℕ} (e : length gs ≡ suc n) (ready : Ready m t gs) where
  pub turn_sized : Sized t (suc n)
  turn_sized = record { rows = ready.table.rows ∙ ap (λ (k : ℕ). 2 ^ k) e; most = omega (arith, ready.few) }

  turn_split : SplitBuildable m t gs (split_chosen m t n)
  turn_split = split_buildable n (choose m t n) e ready.table

  pub turn_below : {s : Split} → s ≡ split_chosen m t n → s.variable < length gs
  turn_below q = rw q turn_split.below

  -- the split's parts, in arrays
  pub turned : {s : Split} {p : ℕ} {parts : Parts} {rest : List ℕ} {k l : Holder} → s ≡ split_chosen m t n → p ≡ 2 ^ s.variable → Parted parts s.form t p
      → take (length gs - 1) rest ≡ without s.variable gs → k ≡ first_holder s.plan → l ≡ second_holder s.plan
      → Turned m t gs n (record { form = s.form; x = get_or gs s.variable 0; rest = rest; a = record { rows = parts.first; holder = k }; b = record { rows = parts.second; holder = l } })
  turned {s} {p} {parts} {rest} q w h u v z =
      let k : length gs - 1 ≡ n = omega arith in
      record {
        form = ap (λ (s : Split). s.form) q;
        x = ap (λ (s : Split). get_or gs s.variable 0) q;
        rest = rw (sym q, sym k) u;
        a = record { rows = rw (sym q, sym w) h.first; holder = v ∙ ap (λ (s : Split). first_holder s.plan) q };
        b = record { rows = rw (sym q, sym w) h.second; holder = z ∙ ap (λ (s : Split). second_holder s.plan) q };
      }

-- ---- what the call for a part is given: its holder, `count` rows and n variables of arrays
pub record Given (m : Holder) (t : Table) (gs : List ℕ) (n count : ℕ) (p : Part) (rest : List ℕ) : Type 0 where
  pub rows : count ≡ length (take count p.rows)
  pub others : n ≡ length (take n rest)
  pub in_rows : count ≤ length p.rows
  pub in_rest : n ≤ length rest
  pub holder : p.holder ≡ m
  pub table : take count p.rows ≡ t
  pub groups : take n rest ≡ gs
  pub ready : Ready m t gs

given : {m : Holder} {t : Table} {gs : List ℕ} {n count : ℕ} {p : Part} {rest : List ℕ} → Ready m t gs → length gs ≡ n → count ≡ 2 ^ n
    → IsPart p count t m → take n rest ≡ gs → Given m t gs n count p rest
given {m} {t} {gs} {n} {count} {p} {rest} r e c w g =
    let k : 2 ^ length gs ≡ 2 ^ n = ap (λ (i : ℕ). 2 ^ i) e in
    let a : length (take count p.rows) ≡ count = omega (arith, ap length w.rows, r.table.rows) in
    let d : length (take n rest) ≡ n = ap length g ∙ e in
    record {
      rows = sym a;
      others = sym d;
      in_rows = omega (arith, length-take count p.rows);
      in_rest = omega (arith, length-take n rest);
      holder = w.holder;
      table = w.rows;
      groups = g;
      ready = r;
    }

-- a tree of at most so many nodes was written
pub record Fits (out : List ℕ) (at : ℕ) (out' : List ℕ) (next most : ℕ) : Type 0 where
  pub nodes : ℕ
  pub ends : next ≡ at + nodes
  pub small : nodes ≤ most
  pub same : length out' ≡ length out

module _ {m : Holder} {t : Table} {gs : List ℕ} {n count : ℕ} {p : Part} {rest : List ℕ} (g : Given m t gs n count p rest) where
  pub given_ready : Ready p.holder (take count p.rows) (take n rest)
  given_ready = rw (g.holder, g.table, g.groups) g.ready

  pub given_most : (z : ℕ) → most_for p.holder (length (take n rest)) z ≡ most_for m n z
  given_most z = rw (g.holder, sym g.others)

  module _ {hs out out' : List ℕ} {at next : ℕ} (w : Built p.holder (take count p.rows) (take n rest) hs out at out' next) where
    pub given_wrote : (h : Option Tree) → hs ≡ postfix_optional h → HolderTree m h → Wrote out at out' next (postfix_optional (build choose n m t gs h))
    given_wrote h q k = rw (sym g.others, g.holder, g.table, g.groups) at (w.wrote h q (rw g.holder k))

    pub given_fits : Holding m hs → Fits out at out' next (most_for m n (length hs))
    given_fits (h, q, k) =
        let u = given_wrote h q k in
        let z : length hs ≡ size_optional h = ap length q ∙ optional_length h in
        let l : length gs ≡ n = ap length (sym g.groups) ∙ sym g.others in
        record {
          nodes = length (postfix_optional (build choose n m t gs h));
          ends = u.ends;
          small = rw z (omega (arith, optional_length (build choose n m t gs h), build_size choose n h g.ready.table l k));
          same = u.same;
        }

variable_length : (hs : List ℕ) (x : ℕ) → length (variable_list hs x) ≡ variable_size (length hs) x
variable_length hs x = go (eqb x 0)
  where
    go : (b : Bool) → length {A = ℕ} (cond b hs (x ∷ [])) ≡ cond b (length hs) 1
    go true = refl
    go false = refl

-- ---- a turn, where d variables are left: what is known before anything is written
-- xs is the variable's list
pub record Begun (d : ℕ) (m : Holder) (t : Table) (gs hs out : List ℕ) (at n : ℕ) (r : Turn) (xs : List ℕ) : Type 0 where
  pub left : length gs ≡ d
  pub count : length gs ≡ suc n
  pub ready : Ready m t gs
  pub holding : Holding m hs
  pub room : at + most_for m (length gs) (length hs) ≤ length out
  pub turned : Turned m t gs n r
  pub list : xs ≡ variable_list hs r.x

module _ {d : ℕ} {m : Holder} {t : Table} {gs hs out : List ℕ} {at n : ℕ} {r : Turn} {xs : List ℕ} (b : Begun d m t gs hs out at n r xs) where
  s : SplitBuildable m t gs (split_chosen m t n)
  s = turn_split b.count b.ready

  rows : half t ≡ 2 ^ n
  rows = omega (arith, (turn_sized b.count b.ready).rows, two-pow-succ n)

  others : length (without (split_chosen m t n).variable gs) ≡ n
  others = omega (arith, without_length gs (split_chosen m t n).variable s.below, b.count)

  few : length (without (split_chosen m t n).variable gs) ≤ most_groups
  few = omega (arith, others, b.count, b.ready.few)

  pub given_a : Given (first_holder (split_chosen m t n).plan) (first_part (split_chosen m t n).form t (2 ^ (split_chosen m t n).variable)) (without (split_chosen m t n).variable gs) n (half t)
      r.a r.rest
  given_a = given (record { few = few; table = s.first }) others rows b.turned.a b.turned.rest

  pub given_b : Given (second_holder (split_chosen m t n).plan) (second_part (split_chosen m t n).form t (2 ^ (split_chosen m t n).variable)) (without (split_chosen m t n).variable gs) n (half t)
      r.b r.rest
  given_b = given (record { few = few; table = s.second }) others rows b.turned.b b.turned.rest

  -- the trees of a and b, where h is the holder's
  abbrev tree_a : Option Tree → Option Tree
  tree_a h = first_built choose n (split_chosen m t n) t gs h

  abbrev tree_b : Option Tree → Option Tree
  tree_b h = second_built choose n (split_chosen m t n) t gs h

  -- the variable's tree x, and the table's
  is_variable : (h : Option Tree) {x : Tree} → hs ≡ postfix_optional h → variable_tree h (get_or gs (split_chosen m t n).variable 0) ≡ some x → xs ≡ postfix x
  is_variable h q e = b.list ∙ rw b.turned.x (variable_list_lem h (get_or gs (split_chosen m t n).variable 0) q s.variable) ∙ ap postfix_optional e

  is_tree : (h : Option Tree) {x : Tree} → variable_tree h (get_or gs (split_chosen m t n).variable 0) ≡ some x
      → formed r.form (some x) (tree_a h) (tree_b h) ≡ build choose (length gs) m t gs h
  unfolding build
  is_tree h e = rw (b.turned.form, b.count, sym e)

  -- room for them
  abbrev most_a : ℕ
  most_a = most_for (first_holder (split_chosen m t n).plan) n (length hs)

  abbrev most_b : ℕ
  most_b = most_for (second_holder (split_chosen m t n).plan) n (length hs)

  form_room : at + most_formed r.form (length xs) most_a most_b ≤ length out
  form_room =
      let k = rw b.count at b.room in
      rw (b.turned.form, b.list, b.turned.x, variable_length) (omega (arith, s.room n (length hs) b.count))

  holding_a : Holding (first_holder (split_chosen m t n).plan) hs
  holding_a = (b.holding.0, b.holding.1, (s.holders b.holding.0 b.holding.2).0)

  holding_b : Holding (second_holder (split_chosen m t n).plan) hs
  holding_b = (b.holding.0, b.holding.1, (s.holders b.holding.0 b.holding.2).1)

  fewer : length (take n r.rest) < d
  fewer = omega (arith, given_a.others, b.left, b.count)

  -- a is built,
  pub call_a : (length (take n r.rest) < d) × (Ready r.a.holder (take (half t) r.a.rows) (take n r.rest)
      × (Holding r.a.holder hs × (at + most_for r.a.holder (length (take n r.rest)) (length hs) ≤ length out)))
  call_a =
      let k : at + most_a ≤ length out = omega (arith, form_room, left_room r.form true xs most_a most_b) in
      (fewer, (given_ready given_a, (rw b.turned.a.holder holding_a, rw (given_most given_a (length hs)) k)))

  module _ {o₁ : List ℕ} {i : ℕ} (f : Built r.a.holder (take (half t) r.a.rows) (take n r.rest) hs out at o₁ i) where
    fits_a : Fits out at o₁ i most_a
    fits_a = given_fits given_a f holding_a

    left_whole : (nb : ℕ) → nb ≤ most_b → at + most_formed r.form (length xs) fits_a.nodes nb ≤ length o₁
    left_whole nb k = omega (arith, form_room, most_grows r.form (le_refl (length xs)) fits_a.small k, fits_a.same)

    -- and made the left operand
    pub left_need : i + length (left_written r.form (eqb at i) xs) ≤ length o₁
    left_need = omega (arith, left_whole most_b (le_refl most_b), left_room r.form (eqb at i) xs fits_a.nodes most_b, fits_a.ends)

    module _ {o₂ : List ℕ} {left : ℕ} (g : Wrote o₁ i o₂ left (left_written r.form (eqb at i) xs)) where
      pub left_same : length o₂ ≡ length out
      left_same = g.same ∙ fits_a.same

      -- the tree ends there,
      pub built_left : ends_there r.form (eqb at left) ≡ true → Built m t gs hs out at o₂ left
      built_left stops = record {
        wrote = λ h q k.
            let x = s.tree h k in
            let w = given_wrote given_a f h q (s.holders h k).0 in
            wrote_as (form_ends x.0 (is_variable h q x.1) r.form (tree_a h) (tree_b h) w g stops) (ap postfix_optional (is_tree h x.1));
      }

      -- or goes on
      whole_need : ends_there r.form (eqb at left) ≡ false → (middle to nb : ℕ) → nb ≤ most_b
          → left + length (before_written r.form xs) + nb + length (after_written r.form left middle to xs) + 1 ≤ length o₂
      whole_need goes middle to nb k =
          let z = has_right r.form (eqb at left) goes in
          omega (arith, left_whole nb k, whole_room r.form (eqb at i) xs fits_a.nodes nb left middle to z, fits_a.ends, g.ends, g.same)

      pub before_need : ends_there r.form (eqb at left) ≡ false → left + length (before_written r.form xs) ≤ length o₂
      before_need goes = omega (arith, whole_need goes 0 0 most_b (le_refl most_b))

-- ---- the rest of the turn: what is known before b is built, from `middle` on
pub record Passed (d : ℕ) (m : Holder) (t : Table) (gs hs out : List ℕ) (at n : ℕ) (r : Turn) (xs : List ℕ) (left : ℕ) (o₃ : List ℕ) (middle : ℕ) : Type 0 where
  pub begun : Begun d m t gs hs out at n r xs
  pub o₁ : List ℕ
  pub i : ℕ
  pub a : Built r.a.holder (take (half t) r.a.rows) (take n r.rest) hs out at o₁ i
  pub o₂ : List ℕ
  pub left_done : Wrote o₁ i o₂ left (left_written r.form (eqb at i) xs)
  pub goes : ends_there r.form (eqb at left) ≡ false
  pub before : Wrote o₂ left o₃ middle (before_written r.form xs)

module _ {d : ℕ} {m : Holder} {t : Table} {gs hs out : List ℕ} {at n : ℕ} {r : Turn} {xs : List ℕ} {left : ℕ} {o₃ : List ℕ} {middle : ℕ}
    (p : Passed d m t gs hs out at n r xs left o₃ middle) where
  need_b : (to nb : ℕ) → nb ≤ most_b p.begun → middle + nb + length (after_written r.form left middle to xs) + 1 ≤ length o₃
  need_b to nb k = omega (arith, whole_need p.begun p.a p.left_done p.goes middle to nb k, p.before.ends, p.before.same)

  -- b is built,
  pub call_b : (length (take n r.rest) < d) × (Ready r.b.holder (take (half t) r.b.rows) (take n r.rest)
      × (Holding r.b.holder hs × (middle + most_for r.b.holder (length (take n r.rest)) (length hs) ≤ length o₃)))
  call_b =
      let b = p.begun in
      let k : middle + most_b b ≤ length o₃ = omega (arith, need_b 0 (most_b b) (le_refl (most_b b))) in
      (fewer b, (given_ready (given_b b), (rw b.turned.b.holder (holding_b b), rw (given_most (given_b b) (length hs)) k)))

  module _ {o₄ : List ℕ} {to : ℕ} (q : Built r.b.holder (take (half t) r.b.rows) (take n r.rest) hs o₃ middle o₄ to) where
    fits_b : Fits o₃ middle o₄ to (most_b p.begun)
    fits_b = given_fits (given_b p.begun) q (holding_b p.begun)

    -- made the right operand,
    pub after_need : to + length (after_written r.form left middle to xs) + 1 ≤ length o₄
    after_need = omega (arith, need_b to fits_b.nodes fits_b.small, fits_b.ends, fits_b.same)

    module _ {o₅ : List ℕ} {right : ℕ} (u : Wrote o₄ to o₅ right (after_written r.form left middle to xs)) where
      pub operate_need : right + 1 ≤ length o₅
      operate_need = omega (arith, after_need, u.ends, u.same)

      -- and the operator written
      module _ {o₆ : List ℕ} {next last : ℕ} (l : last ≡ sign (operator_of (outer r.form))) (v : Wrote o₅ right o₆ next (between at left right last)) where
        pub all_same : length o₆ ≡ length out
        all_same = v.same ∙ u.same ∙ fits_b.same ∙ p.before.same ∙ left_same p.begun p.a p.left_done

        pub built_all : Built m t gs hs out at o₆ next
        built_all = record {
          wrote = λ h e k.
              let b = p.begun in
              let x = (s b).tree h k in
              let w = given_wrote (given_a b) p.a h e ((s b).holders h k).0 in
              let y = given_wrote (given_b b) q h e ((s b).holders h k).1 in
              wrote_as (form_wrote x.0 (is_variable b h e x.1) r.form (tree_a b h) (tree_b b h) w p.left_done p.goes p.before y u (rw l at v))
              (ap postfix_optional (is_tree b h x.1));
        }

-- no variable is left
pub built_none : {m : Holder} {t : Table} {gs hs out : List ℕ} {at : ℕ} → length gs ≡ 0 → Built m t gs hs out at out at
unfolding build
built_none {out = out} {at = at} e = record { wrote = λ h q k. rw e (wrote_nothing out at) }
