-- The whole: what has no fault, the groups with the marks first, and what a choice and its tree say of the given tree.
use mathlib.Core.Path.{◌≡◌, refl, sym, ap, ap₂, subst, ◌∙◌}
use mathlib.Core.Bool.{Bool, true, false, not, cond, ◌||◌, false≢true}
use mathlib.Core.List.{List, [], ◌∷◌, ◌++◌}
use mathlib.Core.Option.{Option, some, none}
use Prim.Native.Nat.{ℕ, zero, suc, ◌+◌, ◌-◌, ◌*◌, ◌^◌, ◌<◌, ◌≤◌}
use native.Mathlib.Nat.{mul-add, mul-le-mul_right, mul-le-mul_left, pow-suc, mul-one}
use native.Mathlib.Omega.{arith}
use lib.Pow.{pow_pos, pow-add, pow_mono}
use lib.Dec.{eqb, ltb}
use borrow.Author.Tests.{lt-ltb, ltb-false, eqb-true, eqb-false, not-false}
use lib.ListN.{length, get_or, take, drop, length-append, length-drop, take-append-drop}
use lib.Seq.{take_all, take_at, drop_at, length-take-le}
use Rattle.std.specs.Prelude.{◌≢◌, Some, None, Ok, Err}
use Rattle.std.proofs.lemmas.Option.{none-some}
use Rattle.tree.specs.Tree.{Tree, sign, union, plus, minus, is_group, postfix, size, most_nodes, Over, leaves, is_in, collect, groups, most_groups}
use Rattle.tree.specs.InnerGroups.{Distinct, leaves_in}
use Rattle.tree.specs.Parse.{tree_of}
use Rattle.tree.specs.InnerWriting.{Wrote}
use Rattle.tree.proofs.TreeLaws.{postfix_length, equivalent_refl, over_implies, or_cases, in_right, group_most}
use Rattle.tree.proofs.GroupLaws.{is_in_here, in_later, in_collect, distinct_collect, distinct_split, collect_begins, collect_distinct, distinct_most, leaves_groups, groups_leaves, over_collect, leaves_postfix}
use Rattle.tree.proofs.ParseLaws.{IsTree, tree_length, tree_of_sound, postfix_injective}
use Rattle.tree.proofs.WritingLaws.{wrote_over, wrote_take}
use Rattle.table.specs.InnerTable.{row_count, table, rows_of, Listed}
use Rattle.table.proofs.TableLaws.{Tabled, table_at, rows_most}
use Rattle.tree.specs.Pass.{entry_of}
use Rattle.splits.specs.InnerSplits.{choose}
use Rattle.splits.specs.declared.Holder.TheVariants.{Absent}
use Rattle.builder.specs.InnerBuilding.{postfix_optional, size_optional, join, single, build, most_built, Buildable}
use Rattle.builder.proofs.ReadyLaws.{less_one}
use Rattle.builder.proofs.SizeLaws.{join_size, leaf_size, build_size}
use Rattle.columns.specs.InnerJoining.{first_rows, column_table, holder_tree, columns_tree, constant_tree, tree_for}
use Rattle.columns.specs.InnerChoosing.{Allowed, choice}
use Rattle.columns.specs.Inner.{Scanned, Room, ColumnsReady, ConstantReady, ReadyFor}
use Rattle.columns.specs.declared.Choice.TheVariants.{Constant, Columns}
use Rattle.gather.specs.Gathering.{Gathered}
use Rattle.holding.specs.InnerHolding.{holder, status}
use Rattle.gather.specs.Inner.{tree_list, MarkedParts, Ordered}
use Rattle.gather.specs.Answer.{Gathering, bad_mark, groups_fault, tree_fault, gather_fault, GatheredTo, GathersTree}
use Rattle.gather.specs.InnerGathered.{tree_by, rearranged, gathered_by, Returned}
use Rattle.holding.specs.declared.Status.{Status}
use Rattle.holding.specs.declared.Status.TheVariants.{Free, Mixed}
use Rattle.gather.specs.declared.Refusal.TheVariants.{CannotBeGathered}
use Rattle.gather.proofs.GatheringLaws.{fillings_cannot}
use Rattle.gather.proofs.ChoosingLaws.{ColumnTables, Result, Verdict, verdict, both_false}
use Rattle.gather.proofs.HoldingLaws.{Names, status_gathered, gathered_status}
use Rattle.gather.proofs.GatheredLaws.{returned_tree, returned_none, returned_given}

-- ---- sizes
single_small : (x : ℕ) → size_optional (single x) ≤ 1
single_small x = leaf_size (entry_of x)

most_power : (k : ℕ) → most_built k + 5 ≡ 5 * 2 ^ k
unfolding most_built
most_power zero = refl
most_power (suc k) = let h = most_power k in omega (arith, pow-suc 2 k)

-- as many nodes as a gathered tree that is built has at most
abbrev most_gathered : ℕ
most_gathered = 1277

product_most : (x y : ℕ) → 2 ≤ x → 1 ≤ y → x + 2 * y ≤ x * y + 2
product_most x y h k =
    let e : x * y ≡ x * 1 + x * (y - 1) = ap (λ (z : ℕ). x * z) (let q : y ≡ 1 + (y - 1) = omega arith in q) ∙ mul-add x 1 (y - 1) in
    omega (arith, mul-le-mul_right (y - 1) h, mul-one x)

-- over j marks and k others
both_most : (j k : ℕ) → 1 ≤ j → 2 ^ j * 2 ^ k ≤ row_count → (most_built j + 2 * most_built k + 2 ≤ most_gathered) × (most_built k + 4 ≤ most_gathered)
both_most j k h l =
    let two : 2 ≤ 2 ^ j = pow_mono h in
    let p = product_most (2 ^ j) (2 ^ k) two (pow_pos k) in
    (omega (arith, most_power j, most_power k), omega (arith, most_power j, most_power k))

module _ {list gs : List ℕ} {m : ℕ} (o : Ordered list gs m) where
  pub marks_length : length (take m gs) ≡ m
  marks_length = length-take-le m gs o.within

  pub rest_all : take (length gs - m) (drop m gs) ≡ drop m gs
  rest_all = take_all (length gs - m) (drop m gs) (omega (arith, length-drop m gs))

  pub all_wrote : (T : ℕ → Bool) (c : Allowed) {out out' : List ℕ} {count : ℕ}
      → Wrote out 0 out' count (postfix_optional (tree_for T (take m gs) (take (length gs - m) (drop m gs)) c)) → Wrote out 0 out' count (postfix_optional (tree_for T (take m gs) (drop m gs) c))
  all_wrote T c {out} {out'} {count} f = subst (λ (us : List ℕ). Wrote out 0 out' count (postfix_optional (tree_for T (take m gs) us c))) rest_all f

  module _ (w columns : ℕ) (ew : w ≡ 2 ^ m) (ec : columns ≡ 2 ^ (length gs - m)) where
    pub width_is : w ≡ 2 ^ length (take m gs)
    width_is = ew ∙ ap (λ (k : ℕ). 2 ^ k) (sym marks_length)

    pub count_is_lem : columns ≡ 2 ^ length (drop m gs)
    count_is_lem = ec ∙ ap (λ (k : ℕ). 2 ^ k) (sym (length-drop m gs))

    pub total_is : w * columns ≡ 2 ^ length gs
    total_is = ap₂ ◌*◌ ew ec ∙ sym (pow-add 2 m (length gs - m)) ∙ ap (λ (k : ℕ). 2 ^ k) (let e : m + (length gs - m) ≡ length gs = omega (arith, o.within) in e)

    pub total_most : w * columns ≤ row_count
    total_most = omega (arith, total_is, rows_most (length gs) o.most)

    pub scanned : Scanned w (w * columns) 0 0 0
    scanned =
        let p : 0 < w = omega (arith, ew, pow_pos m) in
        let q : 1 ≤ columns = omega (arith, ec, pow_pos (length gs - m)) in
        let l = mul-le-mul_left w q in
        record { positive = p; whole = (columns, refl); most = total_most; low_below = p; high_below = p; inside = omega (arith, mul-one w) }

    few_marks : length (take m gs) ≤ most_groups
    few_marks = omega (arith, marks_length, o.within, o.most)

    few_others : length (drop m gs) + 1 ≤ most_groups
    few_others = omega (arith, length-drop m gs, o.most, marks_length, o.parts.some_mark, o.within)

    pub room : (n : ℕ) → most_nodes ≤ n → Room (take m gs) (drop m gs) n
    room n h = record {
      few = omega (arith, marks_length, length-drop m gs, o.within, o.most);
      some_mark = o.parts.some_mark;
      space = omega (arith, most_power (length (drop m gs)), most_power (length (take m gs)), rows_most (length (drop m gs)) (omega (arith, few_others)), rows_most (length (take m gs)) few_marks);
    }

    -- what the choice says of the given tree
    module _ (t : Tree) (e : list ≡ postfix t) (rows : List Bool) (er : rows ≡ table gs t) (c : Allowed) (q : c ≡ choice (rows_of rows) w (w * columns)) where
      tabled : Tabled (rows_of rows) (take m gs ++ drop m gs) t
      tabled = subst (λ (xs : List ℕ). Tabled (rows_of rows) xs t) (sym (take-append-drop m gs))
          (record { rows = λ i h. ap (λ (r : List Bool). get_or r i false) er ∙ table_at gs t i (omega (arith, rows_most (length gs) o.most)) })

      over_all : Over (is_in (take m gs ++ drop m gs)) t
      over_all = subst (λ (xs : List ℕ). Over (is_in xs) t) (sym (take-append-drop m gs)) (o.over t e)

      judgement : Verdict (is_in (take m gs)) (rows_of rows) (take m gs) (drop m gs) t c
      judgement = subst (Verdict (is_in (take m gs)) (rows_of rows) (take m gs) (drop m gs) t)
          (ap₂ (λ (x y : ℕ). choice (rows_of rows) x (x * y)) (sym width_is) (sym count_is_lem) ∙ sym q)
          (verdict (rows_of rows) (take m gs) (drop m gs) o.parts t tabled over_all)

      columns_ready : (p start : ℕ) → ColumnTables (rows_of rows) (take m gs) (drop m gs) p start → ColumnsReady (rows_of rows) (take m gs) (drop m gs) p start
      columns_ready p start T = record {
        row = T.row;
        inside = T.inside;
        column = record { few = few_marks; table = T.column };
        table = record { few = omega (arith, length-append (drop m gs) (0 ∷ []), few_others); table = T.held };
        holder = T.holder;
      }

      constant_ready : Buildable Absent (first_rows (rows_of rows) (take m gs) (drop m gs)) (drop m gs) → ConstantReady (rows_of rows) (take m gs) (drop m gs)
      constant_ready b = record { mark_groups = o.parts.mark_groups; table = record { few = omega (arith, few_others); table = b } }

      pub ready_for : ReadyFor (rows_of rows) (take m gs) (drop m gs) c
      ready_for = go c judgement
        where
          go : (k : Allowed) → Verdict (is_in (take m gs)) (rows_of rows) (take m gs) (drop m gs) t k → ReadyFor (rows_of rows) (take m gs) (drop m gs) k
          go None v = tt
          go (Some Constant) v = constant_ready v.tables
          go (Some (Columns low high start)) v = columns_ready (low + high) start v.tables

      sizes : (most_built (length (take m gs)) + 2 * most_built (length (drop m gs)) + 2 ≤ most_gathered) × (most_built (length (drop m gs)) + 4 ≤ most_gathered)
      sizes = both_most (length (take m gs)) (length (drop m gs)) o.parts.some_mark (omega (arith, total_most, ap₂ ◌*◌ width_is count_is_lem))

      -- how large its tree is
      tree_small : (k : Allowed) → ReadyFor (rows_of rows) (take m gs) (drop m gs) k → size_optional (tree_for (rows_of rows) (take m gs) (drop m gs) k) ≤ most_gathered
      unfolding constant_tree columns_tree holder_tree
      tree_small None r = omega arith
      tree_small (Some Constant) r =
          let x = single (get_or (take m gs) 0 0) in
          let a = build_size choose (length (drop m gs)) none r.table.table refl tt in
          omega (
            arith,
            join_size plus (build choose (length (drop m gs)) Absent (first_rows (rows_of rows) (take m gs) (drop m gs)) (drop m gs) none) (join minus x x),
            join_size minus x x,
            single_small (get_or (take m gs) 0 0),
            a,
            sizes.1,
          )
      tree_small (Some (Columns low high start)) r =
          let h = build choose (length (take m gs)) Absent (column_table (rows_of rows) (take m gs) (drop m gs) start) (take m gs) none in
          let a = build_size choose (length (take m gs)) none r.column.table refl tt in
          let b = build_size choose (suc (length (drop m gs))) h r.table.table (omega (arith, length-append (drop m gs) (0 ∷ []))) r.holder in
          omega (arith, a, b, less_one (length (drop m gs)), sizes.0)

      -- the tree is the one named
      tree_is_lem : tree_by gs m t ≡ tree_for (rows_of rows) (take m gs) (drop m gs) c
      tree_is_lem =
          ap (λ (r : List Bool). tree_for (rows_of r) (take m gs) (drop m gs) (choice (rows_of r) (2 ^ m) (2 ^ length gs))) (sym er)
          ∙ ap (tree_for (rows_of rows) (take m gs) (drop m gs)) (ap₂ (choice (rows_of rows)) (sym ew) (sym total_is) ∙ sym q)

      -- a choice that is made has its tree
      module _ (n : c ≢ None) where
        result : Result (is_in (take m gs)) (rows_of rows) (take m gs) (drop m gs) t c
        result = go c judgement n
          where
            go : (k : Allowed) → Verdict (is_in (take m gs)) (rows_of rows) (take m gs) (drop m gs) t k → k ≢ None → Result (is_in (take m gs)) (rows_of rows) (take m gs) (drop m gs) t k
            go None v d = absurd (d refl)
            go (Some Constant) v d = v
            go (Some (Columns low high start)) v d = v

        small : size result.tree ≤ most_nodes
        small = let q : size result.tree ≤ most_gathered = subst (λ (x : Option Tree). size_optional x ≤ most_gathered) result.is (tree_small c ready_for) in omega arith

        module _ {out out' : List ℕ} {count : ℕ} (wrote : Wrote out 0 out' count (tree_list rows (take m gs) (take (length gs - m) (drop m gs)) c)) (space : most_nodes ≤ length out) where
          tree_wrote : Wrote out 0 out' count (postfix result.tree)
          tree_wrote = subst (λ (x : Option Tree). Wrote out 0 out' count (postfix_optional x)) result.is (rw rest_all at wrote)

          front : take count out' ≡ postfix result.tree
          front = wrote_take tree_wrote (omega (arith, small, postfix_length result.tree))

          pub inside : count ≤ length out'
          inside = omega (arith, tree_wrote.ends, tree_wrote.same, small, postfix_length result.tree)

          pub written_tree : Listed (take count out')
          written_tree = (result.tree, front, omega (arith, ap length front, small, postfix_length result.tree))

          -- whose status names its holder
          pub holder_found : (s : Status) → ((u : Tree) → take count out' ≡ postfix u → s ≡ status (is_in (take m gs)) 0 u) → (k : ℕ) × Names s k
          holder_found s e = (_, ap holder (e result.tree front) ∙ gathered_status result.gathered)

          gathered_to : (s : Status) (k : ℕ) → ((u : Tree) → take count out' ≡ postfix u → s ≡ status (is_in (take m gs)) 0 u) → Names s k → GatheredTo t (take m gs) out out' count k
          gathered_to s k is named = record {
            result = result.tree;
            unchanged = λ p g. absurd (o.not_gathered_lem t p e g);
            equivalent = result.equivalent;
            gathered = status_gathered (is_in (take m gs)) result.tree k (ap holder (sym (is result.tree front)) ∙ named);
            own = over_implies (λ g h. o.own t e g (subst (λ (xs : List ℕ). is_in xs g ≡ true) (take-append-drop m gs) h)) result.tree result.own;
            plain = λ p. result.plain;
            most = small;
            counted = omega (arith, tree_wrote.ends, postfix_length result.tree);
            written = wrote_over tree_wrote (omega (arith, small, postfix_length result.tree));
          }

          pub gathers_done : (s : Status) (k : ℕ) → ((u : Tree) → take count out' ≡ postfix u → s ≡ status (is_in (take m gs)) 0 u) → Names s k → GathersTree t (take m gs) out out' (Ok (record { nodes = count; holder = k }))
          unfolding GathersTree
          gathers_done s k is named = gathered_to s k is named

          pub returns_done : (s : Status) (k : ℕ) → ((u : Tree) → take count out' ≡ postfix u → s ≡ status (is_in (take m gs)) 0 u) → Names s k → Returned (take m gs) (tree_by gs m t) out out' (Ok (record { nodes = count; holder = k }))
          unfolding gathered_to
          returns_done s k is named = returned_tree (gathered_to s k is named) (tree_is_lem ∙ result.is)

      -- none is made
      module _ {out out' : List ℕ} (n : (c ≡ None) × (out' ≡ out)) where
        pub gathers_none : GathersTree t (take m gs) out out' (Err CannotBeGathered)
        unfolding GathersTree
        gathers_none = (refl, n.1, fillings_cannot (subst (Verdict (is_in (take m gs)) (rows_of rows) (take m gs) (drop m gs) t) n.0 judgement))

        pub returns_none : Returned (take m gs) (tree_by gs m t) out out' (Err CannotBeGathered)
        returns_none = returned_none n.1 (tree_is_lem ∙ ap (tree_for (rows_of rows) (take m gs) (drop m gs)) n.0)

-- ---- nothing at fault
-- marks that are not bad
pub record Good (gs marks : List ℕ) : Type 0 where
  pub distinct : Distinct marks
  pub known : (g : ℕ) → is_in marks g ≡ true → is_in gs g ≡ true

good_marks : (gs marks : List ℕ) → bad_mark gs marks ≡ false → Good gs marks
unfolding bad_mark Distinct is_in
good_marks gs [] e = record { distinct = tt; known = λ g h. absurd (false≢true h) }
good_marks gs (x ∷ marks) e =
    let p = both_false (is_in marks x || not (is_in gs x)) (bad_mark gs marks) e in
    let q = both_false (is_in marks x) (not (is_in gs x)) p.0 in
    let r = good_marks gs marks p.1 in
    record {
      distinct = (q.0, r.distinct);
      known = λ g h. or_cases (eqb g x) (is_in marks g) h (λ z. ap (is_in gs) (eqb-true g x z) ∙ not-false (is_in gs x) q.1) (λ z. r.known g z);
    }

pub record Faultless (list marks : List ℕ) (room : ℕ) : Type 0 where
  pub space : most_nodes ≤ room
  pub tree : IsTree list
  pub few : length (groups tree.tree) ≤ most_groups
  pub some_mark : 0 < length marks
  pub good : Good (groups tree.tree) marks

pub faultless : (list marks : List ℕ) (room : ℕ) → gather_fault list marks room ≡ 0 → Faultless list marks room
unfolding gather_fault
faultless list marks room h = go (ltb room most_nodes) refl h
  where
    marks_fault : (t : IsTree list) → (b : Bool) → (eqb (length marks) 0 || bad_mark (groups t.tree) marks) ≡ b → most_nodes ≤ room → length (groups t.tree) ≤ most_groups → cond {A = ℕ} b 18 0 ≡ 0 → Faultless list marks room
    marks_fault t true e s f q = absurd (omega arith)
    marks_fault t false e s f q =
        let z = both_false (eqb (length marks) 0) (bad_mark (groups t.tree) marks) e in
        record { space = s; tree = t; few = f; some_mark = let n : length marks ≡ 0 → ⊥ = eqb-false (length marks) 0 z.0 in omega arith; good = good_marks (groups t.tree) marks z.1 }

    groups_fault_lem : (t : IsTree list) → (b : Bool) → ltb most_groups (length (groups t.tree)) ≡ b → most_nodes ≤ room
        → cond {A = ℕ} b 17 (cond {A = ℕ} (eqb (length marks) 0 || bad_mark (groups t.tree) marks) 18 0) ≡ 0 → Faultless list marks room
    groups_fault_lem t true e s q = absurd (omega arith)
    groups_fault_lem t false e s q = marks_fault t (eqb (length marks) 0 || bad_mark (groups t.tree) marks) refl s (ltb-false most_groups (length (groups t.tree)) e) q

    tree_fault_lem : (o : Option Tree) → tree_of list ≡ o → most_nodes ≤ room → tree_fault o marks ≡ 0 → Faultless list marks room
    tree_fault_lem none e s q = absurd (omega arith)
    tree_fault_lem (some t) e s q =
        let T = tree_of_sound list t e in
        let k : some t ≡ some T.tree = sym e ∙ T.is in
        let u : t ≡ T.tree = cc in
        groups_fault_lem T (ltb most_groups (length (groups T.tree))) refl s (subst (λ (x : Tree). groups_fault (groups x) marks ≡ 0) u q)

    go : (b : Bool) → ltb room most_nodes ≡ b → cond {A = ℕ} b 11 (tree_fault (tree_of list) marks) ≡ 0 → Faultless list marks room
    go true e q = absurd (omega arith)
    go false e q = tree_fault_lem (tree_of list) refl (ltb-false room most_nodes e) q

pub tree_listed : {list : List ℕ} → IsTree list → Listed list
tree_listed T = (T.tree, T.list, omega (arith, T.most, tree_length T))

pub faultless_list : {list marks : List ℕ} {room : ℕ} → Faultless list marks room → Listed list
faultless_list f = tree_listed f.tree

-- the tree that the list is
pub the_same : {list : List ℕ} {t : Tree} → tree_of list ≡ some t → list ≡ postfix t
the_same {list} {t} e = let T = tree_of_sound list t e in let k : some t ≡ some T.tree = sym e ∙ T.is in let u : t ≡ T.tree = cc in T.list ∙ ap postfix (sym u)

-- ---- the groups, the marks first
leaves_marks : (marks : List ℕ) → ((g : ℕ) → is_in marks g ≡ true → is_group g ≡ true) → leaves_in marks ≡ marks
unfolding leaves_in
leaves_marks [] h = refl
leaves_marks (x ∷ marks) h =
    let l : x < 65001 = below x (h x (is_in_here x marks)) in
    rw (lt-ltb x (sign union) l) (ap (λ (ys : List ℕ). x ∷ ys) (leaves_marks marks (λ g e. h g (in_later x marks g e))))
  where
    below : (x : ℕ) → is_group x ≡ true → x < 65001
    below x e = omega (arith, group_most x (subst (λ (b : Bool). lib.Dec.T b) (sym e) tt))

module _ {list marks : List ℕ} {room : ℕ} (f : Faultless list marks room) where
  t₀ : Tree
  t₀ = f.tree.tree

  mark_groups : (g : ℕ) → is_in marks g ≡ true → is_group g ≡ true
  unfolding t₀
  mark_groups g e = leaves_groups t₀ g (sym (groups_leaves t₀ g) ∙ f.good.known g e)

  -- the marks, collected
  pub marks_collected : collect [] (leaves_in marks) ≡ marks
  marks_collected = ap (collect []) (leaves_marks marks mark_groups) ∙ collect_distinct [] marks f.good.distinct

  marks_few : length marks ≤ most_groups
  unfolding t₀
  marks_few = omega (arith, distinct_most marks (groups t₀) f.good.distinct f.good.known, f.few)

  pub first_few : length (collect [] (leaves_in marks)) ≤ most_groups
  first_few = omega (arith, ap length marks_collected, marks_few)

  -- all groups, the marks first
  all : List ℕ
  all = collect marks (leaves t₀)

  all_is : (first : List ℕ) → first ≡ collect [] (leaves_in marks) → collect first (leaves_in list) ≡ all
  unfolding t₀ all
  all_is first c = ap₂ collect (c ∙ marks_collected) (ap leaves_in f.tree.list ∙ leaves_postfix t₀)

  all_distinct : Distinct all
  unfolding all
  all_distinct = distinct_collect marks (leaves t₀) f.good.distinct

  all_own : (g : ℕ) → is_in all g ≡ true → is_in (groups t₀) g ≡ true
  unfolding t₀ all
  all_own g e = or_cases (is_in marks g) (is_in (leaves t₀) g) (sym (in_collect marks (leaves t₀) g) ∙ e) (λ q. f.good.known g q) (λ q. groups_leaves t₀ g ∙ q)

  all_few : length all ≤ most_groups
  unfolding t₀
  all_few = omega (arith, distinct_most all (groups t₀) all_distinct all_own, f.few)

  module _ (first : List ℕ) (c₁ : first ≡ collect [] (leaves_in marks)) where
    pub together_few : length (collect first (leaves_in list)) ≤ most_groups
    together_few = omega (arith, ap length (all_is first c₁), all_few)

    module _ (found : List ℕ) (c : found ≡ collect first (leaves_in list)) where
      found_is : found ≡ all
      found_is = c ∙ all_is first c₁

      begins : all ≡ marks ++ (collect_begins marks (leaves t₀)).0
      unfolding all
      begins = (collect_begins marks (leaves t₀)).1

      pub marks_first : take (length marks) found ≡ marks
      marks_first = ap (take (length marks)) (found_is ∙ begins) ∙ take_at marks (collect_begins marks (leaves t₀)).0 (length marks) refl

      rest_is : drop (length marks) found ≡ (collect_begins marks (leaves t₀)).0
      rest_is = ap (drop (length marks)) (found_is ∙ begins) ∙ drop_at marks (collect_begins marks (leaves t₀)).0 (length marks) refl

      same_tree : (t : Tree) → list ≡ postfix t → t ≡ t₀
      unfolding t₀
      same_tree t e = postfix_injective t t₀ (sym e ∙ f.tree.list)

      -- the tree by these groups is the one by the given tree's own
      pub all_returned : {out out' : List ℕ} {r : Gathering} (t : Tree) → list ≡ postfix t
          → Returned (take (length marks) found) (tree_by found (length marks) t) out out' r → Returned marks (rearranged t marks) out out' r
      unfolding t₀ all
      all_returned {out} {out'} {r} t e R =
          let g : found ≡ collect marks (leaves t) = found_is ∙ ap (λ (x : Tree). collect marks (leaves x)) (sym (same_tree t e)) in
          subst (λ (xs : List ℕ). Returned marks (tree_by xs (length marks) t) out out' r) g
          (subst (λ (ms : List ℕ). Returned ms (tree_by found (length marks) t) out out' r) marks_first R)

      pub ordered : ((t : Tree) (p : ℕ) → list ≡ postfix t → Gathered (is_in marks) t p → ⊥) → Ordered list found (length marks)
      unfolding all
      ordered n =
          let rest = (collect_begins marks (leaves t₀)).0 in
          let S = distinct_split marks rest (subst Distinct begins all_distinct) in
          let in_all : (g : ℕ) → is_in rest g ≡ true → is_in all g ≡ true = λ g e. ap (λ (xs : List ℕ). is_in xs g) begins ∙ in_right marks rest g e in
          let P : MarkedParts (is_in marks) marks rest = record {
            marks = S.first;
            others = S.second;
            marked = λ g e. e;
            unmarked = S.apart;
            mark_groups = mark_groups;
            other_groups = λ g e. leaves_groups t₀ g (sym (groups_leaves t₀ g) ∙ all_own g (in_all g e));
            some_mark = f.some_mark;
          } in
          record {
            within = omega (arith, ap length found_is, ap length begins, length-append marks rest);
            most = omega (arith, ap length found_is, all_few);
            parts = subst (λ (xs : List ℕ). MarkedParts (is_in (take (length marks) found)) (take (length marks) found) xs) (sym rest_is)
                (subst (λ (xs : List ℕ). MarkedParts (is_in xs) xs rest) (sym marks_first) P);
            over = λ t e. subst (λ (xs : List ℕ). Over (is_in xs) t) (sym found_is) (subst (Over (is_in all)) (sym (same_tree t e)) (over_collect marks t₀));
            own = λ t e g h. subst (λ (x : Tree). is_in (groups x) g ≡ true) (sym (same_tree t e)) (all_own g (subst (λ (xs : List ℕ). is_in xs g ≡ true) found_is h));
            not_gathered_lem = λ t p e g. n t p e (subst (λ (xs : List ℕ). Gathered (is_in xs) t p) marks_first g);
          }

-- ---- a tree that is gathered already
pub copied : {list marks out out' : List ℕ} {n k : ℕ} (t : Tree) → tree_of list ≡ some t → most_nodes ≤ length out → Wrote out 0 out' n list → Names (status (is_in marks) 0 t) k
    → GatheredTo t marks out out' n k
copied {list} {marks} {out} {out'} {n} {k} t e s w named =
    let q : list ≡ postfix t = the_same e in
    let T = tree_of_sound list t e in
    let m : size t ≤ most_nodes = omega (arith, T.most, ap length (sym q ∙ T.list), postfix_length t, postfix_length T.tree) in
    let v : Wrote out 0 out' n (postfix t) = subst (Wrote out 0 out' n) q w in
    record {
      result = t;
      unchanged = λ p h. refl;
      equivalent = equivalent_refl t;
      gathered = status_gathered (is_in marks) t k named;
      own = over_collect [] t;
      plain = λ p. p;
      most = m;
      counted = omega (arith, v.ends, postfix_length t);
      written = wrote_over v (omega (arith, postfix_length t));
    }

pub copied_returned : {list marks out out' : List ℕ} {n k : ℕ} (t : Tree) → tree_of list ≡ some t → most_nodes ≤ length out → Wrote out 0 out' n list → Names (status (is_in marks) 0 t) k
    → Returned marks (gathered_by t marks) out out' (Ok (record { nodes = n; holder = k }))
unfolding copied
copied_returned t q s w e = returned_given t _ e (returned_tree (copied t q s w e) refl)

-- ---- statuses that name no holder
pub not_free : (k : ℕ) → Names Free k → ⊥
not_free k e = none-some k e

pub not_mixed : (k : ℕ) → Names Mixed k → ⊥
not_mixed k e = none-some k e
