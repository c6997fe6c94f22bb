-- The closed run, for every device alike. A part's code reads only what it wrote; from there, by the frames of the part's context, what
-- stands before and behind its own code.
use mathlib.Core.Path.{◌≡◌, refl, sym, ap, ◌∙◌}
use mathlib.Core.Bool.{Bool, true, false, not, cond, ◌&&◌, ◌||◌, false≢true}
use mathlib.Core.List.{List, [], ◌∷◌, ◌++◌, append_assoc}
use Prim.Native.Nat.{ℕ, ◌+◌, ◌≤◌}
use native.Mathlib.Omega.{arith}
use borrow.Author.Tests.{eq-eqb, ne_eqb, eqb-true, eqb-false}
use lib.Dec.{eqb}
use lib.ListN.{length, length-append}
use Rattle.tree.specs.Tree.{Operator, Tree, node, size, is_in}
use Rattle.tree.specs.Context.{Side, left, right, Frame, frame, sided, plug, OverAbove}
use Rattle.tree.proofs.TreeLaws.{or_right}
use Rattle.code.specs.Need.{left_first}
use Rattle.code.specs.Need.{comes_first, nodes_before}
use Rattle.code.specs.Waiting.{also_in}
use Rattle.code.specs.Devices.{Device, PartCode, node_code, part_code}
use Rattle.code.specs.Acts.{Acts}
use Rattle.code.specs.Effects.{Effect, Every, Names, Loads, writes_it, Closed, written_after, read_first, none_written}
use Rattle.code.proofs.WaitingLaws.{waits, also_free}
use Rattle.code.proofs.CodeLaws.{every_append, part_node, part_by, length_part, operate_loads, loads}

-- ---- lists of instructions
pub in_every : (P : ℕ → Type 0) (xs : List ℕ) (q : ℕ) → Every P xs → is_in xs q ≡ true → P q
unfolding Every is_in
in_every P [] q p e = absurd (false≢true e)
in_every P (x ∷ xs) q p e = go (eqb q x) refl e (in_every P xs q p.1)
  where
    go : (b : Bool) → eqb q x ≡ b → (b || is_in xs q) ≡ true → (is_in xs q ≡ true → P q) → P q
    go true s h ih = rw (eqb-true q x s) p.0
    go false s h ih = ih h

not_in_every : (U : ℕ → Bool) (xs : List ℕ) (q : ℕ) → Every (λ r. U r ≡ true) xs → U q ≡ false → is_in xs q ≡ false
not_in_every U xs q p e = go (is_in xs q) refl
  where
    go : (b : Bool) → is_in xs q ≡ b → b ≡ false
    go true s = absurd (false≢true (sym e ∙ in_every (λ r. U r ≡ true) xs q p s))
    go false s = refl

module _ {I : Type 0} (effect : I → Effect) where
  written_more : (W : ℕ → Bool) (is : List I) (q : ℕ) → W q ≡ true → written_after effect W is q ≡ true
  unfolding written_after
  written_more W [] q h = h
  written_more W (i ∷ is) q h = written_more (λ q. writes_it effect i q || W q) is q (or_right (writes_it effect i q) (W q) h)

  written_append : (W : ℕ → Bool) (xs ys : List I) → written_after effect W (xs ++ ys) ≡ written_after effect (written_after effect W xs) ys
  unfolding written_after
  written_append W [] ys = refl
  written_append W (x ∷ xs) ys = written_append (λ q. writes_it effect x q || W q) xs ys

  closed_append : (W : ℕ → Bool) (xs ys : List I) → Closed effect W xs → Closed effect (written_after effect W xs) ys → Closed effect W (xs ++ ys)
  unfolding Closed written_after
  closed_append W [] ys p q = q
  closed_append W (x ∷ xs) ys p q = (p.0, closed_append (λ q. writes_it effect x q || W q) xs ys p.1 q)

  -- a register that is written is named
  pub written_named : (P : ℕ → Type 0) (q : ℕ) (W : ℕ → Bool) (is : List I) → (W q ≡ true → P q) → Every (Names effect P) is → written_after effect W is q ≡ true → P q
  unfolding Every written_after
  written_named P q W [] f p e = f e
  written_named P q W (i ∷ is) f p e = written_named P q (λ q. writes_it effect i q || W q) is (λ h. go (writes_it effect i q) refl h) p.1 e
    where
      go : (b : Bool) → writes_it effect i q ≡ b → (b || W q) ≡ true → P q
      go true s h = in_every P (effect i).writes q p.0.1 s
      go false s h = f h

  -- of a list that reads only what it wrote: what is not read first behind it is not read first with it, and what it wrote is not
  unread_one : (U : ℕ → Bool) (i : I) (q : ℕ) (rest : List I) → Every (λ r. U r ≡ true) (effect i).reads → U q ≡ false
      → ((writes_it effect i q || U q) ≡ false → read_first effect q rest ≡ false) → read_first effect q (i ∷ rest) ≡ false
  unfolding read_first
  unread_one U i q rest c u ih = rw (not_in_every U (effect i).reads q c u) (go (writes_it effect i q) ih)
    where
      go : (b : Bool) → ((b || U q) ≡ false → read_first effect q rest ≡ false) → (not b && read_first effect q rest) ≡ false
      go true ih = refl
      go false ih = ih u

  pub closed_unread : (U : ℕ → Bool) (is : List I) (q : ℕ) (behind : List I) → Closed effect U is → U q ≡ false → read_first effect q behind ≡ false → read_first effect q (is ++ behind) ≡ false
  unfolding Closed
  closed_unread U [] q behind c u e = e
  closed_unread U (i ∷ is) q behind c u e =
      unread_one U i q (is ++ behind) c.0 u (λ v. closed_unread (λ q. writes_it effect i q || U q) is q behind c.1 v e)

  pub closed_written : (U : ℕ → Bool) (is : List I) (q : ℕ) (behind : List I) → Closed effect U is → U q ≡ false → written_after effect U is q ≡ true → read_first effect q (is ++ behind) ≡ false
  unfolding Closed written_after
  closed_written U [] q behind c u e = absurd (false≢true (sym u ∙ e))
  closed_written U (i ∷ is) q behind c u e =
      unread_one U i q (is ++ behind) c.0 u (λ v. closed_written (λ q. writes_it effect i q || U q) is q behind c.1 v e)

-- ---- no more nodes come before a part's than the whole tree has
pub before_most : (h : Tree) (c : List Frame) → nodes_before h c + size h ≤ size (plug h c)
unfolding nodes_before plug size
before_most h [] = omega arith
before_most h (frame left o b ∷ c) = go (left_first h b) (before_most (node o h b) c)
  where
    go : (f : Bool) → nodes_before (node o h b) c + (size h + size b + 1) ≤ size (plug (node o h b) c) → nodes_before (node o h b) c + cond f 0 (size b) + size h ≤ size (plug (node o h b) c)
    go true u = omega arith
    go false u = omega arith
before_most h (frame right o b ∷ c) = go (not (left_first b h)) (before_most (node o b h) c)
  where
    go : (f : Bool) → nodes_before (node o b h) c + (size b + size h + 1) ≤ size (plug (node o b h) c) → nodes_before (node o b h) c + cond f 0 (size b) + size h ≤ size (plug (node o b h) c)
    go true u = omega arith
    go false u = omega arith

-- ---- places
-- of a part's code in the code of the whole tree: what stands before it, where operands wait, and what stands behind it
pub record CodePlace (I : Type 0) : Type 0 where
  pub before : List I
  pub waiting : List Bool
  pub behind : List I

module _ {I : Type 0} (d : Device I) where
  -- of the child that comes first and of the other one, h, from the place of the parent's code: f says whether the left child comes first,
  -- o is the parent's operator and b the child's sibling
  abbrev pub place_of_first : Bool → Operator → Tree → Tree → CodePlace I → CodePlace I
  place_of_first f o h b P =
      let r = (part_code d P.waiting h).register in
      let y = part_code d (also_in P.waiting r) b in
      record { before = P.before; waiting = P.waiting; behind = y.own ++ (d.operates o f r y.register ∷ P.behind) }

  abbrev pub place_of_second : Bool → Operator → Tree → Tree → CodePlace I → CodePlace I
  place_of_second f o h b P =
      let x = part_code d P.waiting b in
      let w = also_in P.waiting x.register in
      record { before = P.before ++ x.own; waiting = w; behind = d.operates o f x.register (part_code d w h).register ∷ P.behind }

  -- of the part h with the context c, from the place of the root's code
  unfoldable pub code_place : CodePlace I → Tree → List Frame → CodePlace I
  code_place root h [] = root
  code_place root h (frame s o b ∷ c) =
      let P = code_place root (sided s (node o) h b) c in
      cond (comes_first s h b) (place_of_first (sided s left_first h b) o h b P) (place_of_second (sided s left_first h b) o h b P)

  -- either the child comes first or the other one does
  pub child_by : (R : Bool → CodePlace I → Type 0) (s : Side) (o : Operator) (h b : Tree) (P : CodePlace I)
      → ((f : Bool) → ((w : List Bool) → part_code d w (sided s (node o) h b) ≡ node_code d w o f (part_code d w h) (part_code d (also_in w (part_code d w h).register) b)) → R true (place_of_first f o h b P))
      → ((f : Bool) → ((w : List Bool) → part_code d w (sided s (node o) h b) ≡ node_code d w o f (part_code d w b) (part_code d (also_in w (part_code d w b).register) h)) → R false (place_of_second f o h b P))
      → R (comes_first s h b) (cond (comes_first s h b) (place_of_first (sided s left_first h b) o h b P) (place_of_second (sided s left_first h b) o h b P))
  child_by R left o h b P p q = go (left_first h b) (λ w. part_node d w o h b)
    where
      go : (f : Bool) → ((w : List Bool) → part_code d w (node o h b) ≡ node_code d w o f (part_code d w (cond f h b)) (part_code d (also_in w (part_code d w (cond f h b)).register) (cond f b h)))
          → R f (cond f (place_of_first f o h b P) (place_of_second f o h b P))
      go true e = p true e
      go false e = q false e
  child_by R right o h b P p q = go (left_first b h) (λ w. part_node d w o b h)
    where
      go : (f : Bool) → ((w : List Bool) → part_code d w (node o b h) ≡ node_code d w o f (part_code d w (cond f b h)) (part_code d (also_in w (part_code d w (cond f b h)).register) (cond f h b)))
          → R (not f) (cond (not f) (place_of_first f o h b P) (place_of_second f o h b P))
      go true e = q true e
      go false e = p false e

  -- a part's code stands unbroken at its place
  abbrev Stands : List I → Tree → CodePlace I → Type 0
  Stands is h P = is ≡ P.before ++ ((part_code d P.waiting h).own ++ P.behind)

  pub code_stands : (root : CodePlace I) (h : Tree) (c : List Frame) → Stands (root.before ++ ((part_code d root.waiting (plug h c)).own ++ root.behind)) h (code_place root h c)
  unfolding plug code_place
  code_stands root h [] = refl
  code_stands root h (frame s o b ∷ c) =
      let Q : CodePlace I = code_place root (sided s (node o) h b) c in
      let u = code_stands root (sided s (node o) h b) c in
      child_by (λ f. Stands (root.before ++ ((part_code d root.waiting (plug (sided s (node o) h b) c)).own ++ root.behind)) h) s o h b Q
      (λ f e. u ∙ rw (e Q.waiting) (simp append_assoc))
      (λ f e. u ∙ rw (e Q.waiting) (simp append_assoc))

  -- as many instructions stand before it as nodes come before the part's
  pub before_length : (root : CodePlace I) → length root.before ≡ 0 → (h : Tree) (c : List Frame) → length (code_place root h c).before ≡ nodes_before h c
  unfolding code_place nodes_before
  before_length root z h [] = z
  before_length root z h (frame s o b ∷ c) =
      let Q : CodePlace I = code_place root (sided s (node o) h b) c in
      let u = before_length root z (sided s (node o) h b) c in
      child_by (λ f P. length P.before ≡ nodes_before (sided s (node o) h b) c + cond f 0 (size b)) s o h b Q
      (λ f e. u ∙ omega arith)
      (λ f e. length-append Q.before (part_code d Q.waiting b).own ∙ omega (arith, u, length_part d Q.waiting b))

module _ {I : Type 0} (d : Device I) (effect : I → Effect) (acts : Acts d effect) where
  -- ---- a part's code reads only what it wrote
  pub record ClosedCode (x : PartCode I) : Type 0 where
    pub closed : (W : ℕ → Bool) → Closed effect W x.own
    pub written : (W : ℕ → Bool) → written_after effect W x.own x.register ≡ true

  load_closed : (W : ℕ → Bool) (r g : ℕ) → Closed effect W (d.loads r g ∷ [])
  unfolding Closed Every
  load_closed W r g = rw (acts.loads r g) (tt, tt)

  load_written : (W : ℕ → Bool) (r g : ℕ) → written_after effect W (d.loads r g ∷ []) r ≡ true
  unfolding written_after is_in
  load_written W r g = rw (acts.loads r g, eq-eqb r r refl)

  operate_closed : (W : ℕ → Bool) (o : Operator) (f : Bool) (p q : ℕ) → W p ≡ true → W q ≡ true → Closed effect W (d.operates o f p q ∷ [])
  unfolding Closed Every
  operate_closed W o f p q a b = rw (acts.operates o f p q) (go f, tt)
    where
      go : (f : Bool) → (W (cond f p q) ≡ true) × ((W (cond f q p) ≡ true) × Unit {0})
      go true = (a, (b, tt))
      go false = (b, (a, tt))

  operate_written : (W : ℕ → Bool) (o : Operator) (f : Bool) (p q : ℕ) → written_after effect W (d.operates o f p q ∷ []) (cond (d.keeps_first f) p q) ≡ true
  unfolding written_after is_in
  operate_written W o f p q = rw (acts.operates o f p q, eq-eqb (cond (d.keeps_first f) p q) (cond (d.keeps_first f) p q) refl)

  closed_node : (w : List Bool) (o : Operator) (f : Bool) (x y : PartCode I) → ClosedCode x → ClosedCode y → ClosedCode (node_code d w o f x y)
  closed_node w o f x y p q = record {
    closed = λ W.
        closed_append effect W x.own _ (p.closed W)
        (closed_append effect (written_after effect W x.own) y.own _ (q.closed (written_after effect W x.own))
        (operate_closed _ o f x.register y.register (written_more effect (written_after effect W x.own) y.own x.register (p.written W)) (q.written (written_after effect W x.own))));
    written = λ W.
        rw (written_append effect W x.own (y.own ++ (d.operates o f x.register y.register ∷ [])), written_append effect (written_after effect W x.own) y.own (d.operates o f x.register y.register ∷ []))
        (operate_written _ o f x.register y.register);
  }

  pub closed_code : (w : List Bool) (t : Tree) → ClosedCode (part_code d w t)
  closed_code =
      part_by d (λ w t x. ClosedCode x)
      (λ w g h. record { closed = λ W. load_closed W _ g; written = λ W. load_written W _ g })
      (λ w o l r x y p q. closed_node w o (left_first l r) x y p q)

  -- ---- behind a part's code, no register where none waits, but the part's own, is read until written anew
  operate_unread : (o : Operator) (f : Bool) (p q n : ℕ) (behind : List I) → (n ≡ p → ⊥) → (n ≡ q → ⊥) → read_first effect n behind ≡ false → read_first effect n (d.operates o f p q ∷ behind) ≡ false
  unfolding read_first is_in
  operate_unread o f p q n behind a b e = rw (acts.operates o f p q) (go f (d.keeps_first f))
    where
      go : (f k : Bool) → ((eqb n (cond f p q) || (eqb n (cond f q p) || false)) || (not (eqb n (cond k p q) || false) && read_first effect n behind)) ≡ false
      go true true = rw (ne_eqb n p a, ne_eqb n q b) e
      go true false = rw (ne_eqb n p a, ne_eqb n q b) e
      go false true = rw (ne_eqb n p a, ne_eqb n q b) e
      go false false = rw (ne_eqb n p a, ne_eqb n q b) e

  pub record Unread (h : Tree) (P : CodePlace I) : Type 0 where
    pub unread : (q : ℕ) → waits P.waiting q ≡ false → (q ≡ (part_code d P.waiting h).register → ⊥) → read_first effect q P.behind ≡ false

  either_other : (k : Bool) (p q n r : ℕ) → r ≡ cond k p q → (n ≡ p → ⊥) → (n ≡ q → ⊥) → n ≡ r → ⊥
  either_other true p q n r e a b z = a (z ∙ e)
  either_other false p q n r e a b z = b (z ∙ e)

  second_unread : (n h b : Tree) (o : Operator) (f : Bool) (Q : CodePlace I) → Unread n Q
      → ((w : List Bool) → part_code d w n ≡ node_code d w o f (part_code d w h) (part_code d (also_in w (part_code d w h).register) b)) → Unread h (place_of_first d f o h b Q)
  second_unread n h b o f Q u e = record { unread = λ q free other. go q free other (eqb q y.register) refl }
    where
      x : PartCode I
      x = part_code d Q.waiting h

      y : PartCode I
      y = part_code d (also_in Q.waiting x.register) b

      go : (q : ℕ) → waits Q.waiting q ≡ false → (q ≡ x.register → ⊥) → (t : Bool) → eqb q y.register ≡ t
          → read_first effect q (y.own ++ (d.operates o f x.register y.register ∷ Q.behind)) ≡ false
      go q free other true s = rw (eqb-true q y.register s) (closed_written effect none_written y.own y.register _ ((closed_code _ b).closed none_written) refl ((closed_code _ b).written none_written))
      go q free other false s =
          let n₂ = eqb-false q y.register s in
          closed_unread effect none_written y.own q _ ((closed_code _ b).closed none_written) refl
          (operate_unread o f x.register y.register q Q.behind other n₂
          (u.unread q free (either_other (d.keeps_first f) x.register y.register q _ (ap (λ (z : PartCode I). z.register) (e Q.waiting)) other n₂)))

  first_unread : (n h b : Tree) (o : Operator) (f : Bool) (Q : CodePlace I) → Unread n Q
      → ((w : List Bool) → part_code d w n ≡ node_code d w o f (part_code d w b) (part_code d (also_in w (part_code d w b).register) h)) → Unread h (place_of_second d f o h b Q)
  first_unread n h b o f Q u e = record {
    unread = λ q free other.
        let v = also_free Q.waiting (part_code d Q.waiting b).register q free in
        operate_unread o f _ _ q Q.behind v.0 other
        (u.unread q v.1 (either_other (d.keeps_first f) _ _ q _ (ap (λ (z : PartCode I). z.register) (e Q.waiting)) v.0 other));
  }

  pub behind_unread : (root : CodePlace I) (h : Tree) (c : List Frame) → Unread (plug h c) root → Unread h (code_place d root h c)
  unfolding plug code_place
  behind_unread root h [] z = z
  behind_unread root h (frame s o b ∷ c) z =
      let Q : CodePlace I = code_place d root (sided s (node o) h b) c in
      let u : Unread (sided s (node o) h b) Q = behind_unread root (sided s (node o) h b) c z in
      child_by d (λ f. Unread h) s o h b Q
      (λ f e. second_unread (sided s (node o) h b) h b o f Q u e)
      (λ f e. first_unread (sided s (node o) h b) h b o f Q u e)

  -- ---- outside a part's code, only groups of leaves outside the part are loaded
  pub record LoadsAround (m : ℕ → Bool) (P : CodePlace I) : Type 0 where
    pub before : Every (Loads effect m) P.before
    pub behind : Every (Loads effect m) P.behind

  pub loads_around : (m : ℕ → Bool) (root : CodePlace I) (h : Tree) (c : List Frame) → LoadsAround m root → OverAbove m c → LoadsAround m (code_place d root h c)
  unfolding code_place OverAbove Every
  loads_around m root h [] z p = z
  loads_around m root h (frame s o b ∷ c) z p =
      let Q : CodePlace I = code_place d root (sided s (node o) h b) c in
      let u : LoadsAround m Q = loads_around m root (sided s (node o) h b) c z p.1 in
      child_by d (λ f. LoadsAround m) s o h b Q
      (λ f e. record {
        before = u.before;
        behind =
            let y : PartCode I = part_code d (also_in Q.waiting (part_code d Q.waiting h).register) b in
            every_append (Loads effect m) y.own (d.operates o f (part_code d Q.waiting h).register y.register ∷ Q.behind) (loads d effect acts m _ b p.0) (operate_loads d effect acts m o f _ _, u.behind);
      })
      (λ f e. record {
        before = every_append (Loads effect m) Q.before _ u.before (loads d effect acts m Q.waiting b p.0);
        behind = (operate_loads d effect acts m o f _ _, u.behind);
      })
