-- Laws of lists of anything: what stands at an index, what holds of every element, and lists that rise in an order; of lists one after
-- the other, `map` and `flat_map`.
use mathlib.Core.Path.{◌≡◌, refl, sym, ap, ap₂, subst, ◌∙◌}
use mathlib.Core.List.{List, [], ◌∷◌, ◌++◌, append_assoc, map, flat_map}
use mathlib.Core.Option.{some, none}
use Prim.Native.Nat.{ℕ, zero, suc, ◌+◌, ◌≤◌, ◌<◌}
use native.Mathlib.Omega.{arith}
use native.Mathlib.Nat.{zero-add, suc-add}
use lib.ListN.{length, get_or, get_elem?}

pub not_some : {A : Type 0} {a : A} {X : Type 0} → none ≡ some a → X
not_some e = absurd (let z : ◌≡◌ {A = ℕ} 0 1 = cc in omega arith)

-- ---- what stands at an index
module _ {A : Type 0} where
  pub at_left : (a b : List A) (i : ℕ) → i < length a → get_elem? (a ++ b) i ≡ get_elem? a i
  at_left [] b i h = absurd (omega arith)
  at_left (y ∷ a) b zero h = refl
  at_left (y ∷ a) b (suc i) h = at_left a b i (omega arith)

  pub at_right : (a b : List A) (i : ℕ) → get_elem? (a ++ b) (length a + i) ≡ get_elem? b i
  at_right [] b i = ap (get_elem? b) (zero-add i)
  at_right (y ∷ a) b i = ap (get_elem? (y ∷ (a ++ b))) (suc-add (length a) i) ∙ at_right a b i

  pub at_below : (a : List A) (i : ℕ) (x : A) → get_elem? a i ≡ some x → i < length a
  at_below [] i x e = not_some e
  at_below (y ∷ a) zero x e = omega arith
  at_below (y ∷ a) (suc i) x e = let h = at_below a i x e in omega arith

  pub at_past : (a : List A) (i : ℕ) → length a ≤ i → get_elem? a i ≡ none
  at_past [] i h = refl
  at_past (y ∷ a) zero h = absurd (omega arith)
  at_past (y ∷ a) (suc i) h = at_past a i (omega arith)

  pub at_some : (a : List A) (i : ℕ) → i < length a → (x : A) × (get_elem? a i ≡ some x)
  at_some [] i h = absurd (omega arith)
  at_some (y ∷ a) zero h = (y, refl)
  at_some (y ∷ a) (suc i) h = at_some a i (omega arith)

  pub at_get_d : (a : List A) (d : A) (i : ℕ) (x : A) → get_elem? a i ≡ some x → get_or a i d ≡ x
  at_get_d [] d i x e = not_some e
  at_get_d (y ∷ a) d zero x e = cc
  at_get_d (y ∷ a) d (suc i) x e = at_get_d a d i x e

  -- a function's first n values
  abbrev pub values : ℕ → (ℕ → A) → List A
  values zero f = []
  values (suc n) f = f zero ∷ values n (λ k. f (suc k))

  pub at_values : (n : ℕ) (f : ℕ → A) (k : ℕ) → k < n → get_elem? (values n f) k ≡ some (f k)
  at_values zero f k h = absurd (omega arith)
  at_values (suc n) f zero h = refl
  at_values (suc n) f (suc k) h = at_values n (λ k. f (suc k)) k (omega arith)

  -- x stands somewhere in a
  abbrev pub Among : List A → A → Type 0
  Among a x = (i : ℕ) × (get_elem? a i ≡ some x)

  pub among_left : (a b : List A) (x : A) → Among a x → Among (a ++ b) x
  among_left a b x m = (m.0, at_left a b m.0 (at_below a m.0 x m.1) ∙ m.1)

  pub among_right : (a b : List A) (x : A) → Among b x → Among (a ++ b) x
  among_right a b x m = (length a + m.0, at_right a b m.0 ∙ m.1)

-- ---- what holds of every element
unfoldable pub Every : {A : Type 0} → (A → Type 0) → List A → Type 0
Every P [] = Unit {0}
Every P (x ∷ xs) = P x × Every P xs

module _ {A : Type 0} (P : A → Type 0) where
  pub every_at : (a : List A) → Every P a → (i : ℕ) (x : A) → get_elem? a i ≡ some x → P x
  unfolding Every
  every_at [] e i x h = not_some h
  every_at (y ∷ a) e zero x h = let q : y ≡ x = cc in subst P q e.0
  every_at (y ∷ a) e (suc i) x h = every_at a e.1 i x h

  pub every_append : (a b : List A) → Every P a → Every P b → Every P (a ++ b)
  unfolding Every
  every_append [] b e f = f
  every_append (x ∷ a) b e f = (e.0, every_append a b e.1 f)

  pub every_implies : (Q : A → Type 0) → ((x : A) → Q x → P x) → (a : List A) → Every Q a → Every P a
  unfolding Every
  every_implies Q f [] e = tt
  every_implies Q f (x ∷ a) e = (f x e.0, every_implies Q f a e.1)

  pub every_any : ((x : A) → P x) → (a : List A) → Every P a
  unfolding Every
  every_any f [] = tt
  every_any f (x ∷ a) = (f x, every_any f a)

  pub every_both : (Q O : A → Type 0) → ((x : A) → Q x → O x → P x) → (a : List A) → Every Q a → Every O a → Every P a
  unfolding Every
  every_both Q O f [] e g = tt
  every_both Q O f (x ∷ a) e g = (f x e.0 g.0, every_both Q O f a e.1 g.1)

-- ---- lists that rise in an order
unfoldable pub Rising : {A : Type 0} → (A → A → Type 0) → List A → Type 0
Rising R [] = Unit {0}
Rising R (x ∷ xs) = Every (R x) xs × Rising R xs

module _ {A : Type 0} (R : A → A → Type 0) where
  pub rising_append : (a b : List A) → Rising R a → Rising R b → Every (λ x. Every (R x) b) a → Rising R (a ++ b)
  unfolding Every Rising
  rising_append [] b r s e = s
  rising_append (x ∷ a) b r s e = (every_append (R x) a b r.0 e.0, rising_append a b r.1 s e.1)

  pub rising_at : (a : List A) → Rising R a → (i j : ℕ) (x y : A) → i < j → get_elem? a i ≡ some x → get_elem? a j ≡ some y → R x y
  unfolding Rising
  rising_at [] r i j x y h e f = not_some e
  rising_at (z ∷ a) r i zero x y h e f = absurd (omega arith)
  rising_at (z ∷ a) r zero (suc j) x y h e f = let s : z ≡ x = cc in subst (λ (z : A). R z y) s (every_at (R z) a r.0 j y f)
  rising_at (z ∷ a) r (suc i) (suc j) x y h e f = rising_at a r.1 i j x y (omega arith) e f

  pub rising_implies : (P : A → Type 0) (S : A → A → Type 0) → ((x y : A) → P x → P y → S x y → R x y) → (a : List A) → Every P a → Rising S a → Rising R a
  unfolding Every Rising
  rising_implies P S f [] e r = tt
  rising_implies P S f (x ∷ a) e r = (every_both (R x) P (S x) (λ y p s. f x y e.0 p s) a e.1 r.0, rising_implies P S f a e.1 r.1)

-- ---- of each element a list, one after the other
module _ {A B : Type 0} (f : A → List B) where
  pub flat_map_append : (a b : List A) → flat_map f (a ++ b) ≡ flat_map f a ++ flat_map f b
  unfolding flat_map
  flat_map_append [] b = refl
  flat_map_append (x ∷ a) b = ap (λ (l : List B). f x ++ l) (flat_map_append a b) ∙ sym (append_assoc (f x) (flat_map f a) (flat_map f b))

  pub flat_map_same : (g : A → List B) (a : List A) → Every (λ x. f x ≡ g x) a → flat_map f a ≡ flat_map g a
  unfolding flat_map Every
  flat_map_same g [] e = refl
  flat_map_same g (x ∷ a) e = ap₂ (λ (k l : List B). k ++ l) e.0 (flat_map_same g a e.1)

  pub among_flat_map : (a : List A) (x : A) (y : B) → Among a x → Among (f x) y → Among (flat_map f a) y
  unfolding flat_map
  among_flat_map [] x y m n = not_some m.1
  among_flat_map (z ∷ a) x y (zero, e) n = let q : z ≡ x = cc in among_left (f z) (flat_map f a) y (subst (λ (z : A). Among (f z) y) (sym q) n)
  among_flat_map (z ∷ a) x y (suc i, e) n = among_right (f z) (flat_map f a) y (among_flat_map a x y (i, e) n)

  pub every_flat_map : (P : A → Type 0) (Q : B → Type 0) → ((x : A) → P x → Every Q (f x)) → (a : List A) → Every P a → Every Q (flat_map f a)
  unfolding flat_map Every
  every_flat_map P Q g [] e = tt
  every_flat_map P Q g (x ∷ a) e = every_append Q (f x) (flat_map f a) (g x e.0) (every_flat_map P Q g a e.1)

  -- where x comes before y in one order, all of f x come before all of f y in the other
  module _ (S : A → A → Type 0) (R : B → B → Type 0) (apart : (x y : A) → S x y → Every (λ k. Every (R k) (f y)) (f x)) where
    before_all : (x : A) (a : List A) → Every (S x) a → Every (λ k. Every (R k) (flat_map f a)) (f x)
    unfolding flat_map Every
    before_all x [] e = every_any (λ k. Every (R k) []) (λ k. tt) (f x)
    before_all x (y ∷ a) e =
        every_both (λ k. Every (R k) (f y ++ flat_map f a)) (λ k. Every (R k) (f y)) (λ k. Every (R k) (flat_map f a))
        (λ k p q. every_append (R k) (f y) (flat_map f a) p q) (f x) (apart x y e.0) (before_all x a e.1)

    pub rising_flat_map : ((x : A) → Rising R (f x)) → (a : List A) → Rising S a → Rising R (flat_map f a)
    unfolding flat_map Rising
    rising_flat_map r [] s = tt
    rising_flat_map r (x ∷ a) s = rising_append R (f x) (flat_map f a) (r x) (rising_flat_map r a s.1) (before_all x a s.0)

pub flat_map_flat_map : {A B C : Type 0} (f : A → List B) (g : B → List C) (a : List A) → flat_map g (flat_map f a) ≡ flat_map (λ x. flat_map g (f x)) a
unfolding flat_map
flat_map_flat_map f g [] = refl
flat_map_flat_map {C = C} f g (x ∷ a) = flat_map_append g (f x) (flat_map f a) ∙ ap (λ (l : List C). flat_map g (f x) ++ l) (flat_map_flat_map f g a)

-- ---- the same element made of each
module _ {A B : Type 0} (f : A → B) where
  pub at_map : (a : List A) (i : ℕ) (x : A) → get_elem? a i ≡ some x → get_elem? (map f a) i ≡ some (f x)
  at_map [] i x e = not_some e
  at_map (y ∷ a) zero x e = let q : y ≡ x = cc in ap (λ (y : A). some (f y)) q
  at_map (y ∷ a) (suc i) x e = at_map a i x e

  pub map_at : (a : List A) (i : ℕ) (y : B) → get_elem? (map f a) i ≡ some y → (x : A) × (get_elem? a i ≡ some x) × (y ≡ f x)
  map_at [] i y e = not_some e
  map_at (x ∷ a) zero y e = (x, refl, (let q : f x ≡ y = cc in sym q))
  map_at (x ∷ a) (suc i) y e = map_at a i y e

  pub every_map : (P : B → Type 0) (a : List A) → Every (λ x. P (f x)) a → Every P (map f a)
  unfolding Every
  every_map P [] e = tt
  every_map P (x ∷ a) e = (e.0, every_map P a e.1)

  pub rising_map : (R : B → B → Type 0) (a : List A) → Rising (λ x y. R (f x) (f y)) a → Rising R (map f a)
  unfolding Rising
  rising_map R [] r = tt
  rising_map R (x ∷ a) r = (every_map (R (f x)) a r.0, rising_map R a r.1)
