-- A formula that selects as a left side does names the parts that the left side names, which are all four: each of them can decide.
use mathlib.Core.Path.{◌≡◌, refl, sym, ap₂, subst, ◌∙◌}
use mathlib.Core.Bool.{Bool, true, false, not, ◌&&◌, beq, false≢true}
use lib.Dec.{T}
use Rattle.tree.specs.Tree.{Operator, operator_of, apply}
use Rattle.tree.proofs.TreeLaws.{and_left, and_right}
use Rattle.words.specs.Formula.{Formula, A, B, C, D, join, value, both_bools, all_fillings, agree}
use Rattle.words.proofs.Cases.{first_true, second_true}
use Rattle.words.proofs.FormulaLaws.{both}

-- ---- a test that holds for every filling
both_bools_lem : (f : Bool → Bool) → ((x : Bool) → T (f x)) → T (both_bools f)
both_bools_lem f h = join_true (f true) (f false) (h true) (h false)
  where
    join_true : (x y : Bool) → T x → T y → T (x && y)
    join_true true y t u = u
    join_true false y t u = t

all_fillings_lem : (f : Bool → Bool → Bool → Bool → Bool) → ((a b c d : Bool) → T (f a b c d)) → T (all_fillings f)
all_fillings_lem f h =
    both_bools_lem (λ a. both_bools (λ b. both_bools (λ c. both_bools (λ d. f a b c d))))
    (λ a. both_bools_lem (λ b. both_bools (λ c. both_bools (λ d. f a b c d))) (λ b. both_bools_lem (λ c. both_bools (λ d. f a b c d)) (λ c. both_bools_lem (λ d. f a b c d) (h a b c))))

same_bools : (x y : Bool) → x ≡ y → T (beq x y)
same_bools x y e = subst (λ (y : Bool). T (beq x y)) e (go x)
  where
    go : (x : Bool) → T (beq x x)
    go true = tt
    go false = tt

pub all_agree : (f : Operator → Bool → Bool → Bool) (p q : Formula) → ((a b c d : Bool) → value f a b c d p ≡ value f a b c d q) → T (agree f p q)
all_agree f p q h = all_fillings_lem (λ a b c d. beq (value f a b c d p) (value f a b c d q)) (λ a b c d. same_bools (value f a b c d p) (value f a b c d q) (h a b c d))

-- ---- a formula's value asks only the parts that it names
module _ (f : Operator → Bool → Bool → Bool) (a b c d a' b' c' d' m n o r : Bool)
    (same-a : m ≡ true → a ≡ a') (same-b : n ≡ true → b ≡ b') (same-c : o ≡ true → c ≡ c') (same-d : r ≡ true → d ≡ d') where
  named_only : (p : Formula) → value both m n o r p ≡ true → value f a b c d p ≡ value f a' b' c' d' p
  named_only A h = same-a h
  named_only B h = same-b h
  named_only C h = same-c h
  named_only D h = same-d h
  named_only (join k p q) h =
      ap₂ (f (operator_of k)) (named_only p (first_true (value both m n o r p) (value both m n o r q) h)) (named_only q (second_true (value both m n o r p) (value both m n o r q) h))

-- ---- each part can decide what l selects
abbrev ignores_a : Formula → Bool
ignores_a l = all_fillings (λ a b c d. beq (value apply true b c d l) (value apply false b c d l))

abbrev ignores_b : Formula → Bool
ignores_b l = all_fillings (λ a b c d. beq (value apply a true c d l) (value apply a false c d l))

abbrev ignores_c : Formula → Bool
ignores_c l = all_fillings (λ a b c d. beq (value apply a b true d l) (value apply a b false d l))

abbrev ignores_d : Formula → Bool
ignores_d l = all_fillings (λ a b c d. beq (value apply a b c true l) (value apply a b c false l))

abbrev pub asks_all : Formula → Bool
asks_all l = (not (ignores_a l) && not (ignores_b l)) && (not (ignores_c l) && not (ignores_d l))

refute : (x : Bool) → T (not x) → T x → ⊥
refute true t u = t
refute false t u = u

all_true_lem : (p : Formula) → value both true true true true p ≡ true
all_true_lem A = refl
all_true_lem B = refl
all_true_lem C = refl
all_true_lem D = refl
all_true_lem (join k p q) = ap₂ ◌&&◌ (all_true_lem p) (all_true_lem q)

-- so a formula that selects as l does names all parts
module _ (p l : Formula) (asks : T (asks_all l)) (k : (a b c d : Bool) → value apply a b c d p ≡ value apply a b c d l) where
  not_true : (x : Bool) → (x ≡ true → ⊥) → x ≡ false
  not_true true h = absurd (h refl)
  not_true false h = refl

  asks_ab : T (not (ignores_a l) && not (ignores_b l))
  asks_ab = and_left (not (ignores_a l) && not (ignores_b l)) (not (ignores_c l) && not (ignores_d l)) asks

  asks_cd : T (not (ignores_c l) && not (ignores_d l))
  asks_cd = and_right (not (ignores_a l) && not (ignores_b l)) (not (ignores_c l) && not (ignores_d l)) asks

  alike : (a b c d a' b' c' d' : Bool) → value apply a b c d p ≡ value apply a' b' c' d' p → T (beq (value apply a b c d l) (value apply a' b' c' d' l))
  alike a b c d a' b' c' d' e = same_bools (value apply a b c d l) (value apply a' b' c' d' l) (sym (k a b c d) ∙ e ∙ k a' b' c' d')

  none_apart : {x : Bool} → false ≡ true → x ≡ not x
  none_apart e = absurd (false≢true e)

  pub names_all : (m n o r : Bool) → value both m n o r p ≡ (m && (n && (o && r)))
  names_all true true true true = all_true_lem p
  names_all false n o r =
      not_true _ (λ h. refute (ignores_a l) (and_left (not (ignores_a l)) (not (ignores_b l)) asks_ab)
      (all_fillings_lem (λ a b c d. beq (value apply true b c d l) (value apply false b c d l)) (λ a b c d. alike true b c d false b c d (named_only apply true b c d false b c d false n o r none_apart (λ e. refl) (λ e. refl) (λ e. refl) p h))))
  names_all true false o r =
      not_true _ (λ h. refute (ignores_b l) (and_right (not (ignores_a l)) (not (ignores_b l)) asks_ab)
      (all_fillings_lem (λ a b c d. beq (value apply a true c d l) (value apply a false c d l)) (λ a b c d. alike a true c d a false c d (named_only apply a true c d a false c d true false o r (λ e. refl) none_apart (λ e. refl) (λ e. refl) p h))))
  names_all true true false r =
      not_true _ (λ h. refute (ignores_c l) (and_left (not (ignores_c l)) (not (ignores_d l)) asks_cd)
      (all_fillings_lem (λ a b c d. beq (value apply a b true d l) (value apply a b false d l)) (λ a b c d. alike a b true d a b false d (named_only apply a b true d a b false d true true false r (λ e. refl) (λ e. refl) none_apart (λ e. refl) p h))))
  names_all true true true false =
      not_true _ (λ h. refute (ignores_d l) (and_right (not (ignores_c l)) (not (ignores_d l)) asks_cd)
      (all_fillings_lem (λ a b c d. beq (value apply a b c true l) (value apply a b c false l)) (λ a b c d. alike a b c true a b c false (named_only apply a b c true a b c false true true true false (λ e. refl) (λ e. refl) (λ e. refl) none_apart p h))))

pub same_parts : (p l : Formula) → T (asks_all l) → ((a b c d : Bool) → value apply a b c d p ≡ value apply a b c d l) → T (agree both p l)
same_parts p l asks k = all_agree both p l (λ m n o r. names_all p l asks k m n o r ∙ sym (names_all l l asks (λ a b c d. refl) m n o r))
