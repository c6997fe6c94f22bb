-- A call that is done, or refused with 19, had nothing at fault.
use mathlib.Core.Path.{◌≡◌, refl}
use mathlib.Core.Bool.{Bool, true, false, cond}
use mathlib.Core.List.{List}
use mathlib.Core.Option.{Option, some, none}
use Prim.Native.Nat.{ℕ, zero, suc}
use native.Mathlib.Omega.{arith}
use lib.Dec.{ltb}
use lib.ListN.{length}
use Rattle.std.specs.Prelude.{Result, Ok, Err}
use Rattle.tree.specs.Tree.{Tree, most_nodes, groups}
use Rattle.tree.specs.Parse.{tree_of}
use Rattle.std.proofs.lemmas.Bool.Decides.{nat_tests}
use Rattle.gather.specs.Answer.{refusal_number, groups_fault, tree_fault, gather_fault, Gathers}
use Rattle.gather.specs.declared.GatheredTree.{GatheredTree}
use Rattle.gather.specs.declared.Refusal.{Refusal}
use Rattle.gather.specs.declared.Refusal.TheVariants.{ShortBuffer, NotATree, TooManyGroups, BadMarks, CannotBeGathered}

pub same_refusal : {A : Type 0} (a b : Refusal) → ◌≡◌ {A = Result A Refusal} (Err a) (Err b) → a ≡ b
same_refusal a b e = cc

-- no refusal has the number 0
pub number_some : (refusal : Refusal) → refusal_number refusal ≡ 0 → ⊥
number_some ShortBuffer e = omega arith
number_some NotATree e = omega arith
number_some TooManyGroups e = omega arith
number_some BadMarks e = omega arith
number_some CannotBeGathered e = omega arith

-- no fault has the number 19
groups_not_19 : (gs marks : List ℕ) → groups_fault gs marks ≡ 19 → ⊥
groups_not_19 gs marks e = grind (arith, nat_tests)

not_19 : (list marks : List ℕ) (room : ℕ) → gather_fault list marks room ≡ 19 → ⊥
unfolding gather_fault
not_19 list marks room e = go (ltb room most_nodes) (tree_of list) e
  where
    go : (a : Bool) (o : Option Tree) → cond {A = ℕ} a 11 (tree_fault o marks) ≡ 19 → ⊥
    go true o e = omega arith
    go false none e = omega arith
    go false (some t) e = groups_not_19 (groups t) marks e

zero_unless : (n : ℕ) → ((n ≡ 0 → ⊥) → ⊥) → n ≡ 0
zero_unless zero h = refl
zero_unless (suc n) h = absurd (h (λ e. omega arith))

module _ {list marks out out' : List ℕ} where
  pub done_faultless : {tree : GatheredTree} → Gathers list marks out out' (Ok tree) → gather_fault list marks (length out) ≡ 0
  done_faultless G = zero_unless _ (λ n. let e = (G.faulty n).0 in let z : ◌≡◌ {A = ℕ} 0 1 = cc in omega arith)

  pub cannot_faultless : {refusal : Refusal} → refusal_number refusal ≡ 19 → Gathers list marks out out' (Err refusal) → gather_fault list marks (length out) ≡ 0
  cannot_faultless e G = zero_unless _ (λ n. let says = (G.faulty n).0 in not_19 list marks (length out) cc)
