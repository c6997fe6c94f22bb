-- The tree that gathering returns: what is promised of some tree, and the tree by its name, say each other.
use mathlib.Core.Path.{◌≡◌, refl, sym, ap, ap₂, subst, ◌∙◌}
use mathlib.Core.List.{List, [], ◌∷◌}
use mathlib.Core.Option.{Option, some, none}
use Prim.Native.Nat.{ℕ, ◌^◌}
use native.Mathlib.Omega.{arith}
use lib.ListN.{length, take, drop}
use Rattle.std.specs.Prelude.{None, Ok, Err}
use Rattle.std.proofs.lemmas.Option.{none-some, same_Some}
use Rattle.common.specs.Answer.{done}
use Rattle.tree.specs.Tree.{Tree, postfix, size, leaves, is_in, collect, WithoutIntersection}
use Rattle.tree.proofs.TreeLaws.{postfix_length}
use Rattle.tree.proofs.ParseLaws.{postfix_injective}
use Rattle.tree.proofs.WritingLaws.{take_over}
use Rattle.table.specs.InnerTable.{table, rows_of}
use Rattle.builder.proofs.JoinLaws.{PlainOptional}
use Rattle.columns.specs.InnerChoosing.{choice}
use Rattle.columns.proofs.ColumnLaws.{tree_for_plain}
use Rattle.gather.specs.Gathering.{Gathered}
use Rattle.gather.specs.Answer.{Gathering, GatheredTo}
use Rattle.holding.specs.InnerHolding.{holder, status}
use Rattle.gather.specs.InnerGathered.{rearranged, gathered_as, gathered_by, named_by, holder_of, Returned}
use Rattle.holding.specs.declared.Status.{Status}
use Rattle.holding.specs.declared.Status.TheVariants.{Free, Mixed, All, Held}
use Rattle.gather.specs.declared.Refusal.{Refusal}
use Rattle.gather.specs.declared.Refusal.TheVariants.{CannotBeGathered}
use Rattle.gather.proofs.HoldingLaws.{Names, gathered_status}

-- the holder that a status names
pub holder_named : (s : Status) (k : ℕ) → Names s k → k ≡ named_by s
holder_named Free k e = absurd (none-some k e)
holder_named Mixed k e = absurd (none-some k e)
holder_named (All j) k e = sym (same_Some j k e)
holder_named (Held j) k e = sym (same_Some j k e)

-- a gathered tree has one holder
pub holder_of_lem : (marks : List ℕ) {u : Tree} {p : ℕ} → Gathered (is_in marks) u p → p ≡ holder_of marks u
holder_of_lem marks {u} {p} g = holder_named (status (is_in marks) 0 u) p (gathered_status g)

-- ---- a tree o that is the one promised is the one returned
pub returned_tree : {t : Tree} {marks out out' : List ℕ} {n k : ℕ} {o : Option Tree} (G : GatheredTo t marks out out' n k) → o ≡ some G.result
    → Returned marks o out out' (Ok (record { nodes = n; holder = k }))
returned_tree {t} {marks} G e = rw e (record { says = ap₂ (λ (a b : ℕ). done (a ∷ b ∷ [])) G.counted (holder_of_lem marks G.gathered); written = G.written })

pub returned_none : {marks out out' : List ℕ} {o : Option Tree} → out' ≡ out → o ≡ none → Returned marks o out out' (Err CannotBeGathered)
returned_none b e = rw e (record { says = refl; written = b })

-- by the status of the given tree: where it names no holder, and where it names one
as_rearranged : (s : Status) (t : Tree) (marks : List ℕ) → holder s ≡ None → gathered_as s t marks ≡ rearranged t marks
as_rearranged Free t marks e = refl
as_rearranged Mixed t marks e = refl
as_rearranged (All k) t marks e = absurd (none-some k (sym e))
as_rearranged (Held k) t marks e = absurd (none-some k (sym e))

as_given : (s : Status) (t : Tree) (marks : List ℕ) (k : ℕ) → Names s k → gathered_as s t marks ≡ some t
as_given Free t marks k e = absurd (none-some k e)
as_given Mixed t marks k e = absurd (none-some k e)
as_given (All j) t marks k e = refl
as_given (Held j) t marks k e = refl

pub returned_as : {marks out out' : List ℕ} {r : Gathering} (t : Tree) (s : Status) → status (is_in marks) 0 t ≡ s → Returned marks (gathered_as s t marks) out out' r
    → Returned marks (gathered_by t marks) out out' r
unfolding gathered_by
returned_as {marks} {out} {out'} {r} t s e R = subst (λ (x : Status). Returned marks (gathered_as x t marks) out out' r) (sym e) R

pub returned_rearranged : {marks out out' : List ℕ} {r : Gathering} (t : Tree) → holder (status (is_in marks) 0 t) ≡ None → Returned marks (rearranged t marks) out out' r
    → Returned marks (gathered_by t marks) out out' r
unfolding gathered_by
returned_rearranged {marks} {out} {out'} {r} t e R = subst (λ (o : Option Tree). Returned marks o out out' r) (sym (as_rearranged (status (is_in marks) 0 t) t marks e)) R

pub returned_given : {marks out out' : List ℕ} {r : Gathering} (t : Tree) (k : ℕ) → Names (status (is_in marks) 0 t) k → Returned marks (some t) out out' r
    → Returned marks (gathered_by t marks) out out' r
unfolding gathered_by
returned_given {marks} {out} {out'} {r} t k e R = subst (λ (o : Option Tree). Returned marks o out out' r) (sym (as_given (status (is_in marks) 0 t) t marks k e)) R

-- ---- and the one returned is the one promised
pub named_tree : {t : Tree} {marks out out' : List ℕ} {n k : ℕ} (G : GatheredTo t marks out out' n k) (o : Option Tree) → Returned marks o out out' (Ok (record { nodes = n; holder = k })) → o ≡ some G.result
named_tree G none R = let e = R.says in let z : ◌≡◌ {A = ℕ} 0 1 = cc in absurd (omega arith)
named_tree {t} {marks} {out} {out'} {n} {k} G (some u) R =
    let e : done (n ∷ k ∷ []) ≡ done (size u ∷ holder_of marks u ∷ []) = R.says in
    let c : n ≡ size u = cc in
    let g = G.result in
    ap some
    (postfix_injective u g
    (sym (take_over (postfix u) out n (c ∙ sym (postfix_length u))) ∙ ap (take n) (sym R.written ∙ G.written) ∙ take_over (postfix g) out n (G.counted ∙ sym (postfix_length g))))

pub named_none : {marks out out' : List ℕ} {e : Refusal} (o : Option Tree) → Returned marks o out out' (Err e) → o ≡ none
named_none none R = refl
named_none (some u) R = let e = R.says in let z : ◌≡◌ {A = ℕ} 0 1 = cc in absurd (omega arith)

-- ---- request 6: of a tree without `I`, the tree returned is so too
pub gathered_plain : (t : Tree) (marks : List ℕ) (u : Tree) → gathered_by t marks ≡ some u → WithoutIntersection t → WithoutIntersection u
unfolding gathered_by
gathered_plain t marks u e w = subst PlainOptional e (go (status (is_in marks) 0 t))
  where
    built : (marks : List ℕ) → PlainOptional (rearranged t marks)
    built marks = let gs = collect marks (leaves t) in
        let T = rows_of (table gs t) in
        tree_for_plain T (take (length marks) gs) (drop (length marks) gs) (choice T (2 ^ length marks) (2 ^ length gs))

    go : (s : Status) → PlainOptional (gathered_as s t marks)
    go Free = built _
    go Mixed = built _
    go (All k) = w
    go (Held k) = w
