-- Laws of a lift by a right table: the new tree is equivalent to the given one, has the same groups, and is within the limit; looks are as many as the levels.
use mathlib.Core.Path.{◌≡◌, refl, sym, subst, ◌∙◌}
use mathlib.Core.Bool.{Bool, true, false, cond, ◌||◌}
use mathlib.Core.Option.{Option, some, none}
use mathlib.Core.List.{List, []}
use Prim.Native.Nat.{ℕ, zero, suc, ◌+◌, ◌≤◌, ◌<◌}
use native.Mathlib.Omega.{arith}
use borrow.Author.Tests.{le-ltb, ltb-false, leb-false}
use lib.Dec.{eqb, leb, ltb}
use lib.ListN.{length}
use Rattle.std.specs.Prelude.{Ok, Err}
use Rattle.tree.specs.Tree.{Tree, size, most_nodes, postfix, Equivalent, Over, WithoutIntersection}
use Rattle.tree.specs.Context.{Frame, plug}
use Rattle.tree.specs.Parse.{tree_of, locate}
use Rattle.tree.proofs.TreeLaws.{equivalent_trans, equivalent_refl, selects_equivalent}
use Rattle.tree.proofs.ContextLaws.{located_whole, position_most}
use Rattle.tree.proofs.ParseLaws.{tree_of_sound, tree_of_postfix}
use Rattle.moves.specs.Moves.{MoveTable}
use Rattle.moves.proofs.MoveLaws.{Right}
use Rattle.step.specs.Step.{Outcome, stuck, blocked, moved, step}
use Rattle.lift.specs.Lift.{Result, refused, lifted, goes_on, steps, lift_at, lift_in, lift_of}
use Rattle.lift.specs.Answer.{refusal_number, Reply, lifted_says, result_says, Lifts}
use Rattle.step.proofs.StepLaws.{step_selects, step_over, step_over_back, step_without, never_blocked}

-- the tree u keeps of the tree t what it selects in every rig, the groups of its leaves and that it is without `I`, and is within the limit
pub record Keeps (t u : Tree) : Type 0 where
  pub equivalent : Equivalent u t
  pub over : (m : ℕ → Bool) → Over m t → Over m u
  pub over_back : (m : ℕ → Bool) → Over m u → Over m t
  pub without : WithoutIntersection t → WithoutIntersection u
  pub most : size u ≤ most_nodes

-- of a lift by so many levels in the tree t: a refusal's number has two digits, and is not 27 if the tree is without `I`; a lifted tree keeps all that, the position is one of its own, and
-- looks are as many as the levels
pub record LiftedKeeps (t : Tree) (levels : ℕ) (u : Tree) (place looks : ℕ) : Type 0 where
  pub keeps : Keeps t u
  pub position_within : place < size u
  pub looks_are : looks ≡ levels

pub record RefusedKeeps (t : Tree) (number : ℕ) : Type 0 where
  pub small : number < 100
  pub not_27 : WithoutIntersection t → number ≡ 27 → ⊥

abbrev pub Kept : Tree → ℕ → Result → Type 0
Kept t levels (refused number) = RefusedKeeps t number
Kept t levels (lifted u place looks) = LiftedKeeps t levels u place looks

kept_if : (t : Tree) (levels : ℕ) (b : Bool) (number : ℕ) (x : Result) → RefusedKeeps t number → (b ≡ false → Kept t levels x) → Kept t levels (cond b (refused number) x)
kept_if t levels true number x s h = s
kept_if t levels false number x s h = h refl

other : (t : Tree) (number : ℕ) → number < 27 → RefusedKeeps t number
other t number h = record { small = omega arith; not_27 = λ w e. omega arith }

step_keeps : {m : MoveTable} → Right m → (t a : Tree) (c e : List Frame) → step m c ≡ moved e → Keeps t (plug a c) → size (plug a e) ≤ most_nodes → Keeps t (plug a e)
step_keeps R t a c e h K s = record {
  equivalent = equivalent_trans (selects_equivalent (plug a e) (plug a c) (λ v. step_selects R c e h v a)) K.equivalent;
  over = λ m o. step_over R c e h m a (K.over m o);
  over_back = λ m o. K.over_back m (step_over_back R c e h m a o);
  without = λ w. step_without R c e h a (K.without w);
  most = s;
}

steps_keep : {m : MoveTable} → Right m → (k levels : ℕ) (t a : Tree) (c : List Frame) (looks : ℕ) → looks + k ≡ levels → Keeps t (plug a c) → Kept t levels (steps m k a c looks)
unfolding steps
steps_keep R zero levels t a c looks q K = record { keeps = K; position_within = position_most a c; looks_are = omega arith }
steps_keep {m} R (suc k) levels t a c looks q K = go (λ e. steps_keep R k levels t a e (looks + 1) (omega arith)) (step m c) refl
  where
    go : ((e : List Frame) → Keeps t (plug a e) → Kept t levels (steps m k a e (looks + 1))) → (o : Outcome) → step m c ≡ o
        → Kept t levels (goes_on o a (λ e. steps m k a e (looks + 1)))
    go f stuck h = other t 15 (omega arith)
    go f blocked h = record { small = omega arith; not_27 = λ w e. never_blocked m c a (K.without w) h }
    go f (moved e) h =
        kept_if t levels (ltb most_nodes (size (plug a e))) 16 (steps m k a e (looks + 1)) (other t 16 (omega arith))
        (λ b. f e (step_keeps R t a c e h K (ltb-false most_nodes (size (plug a e)) b)))

pub lift_in_keeps : {m : MoveTable} → Right m → (t : Tree) (p k : ℕ) → size t ≤ most_nodes → Kept t k (lift_in m (some t) p k)
lift_in_keeps {m} R t p k s =
    kept_if t k (leb (size t) p) 13 (lift_at m (locate t [] p) k) (other t 13 (omega arith))
    (λ b. let e : plug (locate t [] p).part (locate t [] p).above ≡ t = located_whole t p (leb-false (size t) p b) in
    kept_if t k (eqb k 0 || leb (length (locate t [] p).above) k) 14 (steps m k (locate t [] p).part (locate t [] p).above 0) (other t 14 (omega arith))
    (λ d. steps_keep R k k t (locate t [] p).part (locate t [] p).above 0 (omega arith)
    (subst (Keeps t) (sym e) (record { equivalent = equivalent_refl t; over = λ m o. o; over_back = λ m o. o; without = λ w. w; most = s }))))

-- the whole call, of a list l
pub record LiftKeeps (l : List ℕ) (levels : ℕ) (u : Tree) (place looks : ℕ) : Type 0 where
  pub tree : Tree
  pub given : tree_of l ≡ some tree
  pub kept : LiftedKeeps tree levels u place looks
  pub new : tree_of (postfix u) ≡ some u

pub lift_keeps : {m : MoveTable} → Right m → (room : ℕ) (l : List ℕ) (p k : ℕ) (u : Tree) (place looks : ℕ) → lift_of m room l p k ≡ lifted u place looks → LiftKeeps l k u place looks
unfolding lift_of
lift_keeps {m} R room l p k u place looks h = go (ltb room most_nodes) (tree_of l) refl h
  where
    go : (b : Bool) (o : Option Tree) → tree_of l ≡ o → cond b (refused 11) (lift_in m o p k) ≡ lifted u place looks → LiftKeeps l k u place looks
    go true o e q = absurd (let z : ◌≡◌ {A = ℕ} 0 1 = cc in omega arith)
    go false none e q = absurd (let z : ◌≡◌ {A = ℕ} 0 1 = cc in omega arith)
    go false (some t) e q =
        let W = tree_of_sound l t e in
        let same : W.tree ≡ t = (let z : some W.tree ≡ some t = sym W.is ∙ e in cc) in
        let K : LiftedKeeps t k u place looks = subst (Kept t k) q (lift_in_keeps R t p k (subst (λ (x : Tree). size x ≤ most_nodes) same W.most)) in
        record { tree = t; given = e; kept = K; new = tree_of_postfix u K.keeps.most }

-- request 2: "Looks then equal the levels lifted": a lift by k levels that is done has k looks
pub looks_are_levels : {m : MoveTable} → Right m → (room : ℕ) (l : List ℕ) (p k : ℕ) (u : Tree) (place looks : ℕ) → lift_of m room l p k ≡ lifted u place looks → looks ≡ k
looks_are_levels R room l p k u place looks h = (lift_keeps R room l p k u place looks h).kept.looks_are

-- `lift` in a buffer that is long enough, of a tree's list, is a lift in that tree
pub lift_of_tree : (m : MoveTable) (room : ℕ) (t : Tree) (p k : ℕ) → most_nodes ≤ room → size t ≤ most_nodes → lift_of m room (postfix t) p k ≡ lift_in m (some t) p k
unfolding lift_of
lift_of_tree m room t p k r h = rw (le-ltb room most_nodes r, tree_of_postfix t h)

-- ---- the answer itself, for callers
-- the answer is this lift, done or refused with this number
abbrev pub Replies : Reply → Result → Type 0
Replies (Ok l) (lifted u position looks) = (l.nodes ≡ size u) × (l.position ≡ position) × (l.looks ≡ looks)
Replies (Err r) (refused number) = refusal_number r ≡ number
Replies (Ok l) (refused number) = ⊥
Replies (Err r) (lifted u position looks) = ⊥

pub lifts_reply : {x : Result} {out : List ℕ} {r : Reply} {out' : List ℕ} → Lifts x out r out' → Replies r x
lifts_reply {x} {out} {r} L = go x r L.says
  where
    go : (x : Result) (r : Reply) → lifted_says r ≡ result_says x → Replies r x
    go (refused number) (Err m) e = cc
    go (refused number) (Ok l) e = absurd (let z : ◌≡◌ {A = ℕ} 0 1 = cc in omega arith)
    go (lifted u position looks) (Err m) e = absurd (let z : ◌≡◌ {A = ℕ} 0 1 = cc in omega arith)
    go (lifted u position looks) (Ok l) e = (cc, cc, cc)
