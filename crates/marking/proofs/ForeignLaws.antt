-- The lines of an accepted drawing are its entries, each in its order, and then `E`: so the first line with a foreign group is found
-- among the entries.
use Rattle.std.proofs.Common.{Option, Some, None}
use mathlib.Core.Path.{◌≡◌, refl, sym, ap, ap₂, subst, ◌∙◌}
use mathlib.Core.Bool.{Bool, true, false, not, cond, ◌&&◌, false≢true}
use mathlib.Core.List.{List, [], ◌∷◌, ◌++◌, append_assoc, append-nil}
use Prim.Native.Nat.{ℕ, ◌+◌, ◌≤◌, ◌<◌}
use native.Mathlib.Omega.{arith}
use borrow.Author.Tests.{eqb-true, lt-ltb, le-ltb}
use lib.Dec.{T, eqb, ltb}
use lib.ListN.{length, get_or, drop, drop_of_length-le}
use Rattle.tree.specs.Tree.{Operator as TreeOperator, union, difference, intersection, sign, Tree, postfix, Over, is_group, is_in}
use Rattle.tree.specs.InnerGroups.{leaves_in}
use Rattle.tree.proofs.TreeLaws.{group_most, over_leaves, leaves_over, over_implies, or_cases}
use Rattle.tree.proofs.GroupLaws.{is_in_here, in_later, leaves_postfix}
use Rattle.tree.proofs.PassLaws.{here}
use Rattle.text.specs.Parts.{Parts, last, part, split}
use Rattle.text.specs.Line.{line_feed}
use Rattle.sheet.specs.Form.{line_of}
use Rattle.sheet.specs.Rules.{candidate_rules}
use Rattle.sheet.specs.Reading.{ReadingState, ended, trees, place, fault_of, state_after, nothing_read, accepted, read_lines, read_with}
use Rattle.sheet.specs.InnerHolding.{InRange}
use Rattle.sheet.specs.declared.Line.{Line}
use Rattle.sheet.specs.declared.Line.TheVariants.{Group, Operator, Lift, Mark, End}
use Rattle.sheet.proofs.FormLaws.{line_range}
use Rattle.sheet.proofs.SoundLaws.{order_none, none_of, bad_fault}
use Rattle.sheet.proofs.AcceptedLaws.{PassedLine, passed_line, passed_last, passed_start}
use Rattle.marking.specs.Marking.{is_foreign, foreign_line}
use Rattle.marking.specs.Inner.{foreign_entry}

-- a group is below the operators, and an operator is no group
group_small : (g : ℕ) → is_group g ≡ true → g < sign union
group_small g e = omega (arith, group_most g (subst T (sym e) tt))

operator_none : (groups : List ℕ) (o : TreeOperator) → false ≡ (ltb (sign o) (sign union) && not (is_in groups (sign o)))
operator_none groups union = refl
operator_none groups difference = refl
operator_none groups intersection = refl

-- ---- from a state on, the lines add these entries, of which the first foreign one is the first foreign line
record Adds (groups : List ℕ) (end st : ReadingState) (n : ℕ) (ps : Parts) : Type 0 where
  more : List ℕ
  entries : end.entries ≡ st.entries ++ more
  first : foreign_line groups n ps ≡ foreign_entry groups n more

module _ (groups : List ℕ) (end : ReadingState) where
  adds_nothing : (st : ReadingState) (n : ℕ) (l : List ℕ) → st ≡ end → Adds groups end st n (last l)
  unfolding foreign_line foreign_entry
  adds_nothing st n l e = record { more = []; entries = rw e (sym (append-nil end.entries)); first = refl }

  -- after `E` no line is accepted
  after_end : (st : ReadingState) (n at : ℕ) (ps : Parts) → st.phase ≡ ended → read_lines candidate_rules st n at ps ≡ accepted end → (foreign_line groups n ps ≡ 0) × (st ≡ end)
  unfolding foreign_line
  after_end st n at (last l) p e = (refl, passed_last candidate_rules end st n at l e)
  after_end st n at (part l ls) p e = absurd (no_more (line_of candidate_rules l) (passed_line candidate_rules end st n at l ls e).faultless)
    where
      most : (k : Option Line) → place k ≤ 3
      most None = omega arith
      most (Some (Group g)) = omega arith
      most (Some (Operator x)) = omega arith
      most (Some (Lift q m)) = omega arith
      most (Some (Mark g)) = omega arith
      most (Some End) = omega arith

      no_more : (k : Option Line) → fault_of candidate_rules st k ≡ 0 → ⊥
      no_more k f = omega (arith, most k, (order_none st.phase (length (trees st.entries)) (place k) (none_of candidate_rules st k f).0).0)

  -- a line with an entry
  adds_entry : (st : ReadingState) (n x : ℕ) (l : List ℕ) (ls : Parts) (next : ReadingState) → next.entries ≡ st.entries ++ (x ∷ [])
      → is_foreign groups (line_of candidate_rules l) ≡ (ltb x (sign union) && not (is_in groups x)) → Adds groups end next (n + 1) ls → Adds groups end st n (part l ls)
  unfolding foreign_line foreign_entry
  adds_entry st n x l ls next e f a = record {
    more = x ∷ a.more;
    entries = a.entries ∙ ap (λ (xs : List ℕ). xs ++ a.more) e ∙ append_assoc st.entries (x ∷ []) a.more;
    first = ap₂ (λ (b : Bool) (line : ℕ). cond b (n + 1) line) f a.first;
  }

  abbrev LinesAdd : Parts → Type 0
  LinesAdd ps = (st : ReadingState) (n at : ℕ) → read_lines candidate_rules st n at ps ≡ accepted end → Adds groups end st n ps

  -- a line of each kind
  adds_line : (l : List ℕ) (ls : Parts) → LinesAdd ls → (st : ReadingState) (n at : ℕ) (k : Option Line) → line_of candidate_rules l ≡ k → InRange k → PassedLine candidate_rules end st n at k ls → Adds groups end st n (part l ls)
  unfolding foreign_line foreign_entry fault_of
  adds_line l ls later st n at None q r p = absurd (bad_fault candidate_rules st p.faultless)
  adds_line l ls later st n at (Some (Group g)) q r p =
      adds_entry st n g l ls (state_after st (Some (Group g)) at) refl (ap (is_foreign groups) q ∙ rw (lt-ltb g (sign union) (group_small g r))) (later _ (n + 1) at p.later)
  adds_line l ls later st n at (Some (Operator x)) q r p =
      adds_entry st n x l ls (state_after st (Some (Operator x)) at) refl (ap (is_foreign groups) q ∙ rw r.1 (operator_none groups r.0)) (later _ (n + 1) at p.later)
  adds_line l ls later st n at (Some (Lift a m)) q r p = absurd (let z : ◌≡◌ {A = ℕ} 3 0 = p.faultless in omega arith)
  adds_line l ls later st n at (Some (Mark g)) q r p = absurd (let z : ◌≡◌ {A = ℕ} 3 0 = p.faultless in omega arith)
  adds_line l ls later st n at (Some End) q r p =
      let e = after_end (state_after st (Some End) at) (n + 1) at ls refl p.later in
      record { more = []; entries = ap (λ (s : ReadingState). s.entries) (sym e.1) ∙ sym (append-nil st.entries); first = rw q e.0 }

  lines_add : (ps : Parts) → LinesAdd ps
  lines_add (last l) st n at e = adds_nothing st n l (passed_last candidate_rules end st n at l e)
  lines_add (part l ls) st n at e = adds_line l ls (lines_add ls) st n _ (line_of candidate_rules l) refl (line_range candidate_rules (omega arith) l) (passed_line candidate_rules end st n at l ls e)

-- the first foreign line of an accepted drawing
pub foreign_lines : (groups candidate : List ℕ) (c : ReadingState) → read_with candidate_rules candidate ≡ accepted c → foreign_line groups 0 (split line_feed candidate) ≡ foreign_entry groups 0 c.entries
foreign_lines groups candidate c e =
    let a = lines_add groups c (split line_feed candidate) nothing_read 0 0 (passed_start candidate_rules c candidate e) in rw a.entries a.first

-- ---- no entry is foreign exactly where the tree is over the groups
module _ (groups : List ℕ) where
  none_in : (n : ℕ) (xs : List ℕ) → foreign_entry groups n xs ≡ 0 → (g : ℕ) → is_in (leaves_in xs) g ≡ true → is_in groups g ≡ true
  unfolding foreign_entry leaves_in is_in
  none_in n [] e g i = absurd (false≢true i)
  none_in n (x ∷ xs) e g i = go (ltb x (sign union)) (is_in groups x) refl e i (none_in (n + 1) xs)
    where
      go : (b known : Bool) → is_in groups x ≡ known → cond (b && not known) (n + 1) (foreign_entry groups (n + 1) xs) ≡ 0 → is_in (cond b (x ∷ leaves_in xs) (leaves_in xs)) g ≡ true
          → (foreign_entry groups (n + 1) xs ≡ 0 → (g : ℕ) → is_in (leaves_in xs) g ≡ true → is_in groups g ≡ true) → is_in groups g ≡ true
      go true true k e i later = or_cases (eqb g x) (is_in (leaves_in xs) g) i (λ q. ap (is_in groups) (eqb-true g x q) ∙ k) (later e g)
      go true false k e i later = absurd (omega arith)
      go false known k e i later = later e g i

  in_none : (n : ℕ) (xs : List ℕ) → ((g : ℕ) → is_in (leaves_in xs) g ≡ true → is_in groups g ≡ true) → foreign_entry groups n xs ≡ 0
  unfolding foreign_entry leaves_in
  in_none n [] f = refl
  in_none n (x ∷ xs) f = go (ltb x (sign union)) f (in_none (n + 1) xs)
    where
      go : (b : Bool) → ((g : ℕ) → is_in (cond b (x ∷ leaves_in xs) (leaves_in xs)) g ≡ true → is_in groups g ≡ true)
          → (((g : ℕ) → is_in (leaves_in xs) g ≡ true → is_in groups g ≡ true) → foreign_entry groups (n + 1) xs ≡ 0)
          → cond (b && not (is_in groups x)) (n + 1) (foreign_entry groups (n + 1) xs) ≡ 0
      go true f later = rw (f x (is_in_here x (leaves_in xs))) (later (λ g i. f g (in_later x (leaves_in xs) g i)))
      go false f later = later f

  pub none_foreign : (u : Tree) → foreign_entry groups 0 (postfix u) ≡ 0 → Over (is_in groups) u
  none_foreign u e = over_implies (λ g i. none_in 0 (postfix u) e g (rw (leaves_postfix u) i)) u (over_leaves u)

  pub foreign_none : (u : Tree) → Over (is_in groups) u → foreign_entry groups 0 (postfix u) ≡ 0
  foreign_none u o = in_none 0 (postfix u) (λ g i. leaves_over (is_in groups) u o g (rw (leaves_postfix u) at i))

and-false : (b : Bool) → (b && false) ≡ false
and-false true = refl
and-false false = refl

-- ---- the loop over the entries, from the entry at index i on
module _ (groups list : List ℕ) (i : ℕ) where
  pub foreign_here : i < length list → get_or list i 0 < sign union → is_in groups (get_or list i 0) ≡ false → foreign_entry groups i (drop i list) ≡ i + 1
  unfolding foreign_entry
  foreign_here h l e = rw (here list i h, lt-ltb (get_or list i 0) (sign union) l, e)

  pub foreign_on : i < length list → (ltb (get_or list i 0) (sign union) && not (is_in groups (get_or list i 0))) ≡ false → foreign_entry groups i (drop i list) ≡ foreign_entry groups (i + 1) (drop (i + 1) list)
  unfolding foreign_entry
  foreign_on h e = rw (here list i h, e)

  pub foreign_known : i < length list → is_in groups (get_or list i 0) ≡ true → foreign_entry groups i (drop i list) ≡ foreign_entry groups (i + 1) (drop (i + 1) list)
  unfolding foreign_entry
  foreign_known h e = rw (here list i h, e, and-false (ltb (get_or list i 0) (sign union)))

  pub foreign_operator : i < length list → sign union ≤ get_or list i 0 → foreign_entry groups i (drop i list) ≡ foreign_entry groups (i + 1) (drop (i + 1) list)
  unfolding foreign_entry
  foreign_operator h l = rw (here list i h, le-ltb (get_or list i 0) (sign union) l)

  pub foreign_end : length list ≤ i → foreign_entry groups i (drop i list) ≡ 0
  unfolding foreign_entry
  foreign_end h = rw (drop_of_length-le list h)
