-- A tree that is typed as tree lines and closed by `E` is a file that reading accepts, with the tree's list and its groups. The proof
-- goes from the file's end to its front: where the lines behind a tree's lines are accepted, they are with the tree's lines before them.
use Rattle.std.proofs.Common.{Option, Some}
use mathlib.Core.Path.{◌≡◌, refl, ◌∙◌}
use mathlib.Core.Bool.{Bool, true, false, not, cond, ◌&&◌}
use mathlib.Core.List.{List, [], ◌∷◌, ◌++◌, append_assoc, append-nil}
use mathlib.Core.Option.{some}
use Prim.Native.Nat.{ℕ, suc, ◌+◌, ◌*◌, ◌≤◌, ◌<◌}
use native.Mathlib.Nat.{zero-add, add_assoc}
use native.Mathlib.Omega.{arith}
use borrow.Author.Tests.{le-leb, lt-leb, le-ltb}
use lib.Dec.{T, leb}
use lib.ListN.{length, length-append}
use Rattle.tree.specs.Tree.{Operator as TreeOperator, union, difference, intersection, sign, Tree, leaf, node, is_group, most_group, most_nodes, most_groups, postfix, size, leaves, is_in, with_new, collect, groups}
use Rattle.tree.specs.Pass.{pass}
use Rattle.tree.specs.Parse.{waiting}
use Rattle.tree.proofs.TreeLaws.{group_least, group_most, postfix_length}
use Rattle.tree.proofs.GroupLaws.{collect_append, collect_longer}
use Rattle.tree.proofs.ParseLaws.{waiting_group, waiting_operator}
use Rattle.text.specs.Decimal.{digits}
use Rattle.text.specs.Parts.{split, join}
use Rattle.text.specs.Line.{tab, line_feed, fields, line}
use Rattle.text.proofs.DecimalLaws.{digits_length, decimal_digits}
use Rattle.text.proofs.LineLaws.{Plain, line_splits, fields_split}
use Rattle.sheet.specs.Form.{letter_g, letter_e, letter_for, form_of, line_of}
use Rattle.sheet.specs.Rules.{Rules}
use Rattle.sheet.specs.Reading.{most_bytes, ReadingState, ended, trees, fault_of, state_after, accepted, read_lines, read_with}
use Rattle.sheet.specs.Typed.{tree_lines, typed}
use Rattle.sheet.specs.declared.Line.{Line}
use Rattle.sheet.specs.declared.Line.TheVariants.{Group, Operator, End}

-- ---- how long it is: a group's line has at most 8 bytes, an operator's has 2
lines_length : (t : Tree) → length (tree_lines t) ≤ 5 * size t + 3
unfolding tree_lines size line fields join
lines_length (leaf g h) = omega (arith, length-append (digits g) (line_feed ∷ []), digits_length 4 g (omega (arith, group_most g h)))
lines_length (node o l r) = simp length-append (omega (arith, lines_length l, lines_length r))

pub typed_short : (t : Tree) → size t ≤ most_nodes → length (typed t) ≤ most_bytes
unfolding typed line fields join
typed_short t h = simp length-append (omega (arith, lines_length t))

-- ---- the form of each of its lines
record Formed (rules : Rules) (word numbers : List ℕ) (l : Option Line) : Type 0 where
  plain : Plain word
  form : form_of rules (fields word numbers) ≡ l

group_formed : (rules : Rules) (g : ℕ) → most_group ≤ rules.last_group → T (is_group g) → Formed rules (letter_g ∷ []) (g ∷ []) (Some (Group g))
unfolding is_in form_of fields
group_formed rules g most h = record {
  plain = record { no_tab = refl; no_line_feed = refl };
  form = rw (decimal_digits g, le-leb 1 g (group_least g h), le-leb g rules.last_group (omega (arith, group_most g h)));
}

operator_formed : (rules : Rules) (o : TreeOperator) → rules.intersections ≡ true → Formed rules (letter_for o ∷ []) [] (Some (Operator (sign o)))
unfolding is_in form_of fields
operator_formed rules union may = record { plain = record { no_tab = refl; no_line_feed = refl }; form = refl }
operator_formed rules difference may = record { plain = record { no_tab = refl; no_line_feed = refl }; form = refl }
operator_formed rules intersection may = record { plain = record { no_tab = refl; no_line_feed = refl }; form = rw may }

end_formed : (rules : Rules) → Formed rules (letter_e ∷ []) [] (Some End)
unfolding is_in form_of fields
end_formed rules = record { plain = record { no_tab = refl; no_line_feed = refl }; form = refl }

-- a line of a form without fault is read, and reading goes on after it
line_read : {rules : Rules} {word numbers : List ℕ} {l : Option Line} → Formed rules word numbers l → (st : ReadingState) (n at : ℕ) (rest : List ℕ) → fault_of rules st l ≡ 0
    → read_lines rules st n at (split line_feed (line word numbers ++ rest))
    ≡ read_lines rules (state_after st l (at + length (line word numbers))) (n + 1) (at + length (line word numbers)) (split line_feed rest)
unfolding read_lines line_of line
line_read {rules} {word} {numbers} f st n at rest e =
    let bytes = join tab (fields word numbers) in
    let z : at + length bytes + 1 ≡ at + length (line word numbers) = omega (arith, length-append bytes (line_feed ∷ [])) in
    rw (line_splits word numbers rest f.plain, fields_split word numbers f.plain, f.form, e, z)

-- ---- none of them has a fault. Between tree lines these entries and groups have been read, up to the byte `at`.
abbrev so_far : List ℕ → List ℕ → ℕ → ReadingState
so_far entries groups at = record { phase = 0; entries = entries; groups = groups; marks = []; start = at; lifts = [] }

module _ (rules : Rules) (entries groups : List ℕ) (at : ℕ) where
  no_fault_group : (g : ℕ) → length entries < rules.nodes → length (with_new groups g) ≤ most_groups → fault_of rules (so_far entries groups at) (Some (Group g)) ≡ 0
  unfolding fault_of
  no_fault_group g h k = rw (lt-leb rules.nodes (length entries) h) (go (is_in groups g) k)
    where
      go : (b : Bool) → length (cond b groups (groups ++ (g ∷ []))) ≤ most_groups → ◌≡◌ {A = ℕ} (cond (not b && leb most_groups (length groups)) 6 0) 0
      go true k = refl
      go false k = rw (lt-leb most_groups (length groups) (omega (arith, length-append groups (g ∷ []))))

  no_fault_operator : (x : ℕ) (l r : Tree) (ts : List Tree) → length entries < rules.nodes → waiting 0 entries [] ≡ some (r ∷ (l ∷ ts)) → fault_of rules (so_far entries groups at) (Some (Operator x)) ≡ 0
  unfolding fault_of trees
  no_fault_operator x l r ts h e = rw (e, le-ltb (suc (suc (length ts))) 2 (omega arith), lt-leb rules.nodes (length entries) h)

  no_fault_end : (t : Tree) → waiting 0 entries [] ≡ some (t ∷ []) → fault_of rules (so_far entries groups at) (Some End) ≡ 0
  unfolding fault_of trees
  no_fault_end t e = rw e

-- ---- what has been read is within the limits, and where the trees ts wait, the bytes that are left are accepted with `end`
record Accepts (rules : Rules) (end : ReadingState) (ts : List Tree) (entries groups : List ℕ) (at : ℕ) (rest : List ℕ) : Type 0 where
  nodes : length entries ≤ rules.nodes
  different : length groups ≤ most_groups
  accepts : waiting 0 entries [] ≡ some ts → (n : ℕ) → read_lines rules (so_far entries groups at) n at (split line_feed rest) ≡ accepted end

-- so they are with one tree line more before them
module _ {rules : Rules} {end : ReadingState} {ts : List Tree} {entries groups : List ℕ} {at : ℕ} {rest : List ℕ} where
  accepts_group : most_group ≤ rules.last_group → (g : ℕ) (h : T (is_group g))
      → Accepts rules end (leaf g h ∷ ts) (entries ++ (g ∷ [])) (with_new groups g) (at + length (line (letter_g ∷ []) (g ∷ []))) rest
      → Accepts rules end ts entries groups at (line (letter_g ∷ []) (g ∷ []) ++ rest)
  unfolding collect
  accepts_group most g h a =
      let room : length entries < rules.nodes = omega (arith, length-append entries (g ∷ [])) in
      record {
        nodes = omega arith;
        different = omega (arith, collect_longer groups (g ∷ []));
        accepts = λ e n. line_read (group_formed rules g most h) (so_far entries groups at) n at rest (no_fault_group rules entries groups at g room a.different) ∙ a.accepts (waiting_group entries g h ts e) (n + 1);
      }

  accepts_operator : rules.intersections ≡ true → (o : TreeOperator) (l r : Tree)
      → Accepts rules end (node o l r ∷ ts) (entries ++ (sign o ∷ [])) groups (at + length (line (letter_for o ∷ []) [])) rest
      → Accepts rules end (r ∷ (l ∷ ts)) entries groups at (line (letter_for o ∷ []) [] ++ rest)
  accepts_operator may o l r a =
      let room : length entries < rules.nodes = omega (arith, length-append entries (sign o ∷ [])) in
      record {
        nodes = omega arith;
        different = a.different;
        accepts = λ e n. line_read (operator_formed rules o may) (so_far entries groups at) n at rest (no_fault_operator rules entries groups at (sign o) l r ts room e) ∙ a.accepts (waiting_operator entries o l r ts e) (n + 1);
      }

-- and with all lines of a tree
accepts_tree : {rules : Rules} {end : ReadingState} {ts : List Tree} {entries groups : List ℕ} {at : ℕ} {rest : List ℕ} → most_group ≤ rules.last_group → rules.intersections ≡ true → (t : Tree)
    → Accepts rules end (t ∷ ts) (entries ++ postfix t) (collect groups (leaves t)) (at + length (tree_lines t)) rest → Accepts rules end ts entries groups at (tree_lines t ++ rest)
unfolding tree_lines postfix leaves collect
accepts_tree most may (leaf g h) a = accepts_group most g h a
accepts_tree {rules = rules} {end = end} {ts = ts} {entries = entries} {groups = groups} {at = at} {rest = rest} most may (node o l r) a =
    simp append_assoc
    (accepts_tree most may l (accepts_tree {ts = l ∷ ts} most may r (accepts_operator may o l r (rw (collect_append groups (leaves l) (leaves r)) at (simp (← append_assoc, length-append, ← add_assoc) at a)))))

-- at the end one tree waits, and `E` closes it
accepts_end : (rules : Rules) (t : Tree) (entries groups : List ℕ) (at : ℕ) → length entries ≤ rules.nodes → length groups ≤ most_groups
    → Accepts rules (state_after (so_far entries groups at) (Some End) at) (t ∷ []) entries groups at (line (letter_e ∷ []) [])
unfolding read_lines split
accepts_end rules t entries groups at h k = record {
  nodes = h;
  different = k;
  accepts = λ e n. rw (← append-nil (line (letter_e ∷ []) [])) (line_read (end_formed rules) (so_far entries groups at) n at [] (no_fault_end rules entries groups at t e));
}

pub typed_accepted : (rules : Rules) (t : Tree) → most_group ≤ rules.last_group → rules.intersections ≡ true → size t ≤ rules.nodes → size t ≤ most_nodes → length (groups t) ≤ most_groups
    → read_with rules (typed t) ≡ accepted (record { phase = ended; entries = postfix t; groups = groups t; marks = []; start = length (tree_lines t); lifts = [] })
unfolding read_with typed pass
typed_accepted rules t most may h k few =
    let closed = accepts_end rules t (postfix t) (groups t) (0 + length (tree_lines t)) (omega (arith, postfix_length t)) few in
    rw (le-ltb most_bytes (length (typed t)) (typed_short t k), ← zero-add (length (tree_lines t))) ((accepts_tree most may t closed).accepts refl 0)
