-- What a device's coder leaves for a list: the code of the tree that it is.
use mathlib.Core.Path.{◌≡◌, refl, sym, ap, ◌∙◌}
use mathlib.Core.List.{List, []}
use mathlib.Core.Option.{Option, some, none}
use Prim.Native.Nat.{ℕ, ◌+◌, ◌*◌, ◌≤◌}
use native.Mathlib.Omega.{arith}
use lib.ListN.{length, take, drop, length-append}
use Rattle.tree.specs.Tree.{Tree, most_nodes}
use Rattle.tree.specs.Parse.{tree_of}
use Rattle.tree.specs.Writing.{over}
use Rattle.tree.proofs.WritingLaws.{take_over}
use Rattle.tree.proofs.ParseLaws.{IsTree, tree_of_sound}
use Rattle.text.specs.Line.{Row, lines}
use Rattle.coder.specs.Coding as newer-coder
use Rattle.older_coder.specs.Coding as older-coder
use Rattle.std.proofs.Common.{Result, Ok, Err}
use Rattle.coder.specs.declared.Refusal.{Refusal}
use Rattle.coder.proofs.CodingLaws.{encodes_tree, encodes_none}
use Rattle.printing.specs.Key.{instruction_rows}
use Rattle.printing.specs.declared.Device.{Device}
use Rattle.printing.specs.declared.Device.TheVariants.{Newer, Older}
use Rattle.printing.proofs.PrintingLaws.{code_text}
use Rattle.key.specs.Inner.{code_bytes, EncodesFor, code_lines}
use Rattle.key.specs.Devices.{code_for, row_for, numbers_for}
use Rattle.key.proofs.DeviceLaws.{lawful}

-- the numbers that a coder left, `count` instructions of them, are the code of the tree that the list is
pub record Encoded (d : Device) (list : List ℕ) (count : ℕ) (after : List ℕ) : Type 0 where
  pub small : count ≤ most_nodes + 1
  pub long : 4 * count ≤ length after
  pub text : code_text d (take (4 * count) after) ≡ code_lines d list
  pub room : length (code_text d (take (4 * count) after)) ≤ code_bytes

-- the call is done, and the code is written
record Left (d : Device) (u : Tree) (out : List ℕ) (r : Result ℕ Refusal) (after : List ℕ) : Type 0 where
  pub done : r ≡ Ok (length (code_for d u))
  pub never : (k : Refusal) → r ≡ Err k → ⊥
  pub written : after ≡ over (numbers_for d (code_for d u)) out

left : (d : Device) (tree out : List ℕ) (r : Result ℕ Refusal) (after : List ℕ) (u : Tree) → tree_of tree ≡ some u → 32768 ≤ length out → EncodesFor d tree out r after → Left d u out r after
left Newer tree out r after u e h E = let T = encodes_tree newer-coder.least_buffer _ _ E e (omega arith) in record { done = T.done; never = T.never; written = T.written }
left Older tree out r after u e h E = let T = encodes_tree older-coder.least_buffer _ _ E e h in record { done = T.done; never = T.never; written = T.written }

not_done : (d : Device) (tree out : List ℕ) (r : Result ℕ Refusal) (after : List ℕ) → tree_of tree ≡ none → 32768 ≤ length out → EncodesFor d tree out r after → (n : ℕ) → r ≡ Ok n → ⊥
not_done Newer tree out r after e h E = encodes_none newer-coder.least_buffer _ _ E e (omega arith)
not_done Older tree out r after e h E = encodes_none older-coder.least_buffer _ _ E e h

module _ (d : Device) (tree out : List ℕ) (r : Result ℕ Refusal) (after : List ℕ) (full : 32768 ≤ length out) (E : EncodesFor d tree out r after) where
  module _ (I : IsTree tree) where
    abbrev u : Tree
    u = I.tree

    of_tree : Left d u out r after
    of_tree = left d tree out r after u I.is full E

    abbrev numbers : List ℕ
    numbers = numbers_for d (code_for d u)

    text_is : code_text d (take (4 * length (code_for d u)) after) ≡ lines (instruction_rows (row_for d) (code_for d u))
    text_is =
        ap (λ (l : List ℕ). code_text d (take (4 * length (code_for d u)) l)) of_tree.written ∙ ap (code_text d) (take_over numbers out (4 * length (code_for d u)) (sym ((lawful d).numbered (code_for d u))))
        ∙ ap (λ (rs : List Row). lines rs) ((lawful d).rows (code_for d u))

    long_is : 4 * length (code_for d u) ≤ length after
    long_is = rw of_tree.written (omega (arith, length-append numbers (drop (length numbers) out), (lawful d).numbered (code_for d u)))

    same_count : (n : ℕ) → r ≡ Ok n → n ≡ length (code_for d u)
    same_count n e = let f : Ok n ≡ Ok (length (code_for d u)) = sym e ∙ of_tree.done in cc

    tree_encoded : (n : ℕ) → r ≡ Ok n → Encoded d tree n after
    tree_encoded n e =
        let s = same_count n e in
        record {
          small = omega (arith, s, (lawful d).few u I.most);
          long = rw s long_is;
          text = rw (s, I.is) text_is;
          room = rw (s, text_is) ((lawful d).text_most u I.most);
        }

  pub encoded : (n : ℕ) → r ≡ Ok n → Encoded d tree n after
  encoded n e = go (tree_of tree) refl
    where
      go : (o : Option Tree) → tree_of tree ≡ o → Encoded d tree n after
      go none q = absurd (not_done d tree out r after q full E n e)
      go (some t) q = tree_encoded (tree_of_sound tree t q) n e

  -- it is refused only where the list is no tree, and then there is no code
  pub not_encoded : (k : Refusal) → r ≡ Err k → code_lines d tree ≡ []
  unfolding lines instruction_rows
  not_encoded k f = go (tree_of tree) refl
    where
      go : (o : Option Tree) → tree_of tree ≡ o → code_lines d tree ≡ []
      go none q = rw q
      go (some t) q = absurd ((of_tree (tree_of_sound tree t q)).never k f)
