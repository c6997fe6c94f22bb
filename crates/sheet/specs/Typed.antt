-- Request 5: a tree "typed as tree lines" and "closed by `E`": the bytes of the file for it. The theorems on marking speak of them.
use Rattle.std.specs.Prelude.{List, [], ◌∷◌, ◌++◌, ℕ}
use Rattle.tree.specs.Tree.{Tree, leaf, node}
use Rattle.text.specs.Line.{line}
use Rattle.sheet.specs.Form.{letter_g, letter_e, letter_for}

-- the lines of a tree's nodes, in the order of its list
unfoldable pub tree_lines : Tree → List ℕ
tree_lines (leaf g h) = line (letter_g ∷ []) (g ∷ [])
tree_lines (node o l r) = tree_lines l ++ (tree_lines r ++ line (letter_for o ∷ []) [])

-- "tree lines closed by `E`"
unfoldable pub typed : Tree → List ℕ
typed t = tree_lines t ++ line (letter_e ∷ []) []
