-- Whether a tree is gathered already, and its holder's position, by one pass. `gather` proofs/HoldingLaws.antt says that this is `Gathered`.
use Rattle.std.specs.Prelude.{Bool, cond, ℕ, T, Option, Some, None}
use Rattle.tree.specs.Tree.{Operator, Tree, is_group}
use Rattle.tree.specs.InnerPass.{fold}
use Rattle.holding.specs.declared.Status.{Status}
use Rattle.holding.specs.declared.Status.TheVariants.{Free, Mixed, All, Held}

-- Free: no leaf is marked; All k: all are, and the root is at k; Held k: gathered with the holder at k; Mixed: none of these
abbrev pub merged : ℕ → Status → Status → Status
merged i Mixed b = Mixed
merged i Free b = elim b [ Free ↦ Free | Mixed ↦ Mixed | All k ↦ Held k | Held k ↦ Held k ]
merged i (All j) b = elim b [ Free ↦ Held j | Mixed ↦ Mixed | All k ↦ All i | Held k ↦ Mixed ]
merged i (Held j) b = elim b [ Free ↦ Held j | Mixed ↦ Mixed | All k ↦ Mixed | Held k ↦ Mixed ]

-- the holder's position that a status names, if it names one
abbrev pub holder : Status → Option ℕ
holder Free = None
holder Mixed = None
holder (All k) = Some k
holder (Held k) = Some k

-- of a leaf at i
abbrev pub status_of : Bool → ℕ → Status
status_of marked i = cond marked (All i) Free

abbrev pub leaf_status : (ℕ → Bool) → ℕ → (g : ℕ) → T (is_group g) → Status
leaf_status m i g h = status_of (m g) i

-- of a node at i, by its operands'
abbrev pub node_status : ℕ → Operator → Status → Status → Status
node_status i o a b = merged i a b

-- the status of the tree whose first entry is at i
abbrev pub status : (ℕ → Bool) → ℕ → Tree → Status
status m i t = fold (leaf_status m) node_status i t
