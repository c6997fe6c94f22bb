-- A list of bytes, parted by one byte: lines by LF, fields by tabs.
use Rattle.std.specs.Prelude.{cond, List, [], ◌∷◌, ◌++◌, ℕ, eqb}

-- the parts, of which there is at least one
pub data Parts : Type 0 where
  last : List ℕ → Parts
  part : List ℕ → Parts → Parts

-- one byte more at the front of the first part
abbrev pub onto : ℕ → Parts → Parts
onto x (last p) = last (x ∷ p)
onto x (part p ps) = part (x ∷ p) ps

-- the parts between the bytes b
unfoldable pub split : ℕ → List ℕ → Parts
split b [] = last []
split b (x ∷ xs) = cond (eqb b x) (part [] (split b xs)) (onto x (split b xs))

-- the parts with b between them
unfoldable pub join : ℕ → Parts → List ℕ
join b (last p) = p
join b (part p ps) = p ++ (b ∷ join b ps)
