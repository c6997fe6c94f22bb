-- How the code holds sets of lamps, 64 lamps to a word. Only contracts of inner functions cite it.
use Rattle.std.specs.Prelude.{◌≡◌, List, [], ℕ, ◌+◌, ◌*◌, ◌≤◌, ◌<◌, length, get_or}
use Rattle.player.specs.Limits.{register_count, last_group, most_pairs}
use Rattle.player.specs.Instructions.{Lamps, Rig, Registers, empty}
use Rattle.player.specs.Bytes.{pack}

-- The lamps of a word.
abbrev pub word_width : ℕ
word_width = 64

-- The words of a set of 512 lamps.
abbrev pub word_count : ℕ
word_count = 8

-- The 64 lamps from `first` on, as a word.
abbrev pub word : Lamps → ℕ → ℕ
word f first = pack f first word_width

-- A list is the eight words of a set, 64 lamps after 64 lamps from lamp 1 on.
pub record HoldsSet (words : List ℕ) (set : Lamps) : Type 0 where
  pub size : length words ≡ word_count
  pub entry : (i : ℕ) → i < word_count → get_or words i 0 ≡ word set (word_width * i + 1)

-- The registers' words are those of these sets.
pub record HoldsSets (registers : List (List ℕ)) (sets : Registers) : Type 0 where
  pub size : length registers ≡ register_count
  pub entry : (i : ℕ) → i < register_count → HoldsSet (get_or registers i []) (sets i)

-- The places for sets: 0, which is no group's, and one for each pair of a patch.
abbrev pub place_count : ℕ
place_count = most_pairs + 1

-- An index has a place for each group, and there is a set at each place.
pub record Indexed (index : List ℕ) (sets : List (List ℕ)) : Type 0 where
  pub all_groups : length index ≡ last_group + 1
  pub all_places : length sets ≡ place_count
  pub place : (g : ℕ) → g ≤ last_group → get_or index g 0 < place_count

-- The set at a group's place is the one that the rig gives it.
abbrev pub HoldsGroups : List ℕ → List (List ℕ) → Rig → Type 0
HoldsGroups index sets G = (g : ℕ) → g ≤ last_group → HoldsSet (get_or sets (get_or index g 0) []) (G g)

-- The same while places are given, the next one always to a group that has none: `given` of them are. No two groups have one place
-- but 0, and the sets at place 0 and at those that are not given are empty.
pub record Placed (G : Rig) (index : List ℕ) (sets : List (List ℕ)) (given : ℕ) : Type 0 where
  pub indexed : Indexed index sets
  pub holds : HoldsGroups index sets G
  pub below : (g : ℕ) → g ≤ last_group → get_or index g 0 ≤ given
  pub owner : ℕ → ℕ
  pub owned : (g : ℕ) → g ≤ last_group → (get_or index g 0 ≡ 0 → ⊥) → owner (get_or index g 0) ≡ g
  pub nobody : HoldsSet (get_or sets 0 []) (empty 0)
  pub free : (p : ℕ) → given < p → p < place_count → HoldsSet (get_or sets p []) (empty 0)
