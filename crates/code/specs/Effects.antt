-- What instructions name, read, write and load: the words of 01's sentence about the closed run, for any device.
use Rattle.std.specs.Prelude.{◌≡◌, Bool, true, false, not, ◌&&◌, ◌||◌, List, [], ◌∷◌, ℕ, ◌+◌, ◌-◌, ◌≤◌, length, take, drop}
use Rattle.tree.specs.Tree.{is_in}
use Rattle.player.specs.Instructions as newer
use Rattle.older_player.specs.Instructions as older

-- the registers that an instruction reads and writes, and the groups that it loads
pub record Effect : Type 0 where
  pub reads : List ℕ
  pub writes : List ℕ
  pub loads : List ℕ

-- of a LOAD, and of an instruction that puts what it makes of registers s and t into its target
abbrev pub load_effect : (target group : ℕ) → Effect
load_effect target group = record { reads = []; writes = target ∷ []; loads = group ∷ [] }

abbrev pub operate_effect : (target s t : ℕ) → Effect
operate_effect target s t = record { reads = s ∷ t ∷ []; writes = target ∷ []; loads = [] }

-- of 01's instructions
abbrev pub newer_effect : newer.Instruction → Effect
newer_effect (newer.load target group) = load_effect target group
newer_effect (newer.operate o target s t) = operate_effect target s t

-- of the older player's: "the first is changed by the second"; SHOW reads one
abbrev pub older_effect : older.Instruction → Effect
older_effect (older.load target group) = load_effect target group
older_effect (older.change o first second) = operate_effect first first second
older_effect (older.show register) = record { reads = register ∷ []; writes = []; loads = [] }

-- every one of a list has the property P
unfoldable pub Every : {A : Type 0} → (A → Type 0) → List A → Type 0
Every P [] = Unit {0}
Every P (x ∷ xs) = P x × Every P xs

module _ {I : Type 0} (effect : I → Effect) where
  -- every register that an instruction names has the property P
  abbrev pub Names : (ℕ → Type 0) → I → Type 0
  Names P i = Every P (effect i).reads × Every P (effect i).writes

  -- every group that it loads passes the test m
  abbrev pub Loads : (ℕ → Bool) → I → Type 0
  Loads m i = Every (λ g. m g ≡ true) (effect i).loads

  -- whether it reads, and whether it writes, register q
  abbrev pub reads_it : I → ℕ → Bool
  reads_it i q = is_in (effect i).reads q

  abbrev pub writes_it : I → ℕ → Bool
  writes_it i q = is_in (effect i).writes q

  -- "it reads only registers that it has itself written before": written says which were, before the list
  unfoldable pub Closed : (ℕ → Bool) → List I → Type 0
  Closed written [] = Unit {0}
  Closed written (i ∷ is) = Every (λ q. written q ≡ true) (effect i).reads × Closed (λ q. writes_it i q || written q) is

  -- the registers written after a list
  unfoldable pub written_after : (ℕ → Bool) → List I → ℕ → Bool
  written_after written [] = written
  written_after written (i ∷ is) = written_after (λ q. writes_it i q || written q) is

  -- whether register q is read before it is "written anew"
  unfoldable pub read_first : ℕ → List I → Bool
  read_first q [] = false
  read_first q (i ∷ is) = reads_it i q || (not (writes_it i q) && read_first q is)

-- nothing written yet
abbrev pub none_written : ℕ → Bool
none_written q = false

-- ---- the run of `count` instructions, of which the first is number `first`, counted from 1
module _ {I : Type 0} where
  abbrev pub ahead : List I → ℕ → List I
  ahead is first = take (first - 1) is

  -- the run itself
  abbrev pub stretch : List I → ℕ → ℕ → List I
  stretch is first count = take count (drop (first - 1) is)

  -- what stands behind it
  abbrev pub behind : List I → ℕ → ℕ → List I
  behind is first count = drop (first - 1 + count) is

-- "it reads only registers that it has itself written before, and hands on one; no other that it wrote is read after it
-- until written anew": the one is `register`
pub record ClosedRun {I : Type 0} (effect : I → Effect) (is : List I) (first count register : ℕ) : Type 0 where
  pub inside : (1 ≤ first) × (first - 1 + count ≤ length is)
  pub own : Closed effect none_written (stretch is first count)
  pub handed_on : written_after effect none_written (stretch is first count) register ≡ true
  pub others : (q : ℕ) → written_after effect none_written (stretch is first count) q ≡ true → (q ≡ register → ⊥) → read_first effect q (behind is first count) ≡ false

-- the run loads only groups that pass the test m, and no LOAD outside it loads one
pub record LoadsApart {I : Type 0} (effect : I → Effect) (m : ℕ → Bool) (is : List I) (first count : ℕ) : Type 0 where
  pub within : Every (Loads effect m) (stretch is first count)
  pub before : Every (Loads effect (λ g. not (m g))) (ahead is first)
  pub after : Every (Loads effect (λ g. not (m g))) (behind is first count)
