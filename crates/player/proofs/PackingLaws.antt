-- Sets of lamps as bits of a number: an operation on the bits of two numbers is the operation on the two sets.
use mathlib.Core.Path.{◌≡◌, refl, sym, ap, ap₂, ◌∙◌}
use mathlib.Core.Bool.{Bool, true, false, not, ◌&&◌, ◌||◌}
use mathlib.Core.List.{List, [], ◌∷◌, ◌++◌, append_assoc}
use Prim.Native.Nat.{ℕ, zero, suc, ◌+◌, ◌-◌, ◌*◌, ◌/◌, ◌%◌, ◌^◌, ◌≤◌, ◌<◌, min, max}
use native.Mathlib.Nat.{pow-suc, div-one, add-zero, zero-add, suc-add}
use native.Mathlib.Omega.{arith}
use borrow.Author.Tests.{eq-eqb, ne_eqb}
use lib.Dec.{eqb}
use lib.Pow.{pow_pos}
use lib.Arith.{digits_div, digits_mod}
use lib.Bits.{bit_or, bit_and, or_step, and_step, or_zero_l, and_zero_l}
use lib.ListN.{length, get_or, set, take, drop}
use borrow.Rule.Slice.PartMut.{put_mid}
use mir.Syntax.{w64}
use Rattle.std.specs.Int.{byte_at, bytes_low_first, to_le_bytes}
use lib.Seq.{take_at, drop_at}
use Rattle.std.proofs.lemmas.List.{drop-drop}
use Rattle.std.proofs.lemmas.Nat.{pow-add}
use Rattle.player.specs.Instructions.{Lamps, add, cut, both, combined}
use Rattle.player.specs.Bytes.{bit, pack, bytes_from}
use Rattle.player.specs.InnerWords.{HoldsSet}
use Rattle.player.proofs.ByteLaws.{bit_small, pack_small, pack_part, bytes_from_length}

module _ (op digit : ℕ → ℕ → ℕ) (on : Bool → Bool → Bool)
    (step : (a b : ℕ) → op a b ≡ op (a / 2) (b / 2) * 2 + digit (a % 2) (b % 2))
    (on-bits : (x y : Bool) → digit (bit x) (bit y) ≡ bit (on x y))
    (on-zero : op 0 0 ≡ 0) where
  pack_by : (f g : Lamps) (first count : ℕ) → op (pack f first count) (pack g first count) ≡ pack (λ lamp. on (f lamp) (g lamp)) first count
  unfolding pack
  pack_by f g first zero = on-zero
  pack_by f g first (suc count) =
      step _ _
      ∙ ap₂ (λ (x y : ℕ). x * 2 + y)
      (ap₂ op (digits_div (pack f (suc first) count) (bit_small (f first))) (digits_div (pack g (suc first) count) (bit_small (g first))) ∙ pack_by f g (suc first) count)
      (ap₂ digit (digits_mod (pack f (suc first) count) (bit_small (f first))) (digits_mod (pack g (suc first) count) (bit_small (g first))) ∙ on-bits (f first) (g first))

bit_or_lem : (x y : Bool) → max (bit x) (bit y) ≡ bit (x || y)
bit_or_lem true true = refl
bit_or_lem true false = refl
bit_or_lem false true = refl
bit_or_lem false false = refl

bit_and_lem : (x y : Bool) → min (bit x) (bit y) ≡ bit (x && y)
bit_and_lem true true = refl
bit_and_lem true false = refl
bit_and_lem false true = refl
bit_and_lem false false = refl

bit_not : (x : Bool) → 1 - bit x ≡ bit (not x)
bit_not true = refl
bit_not false = refl

pub pack_union : (f g : Lamps) (first count : ℕ) → bit_or (pack f first count) (pack g first count) ≡ pack (combined add f g) first count
pack_union = pack_by bit_or max ◌||◌ or_step bit_or_lem (or_zero_l 0)

pack_complement : (f : Lamps) (first count : ℕ) → (2 ^ count - 1) - pack f first count ≡ pack (λ lamp. not (f lamp)) first count
unfolding pack
pack_complement f first zero = refl
pack_complement f first (suc count) =
    rw (pow-suc 2 count)
    (omega (arith, pack_complement f (suc first) count, bit_not (f first), bit_small (f first), pack_small f (suc first) count, pow_pos count))

pub pack_both : (f g : Lamps) (first count : ℕ) → bit_and (pack f first count) (pack g first count) ≡ pack (combined both f g) first count
pack_both = pack_by bit_and min ◌&&◌ and_step bit_and_lem (and_zero_l 0)

pub pack_difference : (f g : Lamps) (first count : ℕ) → bit_and (pack f first count) ((2 ^ count - 1) - pack g first count) ≡ pack (combined cut f g) first count
pack_difference f g first count =
    ap (λ (x : ℕ). bit_and (pack f first count) x) (pack_complement g first count)
    ∙ pack_both f (λ lamp. not (g lamp)) first count

-- f holds none of the `count` lamps from `first` on
abbrev pub Off : Lamps → ℕ → ℕ → Type 0
Off f first count = (lamp : ℕ) → first ≤ lamp → lamp < first + count → f lamp ≡ false

pub pack_off : (f : Lamps) (first count : ℕ) → Off f first count → pack f first count ≡ 0
unfolding pack
pack_off f first zero off = refl
pack_off f first (suc count) off =
    rw (off first (omega arith) (omega arith), pack_off f (suc first) count (λ lamp a b. off lamp (omega arith) (omega arith)))

-- .. so that they add nothing
pub union_off : (f g : Lamps) (first count : ℕ) → Off f first count → pack g first count ≡ pack (combined add f g) first count
union_off f g first count off =
    sym (or_zero_l (pack g first count))
    ∙ ap (λ (x : ℕ). bit_or x (pack g first count)) (sym (pack_off f first count off))
    ∙ pack_union f g first count

-- one lamp alone
pub pack_one : (lamp first count i : ℕ) → lamp ≡ first + i → i < count → pack (eqb lamp) first count ≡ 2 ^ i
unfolding pack
pack_one lamp first zero i e h = absurd (omega arith)
pack_one lamp first (suc count) zero e h =
    rw (eq-eqb lamp first (omega arith), pack_off (eqb lamp) (suc first) count (λ n a b. ne_eqb lamp n (λ x. omega arith)))
pack_one lamp first (suc count) (suc i) e h =
    rw (ne_eqb lamp first (λ x. omega arith), pack_one lamp (suc first) count i (omega arith) (omega arith), pow-suc 2 i) (omega arith)

-- ---- the answer's bytes, written word by word
pow_256 : (i : ℕ) → 256 ^ i ≡ 2 ^ (8 * i)
pow_256 zero = refl
pow_256 (suc i) =
    let next : 8 * suc i ≡ 8 * i + 8 = omega arith in
    rw (pow-suc 256 i, pow_256 i, next, pow-add 2 (8 * i) 8)

module _ (f : Lamps) (first : ℕ) where
  byte_of_word : (i : ℕ) → i < 8 → byte_at i (pack f first 64) ≡ pack f (first + 8 * i) 8
  byte_of_word zero h = ap (λ (n : ℕ). n % 256) (sym (div-one (pack f first 64))) ∙ pack_part f first 0 8 56
  byte_of_word (suc i) h =
      let m : ℕ = 8 * suc i in
      let width : 64 ≡ m + (8 + (56 - m)) = omega arith in
      rw (pow_256 (suc i)) (ap (λ (n : ℕ). pack f first n / 2 ^ m % 256) width ∙ pack_part f first m 8 (56 - m))

  -- the bytes of a word, the lowest first
  bytes_of_word : (i count : ℕ) → i + count ≤ 8 → bytes_low_first i count (pack f first 64) ≡ bytes_from f (first + 8 * i) count
  unfolding bytes_from
  bytes_of_word i zero h = refl
  bytes_of_word i (suc count) h =
      let next : first + 8 * suc i ≡ first + 8 * i + 8 = omega arith in
      rw (byte_of_word i (omega arith), bytes_of_word (suc i) count (omega arith), next)

bytes_more : (f : Lamps) (first m n : ℕ) → bytes_from f first (m + n) ≡ bytes_from f first m ++ bytes_from f (first + 8 * m) n
unfolding bytes_from
bytes_more f first zero n = rw (zero-add n, add-zero first)
bytes_more f first (suc m) n =
    let next : first + 8 + 8 * m ≡ first + 8 * suc m = omega arith in
    rw (suc-add m n, bytes_more f (first + 8) m n, next)

pub word_bytes : (f : Lamps) (first : ℕ) → to_le_bytes w64 (pack f first 64) ≡ bytes_from f first 8
word_bytes f first =
    let start : first + 8 * 0 ≡ first = omega arith in
    bytes_of_word f first 0 8 (omega arith) ∙ ap (λ (n : ℕ). bytes_from f n 8) start

pub word_written : (f : Lamps) (old lamps word : List ℕ) (i count : ℕ) → 64 ≤ length old → i < 8 → count ≡ 8
    → lamps ≡ bytes_from f 1 (8 * i) ++ drop (8 * i) old → word ≡ bytes_from f (64 * i + 1) 8
    → put_mid (8 * i) count lamps word ≡ bytes_from f 1 (8 * (i + 1)) ++ drop (8 * (i + 1)) old
word_written f old lamps word i count h lt eight before e =
    let at : ℕ = 8 * i in
    let written : length (bytes_from f 1 at) ≡ at = bytes_from_length f 1 at in
    let next : 8 * (i + 1) ≡ at + 8 = omega arith in
    let first : 1 + 8 * at ≡ 64 * i + 1 = omega arith in
    rw (before, eight, e, take_at (bytes_from f 1 at) (drop at old) at written, drop_at (bytes_from f 1 at) (drop at old) at written, drop-drop 8 at old, next, bytes_more f 1 at 8, first)
    (sym (append_assoc (bytes_from f 1 at) (bytes_from f (64 * i + 1) 8) (drop (at + 8) old)))

-- ---- byte by byte, from the last to the first
module _ (f : Lamps) (words : List ℕ) (held : HoldsSet words f) where
  byte_of_words : (i : ℕ) → i < 64 → get_or words (i / 8) 0 / 2 ^ (8 * (i % 8)) % 256 ≡ pack f (8 * i + 1) 8
  byte_of_words i h =
      let m : ℕ = 8 * (i % 8) in
      let first : ℕ = 64 * (i / 8) + 1 in
      let width : 64 ≡ m + (8 + (56 - m)) = omega arith in
      let here : first + m ≡ 8 * i + 1 = omega arith in
      rw (held.entry (i / 8) (omega arith))
      (ap (λ (n : ℕ). pack f first n / 2 ^ m % 256) width ∙ pack_part f first m 8 (56 - m) ∙ ap (λ (n : ℕ). pack f n 8) here)

  set_last : (l t : List ℕ) (i v : ℕ) → i < length l → set (take (suc i) l ++ t) i v ≡ take i l ++ v ∷ t
  set_last [] t i v h = absurd (omega arith)
  set_last (x ∷ l) t zero v h = refl
  set_last (x ∷ l) t (suc i) v h = ap (λ (y : List ℕ). x ∷ y) (set_last l t i v (omega arith))

  pub byte_written : (old behind : List ℕ) (i j : ℕ) → suc i ≡ j → j ≤ 64 → 64 ≤ length old
      → set (take j old ++ (bytes_from f (8 * j + 1) (64 - j) ++ behind)) i (get_or words (i / 8) 0 / 2 ^ (8 * (i % 8)) % 256)
      ≡ take i old ++ (bytes_from f (8 * i + 1) (64 - i) ++ behind)
  unfolding bytes_from
  byte_written old behind i j e h k =
      let n : 64 - i ≡ suc (64 - j) = omega arith in
      let s : 8 * i + 1 + 8 ≡ 8 * j + 1 = omega arith in
      rw (byte_of_words i (omega arith), ← e) (set_last old _ i _ (omega arith) ∙ rw (n, s, e))
