-- Request 7: "its operators get the same lamps and the same gathering verdict as with ours".
use mathlib.Core.Path.{◌≡◌}
use mathlib.Core.List.{List}
use Prim.Native.Nat.{ℕ}
use Rattle.words.specs.Formula.{Formula}
use Rattle.moves.specs.Moves.{ours}
use Rattle.move_table.specs.Loading.{loaded, loading, school_table}
use Rattle.sheet.specs.Reading.{ReadingState, accepted, reading}
use Rattle.printing.specs.Key.{Key}
use Rattle.printing.specs.declared.Device.{Device}
use Rattle.key.specs.Devices.{InstructionOf}
use Rattle.key.specs.Call.{KeyOf, KeyWith}
use Rattle.key.specs.Alike.{Alike}
use Rattle.key.proofs.AlikeLaws.{two_keys}

-- of every accepted sheet and accepted table: any key by the table has the lamps and the verdict of any key by ours
pub same_as_ours : (d : Device) (sheet bytes : List ℕ) (st : ReadingState) (ps : List Formula) → reading sheet ≡ accepted st → loading bytes ≡ loaded ps
    → (k l : Key (InstructionOf d)) → KeyOf d ours (reading sheet) k → KeyWith d (loading bytes) (reading sheet) l → Alike d d k l
same_as_ours d sheet bytes st ps e f k l K L = two_keys d d ours (school_table ps) st k l (rw e at K) (rw (e, f) at L)
