-- The theorems about the code of a tree for any device; Devices has what they are for the two.
use mathlib.Core.Path.{◌≡◌, refl, sym, ap, ◌∙◌}
use mathlib.Core.Bool.{Bool, true, false, not, false≢true}
use mathlib.Core.List.{List, [], ◌++◌, append_assoc}
use Prim.Native.Nat.{ℕ, ◌+◌, ◌-◌, ◌≤◌, ◌<◌}
use native.Mathlib.Omega.{arith}
use lib.ListN.{length, take, drop, length-append}
use lib.Seq.{take_at, drop_at}
use Rattle.tree.specs.Tree.{Tree, size, Rig, selected, most_nodes, Over}
use Rattle.tree.specs.Context.{Frame, plug, OverAbove}
use Rattle.player.specs.Limits.{register_count}
use Rattle.player.specs.Instructions.{Registers}
use Rattle.code.specs.Need.{need}
use Rattle.code.proofs.NeedLaws.{need_most}
use Rattle.code.specs.Devices.{Device, PartCode, part_code, code_on}
use Rattle.code.specs.Acts.{Acts}
use Rattle.code.specs.Effects.{Effect, Every, Names, Loads, written_after, read_first, none_written, ahead, stretch, behind, ClosedRun, LoadsApart}
use Rattle.code.specs.Runs.{run_first, run_count}
use Rattle.code.specs.InnerWaiting.{waiting}
use Rattle.code.proofs.CodeLaws.{every_append, every_implies, Runs, Free, named, names_imply, loads, length_part, leaves}
use Rattle.code.proofs.RunLaws.{written_named, CodePlace, code_place, code_stands, before_length, closed_code, behind_unread, loads_around}

-- ---- 1. Running the code of a tree leaves in the root's register what the tree selects: then comes what ends the code.
module _ {I B : Type 0} (d : Device I) (rig : Rig) (run : List I → Registers → B) (runs : Runs d rig run) where
  pub record Answers (t : Tree) (R : Registers) : Type 0 where
    pub after : Registers
    pub ran : run (code_on d t) R ≡ run (d.ends (part_code d [] t).register) after
    pub answer : after (part_code d [] t).register ≡ selected rig t

  pub code_answers : (t : Tree) (R : Registers) → Answers t R
  code_answers t R =
      let u = leaves d rig run runs [] t in
      record { after = u.after R; ran = u.ran (d.ends (part_code d [] t).register) R; answer = u.answer R }

-- "its own instructions, unbroken": the part's code, with operands waiting in some registers; it "hands on one" register, the part's
pub record OwnRun {I : Type 0} (d : Device I) (effect : I → Effect) (h : Tree) (is : List I) (first count : ℕ) : Type 0 where
  pub waiting : List Bool
  pub unbroken : stretch is first count ≡ (part_code d waiting h).own
  pub closed : ClosedRun effect is first count (part_code d waiting h).register

module _ {I : Type 0} (d : Device I) (effect : I → Effect) (acts : Acts d effect) where
  -- ---- 2. No register from the tree's need on is named; so for at most 8,191 nodes none above 12.
  pub code_names : (t : Tree) → Every (Names effect (λ q. q < need t)) (code_on d t)
  code_names t =
      let u = named d effect acts [] t in
      let below : (q : ℕ) → Free [] (waiting [] + need t) q → q < need t = λ q e. unfold waiting in omega (arith, e.below) in
      every_append (Names effect (λ q. q < need t)) (part_code d [] t).own _
      (every_implies (names_imply d effect acts below) (part_code d [] t).own u.names)
      (acts.end_names (need t) (part_code d [] t).register (below _ u.register))

  pub thirteen_suffice : (t : Tree) → size t ≤ most_nodes → Every (Names effect (λ q. q < register_count)) (code_on d t)
  thirteen_suffice t h = every_implies (names_imply d effect acts (λ q e. omega (arith, need_most t h))) (code_on d t) (code_names t)

  pub loads_all : (m : ℕ → Bool) (t : Tree) → Over m t → Every (Loads effect m) (code_on d t)
  loads_all m t o = every_append (Loads effect m) (part_code d [] t).own _ (loads d effect acts m [] t o) (acts.end_loads m _)

  -- ---- 3. One instruction for each node, and what ends the code.
  pub code_length : (t : Tree) → length (code_on d t) ≡ size t + length (d.ends (part_code d [] t).register)
  code_length t = length-append (part_code d [] t).own (d.ends (part_code d [] t).register) ∙ omega (arith, length_part d [] t)

  -- ---- 4. The closed run of any node of any tree: of the part h with the context c.
  module _ (h : Tree) (c : List Frame) where
    -- the place of the root's code, and of the part's
    abbrev pub root : CodePlace I
    root = record { before = []; waiting = []; behind = d.ends (part_code d [] (plug h c)).register }

    abbrev place : CodePlace I
    place = code_place d root h c

    abbrev own_part : PartCode I
    own_part = part_code d place.waiting h

    before_place : length place.before ≡ run_first h c - 1
    before_place = omega (arith, before_length d root refl h c)

    from_run : drop (run_first h c - 1) (code_on d (plug h c)) ≡ own_part.own ++ place.behind
    from_run = ap (drop (run_first h c - 1)) (code_stands d root h c) ∙ drop_at place.before _ (run_first h c - 1) before_place

    pub is_ahead : ahead (code_on d (plug h c)) (run_first h c) ≡ place.before
    is_ahead = ap (take (run_first h c - 1)) (code_stands d root h c) ∙ take_at place.before _ (run_first h c - 1) before_place

    pub run_own : stretch (code_on d (plug h c)) (run_first h c) (run_count h c) ≡ own_part.own
    run_own = ap (take (run_count h c)) from_run ∙ take_at own_part.own place.behind (run_count h c) (length_part d place.waiting h)

    pub is_behind : behind (code_on d (plug h c)) (run_first h c) (run_count h c) ≡ place.behind
    is_behind =
        ap (drop (run_first h c - 1 + run_count h c)) (code_stands d root h c ∙ sym (append_assoc place.before own_part.own place.behind))
        ∙ drop_at (place.before ++ own_part.own) place.behind (run_first h c - 1 + run_count h c) (length-append place.before own_part.own ∙ omega (arith, before_place, length_part d place.waiting h))

    others : (q : ℕ) → written_after effect none_written own_part.own q ≡ true → (q ≡ own_part.register → ⊥) → read_first effect q place.behind ≡ false
    others q e n =
        (behind_unread d effect acts root h c (record { unread = λ q free other. acts.end_reads _ q other })).unread q
        (written_named effect (Free place.waiting (waiting place.waiting + need h)) q none_written own_part.own (λ z. absurd (false≢true z)) (named d effect acts place.waiting h).names e).outside n

    fits : run_first h c - 1 + run_count h c ≤ length (code_on d (plug h c))
    fits =
        rw (code_stands d root h c)
        (omega (arith, length-append place.before (own_part.own ++ place.behind), length-append own_part.own place.behind, before_place, length_part d place.waiting h))

    pub closed_run : OwnRun d effect h (code_on d (plug h c)) (run_first h c) (run_count h c)
    closed_run = record {
      waiting = place.waiting;
      unbroken = run_own;
      closed = record {
        inside = (omega arith, fits);
        own = rw run_own ((closed_code d effect acts place.waiting h).closed none_written);
        handed_on = rw run_own ((closed_code d effect acts place.waiting h).written none_written);
        others = rw (run_own, is_behind) others;
      };
    }

    pub run_waiting : closed_run.waiting ≡ (code_place d root h c).waiting
    unfolding closed_run
    run_waiting = refl

    -- ---- 5. Where every leaf of the part has a group with m and no other leaf has one, the run loads only groups with m, and no LOAD
    -- outside it loads one.
    pub loads_apart : (m : ℕ → Bool) → Over m h → OverAbove (λ g. not (m g)) c → LoadsApart effect m (code_on d (plug h c)) (run_first h c) (run_count h c)
    loads_apart m p q =
        let u = loads_around d effect acts (λ g. not (m g)) root h c (record { before = unfold Every in tt; behind = acts.end_loads (λ g. not (m g)) _ }) q in
        record {
          within = rw run_own (loads d effect acts m place.waiting h p);
          before = rw is_ahead u.before;
          after = rw is_behind u.behind;
        }
