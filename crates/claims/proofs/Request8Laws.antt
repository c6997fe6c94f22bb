-- Request 8's record. What is proved here is read off the contracts; all else stands in the crates below.
use mathlib.Core.Path.{◌≡◌, refl, sym, ap, ◌∙◌}
use mathlib.Core.Bool.{Bool, true, false, cond, true≢false}
use mathlib.Core.List.{List, [], ◌∷◌, ◌++◌}
use mathlib.Core.Option.{Option, some, none}
use Prim.Native.Nat.{ℕ, zero, suc, ◌+◌, ◌*◌, ◌/◌, ◌%◌, ◌≤◌, ◌<◌}
use native.Mathlib.Omega.{arith}
use borrow.Author.Tests.{eqb-true, le-leb, lt-leb, le-ltb, lt-ltb, ltb-true}
use lib.Dec.{eqb, ltb}
use lib.ListN.{length, get_or, drop, replicate}
use Rattle.common.specs.Answer.{Answer, done, refused_with, answer_by}
use Rattle.common.specs.Exactly.{Exactly}
use Rattle.tree.specs.Tree.{Operator, Tree, node, size}
use Rattle.tree.specs.Parse.{tree_of, is_some}
use Rattle.tree.specs.Writing.{over}
use Rattle.moves.specs.Moves.{MoveTable}
use Rattle.moves.proofs.MoveLaws.{ours_right}
use Rattle.move_table.specs.Loading as table
use Rattle.move_table.proofs.SchoolLaws.{loaded_right}
use Rattle.player.specs.Limits.{byte_count}
use Rattle.player.specs.Playing.{wrong_length, wrong_pair_count, wrong_patch, patch_fault, Played, played_says}
use Rattle.player.proofs.PlayingLaws.{length_right, length_fits}
use Rattle.older_player.specs.Instructions.{Instruction, load, change, show, lights, numbers, numbers_of}
use Rattle.older_player.specs.Playing.{most_instructions, wrong_code, play_fault, Plays}
use Rattle.older_player.specs.Codes.{IsCode}
use Rattle.older_player.proofs.InstructionLaws.{numbers_length}
use Rattle.older_player.proofs.CodeLaws.{right_exactly}
use Rattle.sheet.specs.Reading.{ReadingState, accepted, reading}
use Rattle.code.specs.Need.{need}
use Rattle.code.specs.Waiting.{lowest, also_in}
use Rattle.code.specs.Devices.{PartCode, part_code, code_on, older_player}
use Rattle.code.specs.Effects.{older_effect}
use Rattle.code.proofs.NeedLaws.{first, second}
use Rattle.code.proofs.CodeLaws.{part_leaf, part_node}
use Rattle.code.proofs.WaitingLaws as waiting
use Rattle.code.proofs.Theorems.{code_names, thirteen_suffice}
use Rattle.code.proofs.NewerLaws.{newer_acts, code_is}
use Rattle.code.proofs.OlderLaws.{older_acts, older_selects, older_length}
use Rattle.coder.specs.Coding.{encode_fault, coded_says}
use Rattle.coder.specs.declared.Refusal.{Refusal}
use Rattle.std.proofs.Common.{Result}
use Rattle.coder.proofs.CodingLaws.{encodes_tree}
use Rattle.older_coder.specs.Coding.{least_buffer, Encodes}
use Rattle.printing.specs.Key.{LiftAnswer, Held, Key, refusal, answers, older_row, text}
use Rattle.printing.specs.declared.Device.{Device}
use Rattle.printing.specs.declared.Device.TheVariants.{Newer, Older}
use Rattle.printing.proofs.KeyLaws.{text_unique, newer_readable, older_readable}
use Rattle.key.specs.Devices.{InstructionOf, row_for}
use Rattle.key.specs.Demand.{Demand3}
use Rattle.key.specs.Call.{KeyOf, KeyWith}
use Rattle.key.specs.Alike.{SameLines}
use Rattle.key.proofs.AlikeLaws.{two_keys, other_key}
use Rattle.claims.specs.Request8.{KeyGiven, joined, unused, Request8}

-- ---- a refusal's number, from a contract by the first fault: it is that fault's
by_fault : (a : Answer) (fault : ℕ) (values : List ℕ) (n : ℕ) → a ≡ answer_by fault (values) → (n ≡ 0 → ⊥) → Exactly (a ≡ refused_with n) (fault ≡ n)
by_fault a fault values n e k = go (eqb fault 0) refl e
  where
    go : (b : Bool) → eqb fault 0 ≡ b → a ≡ cond b (done values) (refused_with fault) → Exactly (a ≡ refused_with n) (fault ≡ n)
    go true q e = record {
      only = λ f. absurd (let z : ◌≡◌ {A = ℕ} 0 1 = cc in omega arith);
      always = λ f. absurd (k (sym f ∙ eqb-true fault 0 q));
    }
    go false q e = record { only = λ f. let z : refused_with fault ≡ refused_with n = sym e ∙ f in cc; always = λ f. e ∙ ap refused_with f }

exactly_then : {A B C : Type 0} → Exactly A B → Exactly B C → Exactly A C
exactly_then p q = record { only = λ a. q.only (p.only a); always = λ c. p.always (q.always c) }

-- of a test: it comes out true exactly where what it comes out false for does not hold
not_exactly : {A : Type 0} (b : Bool) → Exactly (b ≡ false) A → Exactly (b ≡ true) (A → ⊥)
not_exactly {A} b p = record { only = λ e a. true≢false (sym e ∙ p.always a); always = λ n. go b refl n }
  where
    go : (c : Bool) → b ≡ c → (A → ⊥) → c ≡ true
    go true e n = refl
    go false e n = absurd (n (p.only e))

-- ---- the player's 22 and 23
not_patch : (patch : List ℕ) (n : ℕ) → (n ≡ 0 → ⊥) → n < 24 → patch_fault patch ≡ n → ⊥
not_patch patch n k few = go (wrong_pair_count (length patch)) (wrong_patch patch)
  where
    go : (x y : Bool) → cond {A = ℕ} x 24 (cond y 25 0) ≡ n → ⊥
    go true y e = omega arith
    go false true e = omega arith
    go false false e = k (sym e)

first_22 : (b c : Bool) (patch : List ℕ) → cond {A = ℕ} b 22 (cond c 23 (patch_fault patch)) ≡ 22 → b ≡ true
first_22 true c patch e = refl
first_22 false true patch e = absurd (omega arith)
first_22 false false patch e = absurd (not_patch patch 22 (λ z. omega arith) (omega arith) e)

first_23 : (c : Bool) (patch : List ℕ) → cond {A = ℕ} c 23 (patch_fault patch) ≡ 23 → c ≡ true
first_23 true patch e = refl
first_23 false patch e = absurd (not_patch patch 23 (λ z. omega arith) (omega arith) e)

first_20 : (a b : Bool) → cond {A = ℕ} a 20 (cond b 0 12) ≡ 20 → a ≡ true
first_20 true b e = refl
first_20 false true e = absurd (omega arith)
first_20 false false e = absurd (omega arith)

length_wrong : (n : ℕ) → Exactly (wrong_length most_instructions n ≡ true) ((1 ≤ n) × (n ≤ 4 * 8192) × (n % 4 ≡ 0) → ⊥)
length_wrong n = not_exactly (wrong_length most_instructions n) (record { only = λ h. let L = length_fits most_instructions n h in (L.0, omega (arith, L.1, L.2), L.2); always = λ f. length_right most_instructions n (n / 4) (omega (arith, f.2)) (omega (arith, f.0, f.2)) (omega (arith, f.1)) })

module _ (code patch lamps : List ℕ) (long : byte_count ≤ length lamps) (r : Played) (after : List ℕ) (P : Plays code patch lamps r after) where
  is_fault : (n : ℕ) → (n ≡ 0 → ⊥) → Exactly (played_says r ≡ refused_with n) (play_fault code patch lamps ≡ n)
  is_fault n k = by_fault (played_says r) (play_fault code patch lamps) [] n P.says k

  after_21 : play_fault code patch lamps ≡ cond (wrong_length most_instructions (length code)) 22 (cond (wrong_code code) 23 (patch_fault patch))
  after_21 = rw (le-ltb (length lamps) byte_count long)

  says_22 : Exactly (played_says r ≡ refused_with 22) (wrong_length most_instructions (length code) ≡ true)
  says_22 = record {
    only = λ e. first_22 (wrong_length most_instructions (length code)) (wrong_code code) patch (sym after_21 ∙ (is_fault 22 (λ z. omega arith)).only e);
    always = λ w. (is_fault 22 (λ z. omega arith)).always (after_21 ∙ rw w);
  }

  says_23 : wrong_length most_instructions (length code) ≡ false → Exactly (played_says r ≡ refused_with 23) (wrong_code code ≡ true)
  says_23 n = record {
    only = λ e. first_23 (wrong_code code) patch (rw n at (sym after_21 ∙ (is_fault 23 (λ z. omega arith)).only e));
    always = λ w. (is_fault 23 (λ z. omega arith)).always (after_21 ∙ rw (n, w));
  }

  follows_22 : Exactly (played_says r ≡ refused_with 22) ((1 ≤ length code) × (length code ≤ 4 * 8192) × (length code % 4 ≡ 0) → ⊥)
  follows_22 = exactly_then says_22 (length_wrong (length code))

  else_23 : wrong_length most_instructions (length code) ≡ false → Exactly (played_says r ≡ refused_with 23) (IsCode code → ⊥)
  else_23 n =
      let long_enough = length_fits most_instructions (length code) n in
      exactly_then (says_23 n) (not_exactly (wrong_code code) (right_exactly code long_enough.0 long_enough.2))

-- ---- the coder
module _ (tree out : List ℕ) (r : Result ℕ Refusal) (after : List ℕ) (E : Encodes tree out r after) where
  follows_20 : Exactly (coded_says r ≡ refused_with 20) (length out < 32768)
  follows_20 = exactly_then (by_fault (coded_says r) (encode_fault least_buffer tree out) _ 20 E.says (λ z. omega arith)) record {
    only = λ e. ltb-true (length out) least_buffer (first_20 (ltb (length out) least_buffer) (is_some (tree_of tree)) e);
    always = λ h. rw (lt-ltb (length out) least_buffer h);
  }

  coded : (t : Tree) → tree_of tree ≡ some t → least_buffer ≤ length out → (coded_says r ≡ done ((size t + 1) ∷ [])) × (after ≡ over (numbers_of (code_on older_player t)) out)
  coded t e h =
      let T = encodes_tree least_buffer (code_on older_player) numbers_of E e h in
      (ap coded_says T.done ∙ ap (λ (n : ℕ). done (n ∷ [])) (older_length t), T.written)

-- ---- the order of nodes and the registers
below_waits : (w : List Bool) (q : ℕ) → q < lowest w → get_or w q false ≡ true
unfolding lowest
below_waits [] q h = absurd (omega arith)
below_waits (false ∷ w) q h = absurd (omega arith)
below_waits (true ∷ w) zero h = refl
below_waits (true ∷ w) (suc q) h = below_waits w q (omega arith)

module _ (w : List Bool) (o : Operator) (l r : Tree) (x y : PartCode Instruction) where
  left_first_lem : need r ≤ need l → x ≡ part_code older_player w l → y ≡ part_code older_player (also_in w x.register) r
      → part_code older_player w (node o l r) ≡ joined o x y x.register y.register
  left_first_lem h p q = rw (q, p) (rw (le-leb (need r) (need l) h) at (part_node older_player w o l r))

  right_first : need l < need r → x ≡ part_code older_player w r → y ≡ part_code older_player (also_in w x.register) l
      → part_code older_player w (node o l r) ≡ joined o x y y.register x.register
  right_first h p q = rw (q, p) (rw (lt-leb (need r) (need l) h) at (part_node older_player w o l r))

-- ---- the keys
otherwise_alike : (d e : Device) (given : Option (List ℕ)) (sheet : List ℕ) (k : Key (InstructionOf d)) → KeyGiven d given sheet k
    → (l : Key (InstructionOf e)) × KeyGiven e given sheet l × SameLines k l
otherwise_alike d e none sheet k K = other_key d e ours_right (reading sheet) k K
otherwise_alike d e (some bytes) sheet k K = go (table.loading bytes) refl K
  where
    go : (o : table.Loaded) → table.loading bytes ≡ o → KeyWith d o (reading sheet) k → (l : Key (InstructionOf e)) × KeyWith e o (reading sheet) l × SameLines k l
    go (table.refused number line) q K = (refusal number line, refl, rw K (refl, refl))
    go (table.loaded ps) q K = other_key d e (loaded_right bytes ps q) (reading sheet) k K

printed : (i : Instruction) → drop 1 (numbers i) ≡ (older_row i).numbers ++ replicate (unused i) 0
printed (load target group) = refl
printed (change o first second) = refl
printed (show register) = refl

four : (i : Instruction) → length (numbers i) ≡ 4
four (load target group) = refl
four (change o first second) = refl
four (show register) = refl

module _ (m : MoveTable) (sheet out : List ℕ) (st : ReadingState) (out' : List ℕ) (e : reading sheet ≡ accepted st) where
  abbrev Demanded : Type 0
  Demanded = (t : Tree) × (tree_of st.entries ≡ some t) × ((lifts : List LiftAnswer) × (held : Held) × (is : List Instruction)
      × Demand3 Older m t st.marks st.lifts lifts held is × (out' ≡ over (text (row_for Older) (answers lifts held is)) out))

  demanded : (k : Key Instruction) → KeyOf Older m (accepted st) k → out' ≡ over (text (row_for Older) k) out → Demanded
  demanded (refusal number line) K w = absurd K
  demanded (answers lifts held is) (t, s, D) w = (t, s, (lifts, held, is, D, w))

read_back : (d : Device) (k l : Key (InstructionOf d)) → text (row_for d) k ≡ text (row_for d) l → k ≡ l
read_back Newer k l e = text_unique _ newer_readable k l e
read_back Older k l e = text_unique _ older_readable k l e

pub request_8 : Request8
request_8 = record {
  changed = λ rig o first second is R. unfold lights in refl;
  coded = λ tree out t e h r after E. coded tree out r after E t e h;
  shown = λ t. ((part_code older_player [] t).own, (part_code older_player [] t).register, refl);
  answer = older_selects;
  four = four;
  kind_5 = λ register. refl;
  else_23 = λ code patch lamps long n r after P. else_23 code patch lamps long r after P n;
  up_to = λ t h. (older_length t, omega (arith, older_length t), omega (arith, older_length t, numbers_length (code_on older_player t)));
  follows_20 = follows_20;
  follows_22 = follows_22;
  leaf_code_lem = λ w g h. part_leaf older_player w g h;
  lowest_free = λ w. (waiting.lowest_free w, below_waits w);
  left_first_lem = λ w o l r h x y p q. left_first_lem w o l r x y h p q;
  right_first = λ w o l r h x y p q. right_first w o l r x y h p q;
  otherwise_alike = otherwise_alike;
  printed = printed;
  thirteen = thirteen_suffice older_player older_effect older_acts;
  light_alike = λ m n sheet st e k l K L. two_keys Newer Older m n st k l (rw e at K) (rw e at L);
  any_device = λ d effect acts t. code_names d effect acts t;
  both_act = (newer_acts, older_acts);
  newer_code_lem = code_is;
  demand_3 = λ m sheet out st r out' e h C. let W = C.long h in demanded m sheet out st out' e W.key (rw e at W.answers) W.written;
  read_back = read_back;
}
