-- The exits of `keep_part` and `keep_outputs`.
-- Assumes nothing.
use Prim.Native.Nat.{ℕ, ◌+◌, ◌*◌, ◌^◌, ◌≤◌, ◌<◌}
use native.Mathlib.Omega.{arith}
use native.Mathlib.Numerals.{add-one}
use mathlib.Core.Path.{◌≡◌, refl, sym, ap, ◌∙◌}
use mathlib.Core.Bool.{false}
use mathlib.Core.List.{List, [], ◌∷◌, ◌++◌, flat_map, append_assoc, append-nil}
use lib.Dec.{T}
use Rattle.std.proofs.lemmas.List.{get_or-replicate, length-replicate}
use lib.ListN.{replicate, length, get_or, take, drop, set, length-set, length-append, take-append-drop}
use lib.Seq.{length-take-le, drop-drop, drop_at, drop-cons, take_all}
use mir.Val.{Fits}
use mir.Syntax.{w64}
use Rattle.base.specs.Lists.{flat_map_append}
use Rattle.base.specs.Rows.{row_at, hold_at}
use Rattle.records.specs.Found.{is_got}
use Rattle.records.specs.Values.{Table, Part}
use Rattle.records.specs.Layouts.{table}
use Rattle.records.specs.Spans.{table_in}
use Rattle.records.specs.There.{TableThere}
use Rattle.records.specs.declared.ids.TableId.{TableId}
use Rattle.records.specs.declared.tables.TableSpan.{TableSpan}
use Rattle.records.proofs.Forms.{read_many_length}
use Rattle.records.proofs.Walk.{Walk, walk_begin, walk_here, walk_ahead, walk_onward}
use Rattle.incremental_progress.specs.Jobs.{outputs}
use Rattle.incremental_progress.specs.Gaps.{void}
use Rattle.commit_rows.specs.Numbers.{part_of}
use Rattle.commit_rows.specs.declared.parts.PartSpan.{PartSpan}
use Rattle.commit_durable.specs.Tables.{job_of, PartHeld, PartIs, PartsHold}
use Rattle.commit_gaps.proofs.Places.{drop_inside, take_more}
use Rattle.commit_covered.specs.Kept.{entry_of, newest, latest, none_kept, IdsKept, Room, Cleared, OutputsHere, SomeKept, MoreKept, AllKept}
use Rattle.commit_covered.proofs.Chains.{row_put, kept_more}
use Rattle.commit_covered.proofs.Sizes.{few_outputs}

-- ---- keep_part
entry_alike : (n : ℕ) (x y : TableId) → x.0 ≡ y.0 → entry_of n x ≡ entry_of n y
unfolding entry_of
entry_alike n x y e = rw e

-- what stands at a place of a list
record NextIs {A : Type 0} (xs : List A) (n : ℕ) (x : A) : Type 0 where
  more : List A
  is : drop n xs ≡ x ∷ more

pub record Keeping (s : List ℕ) (first m k : ℕ) (chain₀ slots₀ chain slots : List ℕ) (seen at : ℕ) : Type 0 where
  pub here : OutputsHere s first m k
  pub room : Room s chain
  pub ts : List Table
  pub walk : Walk table.read s first m seen at ts
  pub kept : SomeKept s (k + seen) chain slots
  pub chain_length : length chain ≡ length chain₀
  pub slots_length : length slots ≡ length slots₀

pub keeping : {s : List ℕ} {first m k : ℕ} {chain slots : List ℕ} → OutputsHere s first m k → Room s chain → SomeKept s k chain slots → Keeping s first m k chain slots chain slots 0 first
keeping {s} {first} {m} {k} h r q =
    let z : k + 0 ≡ k = omega arith in
    record { here = h; room = r; ts = []; walk = walk_begin table.read s first m h.inside h.there; kept = rw z q; chain_length = refl; slots_length = refl }

module _ {s : List ℕ} {first m k : ℕ} {chain₀ slots₀ chain slots : List ℕ} {seen at : ℕ} (p : Keeping s first m k chain₀ slots₀ chain slots seen at) where
  pub keeping_all : m ≤ seen → MoreKept s (k + m) chain₀ slots₀ chain slots
  keeping_all h =
      let z : seen ≡ m = omega (arith, p.walk.upto) in
      record { kept = rw z at p.kept; chain_length = p.chain_length; slots_length = p.slots_length }

  module _ (h : seen < m) where
    pub keeping_here : T (is_got (table.read (drop at s)))
    keeping_here = walk_here p.walk h

    module _ {t : TableSpan} (f : TableThere s (table.read (drop at s)) t) where
      next_one : NextIs (outputs (job_of s).parts) (k + seen) (table_in s t)
      next_one =
          let w = walk_ahead p.walk h (drop t.past s) f.meaning in
          let rest = drop (k + m) (outputs (job_of s).parts) in
          record {
            more = w.tail ++ rest;
            is =
                sym (drop-drop seen k (outputs (job_of s).parts))
                ∙ ap (drop seen) (p.here.are ∙ ap (λ l. l ++ rest) w.all ∙ append_assoc p.ts (table_in s t ∷ w.tail) rest)
                ∙ drop_at p.ts ((table_in s t ∷ w.tail) ++ rest) seen p.walk.count;
          }

      below_all : k + seen < length (outputs (job_of s).parts)
      below_all = drop_inside (k + seen) (outputs (job_of s).parts) next_one.is

      pub keeping_fits : length s < 2 ^ 64 → Fits w64 (k + seen)
      keeping_fits l = omega (arith, below_all, few_outputs s)

      pub keeping_room : (k + seen) * 2 + 2 ≤ length chain
      keeping_room = omega (arith, below_all, p.room.enough)

      pub keeping_inside : t.id + 16 ≤ length s
      keeping_inside = f.inside.id

      module _ {x : TableId} (e : x.0 ≡ take 16 (drop t.id s)) where
        more_kept : IdsKept s (take (k + seen + 1) (outputs (job_of s).parts)) (row_put chain slots (k + seen) (entry_of (length slots) x) t.id) (set slots (entry_of (length slots) x) (k + seen + 1))
        more_kept =
            let n : length (take (k + seen) (outputs (job_of s).parts)) ≡ k + seen = length-take-le (k + seen) (outputs (job_of s).parts) (omega (arith, below_all)) in
            let w = kept_more p.kept.ids (table_in s t) t.id keeping_inside refl (rw n keeping_room) in
            rw (take_more (k + seen) (outputs (job_of s).parts) next_one.is, entry_alike (length slots) x (table_in s t).id e) (rw n at w)

        pub keeping_on :
            {chain' slots' : List ℕ}
            → chain' ≡ set (set chain ((k + seen) * 2) t.id) ((k + seen) * 2 + 1) (get_or slots (entry_of (length slots) x) 0)
            → slots' ≡ set slots (entry_of (length slots) x) (k + seen + 1)
            → Keeping s first m k chain₀ slots₀ chain' slots' (seen + 1) t.past
        keeping_on {chain'} {slots'} c d =
            let z : k + (seen + 1) ≡ k + seen + 1 = omega arith in
            let cl : length chain' ≡ length chain = rw (c, length-set, length-set) in
            let sl : length slots' ≡ length slots = rw (d, length-set) in
            record {
              here = p.here;
              room = record { enough = rw cl p.room.enough };
              ts = p.ts ++ (table_in s t ∷ []);
              walk = walk_onward p.walk h f.meaning f.inside.past;
              kept = rw z (record { upto = omega (arith, below_all); ids = rw (c, d) more_kept });
              chain_length = cl ∙ p.chain_length;
              slots_length = sl ∙ p.slots_length;
            }

pub ruleset part_exits = (keeping, keeping_all, keeping_here, keeping_fits, keeping_room, keeping_inside, keeping_on)

-- ---- keep_outputs
pub cleared : {slots₀ slots : List ℕ} → slots ≡ replicate (length slots₀) 0 → Cleared slots₀ slots
cleared {slots₀} e = rw e (record { same_length = length-replicate (length slots₀) 0; zero = λ i h. get_or-replicate (length slots₀) i 0 0 h })

pub none_kept_yet : {slots₀ slots : List ℕ} (s chain : List ℕ) → Cleared slots₀ slots → 0 < length slots₀ → SomeKept s 0 chain slots
unfolding newest latest
none_kept_yet {slots₀} {slots} s chain c h =
    record {
      upto = omega arith;
      ids = record { long = omega arith; some_slot = omega (arith, c.same_length); chained = none_kept; lasts = λ e k. c.zero e (omega (arith, c.same_length)) };
    }

-- the outputs of parts, up to a part and from it on
outputs_split : (i : ℕ) (ps : List Part) → outputs ps ≡ outputs (take i ps) ++ outputs (drop i ps)
outputs_split i ps = ap outputs (sym (take-append-drop i ps)) ∙ flat_map_append (λ p. p.outputs) (take i ps) (drop i ps)

pub record PartsKept (s parts : List ℕ) (n : ℕ) (chain₀ slots₀ chain slots : List ℕ) (k i : ℕ) : Type 0 where
  pub held : PartsHold s n parts
  pub room : Room s chain
  pub upto : i ≤ n
  pub count : k ≡ length (outputs (take i (job_of s).parts))
  pub kept : SomeKept s k chain slots
  pub chain_length : length chain ≡ length chain₀
  pub slots_length : length slots ≡ length slots₀

pub parts_begin : {s parts : List ℕ} {n : ℕ} {chain slots₀ slots : List ℕ} → PartsHold s n parts → Room s chain → Cleared slots₀ slots → 0 < length slots₀ → PartsKept s parts n chain slots chain slots 0 0
unfolding flat_map
parts_begin {s} {chain} q r c h =
    record { held = q; room = r; upto = omega arith; count = refl; kept = none_kept_yet s chain c h; chain_length = refl; slots_length = refl }

-- a part without outputs stands in for none
abbrev no_part : Part
no_part = record { planned = void; completed = false; outputs = [] }

-- part i of the job, in its row
record PartHere (s : List ℕ) (i : ℕ) (r : PartSpan) : Type 0 where
  part : Part
  is : drop i (job_of s).parts ≡ part ∷ drop (i + 1) (job_of s).parts
  held : PartHeld s part r

module _ {s parts : List ℕ} {n : ℕ} {chain₀ slots₀ chain slots : List ℕ} {k i : ℕ} (p : PartsKept s parts n chain₀ slots₀ chain slots k i) where
  pub parts_slots : {slots₁ : List ℕ} → Cleared slots₁ slots₀ → length slots ≡ length slots₁
  parts_slots c = p.slots_length ∙ c.same_length

  pub parts_all : {slots₁ : List ℕ} → Cleared slots₁ slots₀ → n ≤ i → AllKept s chain₀ slots₁ chain slots
  parts_all c h =
      let a : take i (job_of s).parts ≡ (job_of s).parts = take_all i (job_of s).parts (omega (arith, p.held.count)) in
      let z : k ≡ length (outputs (job_of s).parts) = p.count ∙ ap (λ l. length (outputs l)) a in
      let w : take k (outputs (job_of s).parts) ≡ outputs (job_of s).parts = take_all k (outputs (job_of s).parts) (omega (arith, z)) in
      record { kept = rw w at p.kept.ids; chain_length = p.chain_length; slots_length = parts_slots c }

  module _ (h : i < n) where
    pub part_room : i * 10 + 10 ≤ length parts
    part_room = omega (arith, p.held.rows.long, p.held.count)

    module _ {r : PartSpan} (e : r ≡ part_of (row_at 10 i parts)) where
      part_here : PartHere s i r
      part_here =
          let l : i < length (job_of s).parts = omega (arith, p.held.count) in
          let d = drop-cons (job_of s).parts i no_part l in
          record {
            part = get_or (job_of s).parts i no_part;
            is = rw (add-one i) d;
            held = rw (← e) at (hold_at 10 (PartIs s) p.held.rows l d);
          }

      own_count : length part_here.part.outputs ≡ r.outputs
      own_count = read_many_length table.read r.outputs (drop r.first s) part_here.part.outputs part_here.held.past part_here.held.outputs_are

      rest_outputs : outputs (drop i (job_of s).parts) ≡ part_here.part.outputs ++ outputs (drop (i + 1) (job_of s).parts)
      unfolding flat_map
      rest_outputs = ap outputs part_here.is

      from_here : drop k (outputs (job_of s).parts) ≡ outputs (drop i (job_of s).parts)
      from_here =
          ap (drop k) (outputs_split i (job_of s).parts)
          ∙ drop_at (outputs (take i (job_of s).parts)) (outputs (drop i (job_of s).parts)) k (sym p.count)

      after_here : drop (k + r.outputs) (outputs (job_of s).parts) ≡ outputs (drop (i + 1) (job_of s).parts)
      after_here =
          sym (drop-drop r.outputs k (outputs (job_of s).parts))
          ∙ ap (drop r.outputs) (from_here ∙ rest_outputs)
          ∙ drop_at part_here.part.outputs (outputs (drop (i + 1) (job_of s).parts)) r.outputs own_count

      pub part_outputs : OutputsHere s r.first r.outputs k
      part_outputs =
          let q = part_here.held.outputs_are in
          record {
            inside = part_here.held.first;
            there = rw q tt;
            are = from_here ∙ rest_outputs ∙ rw (q, after_here);
          }

      more_count : k + r.outputs ≡ length (outputs (take (i + 1) (job_of s).parts))
      unfolding flat_map
      more_count =
          let a : outputs (take (i + 1) (job_of s).parts) ≡ outputs (take i (job_of s).parts) ++ (part_here.part.outputs ++ [])
          = ap outputs (take_more i (job_of s).parts part_here.is) ∙ flat_map_append (λ p. p.outputs) (take i (job_of s).parts) (part_here.part ∷ []) in
          sym (ap length a ∙ rw (length-append (outputs (take i (job_of s).parts)) (part_here.part.outputs ++ []), append-nil, own_count, ← p.count))

      pub parts_on : {chain' slots' : List ℕ} → MoreKept s (k + r.outputs) chain slots chain' slots' → PartsKept s parts n chain₀ slots₀ chain' slots' (k + r.outputs) (i + 1)
      parts_on w =
          record {
            held = p.held;
            room = record { enough = rw w.chain_length p.room.enough };
            upto = omega arith;
            count = more_count;
            kept = w.kept;
            chain_length = w.chain_length ∙ p.chain_length;
            slots_length = w.slots_length ∙ p.slots_length;
          }

      pub kept_fits : {chain' slots' : List ℕ} → MoreKept s (k + r.outputs) chain slots chain' slots' → length s < 2 ^ 64 → Fits w64 (k + r.outputs)
      kept_fits w l = omega (arith, w.kept.upto, few_outputs s)

pub ruleset outputs_exits = (cleared, parts_begin, parts_slots, parts_all, part_room, part_outputs, parts_on, kept_fits)
