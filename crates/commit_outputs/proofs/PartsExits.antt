-- What the loop over a job's parts keeps: the outputs of those seen are planned.
-- Assumes nothing.
use Prim.Native.Nat.{ℕ, zero, suc, ◌+◌, ◌*◌, ◌≤◌, ◌<◌}
use native.Mathlib.Omega.{arith}
use mathlib.Core.Path.{◌≡◌, refl, sym, ap, ◌∙◌}
use mathlib.Core.Bool.{true, false}
use mathlib.Core.Option.{Option, none, some}
use mathlib.Core.List.{List, [], ◌∷◌, ◌++◌, flat_map, append-nil, append_assoc}
use lib.ListN.{length, take, drop, length-append}
use lib.Seq.{take_all}
use Rattle.base.specs.Bytes.{Bytes}
use Rattle.base.specs.Lists.{flat_map_append}
use Rattle.records.specs.Form.{read_many}
use Rattle.records.specs.Found.{values_of}
use Rattle.records.specs.Values.{Table, Part}
use Rattle.records.specs.Layouts.{table}
use Rattle.records.proofs.Forms.{read_many_length}
use Rattle.incremental_progress.specs.Intervals.{Interval, listed}
use Rattle.incremental_progress.specs.Parts.{durable, intervals}
use Rattle.incremental_progress.specs.Entries.{Entry, part_entries}
use Rattle.commit_rows.specs.declared.parts.PartSpan.{PartSpan}
use Rattle.commit_durable.specs.Tables.{job_of, interval_in, PartHeld, PartsHold, PartFound}
use Rattle.commit_entries.specs.Planned.{PlanReady, PlannedMore}
use Rattle.commit_entries.specs.declared.Plan.{Plan}
use Rattle.commit_entries.proofs.Planning.{planned_none, planned_then, ready_most}
use Rattle.commit_outputs.specs.Outputs.{IntervalHeld, OutputsThere, entries_in, bucketed, PlannedIn, output_bucket, after_interval, output_buckets, no_plan, PlannedOutputs}
use Rattle.commit_outputs.proofs.PartExits.{one_most}

-- ---- lists
take_more : {A : Type 0} (k : ℕ) (xs : List A) {x : A} {rest : List A} → drop k xs ≡ x ∷ rest → take (k + 1) xs ≡ take k xs ++ (x ∷ [])
take_more zero [] {x} {rest} e = absurd (let z : 0 ≡ length (x ∷ rest) = ap length e in omega (arith, z))
take_more zero (y ∷ xs) {x} e = let z : y ≡ x = cc in rw z
take_more (suc k) [] {x} {rest} e = absurd (let z : 0 ≡ length (x ∷ rest) = ap length e in omega (arith, z))
take_more (suc k) (y ∷ xs) e = let z : suc k + 1 ≡ suc (k + 1) = omega arith in rw (z, take_more k xs e)

after_is : (o : Option Interval) (i : ℕ) → after_interval o i ≡ i + length (listed o)
after_is none i = omega arith
after_is (some iv) i = omega arith

buckets_more : (i : ℕ) (ps : List Part) (p : Part) → output_buckets i (ps ++ (p ∷ [])) ≡ output_buckets i ps ++ bucketed (output_bucket (i + length (intervals ps))) (part_entries p)
unfolding output_buckets intervals flat_map
buckets_more i [] p = let z : i + 0 ≡ i = omega arith in rw (append-nil, z)
buckets_more i (q ∷ ps) p =
    let n : length (listed (durable q) ++ intervals ps) ≡ length (listed (durable q)) + length (intervals ps) = length-append (listed (durable q)) (intervals ps) in
    let z : i + length (listed (durable q)) + length (intervals ps) ≡ i + length (listed (durable q) ++ intervals ps) = omega (arith, n) in
    rw (buckets_more (after_interval (durable q) i) ps p, after_is (durable q) i, z)
    (sym (append_assoc (bucketed (output_bucket i) (part_entries q)) (output_buckets (i + length (listed (durable q))) ps) (bucketed (output_bucket (i + length (listed (durable q) ++ intervals ps))) (part_entries p))))

entries_more : (ps : List Part) (p : Part) → flat_map part_entries (ps ++ (p ∷ [])) ≡ flat_map part_entries ps ++ part_entries p
unfolding flat_map
entries_more ps p = flat_map_append part_entries ps (p ∷ []) ∙ ap (λ (l : List Entry). flat_map part_entries ps ++ l) (append-nil (part_entries p))

intervals_more : (ps : List Part) (p : Part) → length (intervals (ps ++ (p ∷ []))) ≡ length (intervals ps) + length (listed (durable p))
unfolding intervals flat_map
intervals_more ps p = ap length (flat_map_append (λ p. listed (durable p)) ps (p ∷ []) ∙ ap (λ (l : List Interval). intervals ps ++ l) (append-nil (listed (durable p)))) ∙ length-append (intervals ps) (listed (durable p))

few_entries : (s : List ℕ) (h : PartSpan) (ts : List Table) → length (flat_map (entries_in s h) ts) ≤ length ts
unfolding flat_map
few_entries s h [] = omega arith
few_entries s h (t ∷ ts) = rw length-append (omega (arith, one_most s h t, few_entries s h ts))

-- ---- one part
module _ {s : List ℕ} {p : Part} {h : PartSpan} (f : PartHeld s p h) where
  no_entries : h.durable ≡ false → part_entries p ≡ []
  unfolding part_entries flat_map
  no_entries e = let d : none ≡ durable p = rw e at f.durable_is in rw (← d)

  no_interval : h.durable ≡ false → length (listed (durable p)) ≡ 0
  no_interval e = let d : none ≡ durable p = rw e at f.durable_is in rw (← d)

  one_interval : h.durable ≡ true → length (listed (durable p)) ≡ 1
  one_interval e = let d : some (interval_in s h.start h.end) ≡ durable p = rw e at f.durable_is in rw (← d)

  outputs_read : values_of (read_many table.read h.outputs (drop h.first s)) ≡ p.outputs
  outputs_read = ap values_of f.outputs_are

  part_entries_lem : h.durable ≡ true → part_entries p ≡ flat_map (entries_in s h) (values_of (read_many table.read h.outputs (drop h.first s)))
  unfolding part_entries flat_map
  part_entries_lem e =
      let d : some (interval_in s h.start h.end) ≡ durable p = rw e at f.durable_is in
      rw (← d, append-nil, outputs_read, f.open_is e)

pub record PartsSeen (s ids table_of : List ℕ) (n : ℕ) (d : List ℕ) (k i : ℕ) (q : Plan) (t : List ℕ) : Type 0 where
  pub small : length s ≤ 262144
  pub bytes : Bytes s
  pub hold : PartsHold s n table_of
  pub upto : k ≤ n
  pub planned : (image : List ℕ) → PlannedMore image s ids (flat_map part_entries (take k (job_of s).parts)) (output_buckets 0 (take k (job_of s).parts)) no_plan d q t
  pub intervals_are : i ≡ length (intervals (take k (job_of s).parts))
  pub few : i ≤ k
  pub ready : PlanReady ids (k * 1024) q

pub parts_begin : (s ids table_of : List ℕ) (n : ℕ) (d : List ℕ) → length s ≤ 262144 → Bytes s → PartsHold s n table_of → PartsSeen s ids table_of n d 0 0 no_plan d
unfolding flat_map output_buckets intervals
parts_begin s ids table_of n d l b h =
    record {
      small = l;
      bytes = b;
      hold = h;
      upto = omega arith;
      planned = λ image. planned_none image s ids no_plan d;
      intervals_are = refl;
      few = omega arith;
      ready = record { few = omega arith; few_cuts = omega arith; short = omega arith; within = omega arith };
    }

module _ {s ids table_of : List ℕ} {n : ℕ} {d : List ℕ} {k i : ℕ} {q : Plan} {t : List ℕ} (x : PartsSeen s ids table_of n d k i q t) where
  pub parts_same : length t ≡ length d
  parts_same = (x.planned []).same

  pub parts_all : n ≤ k → PlannedOutputs s ids d q t
  parts_all l =
      let e : take k (job_of s).parts ≡ (job_of s).parts = take_all k (job_of s).parts (omega (arith, x.hold.count)) in
      record {
        planned = λ image. rw e at (x.planned image);
        ready = ready_most x.ready (omega (arith, x.ready.few, x.upto, x.hold.most));
      }

  module _ (l : k < n) {h : PartSpan} (f : PartFound s k h) where
    more : take (k + 1) (job_of s).parts ≡ take k (job_of s).parts ++ (f.part ∷ [])
    more = take_more k (job_of s).parts f.is

    pub parts_interval : h.durable ≡ true → IntervalHeld s h
    parts_interval e = record { range = f.held.range e; start = f.held.start; end = f.held.end }

    pub parts_there : OutputsThere s h
    parts_there = record { first = f.held.first; few = f.held.few; there = rw f.held.outputs_are tt }

    pub parts_plan : PlanReady ids 549755813888 q
    parts_plan = ready_most x.ready (omega (arith, x.ready.few, x.upto, x.hold.most))

    pub parts_none : h.durable ≡ false → PartsSeen s ids table_of n d (k + 1) i q t
    parts_none e =
        record {
          small = x.small;
          bytes = x.bytes;
          hold = x.hold;
          upto = omega arith;
          planned = λ image.
              rw (more, entries_more (take k (job_of s).parts) f.part, buckets_more 0 (take k (job_of s).parts) f.part, no_entries f.held e, append-nil, append-nil)
              (x.planned image);
          intervals_are = rw (more, intervals_more (take k (job_of s).parts) f.part, no_interval f.held e) (omega (arith, x.intervals_are));
          few = omega (arith, x.few);
          ready = ready_most x.ready (omega (arith, x.ready.few));
        }

    module _ (e : h.durable ≡ true) {o : Plan} {u : List ℕ}
        (w : PlannedIn s ids (flat_map (entries_in s h) (values_of (read_many table.read h.outputs (drop h.first s)))) (i * 2 + 1) q t o u) where
      pub parts_more_same : length u ≡ length d
      parts_more_same = (w []).same ∙ parts_same

      pub parts_onward : PartsSeen s ids table_of n d (k + 1) (i + 1) o u
      parts_onward =
          let z = (w []).ready (k * 1024) x.ready in
          let count : length (values_of (read_many table.read h.outputs (drop h.first s))) ≡ h.outputs
          = ap length (outputs_read f.held) ∙ read_many_length table.read h.outputs (drop h.first s) f.part.outputs f.held.past f.held.outputs_are in
          let m : 0 + length (intervals (take k (job_of s).parts)) ≡ i = omega (arith, x.intervals_are) in
          record {
            small = x.small;
            bytes = x.bytes;
            hold = x.hold;
            upto = omega arith;
            planned = λ image.
                rw (more, entries_more (take k (job_of s).parts) f.part, buckets_more 0 (take k (job_of s).parts) f.part, m, part_entries_lem f.held e)
                (planned_then image s ids (x.planned image) (w image));
            intervals_are = rw (more, intervals_more (take k (job_of s).parts) f.part, one_interval f.held e) (omega (arith, x.intervals_are));
            few = omega (arith, x.few);
            ready = ready_most z (omega (arith, z.few, few_entries s h (values_of (read_many table.read h.outputs (drop h.first s))), count, f.held.few));
          }

  pub parts_bucket : k < n → i * 2 + 1 ≤ 129
  parts_bucket l = omega (arith, x.few, x.hold.most)

pub ruleset parts_exits = (parts_begin, parts_same, parts_all, parts_interval, parts_there, parts_plan, parts_none, parts_more_same, parts_onward, parts_bucket)
