-- The exits of the functions on one part, and what the loop over a job's parts keeps: the parts read so far, what is told of
-- them, their rows, and the cut that the last of them makes for the next.
-- Assumes nothing.
use Prim.Native.Nat.{ℕ, ◌+◌, ◌*◌, ◌-◌, ◌≤◌, ◌<◌}
use native.Mathlib.Omega.{arith}
use native.Mathlib.Nat.{add-zero}
use mathlib.Core.Path.{◌≡◌, refl, sym, ap, ◌∙◌}
use mathlib.Core.Bool.{Bool, true, false, not, ◌&&◌, and_assoc}
use mathlib.Core.List.{List, [], ◌∷◌, ◌++◌}
use lib.ListN.{length, take, drop, length-append}
use lib.Dec.{eqb}
use borrow.Author.Tests.{ne_eqb}
use Rattle.base.specs.Rows.{RowsHold, hold_none, hold_more}
use Rattle.base.specs.Splice.{splice, spliced_length}
use Rattle.key.specs.Order.{Key}
use Rattle.comparable_range.specs.Range.{Range, range_of as range_by, non_empty}
use Rattle.comparable_range.specs.Cut.{below, cut_at_most, start_cut, end_cut}
use Rattle.comparable_range.specs.declared.Kind.{Kind}
use Rattle.comparable_range.specs.declared.Kind.TheVariants.{Unbounded, Included, Excluded}
use Rattle.comparable_range.proofs.Cut.{below-≼}
use Rattle.format.specs.Got.{got, stop, and_then}
use Rattle.format.specs.Range.{bound_in, range_in, BoundInside}
use Rattle.format.specs.declared.range.BoundSpan.{BoundSpan}
use Rattle.format.specs.declared.span.RangeSpan.{RangeSpan}
use Rattle.records.specs.Form.{read_many}
use Rattle.records.specs.Values.{Table, Part}
use Rattle.records.specs.Layouts.{table, part_of, part}
use Rattle.records.specs.Spans.{part_head, PartFound}
use Rattle.records.specs.declared.parts.PartRead.{PartRead}
use Rattle.records.specs.declared.parts.PartRead.TheVariants.{At as HeadAt, Stop as HeadStop}
use Rattle.records.proofs.Many.{Reading, begin, stopped, onward, all_read}
use Rattle.records.proofs.PartExits.{part_is}
use Rattle.manifest.specs.Checks.{all}
use Rattle.manifest.specs.Faults.{fault_of, least, planned}
use Rattle.manifest.proofs.Steps.{all_more, parts_none, parts_more}
use Rattle.incremental_progress.specs.Checks.{half_open, planned_from, outputs_inside}
use Rattle.incremental_progress.specs.Parts.{durable, open_key}
use Rattle.commit_rows.specs.Numbers.{part_numbers}
use Rattle.commit_rows.specs.declared.parts.PartSpan.{PartSpan}
use Rattle.commit_rows.proofs.RowExits.{part_back}
use Rattle.commit_durable.specs.Faults.{planned_after}
use Rattle.commit_durable.specs.Tables.{PartIs}
use Rattle.commit_durable.specs.Answers.{last_in, OutputsPassed, RowMade, half_open_kinds, cut_of, part_more, part_fault, PartGot, PartPassed, PartsTold, PartsPassed}
use Rattle.commit_durable.specs.declared.outputs.Outputs.{Outputs}
use Rattle.commit_durable.specs.declared.outputs.OutputsRead.{OutputsRead}
use Rattle.commit_durable.specs.declared.outputs.OutputsRead.TheVariants.{At as OutputsAt, Stop as OutputsStop}
use Rattle.commit_durable.specs.declared.parts.PartsSeen.{PartsSeen}
use Rattle.commit_durable.specs.declared.parts.PartsJudged.{PartsJudged}
use Rattle.commit_durable.specs.declared.parts.PartsJudged.TheVariants.{At, Stop}
use Rattle.commit_durable.proofs.Counts.{outputs_within}
use Rattle.commit_durable.proofs.Steps.{after_by_cuts, cut_past, past_more, part_cut, planned_more}

-- ---- planned_fault
module _ (s : List ℕ) (r : RangeSpan) {t : Bool} (h : t ≡ non_empty (range_in s r.start r.end)) where
  pub planned_passes : t ≡ true → 8 ≡ fault_of (planned (non_empty (range_in s r.start r.end)))
  unfolding fault_of
  planned_passes e = rw (← h, e)

  pub planned_fails : t ≡ false → 4 ≡ fault_of (planned (non_empty (range_in s r.start r.end)))
  unfolding fault_of
  planned_fails e = rw (← h, e)

pub ruleset planned_exits = (planned_passes, planned_fails)

-- ---- planned_after
pub half_open_lem : (ks ke : Kind) (x y : Key) → half_open_kinds ks ke ≡ half_open (range_by ks x ke y)
half_open_lem Excluded ke x y = refl
half_open_lem Unbounded Unbounded x y = refl
half_open_lem Unbounded Included x y = refl
half_open_lem Unbounded Excluded x y = refl
half_open_lem Included Unbounded x y = refl
half_open_lem Included Included x y = refl
half_open_lem Included Excluded x y = refl

module _ (s : List ℕ) (first : Bool) (b i j : BoundSpan) {h : Bool} (e : h ≡ half_open_kinds i.kind j.kind) where
  opened : planned_after (cut_of first (bound_in s b)) (range_in s i j) ≡ (h && cut_at_most (cut_of first (bound_in s b)) (start_cut (bound_in s i)))
  unfolding planned_after
  opened = rw (e, half_open_lem i.kind j.kind (take i.len (drop i.at s)) (take j.len (drop j.at s))) (simp and_assoc)

  pub not_half_open : h ≡ false → h ≡ planned_after (cut_of first (bound_in s b)) (range_in s i j)
  not_half_open y = y ∙ sym (opened ∙ rw y)

  module _ (y : h ≡ true) where
    pub first_part : first ≡ true → first ≡ planned_after (cut_of first (bound_in s b)) (range_in s i j)
    first_part f = f ∙ sym (opened ∙ rw (y, f, (below-≼ (start_cut (bound_in s i))).holds))

    pub next_part : {t : Bool} → first ≡ false → t ≡ non_empty (range_in s i b) → not t ≡ planned_after (cut_of first (bound_in s b)) (range_in s i j)
    next_part f w = ap not w ∙ after_by_cuts (range_in s i b) ∙ sym (opened ∙ rw (y, f))

pub ruleset after_exits = (not_half_open, first_part, next_part)

-- ---- part_read
abbrev range_of : BoundSpan → BoundSpan → RangeSpan
range_of i j = record { start = i; end = j }

abbrev part_with : Range → Bool → ℕ → List Table → Part
part_with r c m ts = part_of (r, ((c, m), ts))

module _ (s : List ℕ) (k : ℕ) (p : PartsSeen) (t : List ℕ) {r : PartRead} (f : PartFound s (part_head.read (drop p.past s)) r) where
  abbrev Passed : List ℕ → PartsJudged → Type 0
  Passed = PartPassed s (part.read (drop p.past s)) k p t

  pub head_stop : {c : ℕ} → r ≡ HeadStop c → Passed t (Stop c)
  head_stop q = record { is = part_is (drop p.past s) ∙ rw (← f.meaning, q); same = refl }

  module _ {i j : BoundSpan} {c : Bool} {m next : ℕ} (q : r ≡ HeadAt i j c m next) where
    end_inside : BoundInside s j
    end_inside = (rw q at f.inside).1.0

    outputs_from_lem : next ≤ length s
    outputs_from_lem = (rw q at f.inside).1.1

    few_outputs : m ≤ 1024
    few_outputs = outputs_within (drop p.past s) (drop next s) (range_in s i j, (c, m)) (sym f.meaning ∙ rw q)

    part_opened : part.read (drop p.past s) ≡ and_then (read_many table.read m (drop next s)) (λ ts q. got (part_with (range_in s i j) c m ts) q)
    part_opened = part_is (drop p.past s) ∙ rw (← f.meaning, q)

    module _ {w : OutputsRead} (x : OutputsPassed s (read_many table.read m (drop next s)) (range_of i j) w) where
      pub outputs_stop : {k : ℕ} → w ≡ OutputsStop k → Passed t (Stop k)
      outputs_stop {k} y =
          let e : read_many table.read m (drop next s) ≡ stop k = rw y at x.is in
          record { is = part_opened ∙ rw e; same = refl }

      module _ {o : Outputs} (y : w ≡ OutputsAt o) where
        pub part_done :
            {h : PartSpan} {u : List ℕ} {e : PartsSeen}
            → k * 10 + 10 ≤ length t
            → RowMade s (range_of i j) c m next (last_in s o) h
            → u ≡ splice t (k * 10) (part_numbers h)
            → e ≡ part_more s (eqb k 0) p (range_of i j) o
            → Passed u (At e)
        unfolding outputs_inside durable open_key
        part_done {h} room hh hu he =
            let w = rw y at x.is in
            let v = rw w.told.last at hh in
            rw he
            (record {
              is =
                  record {
                    part = part_with (range_in s i j) c m w.tables;
                    is = part_opened ∙ ap (λ g. and_then g (λ ts q. got (part_with (range_in s i j) c m ts) q)) w.is;
                    place = w.told.place;
                    fault = rw w.told.fault;
                    planned = refl;
                    inside = rw w.told.inside;
                    end = refl;
                    end_in = end_inside;
                    row = h;
                    held =
                        record {
                          durable_is = v.is;
                          range = v.range;
                          open_is = v.open_is;
                          start = v.start;
                          end = v.end;
                          first = rw v.first_is outputs_from_lem;
                          few = rw v.outputs_is few_outputs;
                          past = drop o.past s;
                          outputs_are = rw (v.outputs_is, v.first_is) w.is;
                        };
                    put = hu;
                  };
              same = spliced_length t (k * 10) (part_numbers h) hu room;
            })

pub ruleset part_exits = (head_stop, outputs_stop, part_done)

-- ---- parts_read
pub record PartsKept (s : List ℕ) (from n : ℕ) (d t : List ℕ) (k : ℕ) (p : PartsSeen) : Type 0 where
  pub seen : List Part
  pub reading : Reading part.read s from n (n - k) p.past seen
  pub upto : k ≤ n
  pub count : length seen ≡ k
  pub most : n ≤ 64
  pub room : 640 ≤ length d
  pub same : length t ≡ length d
  pub told : PartsTold s seen p
  pub rows : RowsHold 10 (PartIs s) seen t
  pub cut : cut_of (eqb k 0) (bound_in s p.end) ≡ cut_past part_cut below seen
  pub end_in : BoundInside s p.end

abbrev none_yet : ℕ → PartsSeen
none_yet from = record { past = from; fault = 8; planned = true; inside = true; end = record { kind = Unbounded; at = from; len = 0 } }

pub parts_begin : (s : List ℕ) (from n : ℕ) (d : List ℕ) → from ≤ length s → n ≤ 64 → 640 ≤ length d → PartsKept s from n d d 0 (none_yet from)
unfolding planned_from all cut_past
parts_begin s from n d h m l =
    let z : n - 0 ≡ n = omega arith in
    record {
      seen = [];
      reading = rw z (begin part.read s from n h);
      upto = omega arith;
      count = refl;
      most = m;
      room = l;
      same = refl;
      told = record { place = h; fault = sym parts_none; planned = refl; inside = refl };
      rows = hold_none 10 (PartIs s) d;
      cut = refl;
      end_in = rw add-zero h;
    }

module _ {s : List ℕ} {from n : ℕ} {d t : List ℕ} {k : ℕ} {p : PartsSeen} (q : PartsKept s from n d t k p) where
  pub parts_end : n ≤ k → PartsPassed s (read_many part.read n (drop from s)) n d t (At p)
  parts_end h =
      record {
        is = record { parts = q.seen; is = all_read q.reading (omega arith); count = omega (arith, q.upto, q.count); told = q.told; rows = q.rows };
        same = q.same;
      }

  module _ (h : k < n) where
    part_room : k * 10 + 10 ≤ length t
    part_room = omega (arith, q.most, q.room, q.same)

    left : 0 < n - k
    left = omega arith

    module _ {u : List ℕ} {w : PartsJudged} (x : PartPassed s (part.read (drop p.past s)) k p t u w) where
      more_same : length u ≡ length d
      more_same = x.same ∙ q.same

      pub parts_stop : {c : ℕ} → w ≡ Stop c → PartsPassed s (read_many part.read n (drop from s)) n d u (Stop c)
      parts_stop {c} y = record { is = stopped q.reading {k = c} left (rw y at x.is); same = more_same }

      onward_by : {m : PartsSeen} → PartGot s (part.read (drop p.past s)) k p t u m → PartsKept s from n d u (k + 1) m
      onward_by v =
          let a = v.part in
          let z : n - k - 1 ≡ n - (k + 1) = omega arith in
          let i : PartIs s a (part_numbers v.row) = rw (part_back v.row) v.held in
          let l : length q.seen * 10 + 10 ≤ length t = omega (arith, q.count, part_room) in
          let o : RowsHold 10 (PartIs s) (q.seen ++ (a ∷ [])) (splice t (length q.seen * 10) (part_numbers v.row))
          = hold_more 10 (PartIs s) a (part_numbers v.row) q.rows refl l i in
          record {
            seen = q.seen ++ (a ∷ []);
            reading = rw z at (onward q.reading left v.is v.place);
            upto = omega arith;
            count = rw length-append (omega (arith, q.count));
            most = q.most;
            room = q.room;
            same = more_same;
            told =
                record {
                  place = v.place;
                  fault = v.fault ∙ ap (λ f. least f (part_fault a)) q.told.fault ∙ sym (parts_more q.seen a);
                  planned = v.planned ∙ rw q.cut (ap (λ b. b && planned_after (cut_past part_cut below q.seen) a.planned) q.told.planned) ∙ sym (planned_more below q.seen a);
                  inside = v.inside ∙ ap (λ b. b && outputs_inside a) q.told.inside ∙ sym (all_more outputs_inside q.seen a);
                };
            rows = rw v.put (rw q.count at o);
            cut = rw (ne_eqb (k + 1) 0 (omega arith)) (ap end_cut v.end ∙ sym (past_more part_cut below q.seen a));
            end_in = v.end_in;
          }

      pub parts_onward : {m : PartsSeen} → w ≡ At m → PartsKept s from n d u (k + 1) m
      parts_onward y = onward_by (rw y at x.is)

pub ruleset parts_exits = (parts_begin, parts_end, parts_stop, parts_onward)
