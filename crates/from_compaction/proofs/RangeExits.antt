-- The exits of the functions that measure and write the ranges of a job's parts, and what their loops keep.
-- Assumes nothing.
use Prim.Native.Nat.{ℕ, ◌+◌, ◌*◌, ◌<◌, ◌≤◌}
use native.Mathlib.Omega.{arith}
use native.Mathlib.Nat.{zero-add}
use mathlib.Core.Path.{◌≡◌, refl, sym, ap, ◌∙◌}
use mathlib.Core.Bool.{true, false}
use mathlib.Core.List.{List, [], ◌∷◌, ◌++◌, map, flat_map, append_assoc, append-nil}
use lib.ListN.{length, take, drop, length-append, length-take, length-drop, drop_of_length-le}
use mir.Val.{Fits}
use mir.Syntax.{w64}
use Rattle.base.specs.Outcome.{over}
use Rattle.base.specs.Splice.{splice}
use Rattle.key.specs.Order.{Key}
use Rattle.comparable_range.specs.Range.{Range, range_of}
use Rattle.format.specs.Number.{write_number}
use Rattle.format.specs.Range.{BoundInside, range_in, write_range}
use Rattle.format.proofs.Layouts.{number_length}
use Rattle.records.specs.Form.{write_many}
use Rattle.records.specs.Values.{Plan}
use Rattle.records.specs.Layouts.{plan}
use Rattle.incremental_progress.specs.Intervals.{listed, to_range}
use Rattle.incremental_progress.specs.Parts.{intervals}
use Rattle.commit_rows.specs.declared.parts.PartSpan.{PartSpan}
use Rattle.commit_durable.specs.Tables.{job_of, durable_in, PartsHold, PartFound}
use Rattle.range_write.specs.Put.{Put}
use Rattle.range_write.proofs.Pieces.{put_length, put_none, put_same, second_room, both_put}
use Rattle.from_compaction.specs.ProgressCalls.{from_compaction}
use Rattle.from_compaction.specs.Ranges.{job_ranges, ranges_bytes, Sized, Measured}
use Rattle.from_compaction.specs.declared.ranges.Measure.{Measure}
use Rattle.from_compaction.proofs.Progress.{ranges_of, one_part_more}

-- ---- part_size and put_part: the keys stand in the job
part_short : (n at : ℕ) (s : List ℕ) {k : Key} → k ≡ take n (drop at s) → length s ≤ 65536 → length k ≤ 65536
part_short n at s e h = rw (e, length-take, length-drop) (omega arith)

module _ (s : List ℕ) (p : PartSpan) {k l : Key} (u : k ≡ take p.start.len (drop p.start.at s)) (v : l ≡ take p.end.len (drop p.end.at s)) where
  abbrev found : Range
  found = range_of p.start.kind k p.end.kind l

  keys_are : write_range found ≡ write_range (range_in s p.start p.end)
  keys_are = rw (u, v)

  pub start_short : length s ≤ 65536 → length k ≤ 65536
  start_short h = part_short p.start.len p.start.at s u h

  pub end_short : length s ≤ 65536 → length l ≤ 65536
  end_short h = part_short p.end.len p.end.at s v h

  pub part_sized : {n : ℕ} → (n ≡ length (write_range (range_of p.start.kind k p.end.kind l))) × (n ≤ 131077) → Sized (range_in s p.start p.end) n
  part_sized e = record { is = e.0 ∙ ap length keys_are; most = e.1 }

  module _ (d : List ℕ) (to : ℕ) where
    pub part_room : to + length (write_range (range_in s p.start p.end)) ≤ length d → to + length (write_range (range_of p.start.kind k p.end.kind l)) ≤ length d
    part_room h = rw keys_are h

    module _ {f : List ℕ} {past : ℕ} (q : Put d to (write_range (range_of p.start.kind k p.end.kind l)) f past) where
      pub part_put : Put d to (write_range (range_in s p.start p.end)) f past
      part_put = put_same q keys_are

      pub part_same : to + length (write_range (range_in s p.start p.end)) ≤ length d → length f ≡ length d
      part_same h = put_length q (part_room h)

pub ruleset part_exits = (start_short, end_short, part_sized, part_room, part_put, part_same)

-- ---- the ranges from part k on
abbrev left_of : List ℕ → ℕ → Plan
left_of s k = ranges_of (drop k (job_of s).parts)

module _ {s : List ℕ} {k : ℕ} {x : PartSpan} (f : PartFound s k x) where
  here_is : left_of s k ≡ map to_range (listed (durable_in s x)) ++ left_of s (k + 1)
  here_is = ap ranges_of f.is ∙ one_part_more f.part (drop (k + 1) (job_of s).parts) ∙ rw f.held.durable_is

  left_none : x.durable ≡ false → left_of s k ≡ left_of s (k + 1)
  left_none q = here_is ∙ rw q

  left_one : x.durable ≡ true → left_of s k ≡ range_in s x.start x.end ∷ left_of s (k + 1)
  left_one q = here_is ∙ rw (q, f.held.range q)

  pub start_in : BoundInside s x.start
  start_in = f.held.start

  pub end_in : BoundInside s x.end
  end_in = f.held.end

left_all : (s : List ℕ) (n k : ℕ) → n ≡ length (job_of s).parts → n ≤ k → left_of s k ≡ []
unfolding intervals flat_map
left_all s n k e h = rw (drop_of_length-le (job_of s).parts {i = k} (omega (arith, e)))

-- ---- measured
pub record Measuring (s : List ℕ) (n count bytes k : ℕ) : Type 0 where
  pub all : n ≡ length (job_of s).parts
  pub most : n ≤ 64
  pub upto : k ≤ n
  pub few : count ≤ k
  pub small : bytes ≤ k * 131077
  pub counted : count + length (left_of s k) ≡ length (job_ranges s)
  pub long : bytes + length (ranges_bytes (left_of s k)) ≡ length (ranges_bytes (job_ranges s))

pub measure_begin : (s : List ℕ) (n : ℕ) (t : List ℕ) → PartsHold s n t → Measuring s n 0 0 0
unfolding from_compaction
measure_begin s n t p =
    record { all = p.count; most = p.most; upto = omega arith; few = omega arith; small = omega arith; counted = omega arith; long = omega arith }

module _ {s : List ℕ} {n count bytes k : ℕ} (p : Measuring s n count bytes k) where
  pub measure_end : n ≤ k → Measured s (record { count = count; bytes = bytes })
  unfolding write_many
  measure_end h =
      let z = left_all s n k p.all h in
      let c = rw z at p.counted in
      let b = rw z at p.long in
      record { count = omega (arith, c); bytes = omega (arith, b); few = omega (arith, p.few, p.upto, p.most); most = omega (arith, p.small, p.upto, p.most) }

  module _ (h : k < n) where
    pub measure_fits : Fits w64 (count + 1)
    measure_fits = omega (arith, p.few, p.most)

    module _ {x : PartSpan} (f : PartFound s k x) where
      pub measure_none : x.durable ≡ false → Measuring s n count bytes (k + 1)
      measure_none q =
          record {
            all = p.all;
            most = p.most;
            upto = omega arith;
            few = omega (arith, p.few);
            small = omega (arith, p.small);
            counted = rw (left_none f q) at p.counted;
            long = rw (left_none f q) at p.long;
          }

      module _ {m : ℕ} (y : Sized (range_in s x.start x.end) m) where
        pub measure_sum : Fits w64 (bytes + m)
        measure_sum = omega (arith, p.small, y.most, p.most)

        pub measure_one : x.durable ≡ true → Measuring s n (count + 1) (bytes + m) (k + 1)
        unfolding write_many
        measure_one q =
            let z = left_one f q in
            let c = p.counted in
            let e = ap length z in
            let b = ap (λ r. length (ranges_bytes r)) z ∙ length-append (write_range (range_in s x.start x.end)) (ranges_bytes (left_of s (k + 1))) in
            record {
              all = p.all;
              most = p.most;
              upto = omega arith;
              few = omega (arith, p.few);
              small = omega (arith, p.small, y.most);
              counted = omega (arith, c, e);
              long = omega (arith, p.long, b, y.is);
            }

pub ruleset measure_exits = (measure_begin, measure_end, measure_fits, measure_none, measure_sum, measure_one, start_in, end_in)

-- ---- put_ranges
pub record Putting (s : List ℕ) (n : ℕ) (d : List ℕ) (first : ℕ) (out : List ℕ) (to k : ℕ) : Type 0 where
  pub all : n ≡ length (job_of s).parts
  pub upto : k ≤ n
  pub done : List ℕ
  pub is : ranges_bytes (job_ranges s) ≡ done ++ ranges_bytes (left_of s k)
  pub room : first + length (ranges_bytes (job_ranges s)) ≤ length d
  pub put : Put d first done out to

pub put_begin : (s : List ℕ) (n : ℕ) (t d : List ℕ) (first : ℕ) → PartsHold s n t → first + length (ranges_bytes (job_ranges s)) ≤ length d → Putting s n d first d first 0
unfolding from_compaction
put_begin s n t d first p h =
    record { all = p.count; upto = omega arith; done = []; is = refl; room = h; put = put_none d first }

module _ {s : List ℕ} {n : ℕ} {d : List ℕ} {first : ℕ} {out : List ℕ} {to k : ℕ} (p : Putting s n d first out to k) where
  size : length (ranges_bytes (job_ranges s)) ≡ length p.done + length (ranges_bytes (left_of s k))
  size = ap length p.is ∙ length-append p.done (ranges_bytes (left_of s k))

  pub put_same_length : length out ≡ length d
  put_same_length = put_length p.put (omega (arith, p.room, size))

  pub put_end : n ≤ k → Put d first (ranges_bytes (job_ranges s)) out to
  unfolding write_many
  put_end h = put_same p.put (sym (append-nil p.done) ∙ rw (left_all s n k p.all h) at (sym p.is))

  module _ (h : k < n) {x : PartSpan} (f : PartFound s k x) where
    pub put_skip : x.durable ≡ false → Putting s n d first out to (k + 1)
    put_skip q =
        record { all = p.all; upto = omega arith; done = p.done; is = rw (left_none f q) at p.is; room = p.room; put = p.put }

    module _ (q : x.durable ≡ true) where
      abbrev piece : List ℕ
      piece = write_range (range_in s x.start x.end)

      next_is : ranges_bytes (job_ranges s) ≡ (p.done ++ piece) ++ ranges_bytes (left_of s (k + 1))
      unfolding write_many
      next_is = p.is ∙ rw (left_one f q) (sym (append_assoc p.done piece (ranges_bytes (left_of s (k + 1)))))

      fits : first + length (p.done ++ piece) ≤ length d
      fits = omega (arith, p.room, ap length next_is ∙ length-append (p.done ++ piece) (ranges_bytes (left_of s (k + 1))))

      pub put_room : to + length (write_range (range_in s x.start x.end)) ≤ length out
      put_room = second_room d first p.done piece fits p.put

      pub put_more : {out' : List ℕ} {to' : ℕ} → Put out to (write_range (range_in s x.start x.end)) out' to' → Putting s n d first out' to' (k + 1)
      put_more y =
          record {
            all = p.all;
            upto = omega arith;
            done = p.done ++ piece;
            is = next_is;
            room = p.room;
            put = both_put d first p.done piece fits p.put y;
          }

      pub put_more_length : {out' : List ℕ} {to' : ℕ} → Put out to (write_range (range_in s x.start x.end)) out' to' → length out' ≡ length d
      put_more_length y = put_length y put_room ∙ put_same_length

pub ruleset put_exits = (put_begin, put_same_length, put_end, put_skip, put_room, put_more, put_more_length, start_in, end_in)

-- ---- write_ranges
module _ {s : List ℕ} {m : Measure} (p : Measured s m) where
  plan_is : plan.write (job_ranges s) ≡ write_number 1 m.count ++ ranges_bytes (job_ranges s)
  unfolding plan
  plan_is = rw p.count

  pub write_fits : Fits w64 (1 + m.bytes)
  write_fits = omega (arith, p.most)

  pub write_size : 1 + m.bytes ≡ length (plan.write (job_ranges s))
  write_size =
      let e = ap length plan_is ∙ length-append (write_number 1 m.count) (ranges_bytes (job_ranges s)) in
      omega (arith, e, number_length 1 m.count, p.bytes)

  module _ (d : List ℕ) (h : 1 + m.bytes ≤ length d) where
    pub write_count_room : 0 + 1 ≤ length d
    write_count_room = omega arith

    module _ (v : ℕ) {e : List ℕ} (q : e ≡ splice d 0 (write_number 1 v)) where
      counted : Put d 0 (write_number 1 v) e 1
      counted = record { is = q; past_is = omega (arith, number_length 1 v) }

      both_room : 0 + length (write_number 1 v ++ ranges_bytes (job_ranges s)) ≤ length d
      both_room = omega (arith, length-append (write_number 1 v) (ranges_bytes (job_ranges s)), number_length 1 v, p.bytes)

      pub write_room : 1 + length (ranges_bytes (job_ranges s)) ≤ length e
      write_room = second_room d 0 (write_number 1 v) (ranges_bytes (job_ranges s)) both_room counted

      module _ {f : List ℕ} {past : ℕ} (y : Put e 1 (ranges_bytes (job_ranges s)) f past) where
        all_put : Put d 0 (write_number 1 v ++ ranges_bytes (job_ranges s)) f past
        all_put = both_put d 0 (write_number 1 v) (ranges_bytes (job_ranges s)) both_room counted y

        pub write_same : length f ≡ length d
        write_same = put_length all_put both_room

        pub write_all : v ≡ m.count → f ≡ over (plan.write (job_ranges s)) d
        write_all c = (put_same all_put (ap (λ n. write_number 1 n ++ ranges_bytes (job_ranges s)) c ∙ sym plan_is)).is ∙ rw zero-add

pub ruleset write_exits = (write_fits, write_size, write_count_room, write_room, write_all, write_same)
