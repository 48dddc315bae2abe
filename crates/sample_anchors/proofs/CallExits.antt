-- The exits of `sample_anchors` and of the functions that answer it.
-- Assumes nothing.
use Prim.Native.Nat.{ℕ, ◌+◌, ◌<◌, ◌≤◌, min}
use native.Mathlib.Omega.{arith}
use native.Mathlib.Nat.{max-le, le_trans, min-eq_left}
use mathlib.Core.Path.{◌≡◌, refl, sym, ap, ◌∙◌}
use mathlib.Core.Bool.{Bool, true, false, and-true}
use mathlib.Core.List.{List, []}
use lib.ListN.{length, drop}
use lib.Seq.{take_all}
use lib.Dec.{T}
use borrow.Author.Tests.{le-leb, lt-leb}
use Rattle.base.specs.Pick.{pick}
use Rattle.base.specs.Outcome.{Outcome, stop, answer, and_then, check, lent, written_to, reported}
use Rattle.base.specs.declared.Written.{Written}
use Rattle.base.specs.declared.Written.TheVariants.{Stop}
use Rattle.comparable_range.specs.Range.{Range, non_empty}
use Rattle.format.specs.Got.{got, is_got}
use Rattle.format.specs.Number.{read_number}
use Rattle.format.specs.Range.{read_range, range_in, BoundInside, RangeWhole}
use Rattle.format.specs.Whole.{whole}
use Rattle.format.specs.declared.range.BoundSpan.{BoundSpan}
use Rattle.format.specs.declared.range.RangeRead.{RangeRead}
use Rattle.format.specs.declared.range.RangeRead.TheVariants.{At as RangeAt, Stop as RangeStop}
use Rattle.records.specs.Found.{values_of}
use Rattle.records.specs.Values.{Index, Anchors}
use Rattle.records.specs.Layouts.{index, anchors}
use Rattle.manifest.specs.Checks.{checked, joined, index_checks}
use Rattle.manifest.specs.Faults.{fault_of}
use Rattle.manifest.specs.Spans.{judged_whole, JudgedWhole}
use Rattle.manifest.specs.declared.images.Judged.{Judged}
use Rattle.manifest.specs.declared.images.Judged.TheVariants.{At as JudgedAt, Stop as JudgedStop}
use Rattle.manifest.proofs.Given.{whole_read, Numbered, numbered, stopped_is}
use Rattle.partitioned_keyspace.specs.Asked.{asked_checks}
use Rattle.key_rows.specs.Rows.{Rows, count_from}
use Rattle.subcompaction.specs.Anchors.{sample_anchors}
use Rattle.subcompaction.specs.PlanCalls.{anchors_sampled, sample_anchors_outcome}
use Rattle.subcompaction.specs.Tables.{anchors_in, Held, HeldThen, index_there}
use Rattle.subcompaction.proofs.Samples.{no_more_than_blocks, at_most_that_many_anchors}
use Rattle.sampled.proofs.SampleExits.{index_room, count}

-- ---- answered
none_held : (s keys bytes : List ℕ) → length bytes ≡ length keys → Held s keys bytes 0 []
unfolding anchors_in count_from
none_held s keys bytes e =
    let z : min 0 (length keys) ≡ 0 = min-eq_left (omega arith) in
    record {
      count = refl;
      wide = e;
      rows = rw z (sym (take_all (length keys) [] (omega arith)));
      there = rw z (record { row = λ r h. absurd (omega arith) });
    }

pub most_anchors : (most data_end : ℕ) (x : Index) (q : Range) → most ≤ 4096 → length (sample_anchors most data_end x q) ≤ 4096
most_anchors most data_end x q h = le_trans (at_most_that_many_anchors most data_end x q) (max-le (omega arith) h)

module _ {s keys₀ bytes₀ keys bytes : List ℕ} {n : ℕ} {as' : Anchors} (f : HeldThen s keys₀ bytes₀ 0 keys bytes n as') (w : length bytes₀ ≡ length keys₀) where
  all : Held s keys bytes n as'
  all = f [] (none_held s keys₀ bytes₀ w)

  module _ (l : length keys ≡ length keys₀) (r : length as' ≤ length keys₀) where
    fits : n ≤ length keys
    fits = omega (arith, all.count)

    stored : min n (length keys) ≡ n
    stored = min-eq_left fits

    rows_are : anchors_in s keys bytes n ≡ as'
    rows_are = rw stored at all.rows ∙ take_all (length keys) as' (omega arith)

    pub rows_there : Rows s keys n
    rows_there = rw stored at all.there

    pub rows_most : length keys₀ ≤ 4096 → n ≤ 4096
    rows_most h = omega (arith, all.count)

    pub rows_sized : n ≤ length bytes
    rows_sized = omega (arith, fits, all.wide)

    pub rows_reported : {a : Written} (room : ℕ) → a ≡ reported (written_to room (anchors.write (anchors_in s keys bytes n))) → a ≡ reported (written_to room (anchors.write as'))
    rows_reported room e = e ∙ ap (λ l. reported (written_to room (anchors.write l))) rows_are

    pub rows_lent : {g : List ℕ} (d : List ℕ) → g ≡ lent d (written_to (length d) (anchors.write (anchors_in s keys bytes n))) → g ≡ lent d (written_to (length d) (anchors.write as'))
    rows_lent d e = e ∙ ap (λ l. lent d (written_to (length d) (anchors.write l))) rows_are

pub ruleset answered_exits = (rows_there, rows_most, rows_sized, rows_reported, rows_lent)

-- ---- answered_from
pub few_anchors : (s : List ℕ) (at : ℕ) → T (is_got (index.read (drop at s))) → (most data_end : ℕ) (q : Range) {n : ℕ} → read_number 2 (drop at s) ≡ got n (drop (at + 2) s) → n ≤ 64 → length (sample_anchors most data_end (index_there s at) q) ≤ 64
few_anchors s at t most data_end q e h =
    omega (arith, no_more_than_blocks most data_end (index_there s at) q, count s at t e)

pub ruleset tables_exits = (index_room, few_anchors, most_anchors)

-- ---- sample_anchors
reports : {o : Outcome (List ℕ)} (k : ℕ) → o ≡ stop k → Stop k ≡ reported o
reports k e = rw e

leaves : (d : List ℕ) {o : Outcome (List ℕ)} (k : ℕ) → o ≡ stop k → d ≡ lent d o
leaves d k e = rw e

checks_are : (x : Index) (r : Range) (o : Outcome Anchors) → checked (joined (index_checks x) (asked_checks r)) o ≡ check 4 (non_empty r) (check 6 (index_checks x).order o)
unfolding index_checks asked_checks
checks_are x r o = rw and-true

by_order : (b : Bool) (fault : ℕ) → fault ≡ pick b 8 6 → fault < 8 → b ≡ false
by_order true fault e h = absurd (omega arith)
by_order false fault e h = refl

by_none : (b : Bool) (fault : ℕ) → fault ≡ pick b 8 6 → 8 ≤ fault → b ≡ true
by_none true fault e h = refl
by_none false fault e h = absurd (omega arith)

descends : (x : Index) (fault : ℕ) → fault ≡ fault_of (index_checks x) → fault < 8 → (index_checks x).order ≡ false
unfolding index_checks fault_of
descends x fault e h = by_order _ fault e h

ascends : (x : Index) (fault : ℕ) → fault ≡ fault_of (index_checks x) → 8 ≤ fault → (index_checks x).order ≡ true
unfolding index_checks fault_of
ascends x fault e h = by_none _ fault e h

module _ (most data_end : ℕ) (l q : List ℕ) (room : ℕ) where
  asked_too_many : 4096 < most → sample_anchors_outcome most data_end l q room ≡ stop 3
  unfolding sample_anchors_outcome
  asked_too_many h = rw (lt-leb most 4096 h)

  pub asked_too_many_reported : 4096 < most → Stop 3 ≡ reported (sample_anchors_outcome most data_end l q room)
  asked_too_many_reported h = reports 3 (asked_too_many h)

  pub asked_too_many_lent : (d : List ℕ) → 4096 < most → d ≡ lent d (sample_anchors_outcome most data_end l q room)
  asked_too_many_lent d h = leaves d 3 (asked_too_many h)

  module _ (m : most ≤ 4096) {w : Judged} (x : JudgedWhole l index_checks (whole index.read l) w) where
    opened : sample_anchors_outcome most data_end l q room ≡ and_then (anchors_sampled most data_end l q) (λ a. written_to room (anchors.write a))
    unfolding sample_anchors_outcome
    opened = rw (le-leb most 4096 m)

    index_stops : {k : ℕ} → w ≡ JudgedStop k → sample_anchors_outcome most data_end l q room ≡ stop k
    unfolding anchors_sampled
    index_stops {k} e =
        let z : whole index.read l ≡ stop k = stopped_is index_checks (whole index.read l) k (sym (ap judged_whole e) ∙ x.meaning) in
        opened ∙ rw z

    pub index_stops_reported : {k : ℕ} → w ≡ JudgedStop k → Stop k ≡ reported (sample_anchors_outcome most data_end l q room)
    index_stops_reported {k} e = reports k (index_stops e)

    pub index_stops_lent : (d : List ℕ) {k : ℕ} → w ≡ JudgedStop k → d ≡ lent d (sample_anchors_outcome most data_end l q room)
    index_stops_lent d {k} e = leaves d k (index_stops e)

    module _ {next fault : ℕ} (e : w ≡ JudgedAt next fault) {r : RangeRead} (y : RangeWhole q r) where
      here : Numbered index_checks (whole index.read l) fault
      here = numbered index_checks (whole index.read l) fault (sym (ap judged_whole e) ∙ x.meaning)

      range_stops : {k : ℕ} → r ≡ RangeStop k → sample_anchors_outcome most data_end l q room ≡ stop k
      unfolding anchors_sampled
      range_stops {k} f =
          let z : whole read_range q ≡ stop k = sym y.meaning ∙ rw f in
          opened ∙ rw (here.is, z)

      pub range_stops_reported : {k : ℕ} → r ≡ RangeStop k → Stop k ≡ reported (sample_anchors_outcome most data_end l q room)
      range_stops_reported {k} f = reports k (range_stops f)

      pub range_stops_lent : (d : List ℕ) {k : ℕ} → r ≡ RangeStop k → d ≡ lent d (sample_anchors_outcome most data_end l q room)
      range_stops_lent d {k} f = leaves d k (range_stops f)

      module _ {start end : BoundSpan} {past : ℕ} (f : r ≡ RangeAt start end past) where
        pub start_inside : BoundInside q start
        start_inside = (rw f at y.inside).0

        pub end_inside : BoundInside q end
        end_inside = (rw f at y.inside).1.0

        index_read : index.read l ≡ got here.value []
        index_read = (whole_read index.read l here.value here.is).all

        pub index_got : T (is_got (index.read (drop 0 l)))
        index_got = rw index_read tt

        tested : sample_anchors_outcome most data_end l q room ≡ and_then (check 4 (non_empty (range_in q start end)) (check 6 (index_checks here.value).order (answer (sample_anchors most data_end here.value (range_in q start end))))) (λ a. written_to room (anchors.write a))
        unfolding anchors_sampled
        tested =
            let z : whole read_range q ≡ answer (range_in q start end) = sym y.meaning ∙ rw f in
            opened
            ∙ rw (here.is, z) (ap (λ o. and_then o (λ a. written_to room (anchors.write a))) (checks_are here.value (range_in q start end) (answer (sample_anchors most data_end here.value (range_in q start end)))))

        module _ {t : Bool} (u : t ≡ non_empty (range_in q start end)) where
          range_fails : t ≡ false → sample_anchors_outcome most data_end l q room ≡ stop 4
          range_fails v = let z : non_empty (range_in q start end) ≡ false = sym u ∙ v in tested ∙ rw z

          pub range_fails_reported : t ≡ false → Stop 4 ≡ reported (sample_anchors_outcome most data_end l q room)
          range_fails_reported v = reports 4 (range_fails v)

          pub range_fails_lent : (d : List ℕ) → t ≡ false → d ≡ lent d (sample_anchors_outcome most data_end l q room)
          range_fails_lent d v = leaves d 4 (range_fails v)

          order_fails : t ≡ true → fault < 8 → sample_anchors_outcome most data_end l q room ≡ stop 6
          order_fails v h = let z : non_empty (range_in q start end) ≡ true = sym u ∙ v in tested ∙ rw (z, descends here.value fault here.fault_is h)

          pub order_fails_reported : t ≡ true → fault < 8 → Stop 6 ≡ reported (sample_anchors_outcome most data_end l q room)
          order_fails_reported v h = reports 6 (order_fails v h)

          pub order_fails_lent : (d : List ℕ) → t ≡ true → fault < 8 → d ≡ lent d (sample_anchors_outcome most data_end l q room)
          order_fails_lent d v h = leaves d 6 (order_fails v h)

          all_pass : t ≡ true → 8 ≤ fault → sample_anchors_outcome most data_end l q room ≡ written_to room (anchors.write (sample_anchors most data_end (index_there l 0) (range_in q start end)))
          all_pass v h =
              let z : non_empty (range_in q start end) ≡ true = sym u ∙ v in
              let i : here.value ≡ index_there l 0 = ap values_of (sym index_read) in
              tested ∙ rw (z, ascends here.value fault here.fault_is h) (ap (λ v. written_to room (anchors.write (sample_anchors most data_end v (range_in q start end)))) i)

          pub answer_reported : {a : Written} → t ≡ true → 8 ≤ fault → a ≡ reported (written_to room (anchors.write (sample_anchors most data_end (index_there l 0) (range_in q start end)))) → a ≡ reported (sample_anchors_outcome most data_end l q room)
          answer_reported v h z = z ∙ sym (ap reported (all_pass v h))

          pub answer_lent : (d : List ℕ) {g : List ℕ} → t ≡ true → 8 ≤ fault → g ≡ lent d (written_to room (anchors.write (sample_anchors most data_end (index_there l 0) (range_in q start end)))) → g ≡ lent d (sample_anchors_outcome most data_end l q room)
          answer_lent d v h z = z ∙ sym (ap (lent d) (all_pass v h))

pub ruleset call_exits = (asked_too_many_reported, asked_too_many_lent, index_stops_reported, index_stops_lent, range_stops_reported, range_stops_lent, start_inside, end_inside, index_got, range_fails_reported, range_fails_lent, order_fails_reported, order_fails_lent, answer_reported, answer_lent)
