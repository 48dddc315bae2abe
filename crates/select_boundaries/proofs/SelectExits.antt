-- The exits of `selected` and of `select_boundaries`: each stop in its order, and then the plan.
-- Assumes nothing.
use Prim.Native.Nat.{ℕ, ◌^◌, ◌≤◌, ◌<◌}
use native.Mathlib.Omega.{arith}
use mathlib.Core.Path.{◌≡◌, sym, ap, ◌∙◌}
use mathlib.Core.List.{List}
use lib.ListN.{length, drop, drop_of_length-le}
use lib.Seq.{drop-cons}
use borrow.Author.Tests.{le-leb, lt-leb, lt-ltb, le-ltb}
use Rattle.base.specs.Outcome.{Outcome, answer, written_to, reported, lent}
use Rattle.base.specs.Outcome as outcome
use Rattle.base.specs.declared.Written.{Written}
use Rattle.base.specs.declared.Written.TheVariants.{Stop as WrittenStop}
use Rattle.format.specs.Got.{Got, got}
use Rattle.format.specs.Number.{read_number}
use Rattle.format.specs.Whole.{whole, ended}
use Rattle.records.specs.Form.{read_many}
use Rattle.records.specs.Values.{Anchors}
use Rattle.records.specs.Layouts.{anchor, anchors, plan, up_to}
use Rattle.records.specs.Spans.{CountFound}
use Rattle.records.specs.declared.runs.CountRead.{CountRead}
use Rattle.records.specs.declared.runs.CountRead.TheVariants.{At as CountAt, Stop as CountStop}
use Rattle.records.proofs.BlockExits.{anchors_is}
use Rattle.manifest.specs.Checks.{total, anchors_checks}
use Rattle.manifest.proofs.AnchorExits.{least_exact, least_reached}
use Rattle.manifest.proofs.ImageExits.{count_within}
use Rattle.key_rows.specs.Rows.{Rows}
use Rattle.subcompaction.specs.Boundaries.{select_boundaries}
use Rattle.subcompaction.specs.PlanCalls.{anchors_given, select_boundaries_outcome}
use Rattle.subcompaction.specs.Tables.{anchors_in}
use Rattle.select_boundaries.specs.AnchorsFound.{Tabled, AnchorsFound, selected_from}
use Rattle.select_boundaries.specs.declared.AnchorsRead.{AnchorsRead}
use Rattle.select_boundaries.specs.declared.AnchorsRead.TheVariants.{At, Stop}

-- ---- an outcome that is a stop
module _ (d : List ℕ) {o : Outcome (List ℕ)} {k : ℕ} (e : o ≡ outcome.stop k) where
  stop_told : WrittenStop k ≡ reported o
  stop_told = sym (ap reported e)

  stop_kept : d ≡ lent d o
  stop_kept = sym (ap (lent d) e)

-- ---- check 7, and then the plan
module _ (parts low room : ℕ) (a : Anchors) where
  passing : total a < 2 ^ 63 → selected_from parts low (answer a) room ≡ written_to room (plan.write (select_boundaries parts low a))
  unfolding selected_from anchors_checks
  passing h = rw (lt-ltb (total a) (2 ^ 63) h)

  refused : 2 ^ 63 ≤ total a → selected_from parts low (answer a) room ≡ outcome.stop 7
  unfolding selected_from anchors_checks
  refused h = rw (le-ltb (total a) (2 ^ 63) h)

-- ---- selected
module _ {s keys bytes : List ℕ} {n : ℕ} {g : Got Anchors} {r : AnchorsRead} (f : AnchorsFound s keys bytes n g r) {sum next : ℕ} (q : r ≡ At sum next) where
  tabled : Tabled s keys bytes n sum next
  tabled = rw q at f.inside

  found : g ≡ got (anchors_in s keys bytes n) (drop next s)
  found = sym f.meaning ∙ rw q

  pub rows_there : Rows s keys n
  rows_there = tabled.rows

  pub bytes_wide : n ≤ length bytes
  bytes_wide = tabled.wide

  pub sum_total : sum < 9223372036854775808 → sum ≡ total (anchors_in s keys bytes n)
  sum_total h =
      tabled.sum_is
      ∙ least_exact (2 ^ 63) (total (anchors_in s keys bytes n)) (rw tabled.sum_is at h)

  total_below : sum < 9223372036854775808 → total (anchors_in s keys bytes n) < 2 ^ 63
  total_below h = rw (sum_total h) at h

  total_reached : 9223372036854775808 ≤ sum → 2 ^ 63 ≤ total (anchors_in s keys bytes n)
  total_reached h = least_reached (2 ^ 63) (total (anchors_in s keys bytes n)) (rw tabled.sum_is at h)

  some_left : next < length s → ended g ≡ outcome.stop 1
  some_left h = rw (found, drop-cons s next 0)

  none_left : length s ≤ next → ended g ≡ answer (anchors_in s keys bytes n)
  none_left h = rw (found, drop_of_length-le s {i = next} h)

pub sum_below : (sum : ℕ) → sum < 9223372036854775808 → sum < 2 ^ 63
sum_below sum h = omega arith

module _ (parts low : ℕ) (d : List ℕ) {s keys bytes : List ℕ} {n : ℕ} {g : Got Anchors} {r : AnchorsRead} (f : AnchorsFound s keys bytes n g r) where
  stop_is : {k : ℕ} → r ≡ Stop k → selected_from parts low (ended g) (length d) ≡ outcome.stop k
  unfolding selected_from
  stop_is q = rw (← f.meaning, q)

  pub read_stops : {k : ℕ} → r ≡ Stop k → WrittenStop k ≡ reported (selected_from parts low (ended g) (length d))
  read_stops q = stop_told d (stop_is q)

  pub read_keeps : {k : ℕ} → r ≡ Stop k → d ≡ lent d (selected_from parts low (ended g) (length d))
  read_keeps {k} q = stop_kept d {k = k} (stop_is q)

  module _ {sum next : ℕ} (q : r ≡ At sum next) where
    left_is : next < length s → selected_from parts low (ended g) (length d) ≡ outcome.stop 1
    unfolding selected_from
    left_is h = rw (some_left f q h)

    pub left_stops : next < length s → WrittenStop 1 ≡ reported (selected_from parts low (ended g) (length d))
    left_stops h = stop_told d (left_is h)

    pub left_keeps : next < length s → d ≡ lent d (selected_from parts low (ended g) (length d))
    left_keeps h = stop_kept d {k = 1} (left_is h)

    module _ (h : length s ≤ next) where
      many_is : 9223372036854775808 ≤ sum → selected_from parts low (ended g) (length d) ≡ outcome.stop 7
      many_is k =
          ap (λ o. selected_from parts low o (length d)) (none_left f q h)
          ∙ refused parts low (length d) (anchors_in s keys bytes n) (total_reached f q k)

      pub many_stops : 9223372036854775808 ≤ sum → WrittenStop 7 ≡ reported (selected_from parts low (ended g) (length d))
      many_stops k = stop_told d (many_is k)

      pub many_keeps : 9223372036854775808 ≤ sum → d ≡ lent d (selected_from parts low (ended g) (length d))
      many_keeps k = stop_kept d {k = 7} (many_is k)

      module _ (k : sum < 9223372036854775808) where
        plan_is : selected_from parts low (ended g) (length d) ≡ written_to (length d) (plan.write (select_boundaries parts low (anchors_in s keys bytes n)))
        plan_is =
            ap (λ o. selected_from parts low o (length d)) (none_left f q h)
            ∙ passing parts low (length d) (anchors_in s keys bytes n) (total_below f q k)

        pub plan_answers : {w : Written} → w ≡ reported (written_to (length d) (plan.write (select_boundaries parts low (anchors_in s keys bytes n)))) → w ≡ reported (selected_from parts low (ended g) (length d))
        plan_answers e = e ∙ sym (ap reported plan_is)

        pub plan_lends : {x : List ℕ} → x ≡ lent d (written_to (length d) (plan.write (select_boundaries parts low (anchors_in s keys bytes n)))) → x ≡ lent d (selected_from parts low (ended g) (length d))
        plan_lends e = e ∙ sym (ap (lent d) plan_is)

pub ruleset selected_exits = (rows_there, bytes_wide, sum_total, sum_below, read_stops, read_keeps, left_stops, left_keeps, many_stops, many_keeps, plan_answers, plan_lends)

-- ---- select_boundaries
module _ {s : List ℕ} {r : CountRead} (f : CountFound s ((up_to 2 4096).read (drop 0 s)) r) {n first : ℕ} (q : r ≡ CountAt n first) where
  pub anchors_place : first ≤ length s
  anchors_place = rw q at f.inside

  pub anchors_most : n ≤ 4096
  anchors_most = count_within 4096 (read_number 2 (drop 0 s)) n (drop first s) (rw q at f.meaning)

module _ (parts low : ℕ) (s d : List ℕ) where
  parts_is : 64 < parts → select_boundaries_outcome parts low s (length d) ≡ outcome.stop 3
  unfolding select_boundaries_outcome
  parts_is h = rw (lt-leb parts 64 h)

  pub parts_stop : 64 < parts → WrittenStop 3 ≡ reported (select_boundaries_outcome parts low s (length d))
  parts_stop h = stop_told d (parts_is h)

  pub parts_keep : 64 < parts → d ≡ lent d (select_boundaries_outcome parts low s (length d))
  parts_keep h = stop_kept d {k = 3} (parts_is h)

  module _ (h : parts ≤ 64) where
    opened : select_boundaries_outcome parts low s (length d) ≡ selected_from parts low (whole anchors.read s) (length d)
    unfolding select_boundaries_outcome anchors_given selected_from
    opened = rw (le-leb parts 64 h)

    long_is : 65536 < length s → select_boundaries_outcome parts low s (length d) ≡ outcome.stop 3
    unfolding whole selected_from
    long_is l = opened ∙ rw (lt-leb (length s) 65536 l)

    pub long_stop : 65536 < length s → WrittenStop 3 ≡ reported (select_boundaries_outcome parts low s (length d))
    long_stop l = stop_told d (long_is l)

    pub long_keep : 65536 < length s → d ≡ lent d (select_boundaries_outcome parts low s (length d))
    long_keep l = stop_kept d {k = 3} (long_is l)

    module _ (l : length s ≤ 65536) {r : CountRead} (f : CountFound s ((up_to 2 4096).read (drop 0 s)) r) where
      read_is : select_boundaries_outcome parts low s (length d) ≡ selected_from parts low (ended (anchors.read s)) (length d)
      unfolding whole
      read_is = opened ∙ rw (le-leb (length s) 65536 l)

      count_is : {k : ℕ} → r ≡ CountStop k → select_boundaries_outcome parts low s (length d) ≡ outcome.stop k
      unfolding selected_from
      count_is q = read_is ∙ rw (anchors_is s, ← f.meaning, q)

      pub count_stop : {k : ℕ} → r ≡ CountStop k → WrittenStop k ≡ reported (select_boundaries_outcome parts low s (length d))
      count_stop q = stop_told d (count_is q)

      pub count_keep : {k : ℕ} → r ≡ CountStop k → d ≡ lent d (select_boundaries_outcome parts low s (length d))
      count_keep {k} q = stop_kept d {k = k} (count_is q)

      module _ {n first : ℕ} (q : r ≡ CountAt n first) where
        counted_is : select_boundaries_outcome parts low s (length d) ≡ selected_from parts low (ended (read_many anchor.read n (drop first s))) (length d)
        counted_is = read_is ∙ rw (anchors_is s, ← f.meaning, q)

        pub counted_answers : {w : Written} → w ≡ reported (selected_from parts low (ended (read_many anchor.read n (drop first s))) (length d)) → w ≡ reported (select_boundaries_outcome parts low s (length d))
        counted_answers e = e ∙ sym (ap reported counted_is)

        pub counted_lends : {x : List ℕ} → x ≡ lent d (selected_from parts low (ended (read_many anchor.read n (drop first s))) (length d)) → x ≡ lent d (select_boundaries_outcome parts low s (length d))
        counted_lends e = e ∙ sym (ap (lent d) counted_is)

pub ruleset select_exits = (anchors_place, anchors_most, parts_stop, parts_keep, long_stop, long_keep, count_stop, count_keep, counted_answers, counted_lends)
