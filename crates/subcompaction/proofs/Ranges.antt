-- Ranges from ascending keys: each key of any length is held once, they meet, and they may be the parts of a job.
-- Assumes nothing.
use Prim.Native.Nat.{ℕ, suc, ◌+◌, ◌≤◌, max}
use native.Mathlib.Omega.{arith}
use mathlib.Core.Path.{◌≡◌, refl, sym, ap, ◌∙◌}
use mathlib.Core.Logic.{inl, inr}
use mathlib.Core.Bool.{Bool, true, false, ◌&&◌}
use mathlib.Core.List.{List, [], ◌∷◌, map}
use lib.ListN.{length}
use Rattle.base.specs.Lists.{All, Pairwise, All-of}
use Rattle.base.specs.Pick.{pick}
use Rattle.base.specs.SortLaws.{decided}
use Rattle.key.specs.Order.{Key, key_at_most, key_below}
use Rattle.comparable_range.specs.Range.{Bound, unbounded, included, excluded, non_empty, bounds_pass, start_holds, end_holds, holds}
use Rattle.comparable_range.specs.Cut.{Cut, below, before, cut_at_most, ◌≼◌, start_cut}
use Rattle.comparable_range.proofs.Cut.{≼_refl, ≼_trans, ≺-≼}
use Rattle.comparable_range.proofs.ByCuts.{start_holds_by_cuts, passes-≺}
use Rattle.records.specs.Values.{Anchors}
use Rattle.manifest.specs.Checks.{is_excluded}
use Rattle.incremental_progress.specs.Checks.{planned_from}
use Rattle.subcompaction.specs.Boundaries.{chosen, ranges_from, select_boundaries}
use Rattle.subcompaction.specs.PlanLaws.{holders, PlannedRangesHoldEachKeyOnce, OneToPartsResult, Meeting, last_range, then_range, FromTheLeast, least_start, RangesMeetAtBoundaries, part_of, MayBeParts, PlannedRangesMayBeParts}
use Rattle.key.proofs.KeyOrder.{not_below_lem, below_of}
use Rattle.subcompaction.proofs.Boundaries.{chosen_ascend, chosen_few}

-- keys that ascend from a start on
pub record Ascending (s : Bound) (ks : List Key) : Type 0 where
  pub above : All (λ k. bounds_pass s (excluded k) ≡ true) ks
  pub pairs : Pairwise (λ k l. key_below k l ≡ true) ks

next_ascending : {s : Bound} {k : Key} {ks : List Key} → Ascending s (k ∷ ks) → Ascending (included k) ks
unfolding bounds_pass
next_ascending a = record { above = a.pairs.0; pairs = a.pairs.1 }

-- ---- each key is held once
-- a key at or after one above a start is at or after the start
after_start : (s : Bound) (k x : Key) → bounds_pass s (excluded k) ≡ true → key_at_most k x ≡ true → start_holds s x ≡ true
unfolding start_holds
after_start s k x h m =
    let c : before k ≼ before x = record { holds = sym (start_holds_by_cuts (included k) x) ∙ m } in
    start_holds_by_cuts s x ∙ (≼_trans (≺-≼ (passes-≺ s (excluded k) h)) c).holds

-- of a range and those after it
one_of_two : (t : Bool) (n : ℕ) → n ≡ 0 → pick (t && true) 1 0 + n ≡ pick t 1 0
one_of_two true n e = omega arith
one_of_two false n e = omega arith

none_of_two : (t : Bool) (n : ℕ) → t ≡ true → n ≡ 1 → pick (t && false) 1 0 + n ≡ pick t 1 0
none_of_two true n h e = omega arith
none_of_two false n h e = cc

holders_from : (s : Bound) (ks : List Key) (x : Key) → Ascending s ks → holders x (ranges_from s ks) ≡ pick (start_holds s x) 1 0
unfolding holders ranges_from holds end_holds start_holds
holders_from s [] x a = one_of_two (start_holds s x) 0 refl
holders_from s (k ∷ ks) x a =
    let t = holders_from (included k) ks x (next_ascending a) in
    elim (decided (key_at_most k x)) [
      | inl h ↦ rw (not_below_lem x k h) (none_of_two (start_holds s x) (holders x (ranges_from (included k) ks)) (after_start s k x a.above.0 h) (t ∙ rw h))
      | inr h ↦ rw (below_of x k h) (one_of_two (start_holds s x) (holders x (ranges_from (included k) ks)) (t ∙ rw h))
    ]

-- ---- how many, and how they meet
pub ranges_count : (s : Bound) (ks : List Key) → length (ranges_from s ks) ≡ suc (length ks)
unfolding ranges_from
ranges_count s [] = refl
ranges_count s (k ∷ ks) = ap suc (ranges_count (included k) ks)

meeting : (s : Bound) (ks : List Key) → Meeting (ranges_from s ks)
unfolding ranges_from
meeting s [] = last_range refl
meeting s (k ∷ []) = then_range refl refl (meeting (included k) [])
meeting s (k ∷ l ∷ ks) = then_range refl refl (meeting (included k) (l ∷ ks))

from_the_least : (ks : List Key) → FromTheLeast (ranges_from unbounded ks)
unfolding ranges_from
from_the_least [] = least_start refl
from_the_least (k ∷ ks) = least_start refl

-- ---- they may be parts
open_ended : (s : Bound) → bounds_pass s unbounded ≡ true
unfolding bounds_pass
open_ended unbounded = refl
open_ended (included k) = refl
open_ended (excluded k) = refl

each_passes : (s : Bound) (ks : List Key) → Ascending s ks → All (λ r. non_empty r ≡ true) (ranges_from s ks)
unfolding ranges_from
each_passes s [] a = (open_ended s, tt)
each_passes s (k ∷ ks) a = (a.above.0, each_passes (included k) ks (next_ascending a))

in_order_from : (c : Cut) (s : Bound) (ks : List Key) → is_excluded s ≡ false → cut_at_most c (start_cut s) ≡ true → planned_from c (map part_of (ranges_from s ks)) ≡ true
unfolding ranges_from planned_from
in_order_from c s [] e h = rw (e, h)
in_order_from c s (k ∷ ks) e h = rw (e, h) (in_order_from (before k) (included k) ks refl (≼_refl (before k)).holds)

-- ---- those planned
module _ (parts least : ℕ) (a : Anchors) where
  planned_ascending : Ascending unbounded (chosen parts least a)
  unfolding bounds_pass
  planned_ascending = record { above = All-of (λ k. refl) (chosen parts least a); pairs = chosen_ascend parts least a }

  planned_once : (x : Key) → holders x (select_boundaries parts least a) ≡ 1
  unfolding select_boundaries start_holds
  planned_once x = holders_from unbounded (chosen parts least a) x planned_ascending

  planned_few : (1 ≤ length (select_boundaries parts least a)) × (length (select_boundaries parts least a) ≤ max 1 parts)
  unfolding select_boundaries
  planned_few =
      let n = ranges_count unbounded (chosen parts least a) in
      let m = chosen_few parts least a in
      (omega arith, omega arith)

  planned_parts : MayBeParts (select_boundaries parts least a)
  unfolding select_boundaries
  planned_parts =
      record {
        pass = each_passes unbounded (chosen parts least a) planned_ascending;
        in_order = in_order_from below unbounded (chosen parts least a) refl (≼_refl below).holds;
      }

  planned_meet : FromTheLeast (select_boundaries parts least a) × Meeting (select_boundaries parts least a)
  unfolding select_boundaries
  planned_meet = (from_the_least (chosen parts least a), meeting unbounded (chosen parts least a))

pub planned_ranges_hold_each_key_once : PlannedRangesHoldEachKeyOnce
planned_ranges_hold_each_key_once = planned_once

pub one_to_parts_result : OneToPartsResult
one_to_parts_result = planned_few

pub ranges_meet_at_boundaries : RangesMeetAtBoundaries
ranges_meet_at_boundaries = planned_meet

pub planned_ranges_may_be_parts : PlannedRangesMayBeParts
planned_ranges_may_be_parts = planned_parts
