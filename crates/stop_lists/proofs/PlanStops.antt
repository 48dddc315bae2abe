-- The stops of the calls that plan are in their lists.
-- Assumes nothing.
use Prim.Native.Nat.{ℕ, ◌^◌}
use mathlib.Core.Path.{refl}
use mathlib.Core.List.{List}
use lib.ListN.{length}
use lib.Dec.{leb, ltb}
use Rattle.comparable_range.specs.Range.{non_empty}
use Rattle.format.specs.Range.{read_range}
use Rattle.format.specs.Whole.{whole}
use Rattle.records.specs.Form.{read_many, many}
use Rattle.records.specs.Layouts.{image, index, anchors, plan}
use Rattle.manifest.specs.Checks.{has, joined, total, image_checks, index_checks, anchors_checks}
use Rattle.partitioned_keyspace.specs.Asked.{asked_checks}
use Rattle.subcompaction.specs.Boundaries.{select_boundaries}
use Rattle.subcompaction.specs.PlanCalls.{views, sampled, sampled_checks, anchors_sampled, anchors_given, ranges_planned, sample_anchors_outcome, select_boundaries_outcome, plan_subcompaction_ranges_outcome}
use Rattle.incremental_progress.specs.Repeated.{StopsIn}
use Rattle.incremental_progress.proofs.Repeated.{answers}
use Rattle.stop_lists.specs.Stops.{sample_anchors_stops, select_boundaries_stops, plan_subcompaction_ranges_stops}
use Rattle.stop_lists.proofs.Stopping.{checks, and-then, written, ReadsKeys, anchors_stops, index_stops, many_stops, whole_stops}
use Rattle.stop_lists.proofs.GivenStops.{whole_range, three_listed, seven_listed, checked_stops, whole_image}

-- ---- anchors
anchors_sampled_lem : (most data_end : ℕ) (l q : List ℕ) → StopsIn sample_anchors_stops (anchors_sampled most data_end l q)
unfolding anchors_sampled index_checks asked_checks has
anchors_sampled_lem most data_end l q =
    and-then (whole index.read l) (whole_stops three_listed.keys index (index_stops three_listed.keys) l) (λ x.
    and-then (whole read_range q) (whole_range three_listed q) (λ r.
    checks 4 (non_empty r) refl (λ _. checks 6 (joined (index_checks x) (asked_checks r)).order refl (λ _. answers _))))

pub sample_anchors_stops_lem : (most data_end : ℕ) (l q : List ℕ) (room : ℕ) → StopsIn sample_anchors_stops (sample_anchors_outcome most data_end l q room)
unfolding sample_anchors_outcome has
sample_anchors_stops_lem most data_end l q room =
    checks 3 (leb most 4096) refl (λ _.
    and-then (anchors_sampled most data_end l q) (anchors_sampled_lem most data_end l q) (λ a. written room (anchors.write a) refl))

-- ---- boundaries
keys_listed : ReadsKeys select_boundaries_stops
unfolding has
keys_listed = record { one = refl; three = refl }

anchors_given_lem : (l : List ℕ) → StopsIn select_boundaries_stops (anchors_given l)
unfolding anchors_given anchors_checks has
anchors_given_lem l =
    and-then (whole anchors.read l) (whole_stops keys_listed anchors (anchors_stops keys_listed) l) (λ a.
    checks 7 (ltb (total a) (2 ^ 63)) refl (λ _. answers a))

pub select_boundaries_stops_lem : (parts least : ℕ) (l : List ℕ) (room : ℕ) → StopsIn select_boundaries_stops (select_boundaries_outcome parts least l room)
unfolding select_boundaries_outcome has
select_boundaries_stops_lem parts least l room =
    checks 3 (leb parts 64) refl (λ _.
    and-then (anchors_given l) (anchors_given_lem l) (λ a. written room (plan.write (select_boundaries parts least a)) refl))

-- ---- the whole planner
ranges_planned_lem : (parts : ℕ) (l m : List ℕ) → StopsIn plan_subcompaction_ranges_stops (ranges_planned parts l m)
unfolding ranges_planned has
ranges_planned_lem parts l m =
    and-then (whole image.read l) (whole_image seven_listed l) (λ i.
    and-then (whole (read_many index.read (length (views i))) m) (whole_stops three_listed.keys (many index (length (views i))) (many_stops (length (views i)) (index_stops three_listed.keys)) m) (λ xs.
    checked_stops seven_listed (joined (image_checks i) (sampled_checks (views i) xs)) (λ _.
    checks 15 (leb (length (sampled (views i) xs)) 4096) refl (λ _. answers _))))

pub plan_stops : (parts : ℕ) (l m : List ℕ) (room : ℕ) → StopsIn plan_subcompaction_ranges_stops (plan_subcompaction_ranges_outcome parts l m room)
unfolding plan_subcompaction_ranges_outcome has
plan_stops parts l m room =
    checks 3 (leb parts 64) refl (λ _.
    and-then (ranges_planned parts l m) (ranges_planned_lem parts l m) (λ p. written room (plan.write p) refl))
