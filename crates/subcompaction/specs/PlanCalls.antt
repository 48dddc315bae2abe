-- The outcome of each call that plans: the settings, the checks in their order, then the answer.
use Rattle.std.specs.Prelude.{ℕ, ◌^◌, max, true, length, leb, ltb}
use mathlib.Core.List.{List, [], ◌∷◌, ◌++◌, flat_map}
use Rattle.base.specs.Outcome.{Outcome, answer, and_then, check, written_to}
use Rattle.format.specs.Range.{read_range}
use Rattle.format.specs.Whole.{whole}
use Rattle.records.specs.Form.{read_many}
use Rattle.records.specs.Values.{View, Image, Index, Anchors, Plan}
use Rattle.records.specs.Layouts.{image, index, anchors, plan}
use Rattle.manifest.specs.Ranges.{effective}
use Rattle.manifest.specs.Checks.{Checks, checked, joined, all, total, image_checks, index_checks, anchors_checks}
use Rattle.partitioned_keyspace.specs.Asked.{asked_checks}
use Rattle.visible_size.specs.Sizes.{raw_size}
use Rattle.subcompaction.specs.Anchors.{sample_anchors}
use Rattle.subcompaction.specs.Boundaries.{select_boundaries}

-- ---- sample_anchors
unfoldable pub anchors_sampled : ℕ → ℕ → List ℕ → List ℕ → Outcome Anchors
anchors_sampled most data_end l q =
    and_then (whole index.read l) (λ x. and_then (whole read_range q) (λ r. checked (joined (index_checks x) (asked_checks r)) (answer (sample_anchors most data_end x r))))

unfoldable pub sample_anchors_outcome : ℕ → ℕ → List ℕ → List ℕ → ℕ → Outcome (List ℕ)
sample_anchors_outcome most data_end l q room =
    check 3 (leb most 4096) (and_then (anchors_sampled most data_end l q) (λ a. written_to room (anchors.write a)))

-- ---- select_boundaries
unfoldable pub anchors_given : List ℕ → Outcome Anchors
anchors_given l = and_then (whole anchors.read l) (λ a. checked (anchors_checks a) (answer a))

unfoldable pub select_boundaries_outcome : ℕ → ℕ → List ℕ → ℕ → Outcome (List ℕ)
select_boundaries_outcome parts least l room =
    check 3 (leb parts 64) (and_then (anchors_given l) (λ a. written_to room (plan.write (select_boundaries parts least a))))

-- ---- plan_subcompaction_ranges
abbrev pub views : Image → List View
views i = flat_map (λ r. r.views) i

-- "128 anchors a table", of each view's table those that its effective range holds; data end at the filter's offset
unfoldable pub sampled : List View → List Index → Anchors
sampled [] xs = []
sampled (v ∷ vs) [] = []
sampled (v ∷ vs) (x ∷ xs) = sample_anchors 128 v.table.filter_offset x (effective v) ++ sampled vs xs

-- the least range bytes: the largest raw size
unfoldable pub largest_size : List View → ℕ
largest_size [] = 0
largest_size (v ∷ vs) = max (raw_size v.table) (largest_size vs)

unfoldable pub plan_subcompaction_ranges : ℕ → List View → List Index → Plan
plan_subcompaction_ranges parts vs xs = select_boundaries parts (largest_size vs) (sampled vs xs)

-- of the index images 6 each, and 7 of what is sampled
unfoldable pub sampled_checks : List View → List Index → Checks
sampled_checks vs xs =
    record { ranges = true; tables = true; order = all (λ x. (index_checks x).order) xs; sizes = ltb (total (sampled vs xs)) (2 ^ 63) }

-- the image with one index image a view, laid end to end; "All checks come before the answer for parts ≤ 1."
unfoldable pub ranges_planned : ℕ → List ℕ → List ℕ → Outcome Plan
ranges_planned parts l m =
    and_then (whole image.read l) (λ i. and_then (whole (read_many index.read (length (views i))) m) (λ xs.
    checked (joined (image_checks i) (sampled_checks (views i) xs))
    (check 15 (leb (length (sampled (views i) xs)) 4096) (answer (plan_subcompaction_ranges parts (views i) xs)))))

unfoldable pub plan_subcompaction_ranges_outcome : ℕ → List ℕ → List ℕ → ℕ → Outcome (List ℕ)
plan_subcompaction_ranges_outcome parts l m room =
    check 3 (leb parts 64) (and_then (ranges_planned parts l m) (λ p. written_to room (plan.write p)))
