-- The checks 10 and 11 of a job's parts, as the code finds them: the number of the first that fails.
use Rattle.std.specs.Prelude.{ℕ, Bool, ◌&&◌, List}
use Rattle.base.specs.Pick.{pick}
use Rattle.comparable_range.specs.Range.{Range}
use Rattle.comparable_range.specs.Cut.{Cut, below, before, cut_at_most, start_cut}
use Rattle.records.specs.Values.{Table, Part}
use Rattle.manifest.specs.Checks.{all}
use Rattle.incremental_progress.specs.Checks.{half_open, planned_from, ends_by, outputs_inside}

-- ---- 10 of one part, after a cut
unfoldable pub planned_after : Cut → Range → Bool
planned_after c r = half_open r && cut_at_most c (start_cut r.start)

-- ---- 11 of one output, between two cuts
unfoldable pub output_between : Cut → Cut → Table → Bool
output_between e c t = cut_at_most c (before t.first) && ends_by e t.last

-- ---- 10 and 11 of a job's parts: 10, 11, or 12 if none fails
unfoldable pub parts_fault : List Part → ℕ
parts_fault ps = pick (planned_from below ps) (pick (all outputs_inside ps) 12 11) 10
