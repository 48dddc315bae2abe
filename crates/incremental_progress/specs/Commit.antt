-- The outcome of a commit: one function of the contents of image, job and id supply and of the length of the output buffer.
use Rattle.std.specs.Prelude.{ℕ, Bool, ◌&&◌, List, leb, length}
use Rattle.base.specs.Outcome.{Outcome, stop, answer, check, and_then, written_to}
use Rattle.format.specs.Whole.{whole}
use Rattle.records.specs.Values.{Run, Image, Job}
use Rattle.records.specs.Layouts.{image, job}
use Rattle.manifest.specs.Checks.{all, checked, joined, image_checks, job_checks}
use Rattle.incremental_progress.specs.Checks.{destination_is_source, sources_there, planned_in_order, outputs_in_order, output_views_covered, retained_meet}
use Rattle.incremental_progress.specs.Draws.{Drawn, used_up, got, supply, fill_commit}

-- 14: the id supply is used up with an id still to draw
abbrev pub drawn_or : {A : Type 0} → Drawn A → Outcome A
drawn_or used_up = stop 14
drawn_or (got a s) = answer a

-- 15: a result has over 1,024 views in a run, or is an image over 65,536 bytes
unfoldable pub result_fits : Image → Bool
result_fits i = all (λ r. leb (length r.views) 1024) i && leb (length (image.write i)) 65536

-- 14 and 15, on what was drawn
unfoldable pub drawn_image : Drawn Image → Outcome Image
drawn_image d = and_then (drawn_or d) (λ new. check 15 (result_fits new) (answer new))

-- the checks 8 to 13, each over all input before the next, and what comes after them
unfoldable pub job_checked : {A : Type 0} → Image → Job → Outcome A → Outcome A
job_checked i j rest =
    check 8 (destination_is_source j)
    (check 9 (sources_there i j)
    (check 10 (planned_in_order j)
    (check 11 (outputs_in_order j)
    (check 12 (output_views_covered i j)
    (check 13 (retained_meet i j)
    rest)))))

-- from check 8 on
unfoldable pub applied : Image → Job → List ℕ → Outcome Image
applied i j ids = job_checked i j (drawn_image (fill_commit j i (supply ids)))

-- the checks 4 to 7 cover the image and the job
unfoldable pub committed : Image → Job → List ℕ → Outcome Image
committed i j ids = checked (joined (image_checks i) (job_checks j)) (applied i j ids)

unfoldable pub commit_outcome : List ℕ → List ℕ → List ℕ → ℕ → Outcome (List ℕ)
commit_outcome given record' ids room =
    and_then (whole image.read given) (λ i. and_then (whole job.read record') (λ j. and_then (committed i j ids) (λ new. written_to room (image.write new))))
