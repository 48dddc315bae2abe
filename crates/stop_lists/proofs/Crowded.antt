-- A commit whose result has 1,025 views in a run: two parts, completed, with 1,024 outputs and one.
-- Assumes nothing.
use Prim.Native.Nat.{ℕ, zero, suc, ◌≤◌}
use native.Mathlib.Omega.{arith}
use mathlib.Core.Path.{◌≡◌, refl}
use mathlib.Core.Bool.{true}
use lib.Dec.{leb}
use lib.ListN.{length}
use Rattle.format.specs.Number.{read_number, write_number}
use Rattle.format.specs.Key.{write_key}
use Rattle.format.specs.Range.{write_bound, write_range}
use Rattle.records.specs.Form.{Form, present, none_left, one_more, All, write_if, read_many, write_many}
use Rattle.records.specs.Laws.{Lawful}
use Rattle.records.proofs.RecordLayouts.{job_layout}
use Rattle.format.specs.Whole.{whole}
use Rattle.records.specs.Layouts.{count_of, view_count_of, table, run, image, part, job}
use mathlib.Core.Option.{some}
use mathlib.Core.List.{List, [], ◌∷◌, flat_map, append-nil}
use Rattle.base.specs.Outcome.{stop, answer}
use Rattle.base.specs.Sort.{sort, insert}
use Rattle.key.specs.Order.{Key, cmp_key, cmp_number}
use Rattle.key.specs.Word.{digits}
use Rattle.comparable_range.specs.Range.{unbounded, included, excluded, cmp_bound, bounds_pass, start_side, end_side, intersect_sides}
use Rattle.comparable_range.specs.Cut.{cmp_cut, cut_at_most}
use Rattle.records.specs.Values.{Table, Image, Part, Job}
use Rattle.manifest.specs.Ranges.{effective}
use Rattle.manifest.specs.Checks.{all, visible_passes, keys_in_order, table_passes, ascend_from, has, distinct, size_passes, image_checks, job_checks}
use Rattle.incremental_progress.specs.Checks.{destination_is_source, sources_there, planned_from, planned_in_order, outputs_from, outputs_inside, outputs_in_order, covered, output_views_covered, retained_meets, retained_meet}
use Rattle.incremental_progress.specs.Jobs.{among, is_output, others, left_entries, with_outputs}
use Rattle.incremental_progress.specs.Intervals.{part_before, part_from, subtract_from, cut_out}
use Rattle.incremental_progress.specs.Parts.{last_written, is_key, up_to_key, durable, intervals, open_key}
use Rattle.incremental_progress.specs.Entries.{output_entries, part_entries, view_entries, run_entries}
use Rattle.incremental_progress.specs.Draws.{tens, supply, draw, fill_all, fill_views, fill_runs, fill_commit}
use Rattle.incremental_progress.specs.Views.{same_range}
use Rattle.incremental_progress.specs.Commit.{result_fits, drawn_image, job_checked, applied, committed, commit_outcome}

abbrev pub zeros : ℕ → List ℕ
zeros zero = []
zeros (suc n) = 0 ∷ zeros n

abbrev copies : ℕ → Table → List Table
copies zero t = []
copies (suc n) t = t ∷ copies n t

abbrev point : Key → Table
point k =
    record { id = record { 0 = zeros 16 }; index_offset = 0; index_len = 0; filter_offset = 0; first = k; last = some k }

abbrev b : Key
b = 98 ∷ []

abbrev full : Part
full = record { planned = record { start = unbounded; end = excluded b }; completed = true; outputs = copies 1024 (point []) }

abbrev one_more_part : Part
one_more_part = record { planned = record { start = included b; end = unbounded }; completed = true; outputs = point b ∷ [] }

abbrev pub crowd : Job
crowd = record { destination = 7; sources = 7 ∷ []; parts = full ∷ one_more_part ∷ [] }

abbrev pub bare : Image
bare = record { id = 7; views = [] } ∷ []

crowded : committed bare crowd [] ≡ stop 15
unfolding cmp_cut cut_at_most cmp_number cmp_key cmp_bound bounds_pass start_side end_side intersect_sides effective all visible_passes keys_in_order table_passes ascend_from has distinct size_passes image_checks job_checks destination_is_source sources_there planned_from planned_in_order outputs_from outputs_inside outputs_in_order covered output_views_covered retained_meets retained_meet among is_output others part_before part_from subtract_from cut_out last_written is_key up_to_key durable intervals open_key output_entries part_entries view_entries run_entries tens supply draw left_entries with_outputs fill_all fill_views fill_runs fill_commit same_range sort insert result_fits drawn_image job_checked applied committed flat_map
crowded = refl

short : leb (length (job.write crowd)) 65536 ≡ true
unfolding write_number write_key write_bound write_range write_if write_many table part job
short = refl

-- ---- the record is read back from its writing
point_within : (k : Key) → length k ≤ 1024 → table.Within (point k)
unfolding table
point_within k h =
    record {
      first = refl;
      second = record {
        first = omega arith;
        second = record {
          first = omega arith;
          second = record { first = omega arith; second = record { first = tt; second = record { first = h; second = present h } } };
        };
      };
    }

copies_within : (t : Table) → table.Within t → (n : ℕ) → All table (length (copies n t)) (copies n t)
copies_within t w zero = none_left
copies_within t w (suc n) = one_more w (copies_within t w n)

crowd_within : job.Within crowd
unfolding job part
crowd_within =
    record {
      first = omega arith;
      second = record {
        first = record { first = omega arith; second = one_more {a = 7} (omega arith) none_left };
        second = record {
          first = omega arith;
          second =
              one_more {a = full} (record {
                first = record { start = tt; end = omega arith };
                second = record { first = omega arith; second = copies_within (point []) (point_within [] (omega arith)) 1024 };
              })
              (one_more {a = one_more_part} (record {
                first = record { start = omega arith; end = tt };
                second = record { first = omega arith; second = one_more (point_within b (omega arith)) none_left };
              })
              none_left);
        };
      };
    }

pub written_back : {A : Type 0} (f : Form A) → Lawful f → (v : A) → f.Within v → leb (length (f.write v)) 65536 ≡ true → whole f.read (f.write v) ≡ answer v
unfolding whole
written_back f L v w h = rw (h, ← append-nil (f.write v), L.back v [] w)

crowd_read : whole job.read (job.write crowd) ≡ answer crowd
crowd_read = written_back job job_layout crowd crowd_within short

bare_read : whole image.read (image.write bare) ≡ answer bare
unfolding digits read_number write_number whole read_many write_many count_of view_count_of run image
bare_read = refl

pub crowd_is_refused : commit_outcome (image.write bare) (job.write crowd) [] 0 ≡ stop 15
unfolding commit_outcome
crowd_is_refused = rw (bare_read, crowd_read, crowded)
