-- The stages that the code goes through give the outcome as it is defined.
-- Assumes nothing.
use Prim.Native.Nat.{ℕ, ◌<◌, ◌≤◌}
use native.Mathlib.Omega.{arith}
use mathlib.Core.Path.{◌≡◌, refl, sym, ap, ◌∙◌}
use mathlib.Core.Bool.{Bool, true, false}
use mathlib.Core.List.{List}
use lib.ListN.{length}
use Rattle.base.specs.Pick.{pick}
use Rattle.base.specs.Outcome.{Outcome, stop, check, and_then, written_to, lent, reported}
use Rattle.base.specs.declared.Written.{Written}
use Rattle.base.specs.declared.Written.TheVariants.{Stop}
use Rattle.records.specs.Values.{Image, Job}
use Rattle.records.specs.Layouts.{image}
use Rattle.incremental_progress.specs.Checks.{destination_is_source, sources_there, planned_in_order, outputs_in_order, output_views_covered}
use Rattle.incremental_progress.specs.Draws.{supply, fill_commit}
use Rattle.incremental_progress.specs.Gaps.{gap_commit}
use Rattle.incremental_progress.specs.Commit.{drawn_image, job_checked, applied}
use Rattle.incremental_progress.specs.Laws.{JobPasses}
use Rattle.incremental_progress.proofs.GapCommit.{commit_by_gaps}
use Rattle.incremental_progress.proofs.ProgressLaws.{retained_always_meets}
use Rattle.commit_index.specs.Index.{image_of}
use Rattle.commit_durable.specs.Tables.{job_of}
use Rattle.commit_durable.specs.declared.jobs.JobHead.{JobHead}
use Rattle.commit_covered.proofs.ByGaps.{covered_by_gaps}
use Rattle.commit.specs.Stages.{applied_outcome, drawn_outcome, covered_outcome, progress_fault, Given, Read, StageHeld}

-- ---- the checks 8 to 11
record Four (a b c d : Bool) : Type 0 where
  one : a ≡ true
  two : b ≡ true
  three : c ≡ true
  four : d ≡ true

first_fault_lem : (a b c d : Bool) (o : Outcome Image) → pick a (pick b (pick c (pick d 12 11) 10) 9) 8 < 12 → check 8 a (check 9 b (check 10 c (check 11 d o))) ≡ stop (pick a (pick b (pick c (pick d 12 11) 10) 9) 8)
first_fault_lem true true true true o h = absurd (omega arith)
first_fault_lem true true true false o h = refl
first_fault_lem true true false d o h = refl
first_fault_lem true false c d o h = refl
first_fault_lem false b c d o h = refl

no_fault : (a b c d : Bool) → 12 ≤ pick a (pick b (pick c (pick d 12 11) 10) 9) 8 → Four a b c d
no_fault true true true true h = record { one = refl; two = refl; three = refl; four = refl }
no_fault true true true false h = absurd (omega arith)
no_fault true true false d h = absurd (omega arith)
no_fault true false c d h = absurd (omega arith)
no_fault false b c d h = absurd (omega arith)

module _ {given record' index parts : List ℕ} {n : ℕ} {h : JobHead} (p : Given given record' index parts n h) where
  abbrev i : Image
  i = image_of given

  abbrev j : Job
  j = job_of record'

  module _ {f : ℕ} (e : f ≡ progress_fault i j) where
    module _ (ids out : List ℕ) (k : f < 12) where
      refused : applied_outcome i j ids (length out) ≡ stop f
      unfolding applied_outcome applied job_checked progress_fault
      refused = ap (λ o. and_then o (λ new. written_to (length out) (image.write new))) (first_fault_lem (destination_is_source j) (sources_there i j) (planned_in_order j) (outputs_in_order j) _ (rw e at k)) ∙ ap stop (sym e)

      pub apply_stops : Stop f ≡ reported (applied_outcome i j ids (length out))
      apply_stops = sym (ap reported refused)

      pub apply_kept : out ≡ lent out (applied_outcome i j ids (length out))
      apply_kept = sym (ap (lent out) refused)

    module _ (k : 12 ≤ f) where
      all_four : Four (destination_is_source j) (sources_there i j) (planned_in_order j) (outputs_in_order j)
      unfolding progress_fault
      all_four = no_fault (destination_is_source j) (sources_there i j) (planned_in_order j) (outputs_in_order j) (rw e at k)

      job_passes : JobPasses j
      job_passes = record { ranges = p.ranges; tables = p.tables; planned = all_four.three; outputs = all_four.four }

      pub apply_read : Read given record'
      apply_read =
          record {
            there = p.there;
            passed = p.passed;
            small_job = let s = p.small_job in omega arith;
            job_bytes = p.job_bytes;
            job = job_passes;
            destination = all_four.one;
            sources = all_four.two;
          }

      pub apply_held : StageHeld given record' index parts (record { destination = h.destination; sources = h.sources; from = h.from; parts = h.parts; runs = n })
      apply_held =
          record {
            destination = p.told.destination;
            sources = p.told.sources;
            sources_within = p.told.sources_within;
            parts_are = p.parts_are;
            runs_are = p.runs_are;
          }

      module _ (ids out : List ℕ) where
        stages_are : applied_outcome i j ids (length out) ≡ covered_outcome given record' ids (length out)
        unfolding applied_outcome applied job_checked drawn_outcome
        stages_are =
            rw (covered_by_gaps j job_passes i p.passed.tables, all_four.one, all_four.two, all_four.three, all_four.four, retained_always_meets i j p.passed.tables)
            (go (output_views_covered i j) refl)
          where
            go : (b : Bool) → output_views_covered i j ≡ b
                → and_then (check 12 b (drawn_image (fill_commit j i (supply ids)))) (λ new. written_to (length out) (image.write new))
                ≡ check 12 b (and_then (drawn_image (gap_commit j i (supply ids))) (λ new. written_to (length out) (image.write new)))
            go true c = rw (commit_by_gaps i j (record { tables = p.passed.tables; order = p.passed.order; job = job_passes; covered = c }) (supply ids))
            go false c = refl

        pub apply_report : {r : Written} → r ≡ reported (covered_outcome given record' ids (length out)) → r ≡ reported (applied_outcome i j ids (length out))
        apply_report q = q ∙ sym (ap reported stages_are)

        pub apply_written : {o : List ℕ} → o ≡ lent out (covered_outcome given record' ids (length out)) → o ≡ lent out (applied_outcome i j ids (length out))
        apply_written q = q ∙ sym (ap (lent out) stages_are)

pub ruleset apply_exits = (apply_stops, apply_kept, apply_read, apply_held, apply_report, apply_written)
