-- The exits of `job_fault`.
-- Assumes nothing.
use Prim.Native.Nat.{ℕ}
use mathlib.Core.Path.{◌≡◌}
use mathlib.Core.Bool.{Bool, true, false, not}
use mathlib.Core.List.{List}
use Rattle.std.proofs.lemmas.Bool.{not-true, not-false}
use lib.ListN.{drop}
use Rattle.records.specs.Spans.{ids_in}
use Rattle.manifest.specs.Checks.{all, has}
use Rattle.incremental_progress.specs.Checks.{destination_is_source, sources_there, planned_in_order, outputs_in_order}
use Rattle.commit_index.specs.Index.{image_of, image_ids}
use Rattle.commit_durable.specs.Tables.{job_of}
use Rattle.commit_durable.specs.Faults.{parts_fault}
use Rattle.commit_durable.specs.declared.jobs.JobHead.{JobHead}
use Rattle.commit.specs.Stages.{progress_fault, HeadTold}

-- ---- job_fault
module _ {record' : List ℕ} {h : JobHead} (t : HeadTold record' h) where
  module _ (given : List ℕ) {a : Bool} (e : a ≡ has h.destination (ids_in h.sources (drop h.from record'))) where
    is_source : destination_is_source (job_of record') ≡ a
    unfolding destination_is_source
    is_source = rw (e, t.destination, t.sources)

    pub not_a_source : not a ≡ true → 8 ≡ progress_fault (image_of given) (job_of record')
    unfolding progress_fault
    not_a_source q = rw (is_source, not-true a q)

    module _ (q : not a ≡ false) {b : Bool} (f : b ≡ all (λ k. has k (image_ids given)) (ids_in h.sources (drop h.from record'))) where
      are_there : sources_there (image_of given) (job_of record') ≡ b
      unfolding sources_there
      are_there = rw (f, t.sources)

      pub not_there : not b ≡ true → 9 ≡ progress_fault (image_of given) (job_of record')
      unfolding progress_fault
      not_there r = rw (is_source, not-false a q, are_there, not-true b r)

      pub later_fault : not b ≡ false → h.late ≡ progress_fault (image_of given) (job_of record')
      unfolding progress_fault parts_fault planned_in_order outputs_in_order
      later_fault r = rw (is_source, not-false a q, are_there, not-false b r) t.late

pub ruleset fault_exits = (not_a_source, not_there, later_fault)
