-- The exits of `from_compaction`.
-- Assumes nothing.
use Prim.Native.Nat.{ℕ, ◌+◌, ◌*◌, ◌≤◌, ◌<◌}
use mathlib.Core.Path.{◌≡◌, sym, ap, subst, ◌∙◌}
use mathlib.Core.Bool.{Bool, true, false, not}
use mathlib.Core.List.{List}
use Rattle.std.proofs.lemmas.Bool.{not-true, not-false}
use lib.ListN.{length, drop}
use borrow.Author.Tests.{le-leb, lt-leb}
use Rattle.base.specs.Outcome.{Outcome, answer, and_then, lent, written_to, reported}
use Rattle.base.specs.Outcome as outcome
use Rattle.base.specs.declared.Written.{Written}
use Rattle.base.specs.declared.Written.TheVariants.{Stop}
use Rattle.format.specs.Whole.{whole, ended}
use Rattle.records.specs.Values.{Plan}
use Rattle.records.specs.Layouts.{job, plan}
use Rattle.records.specs.Spans.{ids_in}
use Rattle.manifest.specs.Checks.{has, checked, job_checks}
use Rattle.manifest.proofs.Steps.{fault_stops, fault_passes}
use Rattle.incremental_progress.specs.Checks.{destination_is_source}
use Rattle.commit_durable.specs.Tables.{job_of, PartsHold}
use Rattle.commit_durable.specs.Answers.{JobPassed, JobAnswer, JobTold}
use Rattle.commit_durable.specs.declared.jobs.JobHead.{JobHead}
use Rattle.commit_durable.specs.declared.jobs.JobJudged.{JobJudged}
use Rattle.commit_durable.specs.declared.jobs.JobJudged.TheVariants.{At as JobAt, Stop as JobStop}
use Rattle.from_compaction.specs.ProgressCalls.{progressed, progress_made, from_compaction_outcome}
use Rattle.from_compaction.specs.Ranges.{job_ranges}
use Rattle.from_compaction.proofs.LateChecks.{late_stops, late_passes}

reports : {o : Outcome (List ℕ)} {k : ℕ} → o ≡ outcome.stop k → Stop k ≡ reported o
reports e = rw e

leaves : (d : List ℕ) {o : Outcome (List ℕ)} {k : ℕ} → o ≡ outcome.stop k → d ≡ lent d o
leaves d e = rw e

module _ (t out : List ℕ) where
  stopped : {k : ℕ} → whole job.read t ≡ outcome.stop k → from_compaction_outcome t (length out) ≡ outcome.stop k
  unfolding from_compaction_outcome progress_made
  stopped e = rw e

  too_long : 65536 < length t → from_compaction_outcome t (length out) ≡ outcome.stop 3
  unfolding whole
  too_long h = stopped (rw (lt-leb (length t) 65536 h))

  pub long_reported : 65536 < length t → Stop 3 ≡ reported (from_compaction_outcome t (length out))
  long_reported h = reports (too_long h)

  pub long_lent : 65536 < length t → out ≡ lent out (from_compaction_outcome t (length out))
  long_lent h = leaves out (too_long h)

  module _ {d y : List ℕ} {w : JobJudged} (f : JobPassed t d y w) (l : length t ≤ 65536) where
    whole_is : whole job.read t ≡ ended (job.read t)
    unfolding whole
    whole_is = rw (le-leb (length t) 65536 l)

    module _ {k : ℕ} (q : w ≡ JobStop k) where
      not_a_job : from_compaction_outcome t (length out) ≡ outcome.stop k
      not_a_job = stopped (whole_is ∙ subst (JobAnswer t y) q f.is)

      pub read_reported : Stop k ≡ reported (from_compaction_outcome t (length out))
      read_reported = reports not_a_job

      pub read_lent : out ≡ lent out (from_compaction_outcome t (length out))
      read_lent = leaves out not_a_job

    module _ {b : JobHead} (q : w ≡ JobAt b) where
      told : JobTold t y b
      told = subst (JobAnswer t y) q f.is

      abbrev to_buffer : Outcome Plan → Outcome (List ℕ)
      to_buffer o = and_then o (λ p. written_to (length out) (plan.write p))

      opened : from_compaction_outcome t (length out) ≡ to_buffer (checked (job_checks (job_of t)) (progressed (job_of t)))
      unfolding from_compaction_outcome progress_made
      opened = let e : whole job.read t ≡ answer (job_of t) = whole_is ∙ told.is in rw e

      module _ (h : b.fault < 8) where
        refused : from_compaction_outcome t (length out) ≡ outcome.stop b.fault
        refused =
            opened ∙ ap to_buffer (fault_stops (job_checks (job_of t)) (progressed (job_of t)) (rw told.fault at h)) ∙ ap outcome.stop (sym told.fault)

        pub fault_reported : Stop b.fault ≡ reported (from_compaction_outcome t (length out))
        fault_reported = reports refused

        pub fault_lent : out ≡ lent out (from_compaction_outcome t (length out))
        fault_lent = leaves out refused

      pub sources_inside : b.from + 4 * b.sources ≤ length t
      sources_inside = told.inside

      pub parts_there : PartsHold t b.parts y
      parts_there = told.parts

      module _ (h : 8 ≤ b.fault) {a : Bool} (e : a ≡ has b.destination (ids_in b.sources (drop b.from t))) where
        passed : from_compaction_outcome t (length out) ≡ to_buffer (progressed (job_of t))
        passed = opened ∙ ap to_buffer (fault_passes (job_checks (job_of t)) (progressed (job_of t)) (rw told.fault at h))

        is_source : destination_is_source (job_of t) ≡ a
        unfolding destination_is_source
        is_source = rw (e, told.destination, told.sources)

        module _ (u : not a ≡ true) where
          no_source : from_compaction_outcome t (length out) ≡ outcome.stop 8
          unfolding progressed
          no_source = passed ∙ rw (is_source, not-true a u)

          pub no_source_reported : Stop 8 ≡ reported (from_compaction_outcome t (length out))
          no_source_reported = reports no_source

          pub no_source_lent : out ≡ lent out (from_compaction_outcome t (length out))
          no_source_lent = leaves out no_source

        module _ (u : not a ≡ false) where
          module _ (k : b.late < 12) where
            late : from_compaction_outcome t (length out) ≡ outcome.stop b.late
            late = passed ∙ ap to_buffer (late_stops (job_of t) (is_source ∙ not-false a u) (rw told.late at k)) ∙ ap outcome.stop (sym told.late)

            pub late_reported : Stop b.late ≡ reported (from_compaction_outcome t (length out))
            late_reported = reports late

            pub late_lent : out ≡ lent out (from_compaction_outcome t (length out))
            late_lent = leaves out late

          module _ (k : 12 ≤ b.late) where
            made : from_compaction_outcome t (length out) ≡ written_to (length out) (plan.write (job_ranges t))
            made = passed ∙ ap to_buffer (late_passes (job_of t) (is_source ∙ not-false a u) (rw told.late at k))

            pub made_reported : {r : Written} → r ≡ reported (written_to (length out) (plan.write (job_ranges t))) → r ≡ reported (from_compaction_outcome t (length out))
            made_reported z = z ∙ sym (ap reported made)

            pub made_lent : {o : List ℕ} → o ≡ lent out (written_to (length out) (plan.write (job_ranges t))) → o ≡ lent out (from_compaction_outcome t (length out))
            made_lent z = z ∙ sym (ap (lent out) made)

pub ruleset call_exits = (long_reported, long_lent, read_reported, read_lent, fault_reported, fault_lent, sources_inside, parts_there, no_source_reported, no_source_lent, late_reported, late_lent, made_reported, made_lent)
