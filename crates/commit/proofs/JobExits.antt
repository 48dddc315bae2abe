-- The exits of `commit_job`.
-- Assumes nothing.
use Prim.Native.Nat.{ℕ, ◌≤◌, ◌<◌}
use native.Mathlib.Omega.{arith}
use mathlib.Core.Path.{◌≡◌, refl, sym, ap, subst, ◌∙◌}
use mathlib.Core.Bool.{Bool, true, false}
use mathlib.Core.List.{List}
use lib.ListN.{length}
use borrow.Author.Tests.{le-leb, lt-leb}
use Rattle.base.specs.Pick.{pick, and_first, and_second}
use Rattle.base.specs.Bytes.{Bytes}
use Rattle.base.specs.Outcome.{answer, and_then, lent, written_to, reported}
use Rattle.base.specs.Outcome as outcome
use Rattle.base.specs.declared.Written.{Written}
use Rattle.base.specs.declared.Written.TheVariants.{Stop}
use Rattle.format.specs.Got.{Got}
use Rattle.format.specs.Whole.{whole, ended}
use Rattle.records.specs.Layouts.{image, job}
use Rattle.manifest.specs.Checks.{Checks, checked, joined, image_checks, job_checks}
use Rattle.manifest.specs.Faults.{fault_of, least}
use Rattle.manifest.proofs.Steps.{least_joined, fault_stops, fault_passes}
use Rattle.manifest.proofs.Given.{whole_read}
use Rattle.incremental_progress.specs.Commit.{applied, committed, commit_outcome}
use Rattle.commit_index.specs.Index.{image_of, ImageTold}
use Rattle.commit_durable.specs.Tables.{job_of}
use Rattle.commit_durable.specs.Answers.{JobPassed, JobAnswer, JobTold}
use Rattle.commit_durable.specs.declared.jobs.JobHead.{JobHead}
use Rattle.commit_durable.specs.declared.jobs.JobJudged.{JobJudged}
use Rattle.commit_durable.specs.declared.jobs.JobJudged.TheVariants.{At as JobAt, Stop as JobStop}
use Rattle.commit.specs.Stages.{applied_outcome, Given}

-- no check fails where the number is 8
record AllPass (c : Checks) : Type 0 where
  ranges : c.ranges ≡ true
  tables : c.tables ≡ true
  order : c.order ≡ true

all_pass : (c : Checks) → 8 ≤ fault_of c → AllPass c
unfolding fault_of
all_pass c h = go c.ranges c.tables c.order c.sizes refl refl refl h
  where
    go : (a b d e : Bool) → c.ranges ≡ a → c.tables ≡ b → c.order ≡ d → 8 ≤ pick a (pick b (pick d (pick e 8 7) 6) 5) 4 → AllPass c
    go true true true e x y z h = record { ranges = x; tables = y; order = z }
    go true true false e x y z h = absurd (omega arith)
    go true false d e x y z h = absurd (omega arith)
    go false b d e x y z h = absurd (omega arith)

-- ---- a buffer read whole
pub whole_long : {A : Type 0} (read : List ℕ → Got A) (s : List ℕ) → 65536 < length s → whole read s ≡ outcome.stop 3
unfolding whole
whole_long read s h = rw (lt-leb (length s) 65536 h)

pub whole_short : {A : Type 0} (read : List ℕ → Got A) (s : List ℕ) → length s ≤ 65536 → whole read s ≡ ended (read s)
unfolding whole
whole_short read s h = rw (le-leb (length s) 65536 h)

-- ---- commit_job
module _ {s x : List ℕ} {n a : ℕ} (i : ImageTold s x n a) (h : length s ≤ 65536) where
  the_image : whole image.read s ≡ answer (image_of s)
  the_image = whole_short image.read s h ∙ i.is

  module _ (t ids out : List ℕ) where
    stopped_second : {k : ℕ} → whole job.read t ≡ outcome.stop k → commit_outcome s t ids (length out) ≡ outcome.stop k
    unfolding commit_outcome
    stopped_second e = rw (the_image, e)

    pub job_long : 65536 < length t → Stop 3 ≡ reported (commit_outcome s t ids (length out))
    job_long k = sym (ap reported (stopped_second (whole_long job.read t k)))

    pub job_long_kept : 65536 < length t → out ≡ lent out (commit_outcome s t ids (length out))
    job_long_kept k = sym (ap (lent out) (stopped_second (whole_long job.read t k)))

    module _ {d y : List ℕ} {w : JobJudged} (f : JobPassed t d y w) (l : length t ≤ 65536) where
      module _ {k : ℕ} (q : w ≡ JobStop k) where
        not_a_job : commit_outcome s t ids (length out) ≡ outcome.stop k
        not_a_job = stopped_second (whole_short job.read t l ∙ subst (JobAnswer t y) q f.is)

        pub job_stops : Stop k ≡ reported (commit_outcome s t ids (length out))
        job_stops = sym (ap reported not_a_job)

        pub job_stops_kept : out ≡ lent out (commit_outcome s t ids (length out))
        job_stops_kept = sym (ap (lent out) not_a_job)

      module _ {b : JobHead} (q : w ≡ JobAt b) where
        told : JobTold t y b
        told = subst (JobAnswer t y) q f.is

        the_job : whole job.read t ≡ answer (job_of t)
        the_job = whole_short job.read t l ∙ told.is

        abbrev both_checks : Checks
        both_checks = joined (image_checks (image_of s)) (job_checks (job_of t))

        opened : commit_outcome s t ids (length out) ≡ and_then (checked both_checks (applied (image_of s) (job_of t) ids)) (λ new. written_to (length out) (image.write new))
        unfolding commit_outcome committed
        opened = rw (the_image, the_job)

        module _ {m : ℕ} (e : m ≡ least a b.fault) where
          fault_both : m ≡ fault_of both_checks
          fault_both = rw (e, i.fault_is, told.fault) (least_joined (image_checks (image_of s)) (job_checks (job_of t)))

          module _ (k : m < 8) where
            refused : commit_outcome s t ids (length out) ≡ outcome.stop m
            refused = opened ∙ ap (λ o. and_then o (λ new. written_to (length out) (image.write new))) (fault_stops both_checks (applied (image_of s) (job_of t) ids) (rw fault_both at k)) ∙ ap outcome.stop (sym fault_both)

            pub job_faulty : Stop m ≡ reported (commit_outcome s t ids (length out))
            job_faulty = sym (ap reported refused)

            pub job_faulty_kept : out ≡ lent out (commit_outcome s t ids (length out))
            job_faulty_kept = sym (ap (lent out) refused)

          module _ (k : 8 ≤ m) where
            both_pass : AllPass both_checks
            both_pass = all_pass both_checks (rw fault_both at k)

            pub job_given : Bytes s → Bytes t → Given s t x y n b
            job_given bs bt =
                let ci = image_checks (image_of s) in
                let cj = job_checks (job_of t) in
                let wi = whole_read image.read s (image_of s) the_image in
                record {
                  there = rw wi.all tt;
                  passed = record { small = omega (arith, h); bytes = bs; tables = and_first ci.tables cj.tables both_pass.tables; order = and_first ci.order cj.order both_pass.order };
                  small_job = l;
                  job_bytes = bt;
                  ranges = and_second ci.ranges cj.ranges both_pass.ranges;
                  tables = and_second ci.tables cj.tables both_pass.tables;
                  runs_are = i.runs;
                  told = record { destination = told.destination; sources = told.sources; sources_within = told.inside; late = told.late };
                  parts_are = told.parts;
                }

            same : commit_outcome s t ids (length out) ≡ applied_outcome (image_of s) (job_of t) ids (length out)
            unfolding applied_outcome
            same = opened ∙ ap (λ o. and_then o (λ new. written_to (length out) (image.write new))) (fault_passes both_checks (applied (image_of s) (job_of t) ids) (rw fault_both at k))

            pub job_report : {r : Written} → r ≡ reported (applied_outcome (image_of s) (job_of t) ids (length out)) → r ≡ reported (commit_outcome s t ids (length out))
            job_report z = z ∙ sym (ap reported same)

            pub job_written : {o : List ℕ} → o ≡ lent out (applied_outcome (image_of s) (job_of t) ids (length out)) → o ≡ lent out (commit_outcome s t ids (length out))
            job_written z = z ∙ sym (ap (lent out) same)

pub ruleset job_exits = (job_long, job_long_kept, job_stops, job_stops_kept, job_faulty, job_faulty_kept, job_given, job_report, job_written)
