-- The exits of the job as a whole.
-- Assumes nothing.
use Prim.Native.Nat.{ℕ, ◌≤◌, ◌<◌}
use mathlib.Core.Path.{◌≡◌, refl, sym, ap, ◌∙◌}
use mathlib.Core.List.{List}
use lib.ListN.{length, drop, drop_of_length-le}
use lib.Seq.{drop-cons}
use Rattle.base.specs.Pick.{pick}
use Rattle.format.specs.Got.{got, stop, and_then}
use Rattle.format.specs.Whole.{ended}
use Rattle.records.specs.Form.{read_many}
use Rattle.records.specs.Layouts.{part, job}
use Rattle.records.specs.Spans.{ids_in, job_head, JobFound}
use Rattle.records.specs.declared.parts.JobRead.{JobRead}
use Rattle.records.specs.declared.parts.JobRead.TheVariants.{At as HeadAt, Stop as HeadStop}
use Rattle.records.proofs.PartExits.{job_is}
use Rattle.records.proofs.PartExits as records-parts
use Rattle.manifest.specs.Faults.{fault_of}
use Rattle.manifest.proofs.Steps.{job_parts}
use Rattle.commit_durable.specs.Faults.{parts_fault}
use Rattle.commit_durable.specs.Answers.{PartsPassed, JobPassed}
use Rattle.commit_durable.specs.declared.parts.PartsSeen.{PartsSeen}
use Rattle.commit_durable.specs.declared.parts.PartsJudged.{PartsJudged}
use Rattle.commit_durable.specs.declared.parts.PartsJudged.TheVariants.{At as PartsAt, Stop as PartsStop}
use Rattle.commit_durable.specs.declared.jobs.JobJudged.TheVariants.{At, Stop}
use Rattle.commit_durable.proofs.Counts.{parts_within}

pub no_job : (s d : List ℕ) {r : JobRead} {k : ℕ} → JobFound s (job_head.read s) r → r ≡ HeadStop k → JobPassed s d d (Stop k)
no_job s d {r} {k} f q =
    let e : job.read s ≡ stop k = job_is s ∙ rw (← f.meaning, q) in
    record { is = ap ended e; same = refl }

module _ (s : List ℕ) {r : JobRead} (f : JobFound s (job_head.read s) r) {e c from n first : ℕ} (q : r ≡ HeadAt e c from n first) where
  pub parts_most : n ≤ 64
  parts_most = parts_within s (drop first s) (e, (ids_in c (drop from s), n)) (sym f.meaning ∙ rw q)

  opened : job.read s ≡ and_then (read_many part.read n (drop first s)) (λ ps z. got (records-parts.job_of e (ids_in c (drop from s)) ps) z)
  opened = job_is s ∙ rw (← f.meaning, q)

  module _ {d t : List ℕ} {w : PartsJudged} (x : PartsPassed s (read_many part.read n (drop first s)) n d t w) where
    pub parts_stop : {k : ℕ} → w ≡ PartsStop k → JobPassed s d t (Stop k)
    parts_stop {k} y =
        let z : read_many part.read n (drop first s) ≡ stop k = rw y at x.is in
        let g : job.read s ≡ stop k = opened ∙ rw z in
        record { is = ap ended g; same = x.same }

    module _ {p : PartsSeen} (y : w ≡ PartsAt p) where
      pub left_over : p.past < length s → JobPassed s d t (Stop 1)
      left_over h =
          let v = rw y at x.is in
          let j = records-parts.job_of e (ids_in c (drop from s)) v.parts in
          let g : job.read s ≡ got j (drop p.past s) = opened ∙ ap (λ g. and_then g (λ ps z. got (records-parts.job_of e (ids_in c (drop from s)) ps) z)) v.is in
          record { is = ap ended g ∙ rw (drop-cons s p.past 0); same = x.same }

      pub job_done :
          {l : ℕ}
          → length s ≤ p.past
          → l ≡ pick p.planned (pick p.inside 12 11) 10
          → JobPassed s d t (At (record { destination = e; sources = c; from = from; parts = n; fault = p.fault; late = l }))
      unfolding parts_fault
      job_done h k =
          let v = rw y at x.is in
          let j = records-parts.job_of e (ids_in c (drop from s)) v.parts in
          let g : job.read s ≡ got j (drop p.past s) = opened ∙ ap (λ g. and_then g (λ ps z. got (records-parts.job_of e (ids_in c (drop from s)) ps) z)) v.is in
          record {
            is =
                record {
                  is = ap ended g ∙ rw (drop_of_length-le s {i = p.past} h, g);
                  fault = rw g (v.told.fault ∙ ap fault_of (sym (job_parts j)));
                  late = rw g (k ∙ rw (v.told.planned, v.told.inside));
                  destination = rw g;
                  sources = rw g;
                  inside = (rw q at f.inside).0;
                  parts = record { count = rw g v.count; most = parts_most; rows = rw g v.rows };
                };
            same = x.same;
          }

pub ruleset job_exits = (no_job, parts_most, parts_stop, left_over, job_done)
