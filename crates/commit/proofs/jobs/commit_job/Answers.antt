-- `commit::jobs::commit_job` meets its contract.
-- Assumes nothing.
use Rattle.commit.proofs.JobExits.{job_exits, job_given}
use Rattle.base.specs.Bytes.{Bytes}
use borrow.Author.Rules.{rules}
use Rattle.commit.proofs.jobs.commit_job.Goals as goal

pub returns-then-job-gt65536-clause-value : goal.returns-then-job-gt65536-clause-value
returns-then-job-gt65536-clause-value c = search (rules, job_exits)

pub returns-then-job-gt65536-clause-out_after : goal.returns-then-job-gt65536-clause-out_after
returns-then-job-gt65536-clause-out_after c = search (rules, job_exits)

pub returns-then-fault-lt8-clause-value : goal.returns-then-fault-lt8-clause-value
returns-then-fault-lt8-clause-value c = search (rules, job_exits)

pub returns-then-fault-lt8-clause-out_after : goal.returns-then-fault-lt8-clause-out_after
returns-then-fault-lt8-clause-out_after c = search (rules, job_exits)

pub apply-requires : goal.apply-requires
apply-requires c =
    let bs : Bytes c.args.image.now = record { below = λ k. (c.type_inv.image k).fits } in
    let bt : Bytes c.args.job.now = record { below = λ k. (c.type_inv.job k).fits } in
    search (rules, job_given, bs, bt)

pub returns-in-Stop-clause-value : goal.returns-in-Stop-clause-value
returns-in-Stop-clause-value c = search (rules, job_exits)

pub returns-in-Stop-clause-out_after : goal.returns-in-Stop-clause-out_after
returns-in-Stop-clause-out_after c = search (rules, job_exits)

pub returns-else-fault-lt8-clause-value : goal.returns-else-fault-lt8-clause-value
returns-else-fault-lt8-clause-value c = search (rules, job_exits)

pub returns-else-fault-lt8-clause-out_after : goal.returns-else-fault-lt8-clause-out_after
returns-else-fault-lt8-clause-out_after c = search (rules, job_exits)
