-- `commit_durable::jobs::job_read` meets its contract.
-- Assumes nothing.
use Rattle.commit_durable.proofs.JobExits.{job_exits}
use borrow.Author.Rules.{rules}
use Rattle.commit_durable.proofs.jobs.job_read.Goals as goal

pub parts_read-requires-clause-fact_2 : goal.parts_read-requires-clause-fact_2
parts_read-requires-clause-fact_2 c = search (rules, job_exits)

pub returns-then-p-job : goal.returns-then-p-job
returns-then-p-job c = search (rules, job_exits)

pub returns-in-Stop : goal.returns-in-Stop
returns-in-Stop c = search (rules, job_exits)

pub returns-in-Stop-parts_read : goal.returns-in-Stop-parts_read
returns-in-Stop-parts_read c = search (rules, job_exits)

pub returns-else-p-job : goal.returns-else-p-job
returns-else-p-job c = search (rules, job_exits)
