-- `commit_durable::gaps::gap_at` meets its contract.
-- Assumes nothing.
use Rattle.commit_durable.proofs.TableExits.{gap_found}
use borrow.Author.Rules.{rules}
use Rattle.commit_durable.proofs.gaps.gap_at.Goals as goal

pub returns : goal.returns
returns c = search (rules, gap_found)
