-- `commit_gaps::piece::meeting_within` meets its contract.
-- Assumes nothing.
use Rattle.commit_gaps.proofs.MeetExits.{within_exits}
use borrow.Author.Rules.{rules}
use Rattle.commit_gaps.proofs.piece.meeting_within.Goals as goal

pub returns-in-First : goal.returns-in-First
returns-in-First c = search (rules, within_exits)

pub returns-in-Second : goal.returns-in-Second
returns-in-Second c = search (rules, within_exits)

pub returns-in-Second-2 : goal.returns-in-Second-2
returns-in-Second-2 c = search (rules, within_exits)
