-- `commit_gaps::piece::meeting_ahead` meets its contract.
-- Assumes nothing.
use Rattle.commit_gaps.proofs.MeetExits.{ahead_exits}
use borrow.Author.Rules.{rules}
use Rattle.commit_gaps.proofs.piece.meeting_ahead.Goals as goal

pub returns-then-not-passes : goal.returns-then-not-passes
returns-then-not-passes c = search (rules, ahead_exits)

pub returns-in-First : goal.returns-in-First
returns-in-First c = search (rules, ahead_exits)

pub returns-in-Second : goal.returns-in-Second
returns-in-Second c = search (rules, ahead_exits)

pub returns-in-Second-2 : goal.returns-in-Second-2
returns-in-Second-2 c = search (rules, ahead_exits)
