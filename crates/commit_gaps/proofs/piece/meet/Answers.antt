-- `commit_gaps::piece::meet` meets its contract.
-- Assumes nothing.
use Rattle.commit_gaps.proofs.MeetExits.{meet_exits}
use borrow.Author.Rules.{rules}
use Rattle.commit_gaps.proofs.piece.meet.Goals as goal

pub meeting_within-requires-clause-fact_3 : goal.meeting_within-requires-clause-fact_3
meeting_within-requires-clause-fact_3 c = search (rules, meet_exits)

pub meeting_within-requires-in-Greater-clause-fact_3 : goal.meeting_within-requires-in-Greater-clause-fact_3
meeting_within-requires-in-Greater-clause-fact_3 c = search (rules, meet_exits)
