-- `commit_plan::views::plan_piece` meets its contract.
-- Assumes nothing.
use Rattle.commit_plan.proofs.PieceExits.{piece_exits}
use borrow.Author.Rules.{rules}
use Rattle.commit_plan.proofs.views.plan_piece.Goals as goal

pub returns-in-Whole : goal.returns-in-Whole
returns-in-Whole c = search (rules, piece_exits)

pub returns-in-Cut : goal.returns-in-Cut
returns-in-Cut c = search (rules, piece_exits)
