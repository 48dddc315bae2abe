-- `commit::stages::cover_image` meets its contract.
-- Assumes nothing.
use Rattle.commit.proofs.StageExits.{cover_exits, stage_cover}
use borrow.Author.Rules.{rules}
use Rattle.commit.proofs.stages.cover_image.Goals as goal

pub covered-requires : goal.covered-requires
covered-requires c =
    (stage_cover c.requires.fact_2 c.requires.fact_1 c.gaps_of-m.ensures, (c.requires.fact_2.parts_are, c.requires.fact_3))

pub plan_image-requires-clause-read_4 : goal.plan_image-requires-clause-read_4
plan_image-requires-clause-read_4 c = search (rules, cover_exits)

pub plan_image-requires-clause-outputs_planned_1 : goal.plan_image-requires-clause-outputs_planned_1
plan_image-requires-clause-outputs_planned_1 c = search (rules, cover_exits)
