-- `format::meets` meets its contract: two ranges meet if their intersection passes.
-- Assumes nothing.
use Rattle.format.proofs.Spans.{meets_lem}
use Rattle.format.proofs.span.meets.Goals as goal

pub returns : goal.returns
returns c = meets_lem _ _ c.intersect.ensures c.is_some.ensures
