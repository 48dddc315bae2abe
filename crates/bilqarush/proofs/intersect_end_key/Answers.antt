-- `bilqarush::intersect_end_key` meets its contract, by what `intersect` answered.
-- Assumes nothing.
use Rattle.bilqarush.proofs.Pairs.{end_is_told}
use Rattle.bilqarush.proofs.intersect_end_key.Goals as goal

pub returns : goal.returns
returns c = end_is_told c.intersect-joined.ensures c.stop_number-stop.ensures c.end_part-key.ensures
