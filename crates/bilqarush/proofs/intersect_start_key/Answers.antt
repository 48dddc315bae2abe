-- `bilqarush::intersect_start_key` meets its contract, by what `intersect` answered.
-- Assumes nothing.
use Rattle.bilqarush.proofs.Pairs.{start_is_told}
use Rattle.bilqarush.proofs.intersect_start_key.Goals as goal

pub returns : goal.returns
returns c = start_is_told c.intersect-joined.ensures c.stop_number-stop.ensures c.start_part-key.ensures
