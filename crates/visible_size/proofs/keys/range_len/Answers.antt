-- `visible_size::keys::range_len` meets its contract.
-- Assumes nothing.
use Rattle.std.proofs.Common.{rules}
use Rattle.visible_size.proofs.Lengths.{lengths}
use Rattle.visible_size.proofs.keys.range_len.Goals as goal

pub returns : goal.returns
returns c = search (rules, lengths)
