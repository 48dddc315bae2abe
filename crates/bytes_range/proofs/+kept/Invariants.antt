-- `bytes_range::kept` meets its contract, by recursion on how many bytes are left.
-- Assumes nothing.
use Rattle.bytes_range.proofs.+kept.Given as goal

abbrev pub decreases-kept : goal.decreases-kept
decreases-kept l = l.n
