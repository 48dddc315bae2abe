-- `commit_write::rows::put_rows` meets its contract.
-- Assumes nothing.
use Rattle.std.proofs.Common.{ℕ, List, ◌+◌, ◌≤◌, length}
use Rattle.std.proofs.lemmas.Iterator.{YieldsList}
use Rattle.base.specs.Lists.{All}
use Rattle.commit_write.specs.Rows.{numbered_bytes, RowThere}
use Rattle.commit_write.proofs.Writing.{Writing}
use Rattle.commit_write.proofs.rows.put_rows.Given as goal

abbrev pub invariant-loop-k : goal.invariant-loop-k
invariant-loop-k g l =
    (goal.iterator-loop-k g).can_next l.k-iterator
    × (goal.iterator-loop-k g).is_finite l.k-iterator
    × ((ks : List ℕ)
    → YieldsList (goal.iterator-loop-k g).next_gives (λ k. k) l.initial.k-iterator ks
    → All (RowThere l.image l.job l.ids l.rows) ks
    → l.to + length (numbered_bytes l.image l.job l.ids l.rows ks) ≤ length l.initial.out
    → Writing l.image l.job l.ids l.rows ks l.initial.out l.to l.out (length l.yielded) l.past)
