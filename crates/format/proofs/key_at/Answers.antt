-- `format::key_at` meets its contract.
-- Assumes nothing.
use Rattle.format.proofs.Keys.{key_exits}
use borrow.Author.Rules.{rules}
use Rattle.format.proofs.key_at.Goals as goal

pub returns-then-n-gt1024 : goal.returns-then-n-gt1024
returns-then-n-gt1024 c = search (rules, key_exits)

pub returns-then-s-start : goal.returns-then-s-start
returns-then-s-start c = search (rules, key_exits)
