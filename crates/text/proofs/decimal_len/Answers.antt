-- `text::decimal_len` meets its contract, by what its loop keeps.
-- Assumes nothing.
use Rattle.text.proofs.Puts.{measures}
use borrow.Author.Rules.{rules}
use Rattle.text.proofs.decimal_len.Goals as goal

pub overflow_add-len : goal.overflow_add-len
overflow_add-len c = search (rules, measures)

pub loop-rest-preserved : goal.loop-rest-preserved
loop-rest-preserved c = search (rules, measures)

pub returns : goal.returns
returns c = search (rules, measures)
