-- `format::put_key` meets its contract.
-- Assumes nothing.
use Rattle.format.proofs.Puts.{key_puts}
use borrow.Author.Rules.{rules}
use Rattle.format.proofs.write.put_key.Goals as goal

pub put_number-requires : goal.put_number-requires
put_number-requires c = search (rules, key_puts)

pub returns-clause-value : goal.returns-clause-value
returns-clause-value c = search (rules, key_puts)
