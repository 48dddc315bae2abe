-- `commit_covered::ids::is_kept` meets its contract.
-- Assumes nothing.
use Rattle.commit_covered.proofs.IdExits.{kept_exits}
use borrow.Author.Rules.{rules}
use Rattle.commit_covered.proofs.ids.is_kept.Goals as goal

pub loop-left-init : goal.loop-left-init
loop-left-init c = search (rules, kept_exits)

pub overflow_mul-row : goal.overflow_mul-row
overflow_mul-row c = search (rules, kept_exits)

pub offset_bounds-chain-row : goal.offset_bounds-chain-row
offset_bounds-chain-row c = search (rules, kept_exits)

pub bounds-chain-row : goal.bounds-chain-row
bounds-chain-row c = search (rules, kept_exits)

pub returns-then-is_eq : goal.returns-then-is_eq
returns-then-is_eq c = search (rules, kept_exits)

pub overflow_add-left : goal.overflow_add-left
overflow_add-left c = search (rules, kept_exits)

pub offset_bounds-chain-row-in-loop-left : goal.offset_bounds-chain-row-in-loop-left
offset_bounds-chain-row-in-loop-left c = search (rules, kept_exits)

pub bounds-chain-row-in-loop-left : goal.bounds-chain-row-in-loop-left
bounds-chain-row-in-loop-left c = search (rules, kept_exits)

pub loop-left-smaller : goal.loop-left-smaller
loop-left-smaller c = search (rules, kept_exits)

pub loop-left-preserved : goal.loop-left-preserved
loop-left-preserved c = search (rules, kept_exits)

pub returns : goal.returns
returns c = search (rules, kept_exits)
