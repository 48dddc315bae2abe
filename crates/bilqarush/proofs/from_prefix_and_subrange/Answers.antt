-- `bilqarush::from_prefix_and_subrange` meets its contract.
-- Assumes nothing.
use Rattle.bilqarush.proofs.Prefixes.{subrange_exits}
use borrow.Author.Rules.{rules}
use Rattle.bilqarush.proofs.from_prefix_and_subrange.Goals as goal

pub returns-then-prefix-gt1024 : goal.returns-then-prefix-gt1024
returns-then-prefix-gt1024 c = search (rules, subrange_exits)

pub range_whole-requires : goal.range_whole-requires
range_whole-requires c = search (rules, subrange_exits)

pub enum_known-n : goal.enum_known-n
enum_known-n c = search (rules, subrange_exits)

pub enum_known-start : goal.enum_known-start
enum_known-start c = search (rules, subrange_exits)

pub join-requires : goal.join-requires
join-requires c = search (rules, subrange_exits)

pub returns-in-Stop : goal.returns-in-Stop
returns-in-Stop c = search (rules, subrange_exits)

pub shape_of-out : goal.shape_of-out
shape_of-out c = search (rules, subrange_exits)

pub returns-in-At : goal.returns-in-At
returns-in-At c = search (rules, subrange_exits)
