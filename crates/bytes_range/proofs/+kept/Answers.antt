-- Assumes nothing.
use Rattle.bytes_range.proofs.Joins.{kept_exits}
use borrow.Author.Rules.{rules}
use Rattle.bytes_range.proofs.+kept.Goals as goal

pub returns-then-n-eq0 : goal.returns-then-n-eq0
returns-then-n-eq0 t c = search (rules, kept_exits)

pub bounds-p-m : goal.bounds-p-m
bounds-p-m t c = search (rules, kept_exits)

pub fewer-requires : goal.fewer-requires
fewer-requires t c = search (rules, kept_exits)

pub kept-requires : goal.kept-requires
kept-requires t c = search (rules, kept_exits)

pub returns-then-p-m : goal.returns-then-p-m
returns-then-p-m t c = search (rules, kept_exits)

pub returns : goal.returns
returns t c = search (rules, kept_exits)
