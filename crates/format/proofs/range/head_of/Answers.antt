-- `format::head_of` meets its contract, by the nine bytes and a table of the others.
-- Assumes nothing.
use Rattle.format.proofs.Ranges.{other_head}
use Rattle.format.specs.Range.{head_of}
use borrow.Author.Rules.{rules}
use Rattle.format.proofs.range.head_of.Goals as goal

pub returns-in-0 : goal.returns-in-0
unfolding head_of
returns-in-0 c = rw c.in-0.is

pub returns-in-16 : goal.returns-in-16
unfolding head_of
returns-in-16 c = rw c.in-16.is

pub returns-in-32 : goal.returns-in-32
unfolding head_of
returns-in-32 c = rw c.in-32.is

pub returns-in-64 : goal.returns-in-64
unfolding head_of
returns-in-64 c = rw c.in-64.is

pub returns-in-80 : goal.returns-in-80
unfolding head_of
returns-in-80 c = rw c.in-80.is

pub returns-in-96 : goal.returns-in-96
unfolding head_of
returns-in-96 c = rw c.in-96.is

pub returns-in-128 : goal.returns-in-128
unfolding head_of
returns-in-128 c = rw c.in-128.is

pub returns-in-144 : goal.returns-in-144
unfolding head_of
returns-in-144 c = rw c.in-144.is

pub returns-in-160 : goal.returns-in-160
unfolding head_of
returns-in-160 c = rw c.in-160.is

pub returns-in-48-to-63 : goal.returns-in-48-to-63
returns-in-48-to-63 c = search (rules, other_head)

pub returns-in-48-to-63-2 : goal.returns-in-48-to-63-2
returns-in-48-to-63-2 c = search (rules, other_head)

pub returns-in-48-to-63-3 : goal.returns-in-48-to-63-3
returns-in-48-to-63-3 c = search (rules, other_head)

pub returns-in-1-to-15 : goal.returns-in-1-to-15
returns-in-1-to-15 c = search (rules, other_head)

pub returns-in-1-to-15-2 : goal.returns-in-1-to-15-2
returns-in-1-to-15-2 c = search (rules, other_head)

pub returns-in-1-to-15-3 : goal.returns-in-1-to-15-3
returns-in-1-to-15-3 c = search (rules, other_head)
