-- The ranges of tables and views.
use Rattle.std.proofs.Math.Option.{Option, none, some}
use Rattle.key.specs.Order.{Key}
use Rattle.comparable_range.specs.Range.{Bound, unbounded, included, Range, overlap}
use Rattle.records.specs.Values.{Table, View}

abbrev pub last_bound : Option Key → Bound
last_bound none = unbounded
last_bound (some k) = included k

-- a table's own range: first key included to last key included, or unbounded if it has no last key
abbrev pub own : Table → Range
own t = record { start = included t.first; end = last_bound t.last }

-- a range cut by a view's visible range: the greater start and the lesser end
abbrev pub cut_by : Option Range → Range → Range
cut_by none r = r
cut_by (some q) r = overlap r q

unfoldable pub effective : View → Range
effective v = cut_by v.visible (own v.table)
