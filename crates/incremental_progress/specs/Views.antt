-- What a view shows, and how often a run shows a key.
use Rattle.std.specs.Prelude.{ℕ, ◌+◌, Bool, true, false, ◌&&◌, List, [], ◌∷◌}
use Rattle.key.specs.Order.{Key, is_equal}
use Rattle.comparable_range.specs.Range.{Range, cmp_bound, holds}
use Rattle.comparable_range.specs.Cut.{Cut, start_cut}
use Rattle.records.specs.Values.{Table, View}
use Rattle.manifest.specs.Ranges.{effective}
use Rattle.incremental_progress.specs.Intervals.{bit}

-- where a view starts
abbrev pub start : View → Cut
start v = start_cut (effective v).start

-- the bounds are equal
unfoldable pub same_range : Range → Range → Bool
same_range r q = is_equal (cmp_bound true r.start q.start) && is_equal (cmp_bound false r.end q.end)

-- ---- how often a run shows a key through the tables of a kind
-- once for each of its views of such a table whose effective range holds the key
unfoldable pub shown : (Table → Bool) → Key → List View → ℕ
shown q x [] = 0
shown q x (v ∷ vs) = bit (q v.table && holds (effective v) x) + shown q x vs
