-- The checks 4 to 7 as the code finds them in one pass: the number of the first that fails so far.
use Rattle.std.specs.Prelude.{ℕ, Bool, true, List, [], ◌∷◌, ltb}
use Rattle.base.specs.Pick.{pick}
use Rattle.key.specs.Order.{at_most}
use Rattle.comparable_range.specs.Range.{Bound, unbounded, non_empty, cmp_bound}
use Rattle.records.specs.Values.{Table, View, Part}
use Rattle.manifest.specs.Ranges.{effective}
use Rattle.manifest.specs.Checks.{Checks, all, visible_passes, keys_in_order, table_passes, size_passes, ascend_from, starts}

-- 4 to 7, or 8 if none fails
unfoldable pub fault_of : Checks → ℕ
fault_of c = pick c.ranges (pick c.tables (pick c.order (pick c.sizes 8 7) 6) 5) 4

unfoldable pub least : ℕ → ℕ → ℕ
least m n = pick (ltb m n) m n

-- check 6 alone
abbrev pub ordered : Bool → Checks
ordered t = record { ranges = true; tables = true; order = t; sizes = true }

-- of one view
unfoldable pub view_checks : View → Checks
view_checks v = record { ranges = visible_passes v; tables = table_passes v; order = true; sizes = size_passes v.table }

-- of a run's views; an unbounded start is least, so it may stand before the first
unfoldable pub views_checks : List View → Checks
views_checks vs =
    record {
      ranges = all visible_passes vs;
      tables = all table_passes vs;
      order = ascend_from unbounded (starts vs);
      sizes = all (λ v. size_passes v.table) vs;
    }

-- the last of some bounds, or the one given
unfoldable pub last_of : Bound → List Bound → Bound
last_of b [] = b
last_of b (c ∷ cs) = last_of c cs

-- a view after a start
abbrev pub not_below : Bound → View → Checks
not_below b v = ordered (at_most (cmp_bound true b (effective v).start))

-- of one table of a job
unfoldable pub table_checks : Table → Checks
table_checks t = record { ranges = true; tables = keys_in_order t; order = true; sizes = size_passes t }

unfoldable pub tables_checks : List Table → Checks
tables_checks ts = record { ranges = true; tables = all keys_in_order ts; order = true; sizes = all size_passes ts }

-- of a job's parts
unfoldable pub parts_checks : List Part → Checks
parts_checks ps =
    record {
      ranges = all (λ p. non_empty p.planned) ps;
      tables = all (λ p. all keys_in_order p.outputs) ps;
      order = true;
      sizes = all (λ p. all size_passes p.outputs) ps;
    }

-- a planned range alone
abbrev pub planned : Bool → Checks
planned t = record { ranges = t; tables = true; order = true; sizes = true }
