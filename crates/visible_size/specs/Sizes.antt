-- The visible fraction and the visible size of a view, and the visible size of a run. Document 01, "Visible size".
use Rattle.std.specs.Prelude.{ℕ, ◌+◌, List, [], ◌∷◌}
use Rattle.std.proofs.Math.Option.{Option, none, some}
use Rattle.key.specs.Order.{Key}
use Rattle.comparable_range.specs.Range.{Range}
use Rattle.records.specs.Values.{Table, View}
use Rattle.manifest.specs.Ranges.{own, effective}
use Rattle.visible_size.specs.Steps.{ranges_fraction, visible_size}
use Rattle.visible_size.specs.declared.VisibleFraction.{VisibleFraction}
use Rattle.visible_size.specs.declared.VisibleFraction.TheVariants.{Whole}

-- a table without a last key is whole
abbrev pub fraction_with_last : Option Key → Range → Range → VisibleFraction
fraction_with_last none physical effective = Whole
fraction_with_last (some last) physical effective = ranges_fraction physical effective

unfoldable pub visible_fraction : View → VisibleFraction
visible_fraction v = fraction_with_last v.table.last (own v.table) (effective v)

-- `estimate_size`
abbrev pub raw_size : Table → ℕ
raw_size t = t.index_offset + t.index_len

abbrev pub size_within : Option Range → ℕ → VisibleFraction → ℕ
size_within none raw f = raw
size_within (some visible) raw f = visible_size raw f

unfoldable pub estimate_visible_size : View → ℕ
estimate_visible_size v = size_within v.visible (raw_size v.table) (visible_fraction v)

-- of a run: the sum over its views
unfoldable pub estimate_run_visible_size : List View → ℕ
estimate_run_visible_size [] = 0
estimate_run_visible_size (v ∷ vs) = estimate_visible_size v + estimate_run_visible_size vs
