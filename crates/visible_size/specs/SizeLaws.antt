-- The promises on rounding and on visible sizes. Their proofs are in proofs/.
use Rattle.std.specs.Prelude.{◌≡◌, ℕ, ◌+◌, ◌*◌, ◌^◌, ◌<◌, ◌≤◌, max, true, false, T, List, [], ◌++◌, ℤ}
use Rattle.std.proofs.Math.Option.{none, some}
use Rattle.std.specs.Float.{fin}
use Rattle.std.specs.Float.Ieee.{up, down, le}
use Rattle.std.specs.Float.Ieee.Exact.{HasValue}
use Rattle.comparable_range.specs.Range.{Range}
use Rattle.records.specs.Values.{View}
use Rattle.manifest.specs.Checks.{size_passes}
use Rattle.visible_size.specs.Steps.{most_size, nearest_whole, round_half_away, visible_size}
use Rattle.visible_size.specs.Numbers.{InPart}
use Rattle.visible_size.specs.Sizes.{visible_fraction, raw_size, estimate_visible_size, estimate_run_visible_size}
use Rattle.visible_size.specs.declared.VisibleFraction.{VisibleFraction}
use Rattle.visible_size.specs.declared.VisibleFraction.TheVariants.{Whole}

-- ---- rounding
-- n is the nearest to x = m 2^e, and a half goes to the greater: n - 1/2 ≤ x < n + 1/2, both sides doubled
pub record Nearest (m : ℕ) (e : ℤ) (n : ℕ) : Type 0 where
  pub below : 2 * n * down e ≤ 2 * (m * up e) + down e
  pub above : 2 * (m * up e) < (2 * n + 1) * down e
  -- the f64 answered is that whole number
  pub exact : HasValue (round_half_away (fin false m e)) false n 1

-- every number from 0 to 2^53 goes to the nearest whole number
abbrev pub RoundsToTheNearest : Type 0
RoundsToTheNearest = (m : ℕ) (e : ℤ) → T (le (fin false m e) most_size) → Nearest m e (nearest_whole m e)

-- and there is no other that is nearest
abbrev pub OnlyOneIsNearest : Type 0
OnlyOneIsNearest = (m : ℕ) (e : ℤ) (n n' : ℕ) → Nearest m e n → Nearest m e n' → n ≡ n'

-- ---- a size
abbrev pub SizeIsAtLeastOne : Type 0
SizeIsAtLeastOne = (raw : ℕ) (f : VisibleFraction) → 1 ≤ visible_size raw f

abbrev pub SizeIsAtMostRaw : Type 0
SizeIsAtMostRaw = (raw : ℕ) (f : VisibleFraction) → raw ≤ 2 ^ 53 → InPart f → visible_size raw f ≤ max 1 raw

abbrev pub WholeIsRaw : Type 0
WholeIsRaw = (raw : ℕ) → raw ≤ 2 ^ 53 → visible_size raw Whole ≡ max 1 raw

-- ---- of a view
abbrev pub ViewSizeIsAtLeastOne : Type 0
ViewSizeIsAtLeastOne = (v : View) (r : Range) → v.visible ≡ some r → 1 ≤ estimate_visible_size v

abbrev pub ViewSizeIsAtMostRaw : Type 0
ViewSizeIsAtMostRaw =
    (v : View)
    → size_passes v.table ≡ true
    → InPart (visible_fraction v)
    → estimate_visible_size v ≤ max 1 (raw_size v.table)

-- without a visible range the raw size itself, 0 too
abbrev pub WithoutVisibleRange : Type 0
WithoutVisibleRange = (v : View) → v.visible ≡ none → estimate_visible_size v ≡ raw_size v.table

-- ---- of a run
abbrev pub RunSizeOfNoViews : Type 0
RunSizeOfNoViews = estimate_run_visible_size [] ≡ 0

abbrev pub RunSizeAdds : Type 0
RunSizeAdds = (vs ws : List View) → estimate_run_visible_size (vs ++ ws) ≡ estimate_run_visible_size vs + estimate_run_visible_size ws
