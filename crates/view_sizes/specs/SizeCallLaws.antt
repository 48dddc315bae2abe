-- The promises on the calls on visible sizes. Their proofs are in proofs/.
use Rattle.std.specs.Prelude.{ℕ, zero, suc, ◌+◌, ◌<◌, ◌≤◌, ◌^◌, max, ◌≡◌, List, length}
use Rattle.std.proofs.Math.Option.{some}
use Rattle.base.specs.Bytes.{Bytes}
use Rattle.base.specs.Outcome.{Outcome, answer, and_then}
use Rattle.comparable_range.specs.Range.{Range}
use Rattle.records.specs.Values.{View, Image}
use Rattle.manifest.specs.Checks.{image_given}
use Rattle.db_state.specs.Places.{view_given}
use Rattle.db_state.specs.LookupCalls.{views_at}
use Rattle.visible_size.specs.Numbers.{InPart}
use Rattle.visible_size.specs.Sizes.{raw_size}
use Rattle.visible_size.specs.declared.VisibleFraction.{VisibleFraction}
use Rattle.view_sizes.specs.SizeCalls.{visible_fraction_outcome, estimate_visible_size_outcome, estimate_run_visible_size_outcome}

-- a part that is answered lies from 1e-6 to 1
abbrev pub PartsAnsweredLieBetween : Type 0
PartsAnsweredLieBetween =
    (l : List ℕ) (run view : ℕ) (f : VisibleFraction) → Bytes l → visible_fraction_outcome l run view ≡ answer f → InPart f

-- a size that is answered is at most the greater of 1 and the raw size
abbrev pub SizeAnsweredIsAtMostRaw : Type 0
SizeAnsweredIsAtMostRaw =
    (l : List ℕ) (run view : ℕ) (v : View) (n : ℕ)
    → Bytes l
    → view_given l run view ≡ answer v
    → estimate_visible_size_outcome l run view ≡ answer n
    → n ≤ max 1 (raw_size v.table)

-- and at least 1 where the view has a visible range
abbrev pub SizeAnsweredIsAtLeastOne : Type 0
SizeAnsweredIsAtLeastOne =
    (l : List ℕ) (run view : ℕ) (v : View) (r : Range) (n : ℕ)
    → view_given l run view ≡ answer v
    → v.visible ≡ some r
    → estimate_visible_size_outcome l run view ≡ answer n
    → 1 ≤ n

-- raw sizes are at most 2^53 (check 7), so the sum over at most 1,024 views is that of the numbers, also in 64 bits
abbrev pub RunSizeDoesNotWrap : Type 0
RunSizeDoesNotWrap = (l : List ℕ) (run n : ℕ) → Bytes l → estimate_run_visible_size_outcome l run ≡ answer n → n < 2 ^ 64

-- the sizes that are answered for the first views of a run, added up
unfoldable pub summed : List ℕ → ℕ → ℕ → Outcome ℕ
summed l run zero = answer 0
summed l run (suc place) = and_then (summed l run place) (λ m. and_then (estimate_visible_size_outcome l run place) (λ n. answer (m + n)))

-- a run's size is the sum of the sizes that are answered for its views
abbrev pub RunSizeIsTheSumOfItsViews : Type 0
RunSizeIsTheSumOfItsViews =
    (l : List ℕ) (run : ℕ) (i : Image) (vs : List View)
    → image_given l ≡ answer i
    → views_at i run ≡ answer vs
    → estimate_run_visible_size_outcome l run ≡ summed l run (length vs)
