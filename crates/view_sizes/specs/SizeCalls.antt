-- The outcome of each call on visible sizes: the checks in their order, then the answer.
use Rattle.std.specs.Prelude.{ℕ, List}
use Rattle.base.specs.Outcome.{Outcome, stop, answer, and_then}
use Rattle.manifest.specs.Checks.{image_given}
use Rattle.visible_size.specs.Sizes.{visible_fraction, estimate_visible_size, estimate_run_visible_size}
use Rattle.visible_size.specs.declared.VisibleFraction.{VisibleFraction}
use Rattle.db_state.specs.Places.{view_given}
use Rattle.db_state.specs.LookupCalls.{views_at}
use Rattle.view_sizes.specs.declared.Shown.{Shown}
use Rattle.view_sizes.specs.declared.Shown.TheVariants.{Fraction, Stop as ShownStop}
use Rattle.view_sizes.specs.declared.Estimated.{Estimated}
use Rattle.view_sizes.specs.declared.Estimated.TheVariants.{Bytes, Stop as EstimatedStop}

-- what the answers say
abbrev pub fraction_of : Shown → Outcome VisibleFraction
fraction_of (Fraction f) = answer f
fraction_of (ShownStop n) = stop n

abbrev pub size_of : Estimated → Outcome ℕ
size_of (Bytes n) = answer n
size_of (EstimatedStop n) = stop n

-- ---- the calls
unfoldable pub visible_fraction_outcome : List ℕ → ℕ → ℕ → Outcome VisibleFraction
visible_fraction_outcome l run view = and_then (view_given l run view) (λ v. answer (visible_fraction v))

unfoldable pub estimate_visible_size_outcome : List ℕ → ℕ → ℕ → Outcome ℕ
estimate_visible_size_outcome l run view = and_then (view_given l run view) (λ v. answer (estimate_visible_size v))

unfoldable pub estimate_run_visible_size_outcome : List ℕ → ℕ → Outcome ℕ
estimate_run_visible_size_outcome l run = and_then (image_given l) (λ i. and_then (views_at i run) (λ vs. answer (estimate_run_visible_size vs)))
