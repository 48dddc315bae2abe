-- The exits of the calls on images.
-- Assumes nothing.
use Prim.Native.Nat.{ℕ, ◌≤◌, ◌<◌}
use mathlib.Core.Path.{◌≡◌, sym, ap, ◌∙◌}
use mathlib.Core.List.{List}
use lib.ListN.{length}
use lib.Dec.{T}
use Rattle.base.specs.Outcome.{stop, answer, and_then, over, lent, written_to, reported}
use Rattle.base.proofs.Outcome.{stops_16, keeps, wrote, stands}
use Rattle.base.specs.declared.Written.TheVariants.{Wrote, Stop}
use Rattle.format.specs.Whole.{whole}
use Rattle.format.specs.declared.span.RangeSpan.{RangeSpan}
use Rattle.records.specs.Found.{is_got, values_of}
use Rattle.records.specs.Layouts.{image}
use Rattle.records.specs.Spans.{ViewInside}
use Rattle.records.specs.declared.views.ViewSpan.{ViewSpan}
use Rattle.records.specs.declared.views.ViewRead.{ViewRead}
use Rattle.records.specs.declared.views.ViewRead.TheVariants.{At as ViewAt, Stop as ViewStop}
use Rattle.manifest.specs.Ranges.{effective}
use Rattle.manifest.specs.Checks.{image_checks}
use Rattle.manifest.specs.Spans.{JudgedWhole, EffectiveFound}
use Rattle.manifest.specs.declared.images.Judged.{Judged}
use Rattle.manifest.specs.declared.images.Judged.TheVariants.{At as JudgedAt, Stop as JudgedStop}
use Rattle.manifest.proofs.Given.{not_read, refused, accepted, image_there}
use Rattle.db_state.specs.Places.{view_given}
use Rattle.sst_view.specs.Spans.{view_outcome, ViewPlaced}
use Rattle.listing.specs.Listing.{listing}
use Rattle.bilqarush.specs.ImageCalls.{check_image_outcome, compacted_effective_range_outcome, ViewRangeFound, list_outcome}
use Rattle.bilqarush.specs.declared.images.ViewRange.TheVariants.{At, Stop as RangeStop}

-- ---- check_image
module _ {s : List ℕ} {w : Judged} (x : JudgedWhole s image_checks (whole image.read s) w) where
  pub unread : {k : ℕ} → w ≡ JudgedStop k → stop k ≡ check_image_outcome s
  unfolding check_image_outcome
  unread q = rw (not_read x q)

  module _ {next fault : ℕ} (q : w ≡ JudgedAt next fault) where
    pub failing : fault < 8 → stop fault ≡ check_image_outcome s
    unfolding check_image_outcome
    failing h = rw (refused x q h)

    pub passing : 8 ≤ fault → answer tt ≡ check_image_outcome s
    unfolding check_image_outcome
    passing h = rw (accepted x q h).given

pub ruleset check_exits = (unread, failing, passing)

-- ---- compacted_effective_range
module _ (s : List ℕ) (run_place place : ℕ) {r : ViewRead} (x : ViewPlaced s (view_given s run_place place) r) where
  pub not_placed : {k : ℕ} → r ≡ ViewStop k → ViewRangeFound s (compacted_effective_range_outcome s run_place place) (RangeStop k)
  unfolding compacted_effective_range_outcome
  not_placed q = record { meaning = rw (← x.meaning, q); inside = tt }

  module _ {v : ViewSpan} (q : r ≡ ViewAt v) where
    pub placed_inside : ViewInside s v
    placed_inside = rw q at x.inside

    pub range_of : {e : RangeSpan} → EffectiveFound s v e → ViewRangeFound s (compacted_effective_range_outcome s run_place place) (At e.start e.end)
    unfolding compacted_effective_range_outcome
    range_of {e} y =
        record {
          meaning = ap answer y.meaning ∙ sym (ap (λ o. and_then o (λ v. answer (effective v))) (sym x.meaning ∙ ap (view_outcome s) q));
          inside = (y.start, y.end);
        }

pub ruleset effective_exits = (not_placed, placed_inside, range_of)

-- ---- list
module _ {s : List ℕ} {w : Judged} (x : JudgedWhole s image_checks (whole image.read s) w) (d : List ℕ) where
  pub unlisted : {k : ℕ} → w ≡ JudgedStop k → Stop k ≡ reported (list_outcome s (length d))
  unfolding list_outcome
  unlisted q = rw (not_read x q)

  pub unlisted_keeps : {k : ℕ} → w ≡ JudgedStop k → d ≡ lent d (list_outcome s (length d))
  unfolding list_outcome
  unlisted_keeps q = rw (not_read x q)

  module _ {next fault : ℕ} (q : w ≡ JudgedAt next fault) where
    pub refused_list : fault < 8 → Stop fault ≡ reported (list_outcome s (length d))
    unfolding list_outcome
    refused_list h = rw (refused x q h)

    pub refused_keeps : fault < 8 → d ≡ lent d (list_outcome s (length d))
    unfolding list_outcome
    refused_keeps h = rw (refused x q h)

    module _ (h : 8 ≤ fault) where
      pub image_small : length s ≤ 65536
      image_small = (accepted x q h).small

      pub image_is_there : T (is_got (image.read s))
      image_is_there = image_there x q h

      outcome_is : list_outcome s (length d) ≡ written_to (length d) (listing (values_of (image.read s)))
      unfolding list_outcome
      outcome_is =
          let a = accepted x q h in
          ap (λ o. and_then o (λ i. written_to (length d) (listing i))) a.given ∙ sym (ap (λ g. written_to (length d) (listing (values_of g))) a.read)

      module _ {n : ℕ} (e : n ≡ length (listing (values_of (image.read s)))) where
        pub list_stops_lem : length d < n → Stop 16 ≡ reported (list_outcome s (length d))
        list_stops_lem l = stops_16 d (listing (values_of (image.read s))) e l ∙ sym (ap reported outcome_is)

        pub list_keeps : length d < n → d ≡ lent d (list_outcome s (length d))
        list_keeps l = keeps d (listing (values_of (image.read s))) e l ∙ sym (ap (lent d) outcome_is)

        pub list_room : n ≤ length d → length (listing (values_of (image.read s))) ≤ length d
        list_room l = rw e at l

        pub list_wrote : n ≤ length d → Wrote n ≡ reported (list_outcome s (length d))
        list_wrote l = wrote d (listing (values_of (image.read s))) e l ∙ sym (ap reported outcome_is)

        pub list_stands : {f : List ℕ} → n ≤ length d → f ≡ over (listing (values_of (image.read s))) d → f ≡ lent d (list_outcome s (length d))
        list_stands l p = stands d (listing (values_of (image.read s))) e l p ∙ sym (ap (lent d) outcome_is)

pub ruleset list_exits = (unlisted, unlisted_keeps, refused_list, refused_keeps, image_small, image_is_there, list_stops_lem, list_keeps, list_room, list_wrote, list_stands)
