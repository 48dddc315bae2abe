-- What the code finds of the image l and the asked range q that a lookup is given.
use Rattle.std.specs.Prelude.{ℕ, ◌≡◌, true, List, T, leb}
use Rattle.base.specs.Outcome.{Outcome, answer, stop, and_then, check}
use Rattle.comparable_range.specs.Range.{Bound, Range, non_empty}
use Rattle.format.specs.Whole.{whole}
use Rattle.format.specs.Given.{bound_given}
use Rattle.format.specs.Range.{read_range, bound_in, range_in, BoundInside}
use Rattle.format.specs.declared.range.BoundSpan.{BoundSpan}
use Rattle.format.specs.declared.span.RangeSpan.{RangeSpan}
use Rattle.records.specs.Found.{is_got, values_of}
use Rattle.records.specs.Layouts.{image}
use Rattle.manifest.specs.Checks.{all, table_passes}
use Rattle.db_state.specs.LookupCalls.{RangeAsked, checked_asked}
use Rattle.sst_view.specs.declared.asked.Asked.{Asked}
use Rattle.sst_view.specs.declared.asked.Asked.TheVariants.{Range as AskedRange, Stop}
use Rattle.sst_view.specs.declared.asked.EndAsked.{EndAsked}
use Rattle.sst_view.specs.declared.asked.EndAsked.TheVariants.{At as EndAt, Stop as EndStop}

abbrev pub range_at : List ℕ → RangeSpan → Range
range_at s r = range_in s r.start r.end

pub record SpanInside (s : List ℕ) (r : RangeSpan) : Type 0 where
  pub start : BoundInside s r.start
  pub end : BoundInside s r.end

-- ---- the asked range
-- after an image whose first failing check of 4 to 7 is known, or 8 if none fails
unfoldable pub range_asked : ℕ → List ℕ → Outcome Range
range_asked fault q = and_then (whole read_range q) (λ r. check 4 (non_empty r) (check fault (leb 8 fault) (answer r)))

abbrev pub range_outcome : List ℕ → Asked → Outcome Range
range_outcome q (AskedRange r) = answer (range_at q r)
range_outcome q (Stop k) = stop k

abbrev pub AskedInside : List ℕ → Asked → Type 0
AskedInside q (AskedRange r) = SpanInside q r
AskedInside q (Stop k) = Unit

pub record RangeChecked (q : List ℕ) (o : Outcome Range) (r : Asked) : Type 0 where
  pub meaning : range_outcome q r ≡ o
  pub inside : AskedInside q r

-- ---- an image and an asked range
-- the image was read, and its views pass check 5
pub record ImageRead (l : List ℕ) : Type 0 where
  pub there : T (is_got (image.read l))
  pub tables : all (λ r. all table_passes r.views) (values_of (image.read l)) ≡ true

abbrev pub asked : List ℕ → List ℕ → RangeSpan → RangeAsked
asked l q r = record { image = values_of (image.read l); range = range_at q r }

abbrev pub asked_outcome : List ℕ → List ℕ → Asked → Outcome RangeAsked
asked_outcome l q (AskedRange r) = answer (asked l q r)
asked_outcome l q (Stop k) = stop k

abbrev pub ImageGiven : List ℕ → Asked → Type 0
ImageGiven l (AskedRange r) = ImageRead l
ImageGiven l (Stop k) = Unit

pub record AskedFound (l q : List ℕ) (o : Outcome RangeAsked) (r : Asked) : Type 0 where
  pub meaning : asked_outcome l q r ≡ o
  pub read : ImageGiven l r
  pub inside : AskedInside q r

-- ---- the same with an end bound, which is read between the two
unfoldable pub image_end_and_range : List ℕ → ℕ → List ℕ → List ℕ → Outcome (Bound × RangeAsked)
image_end_and_range l kind key q =
    and_then (whole image.read l) (λ i.
    and_then (bound_given kind key) (λ e. and_then (whole read_range q) (λ r. and_then (checked_asked i r) (λ a. answer (e, a)))))

abbrev pub end_outcome : List ℕ → List ℕ → List ℕ → EndAsked → Outcome (Bound × RangeAsked)
end_outcome l key q (EndAt e r) = answer (bound_in key e, asked l q r)
end_outcome l key q (EndStop k) = stop k

pub record EndInside (l key q : List ℕ) (e : BoundSpan) (r : RangeSpan) : Type 0 where
  pub read : ImageRead l
  pub end : BoundInside key e
  pub range : SpanInside q r

abbrev pub EndAskedInside : List ℕ → List ℕ → List ℕ → EndAsked → Type 0
EndAskedInside l key q (EndAt e r) = EndInside l key q e r
EndAskedInside l key q (EndStop k) = Unit

pub record EndFound (l key q : List ℕ) (o : Outcome (Bound × RangeAsked)) (r : EndAsked) : Type 0 where
  pub meaning : end_outcome l key q r ≡ o
  pub inside : EndAskedInside l key q r
