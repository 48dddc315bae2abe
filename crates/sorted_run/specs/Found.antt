-- What the code's answers say of the bytes s of an image and q of an asked range.
use Rattle.std.specs.Prelude.{ℕ, ◌≤◌, ◌≡◌, true, List, length, drop}
use Rattle.base.specs.Pick.{pick}
use Rattle.comparable_range.specs.Range.{included, excluded, holds, non_empty}
use Rattle.comparable_range.specs.declared.Kind.{Kind}
use Rattle.comparable_range.specs.declared.Kind.TheVariants.{Unbounded, Included, Excluded}
use Rattle.format.specs.Got.{Got, got}
use Rattle.format.specs.Range.{bound_in, BoundInside}
use Rattle.format.specs.declared.range.BoundSpan.{BoundSpan}
use Rattle.format.specs.declared.span.RangeSpan.{RangeSpan}
use Rattle.records.specs.Values.{View}
use Rattle.records.specs.declared.there.RunSpan.{RunSpan}
use Rattle.manifest.specs.Ranges.{effective}
use Rattle.manifest.specs.Checks.{all, table_passes}
use Rattle.db_state.specs.Lookup.{start_key}
use Rattle.sst_view.specs.Asked.{range_at, SpanInside}
use Rattle.sst_view.specs.Runs.{RunInside, views_of, PlacesOf, leading}
use Rattle.sst_view.specs.Views.{key_at}
use Rattle.sorted_run.specs.declared.views.EffectiveSpan.{EffectiveSpan}
use Rattle.sorted_run.specs.declared.tables.Leads.{Leads}

-- a view that is there, its effective range and the key that it starts with
pub record EffectiveThere (s : List ℕ) (g : Got View) (r : EffectiveSpan) : Type 0 where
  pub value : View
  pub read : g ≡ got value (drop r.past s)
  pub past : r.past ≤ length s
  pub meaning : range_at s r.range ≡ effective value
  pub key : key_at s r.range.start ≡ start_key value
  pub inside : SpanInside s r.range

-- the end of a view before one that is there: the key that this starts with, included if the view holds it
pub record EndThere (s : List ℕ) (own : RangeSpan) (g : Got View) (b : BoundSpan) : Type 0 where
  pub value : View
  pub rest : List ℕ
  pub read : g ≡ got value rest
  pub meaning : bound_in s b ≡ pick (holds (range_at s own) (start_key value)) (included (start_key value)) (excluded (start_key value))
  pub inside : BoundInside s b

-- a run whose views passed check 5, and an asked range that passed check 4
pub record Sought (s : List ℕ) (r : RunSpan) (q : List ℕ) (asked : RangeSpan) : Type 0 where
  pub run : RunInside s r
  pub tables : all table_passes (views_of s r) ≡ true
  pub range : SpanInside q asked
  pub passes : non_empty (range_at q asked) ≡ true

-- the end within which the keys at or below a start stand
abbrev span_up_to : Kind → BoundSpan → BoundSpan
span_up_to Unbounded b = record { kind = Excluded; at = b.at; len = 0 }
span_up_to Included b = record { kind = Included; at = b.at; len = b.len }
span_up_to Excluded b = record { kind = Included; at = b.at; len = b.len }

abbrev pub up_to_span : BoundSpan → BoundSpan
up_to_span b = span_up_to b.kind b

-- how many views lead within two ends, and a table of where each view stands
pub record LeadsFound (s : List ℕ) (r : RunSpan) (q : List ℕ) (from to : BoundSpan) (places : List ℕ) (n : Leads) : Type 0 where
  pub start : n.start ≡ leading (bound_in q from) (views_of s r)
  pub end : n.end ≡ leading (bound_in q to) (views_of s r)
  pub table : PlacesOf s r places
