-- The exits of the checks of one view.
-- Assumes nothing.
use Prim.Native.Nat.{ℕ}
use mathlib.Core.Path.{◌≡◌, refl, sym, ap, ◌∙◌}
use mathlib.Core.Bool.{Bool, true, false, ◌&&◌, not}
use mathlib.Core.List.{List}
use lib.ListN.{take, drop}
use Rattle.base.specs.Pick.{pick}
use Rattle.comparable_range.specs.Range.{bound_of, non_empty}
use Rattle.comparable_range.specs.declared.Kind.{Kind}
use Rattle.comparable_range.specs.declared.Kind.TheVariants.{Unbounded, Included, Excluded}
use Rattle.format.specs.Range.{range_in, BoundInside}
use Rattle.format.specs.declared.range.BoundSpan.{BoundSpan}
use Rattle.format.specs.declared.span.RangeSpan.{RangeSpan}
use Rattle.records.specs.Spans.{table_in, view_in, if_so, TableInside}
use Rattle.records.specs.declared.tables.TableSpan.{TableSpan}
use Rattle.records.specs.declared.views.ViewSpan.{ViewSpan}
use Rattle.manifest.specs.Ranges.{effective}
use Rattle.manifest.specs.Checks.{is_excluded, keys_in_order, table_passes}
use Rattle.manifest.specs.Spans.{first_span, last_span, EffectiveFound, plain_kind, plain_start}
use Rattle.manifest.proofs.ViewRanges.{own_passes, meets_alone, starts_plain}
use Rattle.manifest.proofs.RangeExits.{own_in}

-- ---- keys_in_order
module _ (s : List ℕ) (t : TableSpan) where
  pub first_is_in : {a : BoundSpan} → a ≡ first_span t → TableInside s t → BoundInside s a
  first_is_in e p = rw e p.first

  pub last_is_in : {a : BoundSpan} → a ≡ last_span t → TableInside s t → BoundInside s a
  last_is_in e p = rw e p.last

  pub in_order : {a b : BoundSpan} {r : Bool} → a ≡ first_span t → b ≡ last_span t → r ≡ non_empty (range_in s a b) → r ≡ keys_in_order (table_in s t)
  in_order {a} {b} {r} h l e =
      e ∙ ap (λ c. non_empty (range_in s c b)) h ∙ ap (λ c. non_empty (range_in s (first_span t) c)) l ∙ ap non_empty (own_in s t) ∙ own_passes (table_in s t)

pub ruleset keys_exits = (first_is_in, last_is_in, in_order)

-- ---- table_passes
plain_kind_lem : (k : Kind) (x : List ℕ) → plain_kind k ≡ not (is_excluded (bound_of k x))
plain_kind_lem Unbounded x = refl
plain_kind_lem Included x = refl
plain_kind_lem Excluded x = refl

plain_is : (s : List ℕ) (f : Bool) (a b : BoundSpan) → pick f (plain_kind a.kind) true ≡ starts_plain (if_so f (range_in s a b))
plain_is s true a b = plain_kind_lem a.kind (take a.len (drop a.at s))
plain_is s false a b = refl

module _ (s : List ℕ) (v : ViewSpan) {p : Bool} (q : p ≡ plain_start v) where
  both : table_passes (view_in s v) ≡ (p && non_empty (effective (view_in s v)))
  both = meets_alone (view_in s v) ∙ rw (← (plain_is s v.shown v.start v.end), ← q)

  pub excluded_start : p ≡ false → false ≡ table_passes (view_in s v)
  excluded_start z = sym (both ∙ rw z)

  pub tested : {r : RangeSpan} {m : Bool} → p ≡ true → EffectiveFound s v r → m ≡ non_empty (range_in s r.start r.end) → m ≡ table_passes (view_in s v)
  tested z f w = sym (both ∙ rw z (sym (w ∙ ap non_empty f.meaning)))

pub ruleset table_exits = (excluded_start, tested)
