-- The exits of the functions on a table's own range and a view's effective range.
-- Assumes nothing.
use Prim.Native.Nat.{ℕ}
use mathlib.Core.Path.{◌≡◌, refl, ap, ◌∙◌}
use mathlib.Core.Bool.{Bool, true, false}
use mathlib.Core.List.{List}
use lib.ListN.{take, drop}
use Rattle.key.specs.Order.{Key}
use Rattle.comparable_range.specs.Range.{Range, bound_of, of, start_side, end_side}
use Rattle.comparable_range.specs.declared.Side.{Side}
use Rattle.comparable_range.specs.declared.Side.TheVariants.{First, Second}
use Rattle.format.specs.Range.{bound_in, range_in, BoundInside}
use Rattle.format.specs.declared.range.BoundSpan.{BoundSpan}
use Rattle.records.specs.Spans.{table_in, view_in, ViewInside, if_so}
use Rattle.records.specs.declared.tables.TableSpan.{TableSpan}
use Rattle.records.specs.declared.views.ViewSpan.{ViewSpan}
use Rattle.manifest.specs.Ranges.{own, last_bound, effective}
use Rattle.manifest.specs.Spans.{first_span, last_kind, last_span, BoundFound, EffectiveFound}

-- ---- effective
of_in : (s : List ℕ) (d : Side) (a b : BoundSpan) → bound_in s (of d a b) ≡ of d (bound_in s a) (bound_in s b)
of_in s First a b = refl
of_in s Second a b = refl

of_inside : (s : List ℕ) (d : Side) (a b : BoundSpan) → BoundInside s a → BoundInside s b → BoundInside s (of d a b)
of_inside s First a b p q = p
of_inside s Second a b p q = q

last_in_lem : (f : Bool) (k : Key) → bound_of (last_kind f) k ≡ last_bound (if_so f k)
last_in_lem true k = refl
last_in_lem false k = refl

pub own_in : (s : List ℕ) (t : TableSpan) → range_in s (first_span t) (last_span t) ≡ own (table_in s t)
own_in s t = rw (last_in_lem t.flagged (take t.last_len (drop t.last_at s)))

module _ (s : List ℕ) (v : ViewSpan) (p : ViewInside s v) where
  pub first_inside : {o : BoundSpan} → o ≡ first_span v.table → BoundInside s o
  first_inside e = rw e p.table.first

  pub last_inside : {o : BoundSpan} → o ≡ last_span v.table → BoundInside s o
  last_inside e = rw e p.table.last

  pub start_inside : BoundInside s v.start
  start_inside = p.start

  pub end_inside : BoundInside s v.end
  end_inside = p.end

module _ (s : List ℕ) (v : ViewSpan) (p : ViewInside s v) {a b : BoundSpan} (h : a ≡ first_span v.table) (l : b ≡ last_span v.table) where
  own_is : range_in s a b ≡ own (table_in s v.table)
  own_is = ap (λ c. range_in s c b) h ∙ ap (λ c. range_in s (first_span v.table) c) l ∙ own_in s v.table

  not_shown : v.shown ≡ false → EffectiveFound s v (record { start = a; end = b })
  unfolding effective
  not_shown e = record { meaning = own_is ∙ rw e; start = first_inside s v p h; end = last_inside s v p l }

  shown :
      {c d : BoundSpan} {j k : Side}
      → v.shown ≡ true
      → j ≡ start_side (bound_in s a) (bound_in s v.start)
      → c ≡ of j a v.start
      → k ≡ end_side (bound_in s b) (bound_in s v.end)
      → d ≡ of k b v.end
      → EffectiveFound s v (record { start = c; end = d })
  unfolding effective
  shown {c} {d} {j} {k} e g x i y =
      record {
        meaning = cut e (x ∙ rw g) (y ∙ rw i);
        start = rw x (of_inside s j a v.start (first_inside s v p h) p.start);
        end = rw y (of_inside s k b v.end (last_inside s v p l) p.end);
      }
    where
      starts : bound_in s a ≡ (own (table_in s v.table)).start
      starts = ap (λ (r : Range). r.start) own_is

      ends : bound_in s b ≡ (own (table_in s v.table)).end
      ends = ap (λ (r : Range). r.end) own_is

      cut : {c d : BoundSpan} → v.shown ≡ true → c ≡ of (start_side (bound_in s a) (bound_in s v.start)) a v.start → d ≡ of (end_side (bound_in s b) (bound_in s v.end)) b v.end → range_in s c d ≡ effective (view_in s v)
      cut e x y =
          rw (x, y, of_in s (start_side (bound_in s a) (bound_in s v.start)) a v.start, of_in s (end_side (bound_in s b) (bound_in s v.end)) b v.end, e, starts, ends)

module _ (s : List ℕ) (v : ViewSpan) (p : ViewInside s v) where
  module _ {a : BoundSpan} (h : a ≡ first_span v.table) where
    pub start_own : v.shown ≡ false → BoundFound s (effective (view_in s v)).start a
    start_own e = let f = not_shown s v p h refl e in record { is = ap (λ (r : Range). r.start) f.meaning; inside = f.start }

    pub start_cut_lem : {c : BoundSpan} {j : Side} → v.shown ≡ true → j ≡ start_side (bound_in s a) (bound_in s v.start) → c ≡ of j a v.start → BoundFound s (effective (view_in s v)).start c
    start_cut_lem e g x = let f = shown s v p h refl e g x refl refl in record { is = ap (λ (r : Range). r.start) f.meaning; inside = f.start }

  module _ {b : BoundSpan} (l : b ≡ last_span v.table) where
    pub end_own : v.shown ≡ false → BoundFound s (effective (view_in s v)).end b
    end_own e = let f = not_shown s v p refl l e in record { is = ap (λ (r : Range). r.end) f.meaning; inside = f.end }

    pub end_cut_lem : {d : BoundSpan} {k : Side} → v.shown ≡ true → k ≡ end_side (bound_in s b) (bound_in s v.end) → d ≡ of k b v.end → BoundFound s (effective (view_in s v)).end d
    end_cut_lem e i y = let f = shown s v p refl l e refl refl i y in record { is = ap (λ (r : Range). r.end) f.meaning; inside = f.end }

pub ruleset bound_exits = (first_inside, last_inside, start_inside, end_inside, start_own, start_cut_lem, end_own, end_cut_lem)

pub both_bounds : (s : List ℕ) (v : ViewSpan) {a b : BoundSpan} → BoundFound s (effective (view_in s v)).start a → BoundFound s (effective (view_in s v)).end b → EffectiveFound s v (record { start = a; end = b })
both_bounds s v f g = record { meaning = rw (f.is, g.is); start = f.inside; end = g.inside }
