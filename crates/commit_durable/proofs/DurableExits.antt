-- The exits of the functions that find a part's durable interval.
-- Assumes nothing.
use Prim.Native.Nat.{ℕ}
use mathlib.Core.Path.{◌≡◌, refl, sym, ◌∙◌}
use mathlib.Core.Bool.{Bool, true, false, not, ◌&&◌}
use mathlib.Core.Option.{Option, none, some}
use mathlib.Core.List.{List}
use lib.ListN.{take, drop}
use native.Mathlib.Omega.{arith}
use Rattle.base.specs.Pick.{pick}
use Rattle.key.specs.Order.{Key, cmp_key, is_equal}
use Rattle.std.specs.declared.cmp.Ordering.{Ordering}
use Rattle.comparable_range.specs.Range.{bound_of}
use Rattle.comparable_range.specs.Factors.{is_keyed}
use Rattle.comparable_range.specs.declared.Kind.{Kind}
use Rattle.comparable_range.specs.declared.Kind.TheVariants.{Unbounded, Included, Excluded}
use Rattle.format.specs.Range.{bound_in, BoundInside}
use Rattle.format.specs.declared.range.BoundSpan.{BoundSpan}
use Rattle.format.specs.declared.span.RangeSpan.{RangeSpan}
use Rattle.records.specs.Spans.{if_so}
use Rattle.incremental_progress.specs.Intervals.{Interval, start_bound, end_bound}
use Rattle.incremental_progress.specs.Parts.{key_of, is_key, up_to_key}
use Rattle.commit_durable.specs.Answers.{last_in, LastInside, with_kind, RowMade}
use Rattle.commit_durable.specs.declared.outputs.Outputs.{Outputs}

-- ---- is_key
key_by : (k : Kind) (x y : Key) → (is_keyed k && is_equal (cmp_key x y)) ≡ is_key (key_of (bound_of k x)) y
unfolding is_key
key_by Unbounded x y = refl
key_by Included x y = refl
key_by Excluded x y = refl

module _ (s : List ℕ) (b k : BoundSpan) {t : Bool} (et : t ≡ is_keyed b.kind) where
  pub no_key : t ≡ false → t ≡ is_key (key_of (bound_in s b)) (take k.len (drop k.at s))
  no_key e = rw (← key_by b.kind (take b.len (drop b.at s)) (take k.len (drop k.at s)), ← et, e)

  pub key_is :
      {x y : Key} {o : Ordering} {u : Bool}
      → t ≡ true
      → x ≡ take b.len (drop b.at s)
      → y ≡ take k.len (drop k.at s)
      → o ≡ cmp_key x y
      → u ≡ is_equal o
      → u ≡ is_key (key_of (bound_in s b)) (take k.len (drop k.at s))
  key_is e ex ey eo eu = eu ∙ rw (eo, ex, ey, ← key_by b.kind (take b.len (drop b.at s)) (take k.len (drop k.at s)), ← et, e)

pub ruleset key_exits = (no_key, key_is)

-- ---- row_of
-- a bound as a start or an end of an interval
start_is : (k : Kind) (x : Key) → bound_of (pick (is_keyed k) Included k) x ≡ start_bound (key_of (bound_of k x))
start_is Unbounded x = refl
start_is Included x = refl
start_is Excluded x = refl

end_is : (k : Kind) (x : Key) → bound_of (pick (is_keyed k) Excluded k) x ≡ end_bound (key_of (bound_of k x))
end_is Unbounded x = refl
end_is Included x = refl
end_is Excluded x = refl

start_key_lem : (o : Option Key) → key_of (start_bound o) ≡ o
start_key_lem none = refl
start_key_lem (some x) = refl

end_key_lem : (o : Option Key) → key_of (end_bound o) ≡ o
end_key_lem none = refl
end_key_lem (some x) = refl

-- what is durable up to the last written key, if there is one and it is not the start
abbrev up_to : Option Key → Key → Interval
up_to k y = record { start = k; end = some y }

up-to : (b : Bool) (k : Option Key) (y : Key) → if_so (b && not (is_key k y)) (up_to k y) ≡ up_to_key k (if_so b y)
unfolding up_to_key
up-to false k y = refl
up-to true k y = go (is_key k y)
  where
    go : (u : Bool) → if_so (not u) (up_to k y) ≡ pick u none (some (up_to k y))
    go true = refl
    go false = refl

written : (b u : Bool) (y : Key) → (b && u) ≡ true → some y ≡ if_so b y
written true u y e = refl
written false u y e = absurd (let z : ◌≡◌ {A = ℕ} 0 1 = cc in omega arith)

module _ (s : List ℕ) (r : RangeSpan) (m f : ℕ) (o : Outputs) {i : BoundSpan} (hs : BoundInside s r.start) (ei : i ≡ with_kind Included r.start) where
  start_in : bound_in s i ≡ start_bound (key_of (bound_in s r.start))
  start_in = rw ei (start_is r.start.kind (take r.start.len (drop r.start.at s)))

  pub all_durable :
      {c : Bool} {j : BoundSpan}
      → BoundInside s r.end
      → c ≡ true
      → j ≡ with_kind Excluded r.end
      → RowMade s r c m f (last_in s o) (record { durable = true; completed = c; outputs = m; first = f; start = i; end = j })
  all_durable he e ej =
      let end_in = end_is r.end.kind (take r.end.len (drop r.end.at s)) in
      record {
        is = rw (e, ej, start_in, end_in, start_key_lem (key_of (bound_in s r.start)), end_key_lem (key_of (bound_in s r.end)));
        range = λ w. rw (ej, start_in, end_in, start_key_lem (key_of (bound_in s r.start)), end_key_lem (key_of (bound_in s r.end)));
        open_is = λ w. rw e;
        start = rw ei hs;
        end = rw ej he;
        outputs_is = refl;
        first_is = refl;
      }

  up_to_last :
      {c t u : Bool}
      → c ≡ false
      → LastInside s o
      → t ≡ is_key (key_of (bound_in s r.start)) (take o.len (drop o.at s))
      → u ≡ (o.there && not t)
      → RowMade s r c m f (last_in s o) (record { durable = u; completed = c; outputs = m; first = f; start = i; end = record { kind = Excluded; at = o.at; len = o.len } })
  up_to_last {c} {t} {u} e hl ht hu =
      let y = take o.len (drop o.at s) in
      record {
        is = rw (e, hu, ht, start_in, start_key_lem (key_of (bound_in s r.start))) (up-to o.there (key_of (bound_in s r.start)) y);
        range = λ w. rw (start_in, start_key_lem (key_of (bound_in s r.start)));
        open_is = λ w. rw e (written o.there (not t) y (sym hu ∙ w));
        start = rw ei hs;
        end = hl;
        outputs_is = refl;
        first_is = refl;
      }

  -- whether a key was written decides first
  module _ {c : Bool} (e : c ≡ false) (hl : LastInside s o) where
    pub none_written : o.there ≡ false → RowMade s r c m f (last_in s o) (record { durable = o.there; completed = c; outputs = m; first = f; start = i; end = record { kind = Excluded; at = o.at; len = o.len } })
    none_written w = up_to_last e hl refl (rw w)

    pub some_written :
        {t : Bool}
        → o.there ≡ true
        → t ≡ is_key (key_of (bound_in s r.start)) (take o.len (drop o.at s))
        → RowMade s r c m f (last_in s o) (record { durable = not t; completed = c; outputs = m; first = f; start = i; end = record { kind = Excluded; at = o.at; len = o.len } })
    some_written w ht = up_to_last e hl ht (rw w)

pub ruleset row_exits = (all_durable, none_written, some_written)
