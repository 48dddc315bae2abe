-- Check 12 fails exactly if a destination view of an output table holds a key that no durable interval holds.
-- Assumes nothing.
use Prim.Native.Nat.{ℕ, ◌+◌}
use native.Mathlib.Omega.{arith}
use mathlib.Core.Path.{◌≡◌, refl, sym, ◌∙◌}
use mathlib.Core.Logic.{inl, inr}
use mathlib.Core.Bool.{Bool, true, false, not, ◌||◌, true≢false}
use mathlib.Core.Option.{Option, none, some}
use mathlib.Core.List.{List, [], ◌∷◌, map}
use borrow.Author.Tests.{eqb-true, eq-eqb}
use Rattle.base.specs.Bytes.{Bytes}
use Rattle.base.specs.Pick.{pick}
use Rattle.key.specs.Order.{Key}
use Rattle.comparable_range.specs.Range.{Bound, unbounded, included, excluded, Range, holds}
use Rattle.comparable_range.specs.Cut.{Cut, before, ◌≺◌, start_cut, end_cut}
use Rattle.comparable_range.specs.Laws.{ByteBound}
use Rattle.comparable_range.proofs.Cut.{≼_refl, ≼_trans, after-≼}
use Rattle.comparable_range.proofs.ByCuts.{held_by_parts}
use Rattle.records.specs.Values.{Table, View, Part}
use Rattle.manifest.specs.Ranges.{effective}
use Rattle.manifest.specs.Checks.{all, table_passes, image_checks}
use Rattle.manifest.proofs.ViewRanges.{effective_start_is_held}
use Rattle.incremental_progress.specs.Intervals.{Interval, end_bound, cut_out, any_holds, bit, times, listed}
use Rattle.incremental_progress.specs.Parts.{key_of, planned_interval, last_written, is_key, up_to_key, durable, intervals}
use Rattle.incremental_progress.specs.Checks.{nothing_left, covered, output_views_covered}
use Rattle.incremental_progress.specs.Members.{In, here, further}
use Rattle.incremental_progress.specs.ByKeys.{Uncovered, CheckTwelveByKeys}
use Rattle.base.specs.Lists.{All, All-map, All-flatMap, All-mapped, All-unmapped}
use Rattle.incremental_progress.proofs.Subtraction.{cuts, span_of, cut_out_cuts, Sound, times_cut_out}
use Rattle.incremental_progress.proofs.Pieces.{Inside}
use Rattle.incremental_progress.proofs.Vanish.{EndsAt, from_cut}
use Rattle.incremental_progress.proofs.Views.{cut_inside}
use Rattle.incremental_progress.proofs.Commit.{sound}
use Rattle.incremental_progress.proofs.Checks.{all_each, sane, covered_under, implied, job_parts}
use Rattle.records.proofs.Within.{If}
use Rattle.incremental_progress.proofs.ByKeys.{of_all}
use Rattle.manifest.proofs.ReadKeys.{TableBytes, ViewBytes, PartBytes, effective_bytes, image_keys, job_keys}

-- ---- cuts just before a key of bytes
record ByteCut (c : Cut) : Type 0 where
  key : Key
  of_bytes : Bytes key
  is : c ≡ before key

-- where a durable interval ends
bound_bytes : (b : Bound) → ByteBound b → If Bytes (key_of b)
bound_bytes unbounded h = tt
bound_bytes (included k) h = h
bound_bytes (excluded k) h = h

last_bytes : (ts : List Table) → All TableBytes ts → If Bytes (last_written ts)
unfolding last_written
last_bytes [] a = tt
last_bytes (t ∷ []) a = a.0.last
last_bytes (t ∷ u ∷ ts) a = last_bytes (u ∷ ts) a.1

abbrev EndBytes : Interval → Type 0
EndBytes iv = If Bytes iv.end

up_bytes : (s o : Option Key) → If Bytes o → All EndBytes (listed (up_to_key s o))
unfolding up_to_key
up_bytes s none h = tt
up_bytes s (some b) h = go (is_key s b)
  where
    go : (d : Bool) → All EndBytes (listed (pick d none (some (record { start = s; end = some b }))))
    go true = tt
    go false = (h, tt)

durable_bytes : (p : Part) → PartBytes p → All EndBytes (listed (durable p))
unfolding durable
durable_bytes p h = go p.completed
  where
    go : (d : Bool) → All EndBytes (listed (pick d (some (planned_interval p)) (up_to_key (planned_interval p).start (last_written p.outputs))))
    go true = (bound_bytes p.planned.end h.planned.end, tt)
    go false = up_bytes (planned_interval p).start (last_written p.outputs) (last_bytes p.outputs h.outputs)

interval_bytes : (ps : List Part) → All PartBytes ps → All EndBytes (intervals ps)
unfolding intervals
interval_bytes ps a = All-flatMap PartBytes EndBytes (λ p. listed (durable p)) durable_bytes ps a

ends_at : (iv : Interval) → EndBytes iv → EndsAt ByteCut (span_of iv)
ends_at iv h = go iv.end h
  where
    go : (o : Option Key) → If Bytes o → EndsAt ByteCut (record { from = before []; to = end_cut (end_bound o) })
    go none h = inr refl
    go (some k) h = inl (record { key = k; of_bytes = h; is = refl })

-- where a view starts
view_starts : (v : View) → table_passes v ≡ true → ViewBytes v → ByteCut (start_cut (effective v).start)
view_starts v t b =
    let s = effective_start_is_held v t in
    record { key = s.key; of_bytes = rw s.start at (effective_bytes v b).start; is = rw s.start }

-- ---- a key of what is left of a view: the start of the first piece
record Left (ivs : List Interval) (v : View) : Type 0 where
  key : Key
  of_bytes : Bytes key
  held : holds (effective v) key ≡ true
  outside : any_holds ivs key ≡ false

first_left : (ivs : List Interval) → All Sound ivs → All EndBytes ivs → (v : View) → table_passes v ≡ true → ViewBytes v → covered ivs v ≡ false → Left ivs v
unfolding covered times
first_left ivs a ends v t b e =
    go (cut_out ivs (effective v ∷ [])) e (cut_inside ivs (effective v) (sane v t).shows)
    (All-unmapped (λ s. ByteCut s.from) cuts (cut_out ivs (effective v ∷ []))
    (rw cut_out_cuts (from_cut ByteCut (map span_of ivs) (cuts (effective v) ∷ []) (All-mapped (EndsAt ByteCut) span_of ivs (All-map ends_at ivs ends)) (view_starts v t b, tt))))
    (λ x. times_cut_out x ivs (effective v ∷ []) a)
  where
    misses : (x : Key) (n : ℕ) (w : Bool) → any_holds ivs x ≡ w → 1 + n ≡ pick w 0 (bit (holds (effective v) x) + 0) → any_holds ivs x ≡ false
    misses x n true f h = absurd (omega arith)
    misses x n false f h = f

    go : (rs : List Range) → nothing_left rs ≡ false → All (λ q. Inside (cuts q) (cuts (effective v))) rs → All (λ q. ByteCut (start_cut q.start)) rs
        → ((x : Key) → times x rs ≡ pick (any_holds ivs x) 0 (times x (effective v ∷ []))) → Left ivs v
    go [] e i s c = absurd (true≢false e)
    go (q ∷ qs) e i s c =
        let k = s.0.key in
        let runs : before k ≺ end_cut q.end = rw s.0.is at i.0.runs in
        let here : holds q k ≡ true = held_by_parts q k (rw s.0.is (≼_refl (before k))) (after-≼ runs) in
        record {
          key = k;
          of_bytes = s.0.of_bytes;
          held = held_by_parts (effective v) k (rw s.0.is at i.0.starts) (≼_trans (after-≼ runs) i.0.ends);
          outside = misses k (times k qs) (any_holds ivs k) refl (rw here at (c k));
        }

-- ---- the first that fails
record Fails {A : Type 0} (f : A → Bool) (xs : List A) : Type 0 where
  one : A
  listed : In one xs
  fails : f one ≡ false

first_fails : {A : Type 0} (f : A → Bool) (xs : List A) → all f xs ≡ false → Fails f xs
unfolding all
first_fails f [] e = absurd (true≢false e)
first_fails {A} f (x ∷ xs) e = go (f x) refl (λ h. first_fails f xs h)
  where
    go : (b : Bool) → f x ≡ b → (all f xs ≡ false → Fails f xs) → Fails f (x ∷ xs)
    go true o ih = let r = ih (rw o at e) in record { one = r.one; listed = further r.listed; fails = r.fails }
    go false o ih = record { one = x; listed = here refl; fails = o }

neither : (a b : Bool) → (not a || b) ≡ false → (a ≡ true) × (b ≡ false)
neither true b e = (refl, e)
neither false b e = absurd (true≢false e)

pub check_twelve_by_keys : CheckTwelveByKeys
unfolding output_views_covered image_checks
check_twelve_by_keys given record' i j b c g d t p = (found, refused)
  where
    ivs : List Interval
    ivs = intervals j.parts

    proper : All Sound ivs
    proper = sound (job_parts j p)

    found : output_views_covered i j ≡ false → Uncovered i j
    found e =
        let r = first_fails _ i e in
        let h = neither _ _ r.fails in
        let v = first_fails _ r.one.views h.1 in
        let o = neither _ _ v.fails in
        let passes = of_all _ r.one.views (all_each table_passes r.one.views (of_all _ i (all_each _ i t) r.one r.listed)) v.one v.listed in
        let keys = of_all _ r.one.views (of_all _ i (image_keys given i b g) r.one r.listed) v.one v.listed in
        let l = first_left ivs proper (interval_bytes j.parts (job_keys record' j c d)) v.one passes keys o.1 in
        record {
          run = r.one;
          of_image = r.listed;
          destination = eqb-true r.one.id j.destination h.0;
          view = v.one;
          of_run = v.listed;
          output = o.0;
          key = l.key;
          of_bytes = l.of_bytes;
          held = l.held;
          outside = l.outside;
        }

    refused : Uncovered i j → output_views_covered i j ≡ false
    refused u = go (output_views_covered i j) refl
      where
        go : (w : Bool) → output_views_covered i j ≡ w → output_views_covered i j ≡ false
        go false e = e
        go true e =
            let h = implied _ _ (of_all _ i (all_each _ i e) u.run u.of_image) (eq-eqb u.run.id j.destination u.destination) in
            let k = implied _ _ (of_all _ u.run.views (all_each _ u.run.views h) u.view u.of_run) u.output in
            absurd (true≢false (sym (covered_under ivs proper u.view k u.key u.held) ∙ u.outside))
