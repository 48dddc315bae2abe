-- What the checks say, once they have passed.
-- Assumes nothing.
use Prim.Native.Nat.{◌+◌}
use native.Mathlib.Omega.{arith}
use mathlib.Core.Path.{◌≡◌, refl, sym, ap, ◌∙◌}
use mathlib.Core.Bool.{Bool, true, false, not, ◌&&◌, ◌||◌, true≢false}
use mathlib.Core.Option.{Option, none, some}
use mathlib.Core.List.{List, [], ◌∷◌}
use Rattle.base.specs.Pick.{pick, and_first, and_second}
use Rattle.key.specs.Order.{Key, at_most}
use Rattle.comparable_range.specs.Range.{Bound, unbounded, included, excluded, Range, cmp_bound, non_empty, start_holds, holds}
use Rattle.comparable_range.specs.Cut.{Cut, below, before, cut_at_most, ◌≼◌, ◌≺◌, start_cut, end_cut}
use Rattle.comparable_range.proofs.Cut.{≼_trans}
use Rattle.comparable_range.proofs.ByCuts.{cmp_start, passes-≺, start_holds_by_cuts}
use Rattle.records.specs.Values.{Table, View, Part, Image, Job}
use Rattle.manifest.specs.Ranges.{effective}
use Rattle.manifest.specs.Checks.{all, reaches, keys_in_order, is_excluded, table_passes, ascend, ascend_from, starts, image_checks, job_checks}
use Rattle.manifest.proofs.ViewRanges.{starts_plain, meets_alone, effective_start_is_held}
use Rattle.incremental_progress.specs.Intervals.{Interval, start_bound, end_bound, cut_out, any_holds, bit, times}
use Rattle.incremental_progress.specs.Views.{start}
use Rattle.incremental_progress.specs.Parts.{key_of, planned_interval, intervals}
use Rattle.incremental_progress.specs.Checks.{is_included, planned_from, planned_in_order, ends_by, last_cut, outputs_from, outputs_inside, outputs_in_order, nothing_left, covered, output_views_covered}
use Rattle.incremental_progress.specs.Laws.{JobPasses}
use Rattle.base.specs.Lists.{All, All-map, All-both}
use Rattle.incremental_progress.proofs.Sort.{Sorted}
use Rattle.incremental_progress.proofs.Span.{both_true}
use Rattle.incremental_progress.proofs.Subtraction.{Sound, All-spans, times_cut_out}
use Rattle.incremental_progress.proofs.Vanish.{at_key}
use Rattle.incremental_progress.proofs.Job.{from_cut, to_cut, Ascending, no_more, output, Planned, no_parts, with_part}
use Rattle.incremental_progress.proofs.Publish.{Sane, Under, cut_none}
use Rattle.incremental_progress.proofs.Commit.{Parts, sound, Passes}

pub all_each : {A : Type 0} (f : A → Bool) (xs : List A) → all f xs ≡ true → All (λ x. f x ≡ true) xs
unfolding all
all_each f [] e = tt
all_each f (x ∷ xs) e = let h = both_true (f x) (all f xs) e in (h.0, all_each f xs h.1)

-- ---- views
pub sane : (v : View) → table_passes v ≡ true → Sane v
sane v e =
    let h = effective_start_is_held v e in
    record {
      at = rw h.start at_key;
      shows = passes-≺ (effective v).start (effective v).end (and_second (starts_plain v.visible) (non_empty (effective v)) (sym (meets_alone v) ∙ e));
    }

-- starts that ascend one by one are in order
later_start : (a b : Bound) → at_most (cmp_bound true a b) ≡ true → start_cut a ≼ start_cut b
unfolding cut_at_most
later_start a b e = record { holds = ap at_most (sym (cmp_start a b)) ∙ e }

sorted_from : (b : Bound) (vs : List View) → ascend_from b (starts vs) ≡ true → All (λ v. start_cut b ≼ start v) vs × Sorted start vs
unfolding ascend_from
sorted_from b [] e = (tt, tt)
sorted_from b (v ∷ vs) e =
    let h = both_true (at_most (cmp_bound true b (effective v).start)) (ascend_from (effective v).start (starts vs)) e in
    let s = sorted_from (effective v).start vs h.1 in
    let k : start_cut b ≼ start v = later_start b (effective v).start h.0 in
    ((k, All-map (λ w m. ≼_trans k m) vs s.0), s)

pub sorted : (vs : List View) → ascend (starts vs) ≡ true → Sorted start vs
sorted [] e = tt
sorted (v ∷ vs) e = sorted_from (effective v).start vs e

-- ---- parts
below_last : (f l : Key) → reaches f (some l) ≡ true → before f ≼ before l
unfolding start_holds
below_last f l e = record { holds = sym (start_holds_by_cuts (included f) l) ∙ e }

pub ascending : (e c : Cut) (ts : List Table) → outputs_from e c ts ≡ true → All (λ t. keys_in_order t ≡ true) ts → Ascending e c ts
unfolding outputs_from keys_in_order
ascending e c [] h a = no_more
ascending e c (t ∷ ts) h a =
    let k = both_true (cut_at_most c (before t.first) && ends_by e t.last) (outputs_from e (last_cut t.last) ts) h in
    let m = both_true (cut_at_most c (before t.first)) (ends_by e t.last) k.0 in
    go t.last refl (record { holds = m.0 }) m.1 a.0 k.1 (λ d n. ascending e d ts n a.1)
  where
    go : (o : Option Key) → t.last ≡ o → c ≼ before t.first → ends_by e o ≡ true → reaches t.first o ≡ true → outputs_from e (last_cut o) ts ≡ true
        → ((d : Cut) → outputs_from e d ts ≡ true → Ascending e d ts) → Ascending e c (t ∷ ts)
    go none i b f l r ih = absurd (true≢false (sym f))
    go (some k) i b f l r ih = output i b (below_last t.first k l) (record { holds = f }) (ih (before k) r)

from_plan : (b : Bound) → not (is_excluded b) ≡ true → start_cut (start_bound (key_of b)) ≡ start_cut b
from_plan unbounded e = refl
from_plan (included k) e = refl
from_plan (excluded k) e = absurd (true≢false (sym e))

to_plan : (b : Bound) → not (is_included b) ≡ true → end_cut (end_bound (key_of b)) ≡ end_cut b
to_plan unbounded e = refl
to_plan (included k) e = absurd (true≢false (sym e))
to_plan (excluded k) e = refl

plans : (c : Cut) (ps : List Part) → planned_from c ps ≡ true → All (λ (p : Part). non_empty p.planned ≡ true) ps → All (λ (p : Part). all keys_in_order p.outputs ≡ true) ps
    → All (λ (p : Part). outputs_inside p ≡ true) ps → Planned c ps
unfolding planned_from outputs_inside
plans c [] h n t o = no_parts
plans c (p ∷ ps) h n t o =
    let a = not (is_excluded p.planned.start) in
    let b = not (is_included p.planned.end) in
    let d = cut_at_most c (start_cut p.planned.start) in
    let k = both_true (a && b && d) _ h in
    let m = both_true (a && b) d k.0 in
    let q = both_true a b m.0 in
    let from = from_plan p.planned.start q.0 in
    let to = to_plan p.planned.end q.1 in
    let begins : c ≼ from_cut (planned_interval p) = rw from (record { holds = m.1 }) in
    let runs : from_cut (planned_interval p) ≺ to_cut (planned_interval p) = rw (from, to) (passes-≺ p.planned.start p.planned.end n.0) in
    let outs : Ascending (to_cut (planned_interval p)) (from_cut (planned_interval p)) p.outputs =
    rw (from, to) (ascending _ _ p.outputs o.0 (all_each keys_in_order p.outputs t.0)) in
    let rest : Planned (to_cut (planned_interval p)) ps = rw to (plans _ ps k.1 n.1 t.1 o.1) in
    with_part begins runs outs rest

-- ---- check 12: nothing is left of a view, if each of its keys lies in an interval; and the other way round
pub covered_under : (ivs : List Interval) → All Sound ivs → (v : View) → covered ivs v ≡ true → Under ivs v
unfolding covered times
covered_under ivs a v e x h = go (cut_out ivs (effective v ∷ [])) e (times_cut_out x ivs (effective v ∷ []) a)
  where
    one : (b : Bool) → 0 ≡ pick b 0 (bit true + 0) → b ≡ true
    one true t = refl
    one false t = absurd (omega arith)

    go : (rs : List Range) → nothing_left rs ≡ true → times x rs ≡ pick (any_holds ivs x) 0 (times x (effective v ∷ [])) → any_holds ivs x ≡ true
    go (r ∷ rs) e t = absurd (true≢false (sym e))
    go [] e t = one (any_holds ivs x) (rw h at t)

pub under_covered : (ivs : List Interval) → All Sound ivs → (v : View) → Sane v → Under ivs v → covered ivs v ≡ true
unfolding covered
under_covered ivs a v s u = rw (cut_none ivs (All-spans ivs a) v s u)

pub implied : (a b : Bool) → (not a || b) ≡ true → a ≡ true → b ≡ true
implied true b e h = e
implied false b e h = absurd (true≢false (sym h))

-- ---- all together
-- the checks on a job alone say where its parts lie
pub job_parts : (j : Job) → JobPasses j → Parts j
unfolding job_checks planned_in_order outputs_in_order
job_parts j c =
    plans below j.parts c.planned (all_each _ j.parts c.ranges) (all_each _ j.parts c.tables) (all_each _ j.parts c.outputs)

-- and those on an image and a job
pub record Checked (runs : Image) (j : Job) : Type 0 where
  pub tables : (image_checks runs).tables ≡ true
  pub order : (image_checks runs).order ≡ true
  pub job : JobPasses j
  pub covered : output_views_covered runs j ≡ true

pub passes : (runs : Image) (j : Job) → Checked runs j → Passes j runs
unfolding image_checks output_views_covered
passes runs j c =
    record {
      parts = parts;
      ordered = All-both (λ r s o. record { sane = All-map sane r.views (all_each _ r.views s); sorted = sorted r.views o }) runs
          (all_each _ runs c.tables) (all_each _ runs (and_first _ _ c.order));
      replaced = All-map (λ r c d. All-map (λ v k o. covered_under (intervals j.parts) (sound parts) v (implied _ _ k o)) r.views (all_each _ r.views (implied _ _ c d))) runs (all_each _ runs c.covered);
    }
  where
    parts : Parts j
    parts = job_parts j c.job
