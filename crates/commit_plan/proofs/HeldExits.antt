-- The exits of `view_held`.
-- Assumes nothing.
use Prim.Native.Nat.{ℕ, ◌+◌, ◌≤◌}
use native.Mathlib.Omega.{arith}
use mathlib.Core.Path.{◌≡◌, refl, sym, ap, subst, ◌∙◌}
use mathlib.Core.List.{List}
use lib.ListN.{length, take, drop}
use Rattle.base.specs.Bytes.{Bytes}
use Rattle.comparable_range.specs.Range.{Bound, Range}
use Rattle.format.specs.Range.{bound_in}
use Rattle.format.specs.declared.span.RangeSpan.{RangeSpan}
use Rattle.records.specs.Values.{View}
use Rattle.records.specs.Layouts.{table, view}
use Rattle.records.specs.Spans.{view_in}
use Rattle.records.specs.There.{TableThere, ViewThere}
use Rattle.records.specs.declared.views.ViewSpan.{ViewSpan}
use Rattle.manifest.specs.Ranges.{effective}
use Rattle.manifest.specs.Spans.{EffectiveFound}
use Rattle.commit_durable.specs.Tables.{job_gaps}
use Rattle.commit_gaps.specs.Ordered.{Behind}
use Rattle.commit_gaps.specs.Found.{Reached}
use Rattle.commit_entries.proofs.Standing.{table_stands, view_stands, view_id, view_id_long, view_id_within, table_id_within}
use Rattle.commit_plan.specs.Held.{view_got, view_at, HeldAt}

module _ (s : List ℕ) (at : ℕ) {v : ViewSpan} (f : ViewThere s (view.read (drop at s)) v) where
  view_is : view_at s at ≡ view_in s v
  view_is = ap view_got f.meaning

  module _ {r : RangeSpan} (e : EffectiveFound s v r) where
    start_is : bound_in s r.start ≡ (effective (view_at s at)).start
    start_is = ap (λ (q : Range). q.start) e.meaning ∙ ap (λ (w : View). (effective w).start) (sym view_is)

    pub held_behind : (job : List ℕ) (from : ℕ) → Behind (effective (view_at s at)).start (take from (job_gaps job)) → Behind (bound_in s r.start) (take from (job_gaps job))
    held_behind job from h = subst (λ (b : Bound). Behind b (take from (job_gaps job))) (sym start_is) h

    pub held_reached : {job : List ℕ} {m g : ℕ} → Reached (bound_in s r.start) job m g → Reached (effective (view_at s at)).start job m g
    held_reached {job} {m} {g} h = subst (λ (b : Bound). Reached b job m g) start_is h

    pub held_at : (g : ℕ) → Bytes s → at ≤ length s → TableThere s (table.read (drop (at + 16) s)) v.table → HeldAt s at (record { at = at; end = v.table.past; past = v.past; range = r; gap = g })
    held_at g b l t =
        let w = view_stands s at b l f in
        let l16 : at + 16 ≤ length s = omega (arith, view_id_within s at b l f, f.inside.past) in
        let x = table_stands s (at + 16) b l16 t in
        record {
          place = refl;
          read = rw view_is f.meaning;
          within = f.inside.past;
          id = view_id_within s at b l f;
          table_id = omega (arith, table_id_within s (at + 16) b l16 t);
          table_within = t.inside.past;
          id_long = rw view_is (view_id_long s at b l f);
          id_is = rw view_is (view_id s at b l f);
          bytes = rw view_is w.are;
          long = rw view_is w.ends;
          table_bytes = rw view_is x.are;
          table_long = rw view_is x.ends;
          range_is = rw view_is e.meaning;
          start = e.start;
          end = e.end;
        }

pub ruleset held_exits = (held_behind, held_reached, held_at)
