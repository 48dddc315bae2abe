-- What the loop over a part's outputs keeps: those seen are planned.
-- Assumes nothing.
use Prim.Native.Nat.{ℕ, ◌+◌, ◌≤◌, ◌<◌}
use native.Mathlib.Omega.{arith}
use mathlib.Core.Path.{◌≡◌, ap, ◌∙◌}
use mathlib.Core.List.{List, [], ◌∷◌, ◌++◌, flat_map, append-nil}
use lib.ListN.{length, drop}
use lib.Dec.{T}
use Rattle.base.specs.Bytes.{Bytes}
use Rattle.base.specs.Lists.{map_append, flat_map_append}
use Rattle.records.specs.Form.{read_many}
use Rattle.records.specs.Found.{is_got, values_of}
use Rattle.records.specs.Values.{Table}
use Rattle.records.specs.Layouts.{table}
use Rattle.records.specs.Spans.{table_in}
use Rattle.records.specs.There.{TableThere}
use Rattle.records.specs.declared.tables.TableSpan.{TableSpan}
use Rattle.records.proofs.Walk.{Walk, walk_begin, walk_all, walk_here, walk_onward}
use Rattle.incremental_progress.specs.Entries.{Entry}
use Rattle.commit_rows.specs.declared.parts.PartSpan.{PartSpan}
use Rattle.commit_durable.specs.Tables.{interval_in, open_in}
use Rattle.commit_entries.specs.Planned.{PlanReady}
use Rattle.commit_entries.specs.declared.Plan.{Plan}
use Rattle.commit_entries.proofs.Planning.{planned_none, planned_then, ready_most}
use Rattle.commit_outputs.specs.Outputs.{IntervalHeld, OutputsThere, entries_in, published_as, entries_as, PlannedIn}
use Rattle.commit_outputs.specs.declared.output.Published.{Published}
use Rattle.commit_outputs.specs.declared.output.Published.TheVariants.{Left, Whole, Cut}
use Rattle.commit_outputs.proofs.OutputExits.{entries_are}

-- an output has one entry at most
pub one_most : (s : List ℕ) (h : PartSpan) (t : Table) → length (entries_in s h t) ≤ 1
one_most s h t =
    rw (entries_are (open_in s h) (interval_in s h.start h.end) t) (go (published_as (open_in s h) (interval_in s h.start h.end) t))
  where
    go : (x : Published) → length (entries_as (interval_in s h.start h.end) t x) ≤ 1
    go Left = omega arith
    go Whole = omega arith
    go Cut = omega arith

pub record PartSeen (s ids : List ℕ) (h : PartSpan) (b : ℕ) (p : Plan) (d : List ℕ) (k at : ℕ) (q : Plan) (t : List ℕ) : Type 0 where
  pub small : length s ≤ 262144
  pub bytes : Bytes s
  pub held : IntervalHeld s h
  pub few : h.outputs ≤ 1024
  pub seen : List Table
  pub walk : Walk table.read s h.first h.outputs k at seen
  pub planned : PlannedIn s ids (flat_map (entries_in s h) seen) b p d q t
  pub ready : PlanReady ids (549755813888 + k) q

pub seen_begin :
    (s ids : List ℕ) (h : PartSpan) (b : ℕ) (p : Plan) (d : List ℕ)
    → length s ≤ 262144
    → Bytes s
    → IntervalHeld s h
    → OutputsThere s h
    → PlanReady ids 549755813888 p
    → PartSeen s ids h b p d 0 h.first p d
unfolding flat_map
seen_begin s ids h b p d l y i o r =
    record {
      small = l;
      bytes = y;
      held = i;
      few = o.few;
      seen = [];
      walk = walk_begin table.read s h.first h.outputs o.first o.there;
      planned = λ image. planned_none image s ids p d;
      ready = ready_most r (omega (arith, r.few));
    }

one_table : (s : List ℕ) (h : PartSpan) (ts : List Table) (t : Table) → flat_map (entries_in s h) (ts ++ (t ∷ [])) ≡ flat_map (entries_in s h) ts ++ entries_in s h t
unfolding flat_map
one_table s h ts t = flat_map_append (entries_in s h) ts (t ∷ []) ∙ ap (λ (l : List Entry). flat_map (entries_in s h) ts ++ l) (append-nil (entries_in s h t))

module _ {s ids : List ℕ} {h : PartSpan} {b : ℕ} {p : Plan} {d : List ℕ} {k at : ℕ} {q : Plan} {t : List ℕ} (x : PartSeen s ids h b p d k at q t) where
  pub seen_same : length t ≡ length d
  seen_same = (x.planned []).same

  pub seen_all : h.outputs ≤ k → PlannedIn s ids (flat_map (entries_in s h) (values_of (read_many table.read h.outputs (drop h.first s)))) b p d q t
  seen_all l image = rw (walk_all x.walk l) (x.planned image)

  module _ (l : k < h.outputs) where
    pub seen_here : T (is_got (table.read (drop at s)))
    seen_here = walk_here x.walk l

    pub seen_ready : PlanReady ids 1099511627776 q
    seen_ready = ready_most x.ready (omega (arith, x.ready.few, x.few))

    module _ {o : TableSpan} (f : TableThere s (table.read (drop at s)) o) {r : Plan} {u : List ℕ} (g : PlannedIn s ids (entries_in s h (table_in s o)) b q t r u) where
      pub seen_more_same : length u ≡ length d
      seen_more_same = (g []).same ∙ seen_same

      pub seen_onward : PartSeen s ids h b p d (k + 1) o.past r u
      seen_onward =
          let w = (g []).ready (549755813888 + k) x.ready in
          record {
            small = x.small;
            bytes = x.bytes;
            held = x.held;
            few = x.few;
            seen = x.seen ++ (table_in s o ∷ []);
            walk = walk_onward x.walk l f.meaning f.inside.past;
            planned = λ image.
                rw (one_table s h x.seen (table_in s o), map_append (λ (e : Entry). b) (flat_map (entries_in s h) x.seen) (entries_in s h (table_in s o)))
                (planned_then image s ids (x.planned image) (g image));
            ready = ready_most w (omega (arith, w.few, one_most s h (table_in s o)));
          }

pub ruleset part_exits = (seen_begin, seen_same, seen_all, seen_here, seen_ready, seen_more_same, seen_onward)
