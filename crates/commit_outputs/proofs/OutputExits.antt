-- The exits of the functions that find what of an output is published, and plan it.
-- Assumes nothing.
use Prim.Native.Nat.{ℕ, ◌+◌, ◌-◌, ◌≤◌}
use native.Mathlib.Omega.{arith}
use mathlib.Core.Path.{◌≡◌, refl, sym, ap, ◌∙◌}
use mathlib.Core.Bool.{Bool, true, false}
use mathlib.Core.Option.{Option, none, some}
use mathlib.Core.List.{List, [], ◌∷◌}
use lib.ListN.{length, take, drop}
use Rattle.base.specs.Bytes.{Bytes}
use Rattle.base.specs.Pick.{pick}
use Rattle.key.specs.Order.{Key, cmp_key, is_equal}
use Rattle.std.specs.declared.cmp.Ordering.{Ordering}
use Rattle.comparable_range.specs.Range.{Range, bound_of, non_empty, overlap}
use Rattle.format.specs.Range.{bound_in, range_in, BoundInside, write_range}
use Rattle.format.specs.declared.range.BoundSpan.{BoundSpan}
use Rattle.records.specs.Values.{Table}
use Rattle.records.specs.Layouts.{table}
use Rattle.records.specs.Spans.{if_so, key_in, table_in, TableInside}
use Rattle.records.specs.There.{TableThere}
use Rattle.records.specs.declared.ids.ViewId.{ViewId}
use Rattle.records.specs.declared.tables.TableSpan.{TableSpan}
use Rattle.manifest.specs.Ranges.{own, last_bound}
use Rattle.manifest.specs.Spans.{first_span, last_kind, last_span}
use Rattle.incremental_progress.specs.Intervals.{Interval, to_range}
use Rattle.incremental_progress.specs.Parts.{is_key, identity}
use Rattle.incremental_progress.specs.Entries.{whole, cut, output_entries}
use Rattle.commit_rows.specs.Bytes.{row_bytes, row_range, row_length}
use Rattle.commit_rows.specs.declared.parts.PartSpan.{PartSpan}
use Rattle.commit_rows.specs.declared.rows.Form.{Form}
use Rattle.commit_rows.specs.declared.rows.Form.TheVariants.{Output, CutOutput}
use Rattle.commit_rows.specs.declared.rows.Row.{Row}
use Rattle.commit_durable.specs.Tables.{interval_in, open_in}
use Rattle.commit_entries.specs.Planned.{RowSmall, Added, AddedCut, WholeRow, CutRow}
use Rattle.commit_entries.specs.declared.Plan.{Plan}
use Rattle.commit_entries.proofs.Planning.{planned_none, planned_whole, planned_cut}
use Rattle.commit_entries.proofs.Standing.{table_stands, table_id, table_id_long, table_id_within}
use Rattle.commit_entries.proofs.RowBytes.{cut_view_bytes, cut_entry_bytes, identity_bytes, new_id_bytes_lem, range_length_lem, cut_length, whole_length}
use Rattle.commit_outputs.specs.Outputs.{IntervalHeld, entries_in, published_as, output_row, entries_as, PlannedIn}
use Rattle.commit_outputs.specs.declared.output.Published.{Published}
use Rattle.commit_outputs.specs.declared.output.Published.TheVariants.{Left, Whole, Cut}

-- ---- some_inside
own_is : (s : List ℕ) (t : TableSpan) → range_in s (first_span t) (last_span t) ≡ own (table_in s t)
own_is s t = go t.flagged
  where
    go : (f : Bool)
        → ◌≡◌ {A = Range}
        (record { start = bound_in s (first_span t); end = bound_of (last_kind f) (key_in s t.last_at t.last_len) })
        (record { start = bound_in s (first_span t); end = last_bound (if_so f (key_in s t.last_at t.last_len)) })
    go true = refl
    go false = refl

module _ (s : List ℕ) (t : TableSpan) (h : PartSpan) (i : IntervalHeld s h) where
  pub own_first : {a : BoundSpan} → TableInside s t → a ≡ first_span t → BoundInside s a
  own_first x e = rw e x.first

  pub own_last : {b : BoundSpan} → TableInside s t → b ≡ last_span t → BoundInside s b
  own_last x e = rw e x.last

  pub inside_is :
      {a b : BoundSpan} {r : Bool}
      → a ≡ first_span t
      → b ≡ last_span t
      → r ≡ non_empty (overlap (range_in s a b) (range_in s h.start h.end))
      → r ≡ non_empty (overlap (own (table_in s t)) (to_range (interval_in s h.start h.end)))
  inside_is {a} {b} e f g =
      let u : range_in s a b ≡ own (table_in s t) = rw (e, f) (own_is s t) in
      g ∙ ap (λ q. non_empty (overlap q (range_in s h.start h.end))) u ∙ ap (λ q. non_empty (overlap (own (table_in s t)) q)) i.range

pub ruleset inside_exits = (own_first, own_last, inside_is)

-- ---- ends_at
module _ (s : List ℕ) (t : TableSpan) (b : BoundSpan) where
  pub no_last : t.flagged ≡ false → t.flagged ≡ is_key (table_in s t).last (key_in s b.at b.len)
  unfolding is_key
  no_last e = rw e

  pub last_is :
      {x y : Key} {o : Ordering} {r : Bool}
      → t.flagged ≡ true
      → x ≡ key_in s t.last_at t.last_len
      → y ≡ key_in s b.at b.len
      → o ≡ cmp_key x y
      → r ≡ is_equal o
      → r ≡ is_key (table_in s t).last (key_in s b.at b.len)
  unfolding is_key
  last_is e ex ey eo er = rw (e, ← ex, ← ey, ← eo) er

pub ruleset ends_exits = (no_last, last_is)

-- ---- published_as
module _ (s : List ℕ) (t : TableSpan) (h : PartSpan) where
  pub as_completed : h.completed ≡ true → Whole ≡ published_as (open_in s h) (interval_in s h.start h.end) (table_in s t)
  unfolding published_as
  as_completed e = rw e

  module _ (e : h.completed ≡ false) {b : Bool} (hb : b ≡ is_key (table_in s t).last (key_in s h.end.at h.end.len)) where
    pub as_whole : b ≡ false → Whole ≡ published_as (open_in s h) (interval_in s h.start h.end) (table_in s t)
    unfolding published_as
    as_whole q = rw (e, ← hb, q)

    module _ (q : b ≡ true) {c : Bool} (hc : c ≡ non_empty (overlap (own (table_in s t)) (to_range (interval_in s h.start h.end)))) where
      pub as_cut : c ≡ true → Cut ≡ published_as (open_in s h) (interval_in s h.start h.end) (table_in s t)
      unfolding published_as
      as_cut w = rw (e, ← hb, q, ← hc, w)

      pub as_left : c ≡ false → Left ≡ published_as (open_in s h) (interval_in s h.start h.end) (table_in s t)
      unfolding published_as
      as_left w = rw (e, ← hb, q, ← hc, w)

pub ruleset as_exits = (as_completed, as_whole, as_cut, as_left)

-- ---- plan_output
pub entries_are : (cutting : Option Key) (iv : Interval) (t : Table) → output_entries cutting iv t ≡ entries_as iv t (published_as cutting iv t)
unfolding output_entries published_as
entries_are none iv t = refl
entries_are (some b) iv t = go (is_key t.last b) (non_empty (overlap (own t) (to_range iv)))
  where
    go : (x y : Bool)
        → pick x (pick y (cut (identity t) (to_range iv) ∷ []) []) (whole (identity t) ∷ [])
        ≡ entries_as iv t (pick x (pick y Cut Left) Whole)
    go true true = refl
    go true false = refl
    go false y = refl

module _ (s : List ℕ) (at : ℕ) (t : TableSpan) (small : length s ≤ 262144) (b : Bytes s) (l : at ≤ length s) (f : TableThere s (table.read (drop at s)) t) where
  pub output_id : at + 16 ≤ length s
  output_id = omega (arith, table_id_within s at b l f, f.inside.past)

  module _ (h : PartSpan) (i : IntervalHeld s h) (bucket : ℕ) (p : Plan) (ids d : List ℕ) where
    pub output_small : (form : Form) {r : Row} → r ≡ output_row form h bucket at t.past → RowSmall r
    output_small form e =
        rw e record {
          order = omega (arith, table_id_within s at b l f);
          past = omega (arith, f.inside.past);
          start = omega (arith, i.start);
          end = omega (arith, i.end);
        }

    module _ {x : Published} (e : x ≡ published_as (open_in s h) (interval_in s h.start h.end) (table_in s t)) where
      entries_by : entries_in s h (table_in s t) ≡ entries_as (interval_in s h.start h.end) (table_in s t) x
      entries_by = entries_are (open_in s h) (interval_in s h.start h.end) (table_in s t) ∙ ap (entries_as (interval_in s h.start h.end) (table_in s t)) (sym e)

      pub output_left : x ≡ Left → PlannedIn s ids (entries_in s h (table_in s t)) bucket p d p d
      output_left w image = rw (entries_by, w) (planned_none image s ids p d)

      whole_row : (image : List ℕ) → WholeRow image s ids (identity (table_in s t)) bucket (output_row Output h bucket at t.past)
      unfolding row_bytes row_length
      whole_row image =
          let y = table_stands s at b l f in
          let n : at + 16 - at ≡ 16 = omega arith in
          record {
            inside = record { id = table_id_within s at b l f; past = f.inside.past; ten = tt; start = i.start; end = i.end };
            bytes = rw (y.are, n, table_id s at b l f) (sym (identity_bytes (table_in s t)));
            long = rw (identity_bytes, whole_length) (omega (arith, y.ends, table_id_long s at b l f));
            bucket = refl;
          }

      pub output_whole : {r : Row} {q : Plan} {u : List ℕ} → x ≡ Whole → r ≡ output_row Output h bucket at t.past → Added r p d q u → PlannedIn s ids (entries_in s h (table_in s t)) bucket p d q u
      output_whole {r} {q} {u} w g a image =
          rw (entries_by, w) (planned_whole image s ids (identity (table_in s t)) bucket (output_row Output h bucket at t.past) (whole_row image) p d q u (rw g at a))

      cut_row_lem : (image : List ℕ) → CutRow image s ids (identity (table_in s t)) (to_range (interval_in s h.start h.end)) bucket (output_row CutOutput h bucket at t.past)
      unfolding row_bytes row_length row_range
      cut_row_lem image =
          let y = table_stands s at b l f in
          record {
            inside = λ ten k. record { id = table_id_within s at b l f; past = f.inside.past; ten = k; start = i.start; end = i.end };
            bytes = λ ten k.
                rw (y.are, new_id_bytes_lem s at ids ten _ (table_id s at b l f), i.range)
                (sym (cut_view_bytes (identity (table_in s t)) (to_range (interval_in s h.start h.end)) (take 10 (drop ten ids))));
            long =
                let r : length (write_range (to_range (interval_in s h.start h.end))) ≡ _ = ap (λ q. length (write_range q)) (sym i.range) ∙ range_length_lem s s h.start h.end i.start i.end in
                rw (cut_entry_bytes, cut_length) (omega (arith, r, y.ends, table_id_long s at b l f));
            bucket = refl;
          }

      pub output_cut_lem :
          {r : Row} {q : Plan} {u : List ℕ} {old : ViewId}
          → x ≡ Cut
          → r ≡ output_row CutOutput h bucket at t.past
          → old.0 ≡ take 16 (drop at s)
          → AddedCut old ids r p d q u
          → PlannedIn s ids (entries_in s h (table_in s t)) bucket p d q u
      output_cut_lem {r} {q} {u} {old} w g j a image =
          let z : old ≡ (identity (table_in s t)).id = ap (λ n. record { 0 = n }) (j ∙ table_id s at b l f) in
          rw (entries_by, w)
          (planned_cut image s ids (identity (table_in s t)) (to_range (interval_in s h.start h.end)) bucket (output_row CutOutput h bucket at t.past) (cut_row_lem image) p d q u (rw (z, g) at a))

pub ruleset output_exits = (output_small, output_id, output_left, output_whole, output_cut_lem)
