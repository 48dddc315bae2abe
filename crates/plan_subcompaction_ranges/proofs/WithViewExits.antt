-- The exits of `raw_size`, `total_fault` and `with_view`.
-- Assumes nothing.
use Prim.Native.Nat.{ℕ, ◌+◌, ◌*◌, ◌^◌, ◌<◌, ◌≤◌, max, min}
use native.Mathlib.Omega.{arith}
use mathlib.Core.Path.{◌≡◌, sym, ap, ap₂, subst, ◌∙◌}
use mathlib.Core.Bool.{Bool, true, false}
use mathlib.Core.List.{List, [], ◌∷◌, ◌++◌}
use lib.ListN.{length, drop, length-append, length-drop}
use lib.Dec.{T}
use mir.Val.{Fits}
use mir.Syntax.{w64}
use borrow.Author.Tests.{lt-ltb, le-ltb, leb-true}
use Rattle.format.specs.Got.{got, and_then}
use Rattle.format.specs.Range.{range_in, BoundInside}
use Rattle.format.specs.declared.span.RangeSpan.{RangeSpan}
use Rattle.records.specs.Form.{read_many}
use Rattle.records.specs.Found.{is_got, values_of}
use Rattle.records.specs.Values.{View, Index, Anchors}
use Rattle.records.specs.Layouts.{index}
use Rattle.records.specs.Spans.{view_in}
use Rattle.records.specs.declared.views.ViewSpan.{ViewSpan}
use Rattle.records.proofs.Forms.{read_many_length}
use Rattle.records.proofs.Many.{after}
use Rattle.manifest.specs.Ranges.{effective}
use Rattle.manifest.specs.Checks.{all, total, index_checks}
use Rattle.manifest.specs.Faults.{fault_of, least, ordered}
use Rattle.manifest.specs.Spans.{EffectiveFound, size_fits}
use Rattle.manifest.proofs.ImageExits.{Judge, judge}
use Rattle.subcompaction.specs.Anchors.{sample_anchors}
use Rattle.subcompaction.specs.PlanCalls.{sampled}
use Rattle.subcompaction.specs.Tables.{Held, index_there}
use Rattle.plan_subcompaction_ranges.specs.Walks.{indexes_read, indexes_of, passing_size, Sampled, SampledSome, IndexNext, WithView, total_fits}
use Rattle.plan_subcompaction_ranges.specs.declared.SoFar.{SoFar}
use Rattle.sampled.specs.declared.Kept.{Kept}
use Rattle.sampled.proofs.SampleSizes.{index_is_long}
use Rattle.subcompaction.proofs.Samples.{no_more_than_blocks}
use Rattle.manifest.proofs.AnchorExits.{total_append, least_most, least_added}
use Rattle.plan_subcompaction_ranges.proofs.ViewsSampled.{indexes_more, sampled_more, largest_more, order_more, min_least}

-- ---- raw_size
module _ (offset len : ℕ) {t : Bool} (e : t ≡ size_fits offset len) where
  pub raw_fits : t ≡ true → Fits w64 (offset + len)
  unfolding size_fits
  raw_fits h = omega (arith, leb-true (offset + len) (2 ^ 53) (sym e ∙ h))

  pub raw_passes : t ≡ true → offset + len ≡ passing_size offset len
  raw_passes h = rw (← e, h)

  pub raw_refused : t ≡ false → 0 ≡ passing_size offset len
  raw_refused h = rw (← e, h)

pub ruleset raw_exits = (raw_fits, raw_passes, raw_refused)

-- ---- total_fault
pub total_below : (n : ℕ) → n < 9223372036854775808 → 8 ≡ fault_of (total_fits n)
unfolding fault_of total_fits
total_below n h = rw (lt-ltb n (2 ^ 63) (omega arith))

pub total_reached : (n : ℕ) → 9223372036854775808 ≤ n → 7 ≡ fault_of (total_fits n)
unfolding fault_of total_fits
total_reached n h = rw (le-ltb n (2 ^ 63) (omega arith))

pub ruleset total_exits = (total_below, total_reached)

-- ---- with_view
module _ {m keys bytes : List ℕ} {w : SoFar} (p : SampledSome m keys bytes w) where
  pub tables_wide : length bytes ≡ length keys
  tables_wide = p.are.held.wide

  pub rows_few : w.kept.rows ≤ w.at
  rows_few = omega (arith, p.are.few)

  pub total_most : w.kept.total ≤ 2 ^ 63
  total_most = rw p.are.sum (least_most (2 ^ 63) (total (sampled p.views (indexes_of m p.views))))

pub range_start : {s : List ℕ} {v : ViewSpan} {r : RangeSpan} → EffectiveFound s v r → BoundInside s r.start
range_start x = x.start

pub range_end : {s : List ℕ} {v : ViewSpan} {r : RangeSpan} → EffectiveFound s v r → BoundInside s r.end
range_end x = x.end

module _ {m : List ℕ} {at next fault : ℕ} (j : IndexNext m at next fault) where
  here : Judge index_checks m (index.read (drop at m)) next fault
  here = judge index_checks m (index.read (drop at m)) next fault j.found.meaning

  pub index_there_lem : T (is_got (index.read (drop at m)))
  index_there_lem = rw here.is tt

  value_there : index_there m at ≡ here.value
  value_there = ap values_of here.is

  -- the blocks of the index image take the bytes up to its end
  blocks_within : at ≤ length m → at + length here.value * 10 ≤ next
  blocks_within h =
      let a = index_is_long (drop at m) here.value (drop next m) here.is in
      let b = length-drop at m in
      let c = length-drop next m in
      omega (arith, j.found.inside)

module _ {m keys bytes : List ℕ} {before : List View} {w : SoFar} (p : Sampled m keys bytes before w) {next fault : ℕ} (j : IndexNext m w.at next fault) (v : View) where
  abbrev x : Index
  x = (here j).value

  read_more : indexes_read m (before ++ (v ∷ [])) ≡ got (indexes_of m before ++ (x ∷ [])) (drop next m)
  unfolding read_many
  read_more =
      indexes_more m before (v ∷ [])
      ∙ (ap (λ g. and_then g (λ xs r. after xs (read_many index.read 1 r))) p.read.is
      ∙ rw (here j).is)

  indexes_are : indexes_of m (before ++ (v ∷ [])) ≡ indexes_of m before ++ (x ∷ [])
  indexes_are = ap values_of read_more

  count : length (indexes_of m before) ≡ length before
  count = read_many_length index.read (length before) m (indexes_of m before) (drop w.at m) p.read.is

  abbrev more : Anchors
  more = sample_anchors 128 v.table.filter_offset x (effective v)

  anchors_are : sampled (before ++ (v ∷ [])) (indexes_of m (before ++ (v ∷ []))) ≡ sampled before (indexes_of m before) ++ more
  anchors_are = ap (sampled (before ++ (v ∷ []))) indexes_are ∙ sampled_more before (indexes_of m before) v x count

  one_more :
      {keys' bytes' : List ℕ} {kept : Kept} {worst large : ℕ}
      → ((as' : Anchors) → Held m keys bytes w.kept.rows as' → Held m keys' bytes' kept.rows (as' ++ more))
      → kept.total ≡ least (w.kept.total + total more) (2 ^ 63)
      → worst ≡ least w.fault fault
      → large ≡ max w.largest (passing_size v.table.index_offset v.table.index_len)
      → Sampled m keys' bytes' (before ++ (v ∷ [])) (record { at = next; fault = worst; kept = kept; largest = large })
  one_more {keys'} {bytes'} {kept} {worst} {large} h t f l =
      let as' = sampled before (indexes_of m before) in
      let held = h as' p.held in
      let n = length-append as' more in
      record {
        read = record { is = read_more ∙ ap (λ xs. got xs (drop next m)) (sym indexes_are); inside = j.found.inside };
        order =
            f ∙ (ap₂ least p.order (here j).fault_is
            ∙ (order_more (indexes_of m before) x ∙ ap (λ xs. fault_of (ordered (all (λ y. (index_checks y).order) xs))) (sym indexes_are)));
        held = rw anchors_are held;
        sum =
            t ∙ (ap (λ k. least (k + total more) (2 ^ 63)) p.sum
            ∙ (least_added (2 ^ 63) (total as') (total more)
            ∙ ap (λ k. least k (2 ^ 63)) (sym (ap total anchors_are ∙ total_append as' more))));
        few = omega (arith, p.few, p.held.count, held.count, no_more_than_blocks 128 v.table.filter_offset x (effective v), blocks_within j p.read.inside);
        largest = l ∙ (ap (λ k. max k (passing_size v.table.index_offset v.table.index_len)) p.largest ∙ sym (largest_more before v));
      }

same_anchors :
    {s m : List ℕ} {v : ViewSpan} {r : RangeSpan} {at next fault : ℕ} (j : IndexNext m at next fault)
    → EffectiveFound s v r
    → sample_anchors 128 v.table.filter_offset (index_there m at) (range_in s r.start r.end)
    ≡ sample_anchors 128 v.table.filter_offset (here j).value (effective (view_in s v))
same_anchors {v = v} j e = ap₂ (λ x q. sample_anchors 128 v.table.filter_offset x q) (value_there j) e.meaning

module _ {s m keys bytes : List ℕ} {w : SoFar} {v : ViewSpan} {r : RangeSpan} {next fault : ℕ} (j : IndexNext m w.at next fault) (e : EffectiveFound s v r) where
  pub view_added :
      {keys' bytes' : List ℕ} {kept : Kept} {worst raw large : ℕ}
      → ((as' : Anchors) → Held m keys bytes w.kept.rows as' → Held m keys' bytes' kept.rows (as' ++ sample_anchors 128 v.table.filter_offset (index_there m w.at) (range_in s r.start r.end)))
      → kept.total ≡ least (w.kept.total + total (sample_anchors 128 v.table.filter_offset (index_there m w.at) (range_in s r.start r.end))) (2 ^ 63)
      → worst ≡ min w.fault fault
      → raw ≡ passing_size v.table.index_offset v.table.index_len
      → large ≡ max w.largest raw
      → WithView m keys bytes w (view_in s v) keys' bytes' (record { at = next; fault = worst; kept = kept; largest = large })
  view_added {keys'} {bytes'} {kept} h t f q l =
      record {
        after = λ before p.
            one_more p j (view_in s v) (λ as' x. subst (λ a. Held m keys' bytes' kept.rows (as' ++ a)) (same_anchors j e) (h as' x))
            (t ∙ ap (λ a. least (w.kept.total + total a) (2 ^ 63)) (same_anchors j e)) (f ∙ min_least w.fault fault) (l ∙ ap (max w.largest) q);
      }

pub ruleset view_exits = (tables_wide, rows_few, total_most, range_start, range_end, index_there_lem, view_added)
