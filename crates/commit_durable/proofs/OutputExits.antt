-- What the loop over a part's outputs keeps: the outputs read so far, what is told of them, and the cut that the last of
-- them makes for the next; and the exits of the functions on one output.
-- Assumes nothing.
use Prim.Native.Nat.{ℕ, ◌+◌, ◌-◌, ◌≤◌, ◌<◌}
use native.Mathlib.Nat.{add-zero}
use native.Mathlib.Omega.{arith}
use mathlib.Core.Path.{◌≡◌, refl, sym, ap, ◌∙◌}
use mathlib.Core.Bool.{Bool, true, false, ◌&&◌, and-true, and-false}
use mathlib.Core.List.{List, [], ◌∷◌, ◌++◌}
use lib.ListN.{length, take, drop}
use Rattle.key.specs.Order.{Key, at_most}
use Rattle.std.specs.declared.cmp.Ordering.{Ordering}
use Rattle.comparable_range.specs.Range.{bound_of, cmp_bound}
use Rattle.comparable_range.specs.Cut.{Cut, before, after, above, cut_at_most, start_cut, end_cut}
use Rattle.format.specs.Range.{bound_in, BoundInside}
use Rattle.format.specs.declared.range.BoundSpan.{BoundSpan}
use Rattle.format.specs.declared.span.RangeSpan.{RangeSpan}
use Rattle.records.specs.Form.{read_many}
use Rattle.records.specs.Values.{Table}
use Rattle.records.specs.Layouts.{table}
use Rattle.records.specs.Spans.{if_so, table_in, TableInside, TableFound}
use Rattle.records.specs.declared.tables.TableSpan.{TableSpan}
use Rattle.records.specs.declared.tables.TableRead.{TableRead}
use Rattle.records.specs.declared.tables.TableRead.TheVariants.{At as TableAt, Stop as TableStop}
use Rattle.records.proofs.Many.{Reading, begin, stopped, onward, all_read}
use Rattle.manifest.specs.Checks.{keys_in_order, size_passes}
use Rattle.manifest.specs.Faults.{fault_of, table_checks}
use Rattle.manifest.specs.Spans.{first_span, last_kind, last_span, size_fits}
use Rattle.manifest.proofs.Steps.{tables_none, tables_more}
use Rattle.incremental_progress.specs.Checks.{ends_by, last_cut, outputs_from}
use Rattle.incremental_progress.specs.Parts.{last_written}
use Rattle.commit_durable.specs.Faults.{output_between}
use Rattle.commit_durable.specs.Answers.{output_more, OutputsTold, OutputsPassed}
use Rattle.commit_durable.specs.declared.outputs.Outputs.{Outputs}
use Rattle.commit_durable.specs.declared.outputs.OutputsRead.TheVariants.{At, Stop}
use Rattle.commit_durable.proofs.Steps.{starts_by_cuts, ends_by_cuts, cut_past, past_more, output_cut, outputs_more}

-- ---- table_fault
module _ (s : List ℕ) (t : TableSpan) {a : Bool} (ha : a ≡ keys_in_order (table_in s t)) where
  pub table_5 : a ≡ false → 5 ≡ fault_of (table_checks (table_in s t))
  unfolding fault_of table_checks
  table_5 e = rw (← ha, e)

  module _ (e : a ≡ true) {b : Bool} (hb : b ≡ size_fits t.index_offset t.index_len) where
    size_is : size_passes (table_in s t) ≡ b
    unfolding size_passes size_fits
    size_is = sym hb

    pub table_7 : b ≡ false → 7 ≡ fault_of (table_checks (table_in s t))
    unfolding fault_of table_checks
    table_7 f = rw (← ha, e, size_is, f)

    pub table_none : b ≡ true → 8 ≡ fault_of (table_checks (table_in s t))
    unfolding fault_of table_checks
    table_none f = rw (← ha, e, size_is, f)

pub ruleset table_exits = (table_5, table_7, table_none)

-- ---- output_between
-- a table ends by a cut if its last bound, as an end, stands there or before, and is a key
ends_by_lem : (f : Bool) (k : Key) (e : Cut) → ends_by e (if_so f k) ≡ (cut_at_most (end_cut (bound_of (last_kind f) k)) e && f)
ends_by_lem true k e = sym (and-true (cut_at_most (after k) e))
ends_by_lem false k e = sym (and-false (cut_at_most above e))

module _ (s : List ℕ) (i j : BoundSpan) (t : TableSpan) where
  module _ {f : BoundSpan} {o : Ordering} {a : Bool} (d : f ≡ first_span t) (g : o ≡ cmp_bound true (bound_in s i) (bound_in s f)) (h : a ≡ at_most o) where
    begins : cut_at_most (start_cut (bound_in s i)) (before (table_in s t).first) ≡ a
    begins =
        sym (h ∙ ap at_most g ∙ starts_by_cuts (bound_in s i) (bound_in s f) ∙ ap (λ m. cut_at_most (start_cut (bound_in s i)) (start_cut (bound_in s m))) d)

    pub begins_before : a ≡ false → false ≡ output_between (end_cut (bound_in s j)) (start_cut (bound_in s i)) (table_in s t)
    unfolding output_between
    begins_before e = rw (begins, e)

    module _ {l : BoundSpan} {u : Ordering} {b : Bool} (q : l ≡ last_span t) (w : u ≡ cmp_bound false (bound_in s l) (bound_in s j)) (k : b ≡ at_most u) (e : a ≡ true) where
      between : output_between (end_cut (bound_in s j)) (start_cut (bound_in s i)) (table_in s t) ≡ (b && t.flagged)
      unfolding output_between
      between =
          rw (begins, e, k, w, ends_by_cuts (bound_in s l) (bound_in s j), q)
          (ends_by_lem t.flagged (take t.last_len (drop t.last_at s)) (end_cut (bound_in s j)))

      pub ends_within : b ≡ true → t.flagged ≡ output_between (end_cut (bound_in s j)) (start_cut (bound_in s i)) (table_in s t)
      ends_within z = rw (between, z)

      pub ends_after : b ≡ false → false ≡ output_between (end_cut (bound_in s j)) (start_cut (bound_in s i)) (table_in s t)
      ends_after z = rw (between, z)

-- ---- outputs_read
pub record OutputsSeen (s : List ℕ) (from n : ℕ) (planned : RangeSpan) (k : ℕ) (before : BoundSpan) (o : Outputs) : Type 0 where
  pub seen : List Table
  pub reading : Reading table.read s from n (n - k) o.past seen
  pub told : OutputsTold s planned seen o
  pub cut : start_cut (bound_in s before) ≡ cut_past output_cut (start_cut (bound_in s planned.start)) seen
  pub before_in : BoundInside s before

-- the last of some is what was added last
last_more : (ts : List Table) (t : Table) → last_written (ts ++ (t ∷ [])) ≡ t.last
unfolding last_written
last_more [] t = refl
last_more (u ∷ []) t = refl
last_more (u ∷ v ∷ ts) t = last_more (v ∷ ts) t

abbrev none_yet : ℕ → Outputs
none_yet from = record { past = from; fault = 8; inside = true; there = false; at = from; len = 0 }

pub outputs_begin :
    (s : List ℕ) (from n : ℕ) (planned : RangeSpan)
    → from ≤ length s
    → BoundInside s planned.start
    → OutputsSeen s from n planned 0 planned.start (none_yet from)
unfolding outputs_from cut_past last_written
outputs_begin s from n planned h b =
    let z : n - 0 ≡ n = omega arith in
    record {
      seen = [];
      reading = rw z (begin table.read s from n h);
      told = record { place = h; fault = sym tables_none; inside = refl; last = refl; last_in_lem = rw add-zero h };
      cut = refl;
      before_in = b;
    }

-- as a start, the last bound of a table is the cut that it makes
last_start : (f : Bool) (k : Key) → start_cut (bound_of (last_kind f) k) ≡ last_cut (if_so f k)
last_start true k = refl
last_start false k = refl

module _ {s : List ℕ} {from n : ℕ} {planned : RangeSpan} {k : ℕ} {before : BoundSpan} {o : Outputs} (p : OutputsSeen s from n planned k before o) where
  pub outputs_end : n ≤ k → OutputsPassed s (read_many table.read n (drop from s)) planned (At o)
  outputs_end h = record { is = record { tables = p.seen; is = all_read p.reading (omega arith); told = p.told } }

  module _ (h : k < n) {r : TableRead} (f : TableFound s (table.read (drop o.past s)) r) where
    left : 0 < n - k
    left = omega arith

    pub outputs_stop : {c : ℕ} → r ≡ TableStop c → OutputsPassed s (read_many table.read n (drop from s)) planned (Stop c)
    outputs_stop {c} q = record { is = stopped p.reading {k = c} left (sym f.meaning ∙ rw q) }

    module _ {t : TableSpan} (q : r ≡ TableAt t) where
      output_in : TableInside s t
      output_in = rw q at f.inside

      pub outputs_onward :
          {m : Outputs} {l : BoundSpan}
          → m ≡ output_more s o before planned.end t
          → l ≡ last_span t
          → OutputsSeen s from n planned (k + 1) l m
      outputs_onward hm hl =
          let z : n - k - 1 ≡ n - (k + 1) = omega arith in
          let e = end_cut (bound_in s planned.end) in
          let c = start_cut (bound_in s planned.start) in
          rw hm
          (record {
            seen = p.seen ++ (table_in s t ∷ []);
            reading = rw z at (onward p.reading {a = table_in s t} left (sym f.meaning ∙ rw q) output_in.past);
            told =
                record {
                  place = output_in.past;
                  fault = rw p.told.fault (sym (tables_more p.seen (table_in s t)));
                  inside = rw (p.told.inside, p.cut) (sym (outputs_more e c p.seen (table_in s t)));
                  last = sym (last_more p.seen (table_in s t));
                  last_in_lem = output_in.last;
                };
            cut = ap (λ b. start_cut (bound_in s b)) hl ∙ last_start t.flagged (take t.last_len (drop t.last_at s)) ∙ sym (past_more output_cut c p.seen (table_in s t));
            before_in = rw hl output_in.last;
          })

pub ruleset outputs_exits = (outputs_begin, outputs_end, outputs_stop, outputs_onward)
