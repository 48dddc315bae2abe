-- What the loop over a table of parts keeps: the gaps made, and where the next one starts.
-- Assumes nothing.
use Prim.Native.Nat.{ℕ, ◌+◌, ◌*◌, ◌≤◌, ◌<◌}
use native.Mathlib.Omega.{arith}
use mathlib.Core.Path.{◌≡◌, refl, sym, ap, ◌∙◌}
use mathlib.Core.Bool.{true, false}
use mathlib.Core.Option.{Option}
use mathlib.Core.List.{List, [], ◌∷◌, ◌++◌, flat_map, append_assoc}
use lib.ListN.{length, drop, length-append, drop_of_length-le}
use Rattle.base.specs.Rows.{RowsHold, hold_none, hold_more}
use Rattle.base.specs.Splice.{splice, spliced_length}
use Rattle.comparable_range.specs.Range.{Bound, Range}
use Rattle.comparable_range.specs.declared.Kind.TheVariants.{Unbounded}
use Rattle.format.specs.Range.{bound_in}
use Rattle.format.specs.declared.range.BoundSpan.{BoundSpan}
use Rattle.format.specs.declared.span.RangeSpan.{RangeSpan}
use Rattle.incremental_progress.specs.Intervals.{listed}
use Rattle.incremental_progress.specs.Parts.{key_of, intervals}
use Rattle.incremental_progress.specs.Gaps.{gap_to, last_gap, gap_from, gaps_from, gaps}
use Rattle.commit_rows.specs.Numbers.{gap_numbers}
use Rattle.commit_rows.specs.declared.parts.PartSpan.{PartSpan}
use Rattle.commit_rows.proofs.RowExits.{gap_back}
use Rattle.commit_durable.specs.Tables.{job_of, job_gaps, durable_in, PartsHold, PartFound, GapHeld, GapIs}
use Rattle.commit_durable.specs.Answers.{start_in, StartInside, StartFound, GapsMade}
use Rattle.commit_durable.specs.declared.gaps.GapStart.{GapStart}

abbrev open_span : BoundSpan
open_span = record { kind = Unbounded; at = 0; len = 0 }

-- ---- gaps_of
-- the gaps from a bound on, between the intervals of the parts from k on
abbrev gaps_left : List ℕ → Option Bound → ℕ → List Range
gaps_left s b k = gaps_from b (intervals (drop k (job_of s).parts))

-- the table t was d, and r gaps are in it
pub record GapsKept (s : List ℕ) (n : ℕ) (d t : List ℕ) (k r : ℕ) (g : GapStart) : Type 0 where
  pub made : List Range
  pub is : job_gaps s ≡ made ++ gaps_left s (start_in s g) k
  pub all : n ≡ length (job_of s).parts
  pub most : n ≤ 64
  pub upto : k ≤ n
  pub few : r ≤ k
  pub room : 390 ≤ length d
  pub same : length t ≡ length d
  pub count : length made ≡ r
  pub rows : RowsHold 6 (GapIs s) made t
  pub inside : StartInside s g

pub gaps_begin : (s : List ℕ) (n : ℕ) (u d : List ℕ) → PartsHold s n u → 390 ≤ length d → GapsKept s n d d 0 0 (record { there = true; bound = open_span })
unfolding gaps
gaps_begin s n u d p h =
    record {
      made = [];
      is = refl;
      all = p.count;
      most = p.most;
      upto = omega arith;
      few = omega arith;
      room = h;
      same = refl;
      count = refl;
      rows = hold_none 6 (GapIs s) d;
      inside = omega arith;
    }

module _ {s : List ℕ} {k : ℕ} {x : PartSpan} (f : PartFound s k x) where
  left_is : intervals (drop k (job_of s).parts) ≡ listed (durable_in s x) ++ intervals (drop (k + 1) (job_of s).parts)
  unfolding intervals flat_map
  left_is = ap intervals f.is ∙ rw f.held.durable_is

module _ {s : List ℕ} {n : ℕ} {d t : List ℕ} {k r : ℕ} {g : GapStart} (p : GapsKept s n d t k r g) where
  gaps_room : r * 6 + 6 ≤ length t
  gaps_room = omega (arith, p.few, p.upto, p.most, p.room, p.same)

  gaps_same : (a b : BoundSpan) {t' : List ℕ} → t' ≡ splice t (r * 6) (gap_numbers a b) → length t' ≡ length d
  gaps_same a b e = spliced_length t (r * 6) (gap_numbers a b) e gaps_room ∙ p.same

  put : {q : Range} {m : RangeSpan} {t' : List ℕ} → GapHeld s q m → t' ≡ splice t (r * 6) (gap_numbers m.start m.end) → RowsHold 6 (GapIs s) (p.made ++ (q ∷ [])) t'
  put {q} {m} {t'} y w =
      let row = gap_numbers m.start m.end in
      let i : GapIs s q row = rw (gap_back m.start m.end) y in
      let l : length p.made * 6 + 6 ≤ length t = omega (arith, p.count, gaps_room) in
      let o : RowsHold 6 (GapIs s) (p.made ++ (q ∷ [])) (splice t (length p.made * 6) row) = hold_more 6 (GapIs s) q row p.rows refl l i in
      rw w (rw p.count at o)

  module _ (h : k < n) {x : PartSpan} (f : PartFound s k x) where
    left_after : job_gaps s ≡ p.made ++ gaps_from (start_in s g) (listed (durable_in s x) ++ intervals (drop (k + 1) (job_of s).parts))
    left_after = p.is ∙ ap (λ ivs. p.made ++ gaps_from (start_in s g) ivs) (left_is f)

    pub gaps_none : x.durable ≡ false → GapsKept s n d t (k + 1) r g
    gaps_none q =
        record {
          made = p.made;
          is = left_after ∙ rw q;
          all = p.all;
          most = p.most;
          upto = omega arith;
          few = omega (arith, p.few);
          room = p.room;
          same = p.same;
          count = p.count;
          rows = p.rows;
          inside = p.inside;
        }

    pub gaps_onward :
        {m : RangeSpan} {t' : List ℕ} {o : GapStart}
        → x.durable ≡ true
        → GapHeld s (gap_to (start_in s g) (key_of (bound_in s x.start))) m
        → t' ≡ splice t (r * 6) (gap_numbers m.start m.end)
        → StartFound s (gap_from (key_of (bound_in s x.end))) o
        → GapsKept s n d t' (k + 1) (r + 1) o
    unfolding gaps_from
    gaps_onward {m} {t'} {o} q y w z =
        let a = gap_to (start_in s g) (key_of (bound_in s x.start)) in
        record {
          made = p.made ++ (a ∷ []);
          is = left_after ∙ rw (q, z.is) (sym (append_assoc p.made (a ∷ []) (gaps_left s (gap_from (key_of (bound_in s x.end))) (k + 1))));
          all = p.all;
          most = p.most;
          upto = omega arith;
          few = omega (arith, p.few);
          room = p.room;
          same = gaps_same m.start m.end w;
          count = rw (length-append, p.count);
          rows = put y w;
          inside = z.inside;
        }

  pub gaps_all :
      {m : RangeSpan} {t' : List ℕ}
      → n ≤ k
      → GapHeld s (last_gap (start_in s g)) m
      → t' ≡ splice t (r * 6) (gap_numbers m.start m.end)
      → GapsMade s d t' (r + 1)
  unfolding gaps_from intervals flat_map
  gaps_all {m} {t'} h y w =
      let c : job_gaps s ≡ p.made ++ (last_gap (start_in s g) ∷ []) = p.is ∙ rw (drop_of_length-le (job_of s).parts {i = k} (omega (arith, p.all))) in
      record {
        hold = record { count = rw (c, length-append, p.count); most = omega (arith, p.few, p.upto, p.most); rows = rw c (put y w) };
        same = gaps_same m.start m.end w;
      }

pub ruleset gaps_exits = (gaps_begin, gaps_all)
