-- The exits of the functions that put one run.
-- Assumes nothing.
use Prim.Native.Nat.{ℕ, zero, suc, ◌+◌, ◌-◌, ◌*◌, ◌≤◌, ◌<◌}
use native.Mathlib.Omega.{arith}
use mathlib.Core.Path.{◌≡◌, refl, sym, ap, ◌∙◌}
use mathlib.Core.List.{List, ◌∷◌, ◌++◌}
use lib.ListN.{length, take, drop, length-append}
use mir.Val.{Fits}
use mir.Syntax.{w64}
use Rattle.base.specs.Lists.{All, All-append, All-both, All-unmapped}
use Rattle.base.specs.Splice.{splice, splice_splice, length_splice}
use Rattle.format.specs.Number.{write_number}
use Rattle.format.proofs.Layouts.{number_length}
use Rattle.commit_rows.specs.Bytes.{between}
use Rattle.commit_rows.specs.declared.rows.Row.{Row}
use Rattle.commit_rows.specs.declared.runs.RunKind.TheVariants.{Other, Source, Destination}
use Rattle.commit_rows.specs.declared.runs.RunRow.{RunRow}
use Rattle.range_write.specs.Put.{Put}
use Rattle.commit_write.specs.Rows.{row_in, count_from, view_rows, view_bytes, numbered_bytes, RowThere, RowsThere}
use Rattle.commit_write.specs.Buckets.{by_bucket, bucket_at, placed_rows, BucketThere, BucketsThere, destination_rows}
use Rattle.commit_write.specs.BucketLaws.{by_all}
use Rattle.commit_write.specs.Runs.{head_bytes, source_bytes, destination_bytes, run_bytes, Bucketed, Copied, DestinationFits, RunWritable}
use Rattle.commit_write.specs.declared.runs.Reached.{Reached}
use Rattle.range_write.proofs.Pieces.{put_length, put_same, same_room, same_length, first_room, second_room, both_put}
use Rattle.std.specs.List.{range_with_len}
use Rattle.std.proofs.iter.Yields.{nat_range_steps}
use Rattle.std.proofs.lemmas.Iterator.{YieldsList, YieldsList-from_range}
use Rattle.commit_write.proofs.Counting.{rows_length}
use Rattle.commit_write.proofs.Writing.{rows_bytes}
use Rattle.commit_write.proofs.Placing.{order_long, chosen_bytes, chosen_front}

-- ---- put_head
pub head_length : (i n : ℕ) → length (head_bytes i n) ≡ 6
unfolding head_bytes
head_length i n = length-append (write_number 4 i) (write_number 2 (n * 16)) ∙ rw (number_length 4 i, number_length 2 (n * 16))

module _ (d : List ℕ) (to i n : ℕ) (h : to + 6 ≤ length d) {o : List ℕ} (a : o ≡ splice d to (write_number 4 i)) where
  id_long : length o ≡ length d
  id_long = let l = number_length 4 i in ap length a ∙ length_splice d to (write_number 4 i) (omega (arith, l))

  pub head_rest : to + 4 + 2 ≤ length o
  head_rest = omega (arith, id_long)

  module _ {o' : List ℕ} (b : o' ≡ splice o (to + 4) (write_number 2 (n * 16))) where
    pub head_put : Put d to (head_bytes i n) o' (to + 6)
    unfolding head_bytes
    head_put =
        let l = number_length 4 i in
        record {
          is = b ∙ ap (λ z. splice z (to + 4) (write_number 2 (n * 16))) a ∙ splice_splice d to (write_number 4 i) (write_number 2 (n * 16)) (to + 4) (omega (arith, l)) (omega (arith, l));
          past_is = omega (arith, head_length i n);
        }

    pub head_same : length o' ≡ length d
    head_same = put_length head_put (rw (head_length i n) h)

pub ruleset head_exits = (head_rest, head_put, head_same)

-- ---- a head and views, which are bytes that have room
module _ (d : List ℕ) (to i n : ℕ) (vs : List ℕ) {x : List ℕ} (is : head_bytes i n ++ vs ≡ x) (room : to + length x ≤ length d) where
  whole_room : to + length (head_bytes i n ++ vs) ≤ length d
  whole_room = rw is room

  head_room : to + 6 ≤ length d
  head_room = omega (arith, first_room d to (head_bytes i n) vs whole_room, head_length i n)

  module _ {e : List ℕ} {a : ℕ} (p : Put d to (head_bytes i n) e a) where
    views_room : a + length vs ≤ length e
    views_room = second_room d to (head_bytes i n) vs whole_room p

    views_put : {f : List ℕ} {b : ℕ} → Put e a vs f b → Put d to x f b
    views_put q = put_same (both_put d to (head_bytes i n) vs whole_room p q) is

-- ---- the bytes of a run by its kind
module _ (image job ids : List ℕ) (outputs : List Row) (r : RunRow) (rows : List Row) where
  pub other_bytes_lem : r.kind ≡ Other → between image (r.first - 6) r.past ≡ run_bytes image job ids outputs r rows
  unfolding run_bytes
  other_bytes_lem e = rw e

  pub source_bytes_lem : r.kind ≡ Source → source_bytes image job ids r rows ≡ run_bytes image job ids outputs r rows
  unfolding run_bytes
  source_bytes_lem e = rw e

  pub destination_run_bytes : r.kind ≡ Destination → destination_bytes image job ids outputs r rows ≡ run_bytes image job ids outputs r rows
  unfolding run_bytes
  destination_run_bytes e = rw e

-- ---- put_run: the destination
bucketed : (image job ids t : List ℕ) (from n : ℕ) → RowsThere image job ids t from n → Bucketed (view_rows from n t) → All (BucketThere t) (count_from from n)
bucketed image job ids t from n a b =
    All-both (λ k x y. record { long = x.long; small = y }) (count_from from n) a (All-unmapped (λ (r : Row). r.bucket < 131) (row_in t) (count_from from n) b)

module _ {image job ids t order d : List ℕ} {r : RunRow} {at : Reached} (w : RunWritable image job ids t order r at d) (k : r.kind ≡ Destination) where
  fitted : DestinationFits at.outputs (length order) r (view_rows at.row r.rows t)
  fitted = w.fits.destination k

  abbrev all : List ℕ
  all = view_bytes image job ids (destination_rows (view_rows 0 at.outputs t) (view_rows at.row r.rows t))

  destination_is : head_bytes r.id (at.outputs + r.rows) ++ all ≡ run_bytes image job ids (view_rows 0 at.outputs t) r (view_rows at.row r.rows t)
  destination_is =
      ap (λ m. head_bytes r.id (m + r.rows) ++ all) (sym (rows_length 0 at.outputs t))
      ∙ destination_run_bytes image job ids (view_rows 0 at.outputs t) r (view_rows at.row r.rows t) k

  pub destination_few : at.outputs + r.rows ≤ 1024
  destination_few = fitted.few

  pub destination_fits : Fits w64 (at.outputs + r.rows)
  destination_fits = omega (arith, fitted.few)

  pub destination_head_room : at.to + 6 ≤ length d
  destination_head_room = head_room d at.to r.id (at.outputs + r.rows) all destination_is w.room

  pub destination_buckets : BucketsThere t at.outputs at.row r.rows
  destination_buckets =
      All-append (BucketThere t) (count_from 0 at.outputs) (count_from at.row r.rows)
      (bucketed image job ids t 0 at.outputs w.outputs w.small)
      (bucketed image job ids t at.row r.rows w.there fitted.small)

  pub destination_places : at.outputs + r.rows ≤ length order
  destination_places = fitted.room

  abbrev numbers : List ℕ
  numbers = by_bucket (bucket_at t) 0 131 (placed_rows at.outputs at.row r.rows)

  module _ {o : List ℕ} (s : o ≡ by_bucket (bucket_at t) 0 131 (placed_rows at.outputs at.row r.rows) ++ drop (at.outputs + r.rows) order) where
    front : take (at.outputs + r.rows) o ≡ numbers
    front = chosen_front t at.outputs at.row r.rows order destination_buckets s

    pub ordered_same : length o ≡ length order
    ordered_same = order_long t at.outputs at.row r.rows order destination_buckets destination_places s

    pub ordered_long : at.outputs + r.rows ≤ length o
    ordered_long = rw ordered_same destination_places

    module _ {ks : List ℕ} (y : ks ≡ take (at.outputs + r.rows) o) where
      ordered_bytes : numbered_bytes image job ids t ks ≡ all
      ordered_bytes = rw (y, front) (chosen_bytes image job ids t at.outputs at.row r.rows)

      pub ordered_there : All (RowThere image job ids t) ks
      ordered_there =
          rw (y, front)
          (by_all (bucket_at t) (RowThere image job ids t) 0 131 (placed_rows at.outputs at.row r.rows)
          (All-append (RowThere image job ids t) (count_from 0 at.outputs) (count_from at.row r.rows) w.outputs w.there))

      module _ {e : List ℕ} {a : ℕ} (p : Put d at.to (head_bytes r.id (at.outputs + r.rows)) e a) where
        pub ordered_room : a + length (numbered_bytes image job ids t ks) ≤ length e
        ordered_room = rw ordered_bytes (views_room d at.to r.id (at.outputs + r.rows) all destination_is w.room p)

        pub destination_put : {f : List ℕ} {b : ℕ} → Put e a (numbered_bytes image job ids t ks) f b → Put d at.to (run_bytes image job ids (view_rows 0 at.outputs t) r (view_rows at.row r.rows t)) f b
        destination_put q = views_put d at.to r.id (at.outputs + r.rows) all destination_is w.room p (put_same q ordered_bytes)

-- ---- put_run: any other run
module _ {image job ids t order d : List ℕ} {r : RunRow} {at : Reached} (w : RunWritable image job ids t order r at d) where
  abbrev outs : List Row
  outs = view_rows 0 at.outputs t

  abbrev own : List Row
  own = view_rows at.row r.rows t

  module _ (k : r.kind ≡ Other) where
    copied : Copied image r
    copied = w.fits.other k

    pub other_head : 6 ≤ r.first
    other_head = copied.head

    pub other_order : r.first - 6 ≤ r.past
    other_order = omega (arith, copied.order)

    pub other_past : r.past ≤ length image
    other_past = copied.past

  module _ (k : r.kind ≡ Source) where
    pub source_few : r.rows ≤ 1024
    source_few = w.fits.source k

    own_count : at.row + r.rows - at.row ≡ r.rows
    own_count = omega arith

    pub source_there : All (RowThere image job ids t) (count_from at.row (at.row + r.rows - at.row))
    source_there = rw own_count w.there

    source_numbers : numbered_bytes image job ids t (count_from at.row (at.row + r.rows - at.row)) ≡ view_bytes image job ids (view_rows at.row r.rows t)
    source_numbers = rw own_count (sym (rows_bytes image job ids t at.row r.rows))

    abbrev views : List ℕ
    views = view_bytes image job ids (view_rows at.row r.rows t)

    pub source_head_room : at.to + 6 ≤ length d
    source_head_room = head_room d at.to r.id r.rows views (source_bytes_lem image job ids outs r own k) w.room

    module _ {e : List ℕ} {a : ℕ} (p : Put d at.to (head_bytes r.id r.rows) e a) where
      pub source_room : a + length (numbered_bytes image job ids t (count_from at.row (at.row + r.rows - at.row))) ≤ length e
      source_room = rw source_numbers (views_room d at.to r.id r.rows views (source_bytes_lem image job ids outs r own k) w.room p)

      pub source_put : {f : List ℕ} {b : ℕ} → Put e a (numbered_bytes image job ids t (count_from at.row (at.row + r.rows - at.row))) f b → Put d at.to (run_bytes image job ids (view_rows 0 at.outputs t) r (view_rows at.row r.rows t)) f b
      source_put q = views_put d at.to r.id r.rows views (source_bytes_lem image job ids outs r own k) w.room p (put_same q source_numbers)

-- ---- put_run: what the iterators give
range_is : (a n : ℕ) → range_with_len a n ≡ count_from a n
unfolding count_from
range_is a zero = refl
range_is a (suc n) = ap (λ l. a ∷ l) (range_is (a + 1) n)

pub given_range : (a n : ℕ) → YieldsList nat_range_steps (λ k. k) (record { start = a; end = a + n }) (count_from a (a + n - a))
given_range a n = let z : a + n - a ≡ n = omega arith in rw (z, ← range_is a n) (YieldsList-from_range a (a + n) n refl z)

pub ruleset run_exits = (destination_few, destination_fits, destination_head_room, destination_buckets, destination_places, ordered_same, ordered_long, ordered_there, ordered_room, destination_put, other_head, other_order, other_past, other_bytes_lem, put_same, same_room, same_length, source_few, source_there, source_head_room, source_room, source_put)
