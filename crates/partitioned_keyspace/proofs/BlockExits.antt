-- What the pass over the blocks keeps: what it has found is what the first keys seen so far say, and the last of them is
-- at hand. And its exits.
-- Assumes nothing.
use Prim.Native.Nat.{ℕ, ◌+◌, ◌-◌, ◌^◌, ◌≤◌, ◌<◌}
use native.Mathlib.Omega.{arith}
use native.Mathlib.Nat.{add-zero, sub-zero}
use mathlib.Core.Path.{◌≡◌, refl, sym, ap, ◌∙◌}
use mathlib.Core.Bool.{Bool, true, false, ◌&&◌, true≢false}
use mathlib.Core.List.{List, [], ◌∷◌, ◌++◌, map-append}
use lib.ListN.{length, drop, length-map, drop_of_length-le}
use lib.Seq.{drop-cons}
use borrow.Author.Tests.{le-leb, lt-leb}
use Rattle.base.specs.Outcome.{Outcome}
use lib.Dec.{ltb}
use Rattle.base.specs.Pick.{pick, and_first, and_second}
use Rattle.key.specs.Order.{Key, cmp_key, at_most, is_less, key_at_most, key_below}
use Rattle.std.specs.declared.cmp.Ordering.{Ordering}
use Rattle.std.specs.declared.cmp.Ordering.TheVariants.{Greater}
use Rattle.format.specs.Got.{got}
use Rattle.format.specs.Number.{read_number}
use Rattle.format.specs.Range.{BoundInside}
use Rattle.format.specs.Whole.{ended, whole}
use Rattle.format.specs.declared.range.BoundSpan.{BoundSpan}
use Rattle.records.specs.Form.{read_many}
use Rattle.records.specs.Values.{Block}
use Rattle.records.specs.Layouts.{block, index}
use Rattle.records.specs.Spans.{key_in, BlockFound}
use Rattle.records.specs.declared.blocks.BlockRead.{BlockRead}
use Rattle.records.specs.declared.blocks.BlockRead.TheVariants.{At as BlockAt, Stop as BlockStop}
use Rattle.records.proofs.Many.{Reading, begin, stopped, onward, all_read}
use Rattle.records.proofs.FieldExits.{number_short}
use Rattle.records.proofs.BlockExits.{index_is}
use Rattle.partitioned_keyspace.specs.Partitions.{first_keys, partition_point}
use Rattle.partitioned_keyspace.specs.KeyPoints.{nothing_seen, key_span, grown_by, with_first, led_order, KnownBelow, with_block, index_points, points_in, reading_of}
use Rattle.partitioned_keyspace.specs.declared.point.KeyPoint.{KeyPoint}
use Rattle.partitioned_keyspace.specs.declared.blocks.IndexPoints.{IndexPoints}
use Rattle.partitioned_keyspace.specs.declared.blocks.Reading.TheVariants.{At, Stop}
use Rattle.partitioned_keyspace.proofs.KeyTests.{below_below}
use Rattle.partitioned_keyspace.proofs.PassLaws.{last_from, last_more, with_block_is}

-- ---- still_ascends, with_block
pub not_below_lem : {t : Bool} (a b : Key) {o : Ordering} {r : Bool} → t ≡ true → o ≡ cmp_key a b → r ≡ at_most o → r ≡ (t && key_at_most a b)
not_below_lem a b e f g = rw (e, g, f)

-- a first key below the start is below an end that is not below the start
led_less : (p : KeyPoint) (seen : ℕ) (first s : Key) → is_less (led_order p seen first s) ≡ true → key_below first s ≡ true
led_less p seen first s = go (ltb p.at_most seen)
  where
    go : (t : Bool) → is_less (pick t Greater (cmp_key first s)) ≡ true → key_below first s ≡ true
    go true h = absurd (true≢false (sym h))
    go false h = h

pub not_known : (a b : Key) → KnownBelow false a b
not_known a b = record { tells = λ h. absurd (true≢false (sym h)) }

pub below_end :
    (x : IndexPoints) (first s e : Key) {t b : Bool} {o : Ordering}
    → t ≡ key_at_most s e
    → o ≡ led_order x.start x.partitions first s
    → b ≡ (t && is_less o)
    → KnownBelow b first e
below_end x first s e {t} {b} {o} f g h =
    record {
      tells =
          λ k.
          below_below first s e
          (led_less x.start x.partitions first s (sym (ap is_less g) ∙ and_second t (is_less o) (sym h ∙ k)))
          (sym f ∙ and_first t (is_less o) (sym h ∙ k));
    }

grown_led : (p : KeyPoint) (seen : ℕ) (first x : Key) → grown_by p seen (led_order p seen first x) ≡ with_first p seen first x
unfolding with_first
grown_led p seen first x = go (ltb p.at_most seen)
  where
    go : (t : Bool) → grown_by p seen (pick t Greater (cmp_key first x)) ≡ pick t p (grown_by p seen (cmp_key first x))
    go true = refl
    go false = refl

pub one_block :
    (x : IndexPoints) (before first s e : Key) {o u : Ordering} {a b : KeyPoint} {t : Bool}
    → o ≡ led_order x.start x.partitions first s
    → u ≡ led_order x.end x.partitions first e
    → a ≡ grown_by x.start x.partitions o
    → b ≡ grown_by x.end x.partitions u
    → t ≡ (x.ascends && key_at_most before first)
    → record { partitions = x.partitions + 1; start = a; end = b; ascends = t } ≡ with_block x before first s e
unfolding with_block
one_block x before first s e ho hu ha hb h =
    rw (ha, hb, h, ho, hu, grown_led x.start x.partitions first s, grown_led x.end x.partitions first e)

-- ---- blocks_read
pub record BlocksSeen (s : List ℕ) (from n : ℕ) (start end : Key) (x : IndexPoints) (before : BoundSpan) (at k : ℕ) : Type 0 where
  pub count : n < 2 ^ 64
  pub seen : List Block
  pub reading : Reading block.read s from n (n - k) at seen
  pub so_far : x ≡ index_points start end (first_keys seen)
  pub last : key_in s before.at before.len ≡ last_from [] (first_keys seen)
  pub last_in_lem : BoundInside s before

pub blocks_begin :
    (s : List ℕ) (from n : ℕ) (start end : Key) {x : IndexPoints} {b : BoundSpan}
    → from ≤ length s
    → n < 2 ^ 64
    → x ≡ nothing_seen
    → b ≡ key_span from 0
    → BlocksSeen s from n start end x b from 0
unfolding partition_point
blocks_begin s from n start end h k ex eb =
    rw (ex, eb)
    (record { count = k; seen = []; reading = rw sub-zero (begin block.read s from n h); so_far = refl; last = refl; last_in_lem = rw add-zero h })

module _ {s : List ℕ} {from n : ℕ} {start end : Key} {x : IndexPoints} {before : BoundSpan} {at k : ℕ} (p : BlocksSeen s from n start end x before at k) where
  pub blocks_at : at ≤ length s
  blocks_at = p.reading.within

  pub before_in : BoundInside s before
  before_in = p.last_in_lem

  pub block_room : k < n → x.partitions + 1 < 2 ^ 64
  block_room h =
      let e : x.partitions ≡ length p.seen = ap (λ y. y.partitions) p.so_far ∙ length-map p.seen (λ b. b.first) in
      omega (arith, p.reading.count, p.count)

  pub blocks_left : n ≤ k → at < length s → reading_of (Stop 1) ≡ points_in start end (ended (read_many block.read n (drop from s)))
  blocks_left h l = rw (all_read p.reading (omega arith), drop-cons s at 0)

  pub blocks_all : n ≤ k → length s ≤ at → reading_of (At x) ≡ points_in start end (ended (read_many block.read n (drop from s)))
  blocks_all h l = rw (all_read p.reading (omega arith), drop_of_length-le s {i = at} l, p.so_far)

  module _ (h : k < n) {r : BlockRead} (f : BlockFound s (block.read (drop at s)) r) where
    some_left : 0 < n - k
    some_left = omega arith

    pub blocks_stop : {j : ℕ} → r ≡ BlockStop j → reading_of (Stop j) ≡ points_in start end (ended (read_many block.read n (drop from s)))
    blocks_stop {j} q = rw (stopped p.reading {k = j} some_left (sym f.meaning ∙ rw q))

    module _ {o i m next : ℕ} (q : r ≡ BlockAt o i m next) where
      pub first_in : {first : BoundSpan} → first ≡ key_span i m → BoundInside s first
      first_in e = rw e (rw q at f.inside).0

      onward_from :
          {y : IndexPoints} {b g : Key}
          → b ≡ key_in s before.at before.len
          → g ≡ key_in s i m
          → y ≡ with_block x b g start end
          → BlocksSeen s from n start end y (key_span i m) next (k + 1)
      onward_from {y} {b} {g} hb hk hy =
          let one_less : n - k - 1 ≡ n - (k + 1) = omega arith in
          let here : Block = record { offset = o; first = key_in s i m } in
          let more : first_keys (p.seen ++ (here ∷ [])) ≡ first_keys p.seen ++ (key_in s i m ∷ []) = map-append (λ b. b.first) p.seen (here ∷ []) in
          record {
            count = p.count;
            seen = p.seen ++ (here ∷ []);
            reading = rw (← one_less) (onward p.reading some_left (sym f.meaning ∙ rw q) (rw q at f.inside).1);
            so_far = hy ∙ rw (hb, hk, p.so_far, p.last, more) (with_block_is start end (first_keys p.seen) (key_in s i m));
            last = sym (ap (last_from []) more ∙ last_more [] (first_keys p.seen) (key_in s i m));
            last_in_lem = (rw q at f.inside).0;
          }

      pub blocks_onward :
          {first : BoundSpan} {y : IndexPoints} {b g : Key}
          → first ≡ key_span i m
          → b ≡ key_in s before.at before.len
          → g ≡ key_in s first.at first.len
          → y ≡ with_block x b g start end
          → BlocksSeen s from n start end y first next (k + 1)
      blocks_onward e hb hk hy = rw e (onward_from hb (rw e at hk) hy)

pub ruleset blocks_exits = (blocks_begin, blocks_at, before_in, block_room, blocks_left, blocks_all, blocks_stop, first_in, blocks_onward)

-- ---- index_read
module _ (s : List ℕ) (start end : Key) where
  pub index_large : 65536 < length s → reading_of (Stop 3) ≡ points_in start end (whole index.read s)
  unfolding whole
  index_large h = rw (lt-leb (length s) 65536 h)

  module _ (l : length s ≤ 65536) where
    pub no_count : length s < 2 → reading_of (Stop 1) ≡ points_in start end (whole index.read s)
    unfolding whole
    no_count h = rw (le-leb (length s) 65536 l, index_is s, number_short 2 s h)

    pub index_whole :
        {n : ℕ} {g : Outcome IndexPoints}
        → read_number 2 (drop 0 s) ≡ got n (drop (0 + 2) s)
        → g ≡ points_in start end (ended (read_many block.read n (drop 2 s)))
        → g ≡ points_in start end (whole index.read s)
    unfolding whole
    index_whole {n} e x = x ∙ rw (le-leb (length s) 65536 l, index_is s, e)

pub ruleset index_exits = (index_large, no_count, index_whole)
