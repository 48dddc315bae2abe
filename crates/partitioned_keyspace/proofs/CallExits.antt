-- The stops of each call in their order: those of reading the index, those of what is asked, then checks 4 and 6.
-- Assumes nothing.
use Prim.Native.Nat.{ℕ, ◌≤◌, ◌<◌}
use native.Mathlib.Omega.{arith}
use mathlib.Core.Path.{◌≡◌, refl, sym, ap, ◌∙◌}
use mathlib.Core.Bool.{Bool, true, false, and-true}
use mathlib.Core.Option.{Option}
use mathlib.Core.List.{List, []}
use lib.ListN.{length}
use borrow.Author.Tests.{le-leb, lt-leb}
use Rattle.base.specs.Outcome.{Outcome, stop, answer, and_then, check}
use Rattle.key.specs.Order.{Key}
use Rattle.comparable_range.specs.Range.{Range, non_empty}
use Rattle.format.specs.Whole.{whole, key_given}
use Rattle.records.specs.Values.{Index}
use Rattle.records.specs.Layouts.{index}
use Rattle.manifest.specs.Checks.{Checks, checked, joined, index_checks}
use Rattle.partitioned_keyspace.specs.Partitions.{first_keys, ascends}
use Rattle.partitioned_keyspace.specs.Asked.{asked_checks, KeyAsked, index_and_key}
use Rattle.partitioned_keyspace.specs.Calls.{partition_point_outcome, first_partition_including_key_outcome, first_partition_including_or_after_key_outcome, last_partition_including_key_outcome, count_of, found_of}
use Rattle.partitioned_keyspace.specs.KeyPoints.{point_of, index_points, points_in, reading_of, pointed_of, count_for, first_of, or_after_of, last_of}
use Rattle.partitioned_keyspace.specs.declared.Test.{Test}
use Rattle.partitioned_keyspace.specs.declared.Counted.TheVariants.{Is, Stop as CountedStop}
use Rattle.partitioned_keyspace.specs.declared.Found.TheVariants.{Stop as FoundStop}
use Rattle.partitioned_keyspace.specs.declared.point.KeyPoint.{KeyPoint}
use Rattle.partitioned_keyspace.specs.declared.point.Pointed.{Pointed}
use Rattle.partitioned_keyspace.specs.declared.point.Pointed.TheVariants.{At as PointAt, Stop as PointStop}
use Rattle.partitioned_keyspace.specs.declared.blocks.IndexPoints.{IndexPoints}
use Rattle.partitioned_keyspace.specs.declared.blocks.Reading.{Reading}
use Rattle.partitioned_keyspace.specs.declared.blocks.Reading.TheVariants.{At, Stop}
use Rattle.partitioned_keyspace.proofs.Points.{accepted_first_keys_ascend}
use Rattle.partitioned_keyspace.proofs.Reckoned.{count_is, first_is, or_after_is, last_is}

-- ---- an index that was read
pub record There (s e : Key) (o : Outcome Index) (x : IndexPoints) : Type 0 where
  pub value : Index
  pub is : o ≡ answer value
  pub points : x ≡ index_points s e (first_keys value)

pub there : (s e : Key) (o : Outcome Index) (x : IndexPoints) → answer x ≡ points_in s e o → There s e o x
there s e (stop n) x h = absurd (let z : ◌≡◌ {A = ℕ} 0 1 = cc in omega arith)
there s e (answer v) x h = record { value = v; is = refl; points = cc }

pub not_there : (s e : Key) (o : Outcome Index) (n : ℕ) → stop n ≡ points_in s e o → o ≡ stop n
not_there s e (stop m) n h = cc
not_there s e (answer v) n h = absurd (let z : ◌≡◌ {A = ℕ} 0 1 = cc in omega arith)

-- ---- checks 4 and 6
pub then_checked : {A B : Type 0} (c : Checks) (a : A) (f : A → Outcome B) → and_then (checked c (answer a)) f ≡ checked c (f a)
then_checked c a f = go c.ranges c.tables c.order c.sizes
  where
    go : (p q r s : Bool) → and_then (check 4 p (check 5 q (check 6 r (check 7 s (answer a))))) f ≡ check 4 p (check 5 q (check 6 r (check 7 s (f a))))
    go false q r s = refl
    go true false r s = refl
    go true true false s = refl
    go true true true false = refl
    go true true true true = refl

index_checked : {A : Type 0} (x : Index) (rest : Outcome A) → checked (index_checks x) rest ≡ check 6 (ascends (first_keys x)) rest
unfolding index_checks
index_checked x rest = ap (λ t. check 6 t rest) (accepted_first_keys_ascend x)

pub both_checked :
    {A : Type 0} (x : Index) (r : Range) (rest : Outcome A)
    → checked (joined (index_checks x) (asked_checks r)) rest ≡ check 4 (non_empty r) (check 6 (ascends (first_keys x)) rest)
unfolding index_checks asked_checks
both_checked x r rest =
    rw and-true (ap (λ t. check 4 (non_empty r) (check 6 t rest)) (accepted_first_keys_ascend x))

-- ---- key_pointed
abbrev point_asked : KeyAsked → Outcome KeyPoint
point_asked a = answer (point_of a.partitions a.key)

asked_is :
    {B : Type 0} (l k : List ℕ) (f : KeyAsked → Outcome B)
    → and_then (index_and_key l k) f
    ≡ and_then (whole index.read l) (λ x. and_then (key_given k) (λ key. check 6 (ascends (first_keys x)) (f (record { partitions = first_keys x; key = key }))))
unfolding index_and_key
asked_is l k f = go (whole index.read l)
  where
    by_key :
        (x : Index) (o : Outcome Key)
        → and_then (and_then o (λ key. checked (index_checks x) (answer (record { partitions = first_keys x; key = key })))) f
        ≡ and_then o (λ key. check 6 (ascends (first_keys x)) (f (record { partitions = first_keys x; key = key })))
    by_key x (stop n) = refl
    by_key x (answer key) = then_checked (index_checks x) _ f ∙ index_checked x _

    go :
        (o : Outcome Index)
        → and_then (and_then o (λ x. and_then (key_given k) (λ key. checked (index_checks x) (answer (record { partitions = first_keys x; key = key }))))) f
        ≡ and_then o (λ x. and_then (key_given k) (λ key. check 6 (ascends (first_keys x)) (f (record { partitions = first_keys x; key = key }))))
    go (stop n) = refl
    go (answer x) = by_key x (key_given k)

module _ (l k : List ℕ) (w : Reading) (h : reading_of w ≡ points_in k [] (whole index.read l)) where
  pub index_stops : {n : ℕ} → w ≡ Stop n → pointed_of (PointStop n) ≡ and_then (index_and_key l k) point_asked
  index_stops {n} q =
      let z : whole index.read l ≡ stop n = not_there k [] (whole index.read l) n (rw q at h) in
      sym (asked_is l k point_asked ∙ rw z)

  module _ {x : IndexPoints} (q : w ≡ At x) where
    read : There k [] (whole index.read l) x
    read = there k [] (whole index.read l) x (rw q at h)

    pub long_key : 1024 < length k → pointed_of (PointStop 3) ≡ and_then (index_and_key l k) point_asked
    unfolding key_given
    long_key m = sym (asked_is l k point_asked ∙ rw (read.is, lt-leb (length k) 1024 m))

    module _ (m : length k ≤ 1024) where
      pub descending : x.ascends ≡ false → pointed_of (PointStop 6) ≡ and_then (index_and_key l k) point_asked
      unfolding key_given
      descending d =
          let t : ascends (first_keys read.value) ≡ false = sym (ap (λ y. y.ascends) read.points) ∙ d in
          sym (asked_is l k point_asked ∙ rw (read.is, le-leb (length k) 1024 m, t))

      pub pointed : x.ascends ≡ true → pointed_of (PointAt x.start) ≡ and_then (index_and_key l k) point_asked
      unfolding key_given
      pointed d =
          let t : ascends (first_keys read.value) ≡ true = sym (ap (λ y. y.ascends) read.points) ∙ d in
          ap (λ y. answer y.start) read.points ∙ sym (asked_is l k point_asked ∙ rw (read.is, le-leb (length k) 1024 m, t))

pub ruleset pointed_exits = (index_stops, long_key, descending, pointed)

-- ---- the lookups of a key
module _ (l k : List ℕ) (w : Pointed) (h : pointed_of w ≡ and_then (index_and_key l k) point_asked) where
  -- a stop is every lookup's stop
  stopped : {B : Type 0} {n : ℕ} (f : KeyAsked → B) → w ≡ PointStop n → stop n ≡ and_then (index_and_key l k) (λ a. answer (f a))
  stopped {n = n} f q = go (index_and_key l k) (rw q at h)
    where
      go : (o : Outcome KeyAsked) → stop n ≡ and_then o point_asked → stop n ≡ and_then o (λ a. answer (f a))
      go (stop m) e = cc
      go (answer a) e = absurd (let z : ◌≡◌ {A = ℕ} 0 1 = cc in omega arith)

  -- the two numbers give every lookup
  reckoned :
      {B : Type 0} {p : KeyPoint} (f : KeyAsked → B) (g : KeyPoint → B)
      → ((a : KeyAsked) → g (point_of a.partitions a.key) ≡ f a)
      → w ≡ PointAt p
      → answer (g p) ≡ and_then (index_and_key l k) (λ a. answer (f a))
  reckoned {p = p} f g r q = go (index_and_key l k) (rw q at h)
    where
      go : (o : Outcome KeyAsked) → answer p ≡ and_then o point_asked → answer (g p) ≡ and_then o (λ a. answer (f a))
      go (stop m) e = absurd (let z : ◌≡◌ {A = ℕ} 0 1 = cc in omega arith)
      go (answer a) e = let z : p ≡ point_of a.partitions a.key = cc in rw z (ap answer (r a))

  pub point_stops : (test : Test) {n : ℕ} → w ≡ PointStop n → count_of (CountedStop n) ≡ partition_point_outcome l test k
  unfolding partition_point_outcome
  point_stops test q = stopped _ q

  pub point_is : (test : Test) {p : KeyPoint} {n : ℕ} → w ≡ PointAt p → n ≡ count_for test p → count_of (Is n) ≡ partition_point_outcome l test k
  unfolding partition_point_outcome
  point_is test q e = rw e (reckoned _ (count_for test) (λ a. count_is test a.partitions a.key) q)

  pub first_stops : {n : ℕ} → w ≡ PointStop n → found_of (FoundStop n) ≡ first_partition_including_key_outcome l k
  unfolding first_partition_including_key_outcome
  first_stops q = stopped _ q

  pub first_found : {p : KeyPoint} {o : Outcome (Option ℕ)} → w ≡ PointAt p → o ≡ answer (first_of p) → o ≡ first_partition_including_key_outcome l k
  unfolding first_partition_including_key_outcome
  first_found q e = e ∙ reckoned _ first_of (λ a. first_is a.partitions a.key) q

  pub or_after_stops : {n : ℕ} → w ≡ PointStop n → count_of (CountedStop n) ≡ first_partition_including_or_after_key_outcome l k
  unfolding first_partition_including_or_after_key_outcome
  or_after_stops q = stopped _ q

  pub or_after_found : {p : KeyPoint} {n : ℕ} → w ≡ PointAt p → n ≡ or_after_of p → count_of (Is n) ≡ first_partition_including_or_after_key_outcome l k
  unfolding first_partition_including_or_after_key_outcome
  or_after_found q e = rw e (reckoned _ or_after_of (λ a. or_after_is a.partitions a.key) q)

  pub last_stops : {n : ℕ} → w ≡ PointStop n → found_of (FoundStop n) ≡ last_partition_including_key_outcome l k
  unfolding last_partition_including_key_outcome
  last_stops q = stopped _ q

  pub last_found : {p : KeyPoint} {o : Outcome (Option ℕ)} → w ≡ PointAt p → o ≡ answer (last_of p) → o ≡ last_partition_including_key_outcome l k
  unfolding last_partition_including_key_outcome
  last_found q e = e ∙ reckoned _ last_of (λ a. last_is a.partitions a.key) q

pub ruleset key_exits = (point_stops, point_is, first_stops, first_found, or_after_stops, or_after_found, last_stops, last_found)
