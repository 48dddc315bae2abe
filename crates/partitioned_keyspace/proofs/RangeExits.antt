-- A covering's stops in their order, and its places by the numbers of the range's keys: of a point, those of its start.
-- Assumes nothing.
use Prim.Native.Nat.{ℕ}
use native.Mathlib.Omega.{arith}
use mathlib.Core.Path.{◌≡◌, refl, sym, ap, ◌∙◌}
use mathlib.Core.Bool.{Bool, true, false}
use mathlib.Core.List.{List, []}
use Rattle.base.specs.Pick.{pick}
use Rattle.base.specs.Outcome.{Outcome, stop, answer, and_then}
use Rattle.key.specs.Order.{Key}
use Rattle.comparable_range.specs.Range.{Range, non_empty}
use Rattle.format.specs.Range.{read_range, range_in, BoundInside, RangeWhole}
use Rattle.format.specs.Whole.{whole}
use Rattle.format.specs.declared.range.BoundSpan.{BoundSpan}
use Rattle.format.specs.declared.range.RangeRead.{RangeRead}
use Rattle.format.specs.declared.range.RangeRead.TheVariants.{At as RangeAt, Stop as RangeStop}
use Rattle.records.specs.Values.{Index}
use Rattle.records.specs.Layouts.{index}
use Rattle.records.specs.Spans.{key_in}
use Rattle.manifest.specs.Checks.{checked, joined, index_checks}
use Rattle.partitioned_keyspace.specs.Partitions.{Places, first_keys, ascends, partitions_covering_range}
use Rattle.partitioned_keyspace.specs.Asked.{asked_checks, RangeAsked, index_and_range}
use Rattle.partitioned_keyspace.specs.Calls.{partitions_covering_range_outcome, covering_in, covered_of}
use Rattle.partitioned_keyspace.specs.KeyPoints.{index_points, points_in, reading_of, is_point, looked_up, covering_of}
use Rattle.partitioned_keyspace.specs.declared.Covered.TheVariants.{Stop as CoveredStop}
use Rattle.partitioned_keyspace.specs.declared.blocks.IndexPoints.{IndexPoints}
use Rattle.partitioned_keyspace.specs.declared.blocks.Reading.{Reading}
use Rattle.partitioned_keyspace.specs.declared.blocks.Reading.TheVariants.{At, Stop}
use Rattle.partitioned_keyspace.proofs.Coverings.{covering_is}
use Rattle.partitioned_keyspace.proofs.CallExits.{There, there, not_there, then_checked, both_checked}

-- ---- looked_up
pub looked_up_in : (s : List ℕ) (t : Bool) (b : BoundSpan) {r : BoundSpan} → BoundInside s b → r ≡ looked_up t b → BoundInside s r
looked_up_in s true b h e = rw e (omega arith)
looked_up_in s false b h e = rw e h

looked_up_key : (s : List ℕ) (t : Bool) (b : BoundSpan) → key_in s (looked_up t b).at (looked_up t b).len ≡ pick t [] (key_in s b.at b.len)
looked_up_key s true b = refl
looked_up_key s false b = refl

-- ---- covered_by
covering_of_lem :
    (l : List ℕ) (r : Range) (v : Index)
    → whole index.read l ≡ answer v
    → covering_in l r
    ≡ pick (non_empty r) (pick (ascends (first_keys v)) (answer (partitions_covering_range (first_keys v) r)) (stop 6)) (stop 4)
unfolding covering_in
covering_of_lem l r v e = rw (e, both_checked v r _)

-- the key whose points are found beside the start's is the end's, or of a point no byte
covering_by :
    (q : List ℕ) (start end : BoundSpan) (v : Index) {s u z : Key} {t : Bool} {b : BoundSpan} {x : IndexPoints}
    → s ≡ key_in q start.at start.len
    → u ≡ key_in q end.at end.len
    → t ≡ is_point start.kind s end.kind u
    → b ≡ looked_up t end
    → z ≡ key_in q b.at b.len
    → x ≡ index_points s z (first_keys v)
    → ascends (first_keys v) ≡ true
    → partitions_covering_range (first_keys v) (range_in q start end) ≡ covering_of t start.kind end.kind x
covering_by q start end v {t = t} hs hu ht hb hz hx d =
    rw (hx, hz, hb, looked_up_key q t end, hs)
    (covering_is (first_keys v) d start.kind end.kind (key_in q start.at start.len) (key_in q end.at end.len) t (ht ∙ rw (hs, hu)))

module _ (l q : List ℕ) (start end : BoundSpan) (w : Reading) {s u v : Key} {t : Bool} {b : BoundSpan}
    (hs : s ≡ key_in q start.at start.len)
    (hu : u ≡ key_in q end.at end.len)
    (ht : t ≡ is_point start.kind s end.kind u)
    (hb : b ≡ looked_up t end)
    (hv : v ≡ key_in q b.at b.len)
    (h : reading_of w ≡ points_in s v (whole index.read l)) where
  pub covered_stops : {n : ℕ} → w ≡ Stop n → covered_of (CoveredStop n) ≡ covering_in l (range_in q start end)
  unfolding covering_in
  covered_stops {n} e = rw (not_there s v (whole index.read l) n (rw e at h))

  module _ {x : IndexPoints} (e : w ≡ At x) where
    read : There s v (whole index.read l) x
    read = there s v (whole index.read l) x (rw e at h)

    order : {t : Bool} → x.ascends ≡ t → ascends (first_keys read.value) ≡ t
    order d = sym (ap (λ y. y.ascends) read.points) ∙ d

    asked :
        {p d : Bool}
        → p ≡ non_empty (range_in q start end)
        → x.ascends ≡ d
        → covering_in l (range_in q start end)
        ≡ pick p (pick d (answer (partitions_covering_range (first_keys read.value) (range_in q start end))) (stop 6)) (stop 4)
    asked hp d = covering_of_lem l (range_in q start end) read.value read.is ∙ rw (hp, order d)

    module _ {p : Bool} (hp : p ≡ non_empty (range_in q start end)) where
      pub covered_empty : p ≡ false → covered_of (CoveredStop 4) ≡ covering_in l (range_in q start end)
      covered_empty a = sym (asked hp refl ∙ rw a)

      pub covered_descending : p ≡ true → x.ascends ≡ false → covered_of (CoveredStop 6) ≡ covering_in l (range_in q start end)
      covered_descending a d = sym (asked hp d ∙ rw a)

      pub covered_places :
          {g : Outcome Places}
          → p ≡ true
          → x.ascends ≡ true
          → g ≡ answer (covering_of t start.kind end.kind x)
          → g ≡ covering_in l (range_in q start end)
      covered_places a d f =
          f ∙ sym (asked hp d ∙ rw a (ap answer (covering_by q start end read.value hs hu ht hb hv read.points (order d))))

pub ruleset covered_exits = (looked_up_in, covered_stops, covered_empty, covered_descending, covered_places)

-- ---- partitions_covering_range
range_read_lem : (l q : List ℕ) (r : Range) → whole read_range q ≡ answer r → covering_in l r ≡ partitions_covering_range_outcome l q
unfolding covering_in partitions_covering_range_outcome index_and_range
range_read_lem l q r e = rw e (go (whole index.read l))
  where
    go :
        (o : Outcome Index)
        → and_then o (λ x. checked (joined (index_checks x) (asked_checks r)) (answer (partitions_covering_range (first_keys x) r)))
        ≡ and_then
        (and_then o (λ x. checked (joined (index_checks x) (asked_checks r)) (answer (record { partitions = first_keys x; range = r }))))
        (λ (a : RangeAsked). answer (partitions_covering_range a.partitions a.range))
    go (stop n) = refl
    go (answer x) = sym (then_checked (joined (index_checks x) (asked_checks r)) _ _)

module _ (l q : List ℕ) {r : RangeRead} (f : RangeWhole q r) where
  range_there : {start end : BoundSpan} {next : ℕ} → r ≡ RangeAt start end next → whole read_range q ≡ answer (range_in q start end)
  range_there e = sym f.meaning ∙ rw e

  range_stopped : {k : ℕ} → r ≡ RangeStop k → whole read_range q ≡ stop k
  range_stopped e = sym f.meaning ∙ rw e

  pub start_in : {start end : BoundSpan} {next : ℕ} → r ≡ RangeAt start end next → BoundInside q start
  start_in e = (rw e at f.inside).0

  pub end_in : {start end : BoundSpan} {next : ℕ} → r ≡ RangeAt start end next → BoundInside q end
  end_in e = (rw e at f.inside).1.0

  pub range_covered :
      {start end : BoundSpan} {next : ℕ} {g : Outcome Places}
      → r ≡ RangeAt start end next
      → g ≡ covering_in l (range_in q start end)
      → g ≡ partitions_covering_range_outcome l q
  range_covered {start} {end} e x = x ∙ range_read_lem l q (range_in q start end) (range_there e)

  module _ (w : Reading) (h : reading_of w ≡ points_in [] [] (whole index.read l)) {k : ℕ} (e : r ≡ RangeStop k) where
    pub both_stop : {n : ℕ} → w ≡ Stop n → covered_of (CoveredStop n) ≡ partitions_covering_range_outcome l q
    unfolding partitions_covering_range_outcome index_and_range
    both_stop {n} x = rw (not_there [] [] (whole index.read l) n (rw x at h))

    pub range_stops : {x : IndexPoints} → w ≡ At x → covered_of (CoveredStop k) ≡ partitions_covering_range_outcome l q
    unfolding partitions_covering_range_outcome index_and_range
    range_stops {x} y = rw ((there [] [] (whole index.read l) x (rw y at h)).is, range_stopped e)

pub ruleset range_exits = (start_in, end_in, range_covered, both_stop, range_stops)
