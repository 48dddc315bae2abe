-- The exits of `subtract_from` and of the function that it calls once both ranges are read.
-- Assumes nothing.
use Prim.Native.Nat.{ℕ, ◌≤◌}
use mathlib.Core.Path.{◌≡◌, sym, ap, ◌∙◌}
use mathlib.Core.Bool.{Bool, true, false, not, and-false}
use mathlib.Core.List.{List}
use Rattle.std.proofs.lemmas.Bool.{not-true, not-false}
use lib.ListN.{length}
use Rattle.base.specs.Outcome.{Outcome, stop, answer, lent, reported, written_to}
use Rattle.base.specs.declared.Written.{Written}
use Rattle.base.specs.declared.Written.TheVariants.{Stop}
use Rattle.comparable_range.specs.Range.{non_empty}
use Rattle.format.specs.Range.{read_range, bound_in, range_in, BoundInside, RangeWhole}
use Rattle.format.specs.Span.{MetInside}
use Rattle.format.specs.Whole.{whole}
use Rattle.format.specs.declared.range.BoundSpan.{BoundSpan}
use Rattle.format.specs.declared.range.RangeRead.{RangeRead}
use Rattle.format.specs.declared.range.RangeRead.TheVariants.{At as RangeAt, Stop as RangeStop}
use Rattle.format.specs.Span.{Met}
use Rattle.records.specs.Layouts.{plan}
use Rattle.manifest.proofs.Given.{whole_read}
use Rattle.incremental_progress.specs.Intervals.{part_before, part_from, subtract_from}
use Rattle.incremental_progress.specs.Parts.{key_of}
use Rattle.subtract_from.specs.Found.{PartFound, parts_in, subtracted_to}
use Rattle.incremental_progress.specs.Checks.{half_open}
use Rattle.commit_durable.specs.Answers.{half_open_kinds}
use Rattle.commit_durable.proofs.PartExits.{half_open_lem}
use Rattle.subtract_from.specs.SubtractCalls.{subtracted, subtracted_given, subtract_from_outcome}

reports : {o : Outcome (List ℕ)} (k : ℕ) → o ≡ stop k → Stop k ≡ reported o
reports k e = rw e

leaves : (d : List ℕ) {o : Outcome (List ℕ)} (k : ℕ) → o ≡ stop k → d ≡ lent d o
leaves d k e = rw e

-- ---- subtracted
module _ (a b : List ℕ) (t f s e : BoundSpan) (room : ℕ) where
  module _ {p : Bool} (i : p ≡ non_empty (range_in b s e)) where
    interval_fails : not p ≡ true → subtracted_to room (range_in b s e) (range_in a t f) ≡ stop 4
    unfolding subtracted
    interval_fails w = rw (← i, not-true p w)

    pub interval_fails_reported : not p ≡ true → Stop 4 ≡ reported (subtracted_to room (range_in b s e) (range_in a t f))
    interval_fails_reported w = reports 4 (interval_fails w)

    pub interval_fails_lent : (o : List ℕ) → not p ≡ true → o ≡ lent o (subtracted_to room (range_in b s e) (range_in a t f))
    interval_fails_lent o w = leaves o 4 (interval_fails w)

    module _ {q : Bool} (j : q ≡ non_empty (range_in a t f)) where
      range_fails : q ≡ false → subtracted_to room (range_in b s e) (range_in a t f) ≡ stop 4
      unfolding subtracted
      range_fails w = rw (← j, w, and-false)

      pub range_fails_reported : q ≡ false → Stop 4 ≡ reported (subtracted_to room (range_in b s e) (range_in a t f))
      range_fails_reported w = reports 4 (range_fails w)

      pub range_fails_lent : (o : List ℕ) → q ≡ false → o ≡ lent o (subtracted_to room (range_in b s e) (range_in a t f))
      range_fails_lent o w = leaves o 4 (range_fails w)

      module _ {h : Bool} (k : h ≡ half_open_kinds s.kind e.kind) (u : not p ≡ false) (v : q ≡ true) where
        is_open : half_open (range_in b s e) ≡ h
        is_open = sym (half_open_lem s.kind e.kind _ _) ∙ sym k

        open_fails : not h ≡ true → subtracted_to room (range_in b s e) (range_in a t f) ≡ stop 10
        unfolding subtracted
        open_fails w = rw (← i, ← j, not-false p u, v, is_open, not-true h w)

        pub open_fails_reported : not h ≡ true → Stop 10 ≡ reported (subtracted_to room (range_in b s e) (range_in a t f))
        open_fails_reported w = reports 10 (open_fails w)

        pub open_fails_lent : (o : List ℕ) → not h ≡ true → o ≡ lent o (subtracted_to room (range_in b s e) (range_in a t f))
        open_fails_lent o w = leaves o 10 (open_fails w)

        module _ {m n : Met} (x : PartFound a b (part_before (key_of (bound_in b s)) (range_in a t f)) m) (y : PartFound a b (part_from (key_of (bound_in b e)) (range_in a t f)) n) (w : not h ≡ false) where
          all_pass : subtracted_to room (range_in b s e) (range_in a t f) ≡ written_to room (plan.write (parts_in a b m n))
          unfolding subtracted subtract_from
          all_pass = rw (← i, ← j, not-false p u, v, is_open, not-false h w, x.meaning, y.meaning)

          pub parts_reported : {z : Written} → z ≡ reported (written_to room (plan.write (parts_in a b m n))) → z ≡ reported (subtracted_to room (range_in b s e) (range_in a t f))
          parts_reported c = c ∙ sym (ap reported all_pass)

          pub parts_lent : (o : List ℕ) {g : List ℕ} → g ≡ lent o (written_to room (plan.write (parts_in a b m n))) → g ≡ lent o (subtracted_to room (range_in b s e) (range_in a t f))
          parts_lent o c = c ∙ sym (ap (lent o) all_pass)

pub part_inside : (a b : List ℕ) {o : _} {m : Met} → PartFound a b o m → MetInside a b m
part_inside a b p = p.inside

pub ruleset subtracted_exits = (interval_fails_reported, interval_fails_lent, range_fails_reported, range_fails_lent, open_fails_reported, open_fails_lent, parts_reported, parts_lent, part_inside)

-- ---- a range that was read
module _ (l : List ℕ) {x : RangeRead} (i : RangeWhole l x) {s e : BoundSpan} {n : ℕ} (u : x ≡ RangeAt s e n) where
  read_is : whole read_range l ≡ answer (range_in l s e)
  read_is = sym i.meaning ∙ rw u

  pub start_there : BoundInside l s
  start_there = (rw u at i.inside).0

  pub end_there : BoundInside l e
  end_there = (rw u at i.inside).1.0

  pub read_small : length l ≤ 65536
  read_small = (whole_read read_range l (range_in l s e) read_is).small

-- ---- subtract_from: the interval's bytes are l, and the range's q
module _ (l q : List ℕ) (room : ℕ) {x : RangeRead} (i : RangeWhole l x) where
  given_stops : {k : ℕ} → x ≡ RangeStop k → subtract_from_outcome l q room ≡ stop k
  unfolding subtract_from_outcome subtracted_given
  given_stops {k} e = let z : whole read_range l ≡ stop k = sym i.meaning ∙ rw e in rw z

  pub given_stops_reported : {k : ℕ} → x ≡ RangeStop k → Stop k ≡ reported (subtract_from_outcome l q room)
  given_stops_reported {k} e = reports k (given_stops e)

  pub given_stops_lent : (o : List ℕ) {k : ℕ} → x ≡ RangeStop k → o ≡ lent o (subtract_from_outcome l q room)
  given_stops_lent o {k} e = leaves o k (given_stops e)

  module _ {s e : BoundSpan} {n : ℕ} (u : x ≡ RangeAt s e n) where
    interval_is : whole read_range l ≡ answer (range_in l s e)
    interval_is = read_is l i u

    module _ {y : RangeRead} (j : RangeWhole q y) where
      range_stops : {k : ℕ} → y ≡ RangeStop k → subtract_from_outcome l q room ≡ stop k
      unfolding subtract_from_outcome subtracted_given
      range_stops {k} f = let z : whole read_range q ≡ stop k = sym j.meaning ∙ rw f in rw (interval_is, z)

      pub range_stops_reported : {k : ℕ} → y ≡ RangeStop k → Stop k ≡ reported (subtract_from_outcome l q room)
      range_stops_reported {k} f = reports k (range_stops f)

      pub range_stops_lent : (o : List ℕ) {k : ℕ} → y ≡ RangeStop k → o ≡ lent o (subtract_from_outcome l q room)
      range_stops_lent o {k} f = leaves o k (range_stops f)

      module _ {t f : BoundSpan} {n' : ℕ} (v : y ≡ RangeAt t f n') where
        both_read : subtract_from_outcome l q room ≡ subtracted_to room (range_in l s e) (range_in q t f)
        unfolding subtract_from_outcome subtracted_given
        both_read = rw (interval_is, read_is q j v)

        pub both_reported : {w : Written} → w ≡ reported (subtracted_to room (range_in l s e) (range_in q t f)) → w ≡ reported (subtract_from_outcome l q room)
        both_reported c = c ∙ sym (ap reported both_read)

        pub both_lent : (o : List ℕ) {g : List ℕ} → g ≡ lent o (subtracted_to room (range_in l s e) (range_in q t f)) → g ≡ lent o (subtract_from_outcome l q room)
        both_lent o c = c ∙ sym (ap (lent o) both_read)

pub ruleset call_exits = (given_stops_reported, given_stops_lent, range_stops_reported, range_stops_lent, start_there, end_there, read_small, both_reported, both_lent)
