-- The answers of the calls as ranges: sides choose the bounds of the intersection and of the union, and what is written is
-- within the ceilings, so it reads back.
-- Assumes nothing.
use Prim.Native.Nat.{ℕ, ◌+◌, ◌≤◌}
use native.Mathlib.Omega.{arith}
use mathlib.Core.Path.{◌≡◌, refl}
use mathlib.Core.Bool.{true, ◌&&◌}
use mathlib.Core.Option.{Option, none, some}
use mathlib.Core.List.{List, [], ◌∷◌, append-nil}
use lib.ListN.{length, length-append}
use lib.Dec.{leb}
use borrow.Author.Tests.{le-leb, leb-true}
use Rattle.base.specs.Pick.{and_first, and_second}
use Rattle.base.specs.Outcome.{answer, written_to}
use Rattle.key.specs.Order.{Key, cmp_number, cmp_key}
use Rattle.comparable_range.specs.Range.{Bound, unbounded, included, excluded, Range, non_empty, bounds_pass, chosen, intersect_sides, union_sides}
use Rattle.comparable_range.specs.Range.{Sides}
use Rattle.std.specs.Prelude.{None, Some}
use Rattle.format.specs.Range.{head_of, read_bound, read_range, write_bound, write_range}
use Rattle.format.specs.Number.{write_number}
use Rattle.format.specs.Key.{write_key}
use Rattle.format.specs.Whole.{whole, key_given}
use Rattle.format.specs.Laws.{BoundWithin, RangeWithin}
use Rattle.format.proofs.Layouts.{key_length}
use Rattle.format.proofs.RangeLayouts.{range_layout}
use Rattle.bytes_range.specs.Prefix.{kept_of, raised, next_prefix, up_to, from_prefix, join_start, join_end, from_prefix_and_subrange}
use Rattle.bytes_range.specs.Writing.{joins_within, range_joins, joined_to}
use Rattle.bytes_range.proofs.NextKey.{next_prefix_is_no_longer}
use Rattle.bytes_range.proofs.Begins.{whole_subrange_is_from_prefix}
use Rattle.incremental_progress.proofs.Outcomes.{answered, tested}
use Rattle.bilqarush.specs.Calls.{Pair, joint, from_prefix_outcome, from_prefix_and_subrange_outcome}
use Rattle.bilqarush.specs.Laws.{bare, IntersectAnswersTheIntersection, UnionAnswersTheUnion, WrittenPrefixReadsBack, WrittenSubrangeReadsBack, WrittenPrefixIsShort, WrittenSubrangeIsShort, LongestIsWritten}

-- ---- the sides choose the bounds
bare_joint : (p : Pair) (i : Sides) → bare (joint p i) ≡ chosen p.first p.second i
bare_joint p None = refl
bare_joint p (Some (s, e)) = refl

pub intersect_answers_the_intersection : IntersectAnswersTheIntersection
intersect_answers_the_intersection p = bare_joint p (intersect_sides p.first p.second)

pub union_answers_the_union : UnionAnswersTheUnion
union_answers_the_union p = bare_joint p (union_sides p.first p.second)

-- ---- a range within the ceilings reads back
bound_length_lem : (b : Bound) → BoundWithin b → length (write_bound b) ≤ 1026
unfolding write_bound
bound_length_lem unbounded h = omega arith
bound_length_lem (included k) h = omega (arith, key_length k)
bound_length_lem (excluded k) h = omega (arith, key_length k)

range_length : (r : Range) → RangeWithin r → length (write_range r) ≤ 2053
unfolding write_range
range_length r h =
    rw length-append (omega (arith, bound_length_lem r.start h.start, bound_length_lem r.end h.end))

reads_back : (r : Range) → RangeWithin r → whole read_range (write_range r) ≡ answer r
unfolding whole
reads_back r h =
    rw (le-leb (length (write_range r)) 65536 (omega (arith, range_length r h)), ← append-nil (write_range r), range_layout.back r [] h)

-- ---- what is joined is within the ceilings
start_within : (p : Key) (b : Bound) → length p ≤ 1024 → joins_within p b ≡ true → BoundWithin (join_start p b)
unfolding join_start joins_within
start_within [] unbounded h e = tt
start_within (x ∷ p) unbounded h e = h
start_within [] (included k) h e = omega (arith, leb-true (0 + length k) 1024 e)
start_within (x ∷ p) (included k) h e = rw length-append (leb-true _ 1024 e)
start_within [] (excluded k) h e = omega (arith, leb-true (0 + length k) 1024 e)
start_within (x ∷ p) (excluded k) h e = rw length-append (leb-true _ 1024 e)

next_within : (p : Key) (o : Option Key) → length p ≤ 1024 → next_prefix p ≡ o → BoundWithin (up_to o)
next_within p none h e = tt
next_within p (some q) h e = omega (arith, next_prefix_is_no_longer p q e)

end_within : (p : Key) (b : Bound) → length p ≤ 1024 → joins_within p b ≡ true → BoundWithin (join_end p b)
unfolding join_end joins_within
end_within p unbounded h e = next_within p (next_prefix p) h refl
end_within p (included k) h e = rw length-append (leb-true _ 1024 e)
end_within p (excluded k) h e = rw length-append (leb-true _ 1024 e)

joined_within : (p : Key) (r : Range) → length p ≤ 1024 → range_joins p r ≡ true → RangeWithin (from_prefix_and_subrange p r)
unfolding from_prefix_and_subrange
joined_within p r h e =
    record {
      start = start_within p r.start h (and_first (joins_within p r.start) _ e);
      end = end_within p r.end h (and_second (joins_within p r.start) _ e);
    }

pub written_subrange_reads_back : WrittenSubrangeReadsBack
written_subrange_reads_back p r h e = reads_back (from_prefix_and_subrange p r) (joined_within p r h e)

pub written_prefix_reads_back : WrittenPrefixReadsBack
unfolding joins_within
written_prefix_reads_back p h =
    let all : Range = record { start = unbounded; end = unbounded } in
    rw (← whole_subrange_is_from_prefix p) (written_subrange_reads_back p all h refl)

-- ---- and so short
-- what was written is what was to be written
pub wrote_that : (room : ℕ) (w b : List ℕ) → written_to room w ≡ answer b → w ≡ b
wrote_that room w b e = let q = (tested 16 (leb (length w) room) (answer w) b e).1 in cc

key_most : (l : List ℕ) (k : Key) → key_given l ≡ answer k → length k ≤ 1024
unfolding key_given
key_most l k e =
    let t = tested 3 (leb (length l) 1024) (answer l) k e in
    let q = t.1 in
    let x : k ≡ l = cc in
    rw x (leb-true (length l) 1024 t.0)

pub written_subrange_is_short : WrittenSubrangeIsShort
unfolding from_prefix_and_subrange_outcome joined_to
written_subrange_is_short prefix subrange room b e =
    let x = answered (key_given prefix) _ b e in
    let y = answered (whole read_range subrange) _ b x.second in
    let q = from_prefix_and_subrange x.value y.value in
    let t = tested 3 (range_joins x.value y.value) _ b y.second in
    let u = tested 4 (non_empty y.value && non_empty q) _ b t.1 in
    let w = wrote_that room (write_range q) b u.1 in
    rw (← w) (range_length q (joined_within x.value y.value (key_most prefix x.value x.first) t.0))

pub written_prefix_is_short : WrittenPrefixIsShort
unfolding from_prefix_outcome joins_within
written_prefix_is_short prefix room b e =
    let all : Range = record { start = unbounded; end = unbounded } in
    let x = answered (key_given prefix) _ b e in
    let w = wrote_that room (write_range (from_prefix x.value)) b x.second in
    rw (← w, ← whole_subrange_is_from_prefix x.value)
    (range_length (from_prefix_and_subrange x.value all) (joined_within x.value all (key_most prefix x.value x.first) refl))

pub longest_is_written : LongestIsWritten
unfolding key_given cmp_number cmp_key bounds_pass read_range head_of read_bound whole write_number write_key write_bound write_range kept_of raised next_prefix from_prefix join_start join_end from_prefix_and_subrange joins_within joined_to from_prefix_outcome from_prefix_and_subrange_outcome
longest_is_written = record { prefix = refl; prefix_short = refl; subrange = refl }
