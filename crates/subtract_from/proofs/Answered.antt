-- What `subtract_from` answers on any bytes: the layout of the parts, which is within the ceilings and reads back.
-- Assumes nothing.
use Prim.Native.Nat.{ℕ, ◌*◌, ◌≤◌}
use native.Mathlib.Omega.{arith}
use mathlib.Core.Path.{◌≡◌, refl, sym, ap, ◌∙◌}
use mathlib.Core.Bool.{◌&&◌}
use mathlib.Core.Option.{some}
use mathlib.Core.List.{List, [], ◌∷◌, append-nil}
use lib.ListN.{length, length-append}
use lib.Dec.{leb}
use borrow.Author.Tests.{le-leb}
use Rattle.base.specs.Bytes.{Bytes}
use Rattle.base.specs.Lists.{All, All-map}
use Rattle.base.specs.Pick.{and_first, and_second}
use Rattle.base.specs.Outcome.{answer}
use Rattle.key.specs.Order.{Key}
use Rattle.comparable_range.specs.Range.{Bound, unbounded, included, excluded, Range, non_empty, of, start_side, end_side, overlap}
use Rattle.comparable_range.specs.declared.Side.{Side}
use Rattle.comparable_range.specs.declared.Side.TheVariants.{First, Second}
use Rattle.format.specs.Number.{write_number}
use Rattle.format.specs.Range.{read_range, write_bound, write_range}
use Rattle.format.specs.Whole.{whole, ended}
use Rattle.format.specs.Laws.{BoundWithin, RangeWithin}
use Rattle.format.proofs.Layouts.{key_length, number_length}
use Rattle.format.proofs.RangeLayouts.{range_layout}
use Rattle.records.specs.Form.{Form, range, write_many}
use Rattle.records.specs.Layouts.{plan}
use Rattle.records.specs.Laws.{Lawful}
use Rattle.records.proofs.RecordLayouts.{plan_layout}
use Rattle.records.proofs.Within.{many_of_all}
use Rattle.manifest.proofs.Given.{whole_read}
use Rattle.incremental_progress.specs.Parts.{key_of}
use Rattle.incremental_progress.proofs.Outcomes.{answered, tested}
use Rattle.incremental_progress.specs.Checks.{half_open}
use Rattle.subtract_from.specs.SubtractCalls.{subtracted, subtracted_given, subtract_from_outcome}
use Rattle.subtract_from.specs.SubtractLaws.{IsInterval, less, EachPartsAnswered}
use Rattle.subtract_from.proofs.Laws.{parts_all, at_most_two_parts, parts_ascend, parts_pass, keys_outside_are_held_once}

-- ---- within the ceilings
of_within : (s : Side) (a b : Bound) → BoundWithin a → BoundWithin b → BoundWithin (of s a b)
of_within First a b h k = h
of_within Second a b h k = k

overlap_within : (r q : Range) → RangeWithin r → RangeWithin q → RangeWithin (overlap r q)
overlap_within r q h k =
    record {
      start = of_within (start_side r.start q.start) r.start q.start h.start k.start;
      end = of_within (end_side r.end q.end) r.end q.end h.end k.end;
    }

key_within : (b : Bound) (k : Key) → key_of b ≡ some k → BoundWithin b → length k ≤ 1024
key_within unbounded k e h = absurd (let z : ◌≡◌ {A = ℕ} 0 1 = cc in omega arith)
key_within (included j) k e h = let z : j ≡ k = cc in rw (← z) h
key_within (excluded j) k e h = let z : j ≡ k = cc in rw (← z) h

parts_within : (d r : Range) → RangeWithin d → RangeWithin r → All RangeWithin (less d r)
parts_within d r w h =
    parts_all RangeWithin r d
    (λ k e p. overlap_within r _ h (record { start = tt; end = key_within d.start k e w.start }))
    (λ k e p. overlap_within r _ h (record { start = key_within d.end k e w.end; end = tt }))

plan_within : (d r : Range) → RangeWithin d → RangeWithin r → plan.Within (less d r)
unfolding plan
plan_within d r w h =
    record { first = omega (arith, at_most_two_parts d r); second = many_of_all range (less d r) (parts_within d r w h) }

-- ---- how long
bound_length_lem : (b : Bound) → BoundWithin b → length (write_bound b) ≤ 1026
unfolding write_bound
bound_length_lem unbounded h = omega arith
bound_length_lem (included k) h = omega (arith, key_length k)
bound_length_lem (excluded k) h = omega (arith, key_length k)

range_length : (r : Range) → RangeWithin r → length (write_range r) ≤ 2053
unfolding write_range
range_length r h =
    rw length-append (omega (arith, bound_length_lem r.start h.start, bound_length_lem r.end h.end))

ranges_length : (rs : List Range) → All RangeWithin rs → length (write_many write_range rs) ≤ length rs * 2053
unfolding write_many
ranges_length [] a = omega arith
ranges_length (r ∷ rs) a =
    omega (arith, length-append (write_range r) (write_many write_range rs), range_length r a.0, ranges_length rs a.1)

plan_length : (d r : Range) → RangeWithin d → RangeWithin r → length (plan.write (less d r)) ≤ 4107
unfolding plan
plan_length d r w h =
    let a = length-append (write_number 1 (length (less d r))) (write_many write_range (less d r)) in
    omega (arith, a, number_length 1 (length (less d r)), ranges_length (less d r) (parts_within d r w h), at_most_two_parts d r)

-- ---- the answer
-- what is within the ceilings and not too long reads back whole
reads_whole : {A : Type 0} {f : Form A} → Lawful f → (v : A) → f.Within v → length (f.write v) ≤ 65536 → whole f.read (f.write v) ≡ answer v
unfolding whole
reads_whole {f = f} F v w h =
    rw (le-leb (length (f.write v)) 65536 h)
    (ap (λ l. ended (f.read l)) (sym (append-nil (f.write v))) ∙ ap ended (F.back v [] w))

range_within : (l : List ℕ) (r : Range) → Bytes l → whole read_range l ≡ answer r → RangeWithin r
range_within l r b e = (range_layout.only l r [] b (whole_read read_range l r e).all).within

pub each_parts_answered : EachPartsAnswered
unfolding subtract_from_outcome subtracted_given subtracted
each_parts_answered l q room b bl bq e =
    let a = answered (subtracted_given l q) _ b e in
    let p = a.value in
    let x = answered (whole read_range l) _ p a.first in
    let d = x.value in
    let y = answered (whole read_range q) _ p x.second in
    let r = y.value in
    let c4 = tested 4 (non_empty d && non_empty r) _ p y.second in
    let c10 = tested 10 (half_open d) (answer (less d r)) p c4.1 in
    let c16 = tested 16 (leb (length (plan.write p)) room) (answer (plan.write p)) b a.second in
    let is : b ≡ plan.write (less d r) = cc (c10.1, c16.1) in
    let i : IsInterval d = record { passes = and_first (non_empty d) (non_empty r) c4.0; half_open_lem = c10.0 } in
    let w = range_within l d bl x.first in
    let h = range_within q r bq y.first in
    let n = plan_length d r w h in
    record {
      interval = d;
      range = r;
      interval_is = x.first;
      range_is = y.first;
      is_interval = i;
      passes = and_second (non_empty d) (non_empty r) c4.0;
      parts = less d r;
      are = refl;
      is = is;
      reads_back = ap (whole plan.read) is ∙ reads_whole plan_layout (less d r) (plan_within d r w h) (omega (arith, n));
      short = omega (arith, n, ap length is);
      most = at_most_two_parts d r;
      in_order = parts_ascend d r i;
      pass = parts_pass d r;
      taken_again = All-map (λ p v. reads_whole {f = range} range_layout p v (omega (arith, range_length p v))) (less d r) (parts_within d r w h);
      held_once = keys_outside_are_held_once d r i;
    }
