-- The calls on visible sizes answer parts from 1e-6 to 1 and sizes of at most 2^53, whose sum over a run does not wrap; and a
-- run's size is the sum of its views' sizes, place by place.
-- Assumes nothing.
use Prim.Native.Nat.{ℕ, zero, suc, ◌+◌, ◌*◌, ◌<◌, ◌≤◌, ◌^◌}
use native.Mathlib.Omega.{arith}
use mathlib.Core.Path.{◌≡◌, refl, sym, ap, ◌∙◌}
use mathlib.Core.Bool.{true}
use mathlib.Core.Option.{Option, none, some}
use mathlib.Core.List.{List, [], ◌∷◌}
use lib.ListN.{length, take}
use lib.Seq.{take_all}
use borrow.Author.Tests.{leb-true}
use Rattle.base.specs.Bytes.{Bytes}
use Rattle.base.specs.Pick.{and_first, and_second}
use Rattle.base.specs.Outcome.{answer}
use Rattle.base.specs.Lists.{All}
use Rattle.key.specs.Order.{Key}
use Rattle.records.specs.Values.{View, Image}
use Rattle.manifest.specs.Ranges.{own, effective}
use Rattle.manifest.specs.Checks.{all, size_passes, image_given}
use Rattle.manifest.proofs.ReadKeys.{ViewBytes, own_bytes, effective_bytes}
use Rattle.db_state.specs.Places.{at, view_given}
use Rattle.db_state.specs.LookupCalls.{views_at}
use Rattle.sst_view.proofs.PlaceExits.{view_by_run}
use Rattle.visible_size.specs.Numbers.{InPart}
use Rattle.visible_size.specs.Sizes.{fraction_with_last, visible_fraction, raw_size, estimate_visible_size, estimate_run_visible_size}
use Rattle.visible_size.proofs.NumbersWithin.{parts_lie_between}
use Rattle.visible_size.proofs.SizeBounds.{view_size_is_at_least_one, view_size_is_at_most_raw}
use Rattle.view_sizes.specs.SizeCalls.{visible_fraction_outcome, estimate_visible_size_outcome, estimate_run_visible_size_outcome}
use Rattle.view_sizes.specs.SizeCallLaws.{PartsAnsweredLieBetween, SizeAnsweredIsAtMostRaw, SizeAnsweredIsAtLeastOne, RunSizeDoesNotWrap, summed, RunSizeIsTheSumOfItsViews}
use Rattle.view_sizes.proofs.Passed.{came, view_called, view_sized}
use Rattle.view_sizes.proofs.SizeExits.{one_or_raw}
use Rattle.view_sizes.proofs.ViewBytes.{at_all, run_of_bytes}

-- ---- of a view
fraction_within : (v : View) → ViewBytes v → InPart (visible_fraction v)
unfolding visible_fraction
fraction_within v b = go v.table.last
  where
    go : (o : Option Key) → InPart (fraction_with_last o (own v.table) (effective v))
    go none = tt
    go (some k) = parts_lie_between (own v.table) (effective v) (own_bytes v.table b.table) (effective_bytes v b)

size_most : (v : View) → ViewBytes v → size_passes v.table ≡ true → estimate_visible_size v ≤ 2 ^ 53
unfolding size_passes
size_most v b h =
    omega (arith, view_size_is_at_most_raw v h (fraction_within v b), leb-true (raw_size v.table) (2 ^ 53) h, one_or_raw (raw_size v.table) (leb-true (raw_size v.table) (2 ^ 53) h))

-- ---- the calls on a view
record ViewOfBytes (v : View) : Type 0 where
  keys : ViewBytes v
  sized : size_passes v.table ≡ true

view_of_bytes : (l : List ℕ) (run place : ℕ) (v : View) → Bytes l → view_given l run place ≡ answer v → ViewOfBytes v
view_of_bytes l run place v b e =
    let c = view_called l run place v e in
    let r = run_of_bytes l run c.image c.views b c.given c.there in
    record { keys = at_all ViewBytes c.views place v r.keys c.is; sized = view_sized l run place v e }

pub parts_answered_lie_between : PartsAnsweredLieBetween
unfolding visible_fraction_outcome
parts_answered_lie_between l run view f b e =
    let c = came (view_given l run view) _ f e in
    let z : visible_fraction c.value ≡ f = cc c.second in
    rw (← z) (fraction_within c.value (view_of_bytes l run view c.value b c.first).keys)

size_is : (l : List ℕ) (run view : ℕ) (v : View) (n : ℕ) → view_given l run view ≡ answer v → estimate_visible_size_outcome l run view ≡ answer n → estimate_visible_size v ≡ n
unfolding estimate_visible_size_outcome
size_is l run view v n e f =
    let z : answer (estimate_visible_size v) ≡ answer n = rw e at f in
    cc z

pub size_answered_is_at_most_raw : SizeAnsweredIsAtMostRaw
size_answered_is_at_most_raw l run view v n b e f =
    let h = view_of_bytes l run view v b e in
    rw (← size_is l run view v n e f) (view_size_is_at_most_raw v h.sized (fraction_within v h.keys))

pub size_answered_is_at_least_one : SizeAnsweredIsAtLeastOne
size_answered_is_at_least_one l run view v r n e q f = rw (← size_is l run view v n e f) (view_size_is_at_least_one v r q)

-- ---- the call on a run
sum_most : (vs : List View) → All ViewBytes vs → all (λ v. size_passes v.table) vs ≡ true → estimate_run_visible_size vs ≤ length vs * 2 ^ 53
unfolding estimate_run_visible_size all
sum_most [] b h = omega arith
sum_most (v ∷ vs) b h =
    let p = size_passes v.table in
    let q = all (λ v. size_passes v.table) vs in
    omega (arith, size_most v b.0 (and_first p q h), sum_most vs b.1 (and_second p q h))

pub run_size_does_not_wrap : RunSizeDoesNotWrap
unfolding estimate_run_visible_size_outcome
run_size_does_not_wrap l run n b e =
    let c = came (image_given l) _ n e in
    let d = came (views_at c.value run) _ n c.second in
    let z : estimate_run_visible_size d.value ≡ n = cc d.second in
    let r = run_of_bytes l run c.value d.value b c.first d.first in
    omega (arith, z, sum_most d.value r.keys r.sized, r.most)

-- ---- the sum, place by place
-- one more view of a list
record OneMore (vs : List View) (place : ℕ) : Type 0 where
  value : View
  there : at vs place ≡ some value
  sum : estimate_run_visible_size (take (suc place) vs) ≡ estimate_run_visible_size (take place vs) + estimate_visible_size value

one_more : (vs : List View) (place : ℕ) → place < length vs → OneMore vs place
unfolding estimate_run_visible_size at
one_more [] place h = absurd (omega arith)
one_more (v ∷ vs) zero h = record { value = v; there = refl; sum = omega arith }
one_more (v ∷ vs) (suc place) h =
    let m = one_more vs place (omega arith) in
    record { value = m.value; there = m.there; sum = omega (arith, m.sum) }

module _ (l : List ℕ) (run : ℕ) (i : Image) (vs : List View) (e : image_given l ≡ answer i) (f : views_at i run ≡ answer vs) where
  size_at : (place : ℕ) (v : View) → at vs place ≡ some v → estimate_visible_size_outcome l run place ≡ answer (estimate_visible_size v)
  unfolding estimate_visible_size_outcome view_given
  size_at place v h = rw (e, view_by_run i run place, f, h)

  summed_is : (place : ℕ) → place ≤ length vs → summed l run place ≡ answer (estimate_run_visible_size (take place vs))
  unfolding summed estimate_run_visible_size
  summed_is zero h = refl
  summed_is (suc place) h =
      let m = one_more vs place (omega arith) in
      rw (summed_is place (omega arith), size_at place m.value m.there) (ap answer (sym m.sum))

pub run_size_is_the_sum_of_its_views : RunSizeIsTheSumOfItsViews
unfolding estimate_run_visible_size_outcome
run_size_is_the_sum_of_its_views l run i vs e f =
    rw (e, f) (sym (summed_is l run i vs e f (length vs) (omega arith) ∙ ap (λ ws. answer (estimate_run_visible_size ws)) (take_all (length vs) vs (omega arith))))
