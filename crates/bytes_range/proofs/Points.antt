-- A point's start and end are one key, so what it holds is at least and at most that key.
-- Assumes nothing.
use mathlib.Core.Path.{◌≡◌, refl}
use mathlib.Core.Bool.{Bool, true, false, ◌&&◌}
use mathlib.Core.Option.{none, some}
use Rattle.base.specs.Pick.{pick}
use Rattle.key.specs.Order.{Key, cmp_key, swap, at_most, is_equal}
use Rattle.std.specs.declared.cmp.Ordering.{Ordering}
use Rattle.std.specs.declared.cmp.Ordering.TheVariants.{Less, Equal, Greater}
use Rattle.key.proofs.Linear.{key_order_is_total}
use Rattle.comparable_range.specs.Range.{Bound, unbounded, included, excluded, start_holds, end_holds, holds}
use Rattle.comparable_range.proofs.Keyless.{equal_keys}
use Rattle.bytes_range.specs.Prefix.{point_of}
use Rattle.bytes_range.specs.Laws.{PointHoldsItsKeyAlone}

at_one_key : (k x : Key) → (at_most (cmp_key k x) && at_most (cmp_key x k)) ≡ is_equal (cmp_key x k)
at_one_key k x = rw (key_order_is_total.swaps x k) (go (cmp_key x k))
  where
    go : (o : Ordering) → (at_most (swap o) && at_most o) ≡ is_equal o
    go Less = refl
    go Equal = refl
    go Greater = refl

point_holds :
    (s e : Bound) (k x : Key)
    → point_of s e ≡ some k
    → (start_holds s x && end_holds e x) ≡ is_equal (cmp_key x k)
unfolding point_of start_holds end_holds
point_holds unbounded e k x h = cc
point_holds (included a) unbounded k x h = cc
point_holds (included a) (included b) k x h = go (is_equal (cmp_key a b)) refl h
  where
    go :
        (t : Bool)
        → is_equal (cmp_key a b) ≡ t
        → pick t (some a) none ≡ some k
        → (at_most (cmp_key a x) && at_most (cmp_key x b)) ≡ is_equal (cmp_key x k)
    go true w h = let z : a ≡ k = cc in rw (← equal_keys a b w, z) (at_one_key k x)
    go false w h = cc
point_holds (included a) (excluded b) k x h = cc
point_holds (excluded a) e k x h = cc

pub point_holds_its_key_alone : PointHoldsItsKeyAlone
unfolding holds
point_holds_its_key_alone r k h x = point_holds r.start r.end k x h
