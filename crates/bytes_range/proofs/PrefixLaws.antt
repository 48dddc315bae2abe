-- Which prefixes and subranges pass the test. The shared prefix does not matter to two keys, every key that begins with the
-- prefix is below the next prefix, and the bare prefix is the prefix and then the empty key, the first.
-- Assumes nothing.
use Prim.Native.Nat.{ℕ}
use mathlib.Core.Path.{◌≡◌, refl}
use mathlib.Core.Bool.{true, not, ◌&&◌, and-true}
use mathlib.Core.Option.{Option, none, some}
use mathlib.Core.List.{[], ◌∷◌, ◌++◌, append-nil}
use Rattle.key.specs.Order.{Key, cmp_key}
use Rattle.std.specs.declared.cmp.Ordering.TheVariants.{Less}
use Rattle.key.proofs.Linear.{same_front}
use Rattle.comparable_range.specs.Range.{Bound, unbounded, included, excluded, bounds_pass}
use Rattle.bytes_range.specs.Prefix.{next_prefix, up_to, from_prefix, join_start, join_end, from_prefix_and_subrange}
use Rattle.bytes_range.specs.Laws.{leaves_none_bounds, JoinedPassesAsGiven, FromPrefixPasses}
use Rattle.bytes_range.proofs.NextKey.{next_prefix_above}
use Rattle.bytes_range.proofs.Begins.{start_none, end_none}

-- the bare prefix against the prefix and then e
bare : (p e : Key) → cmp_key p (p ++ e) ≡ cmp_key [] e
bare p e = rw append-nil at (same_front p [] e)

-- a start at a key that begins with the prefix, and the end of the prefix's keys
up_to_passes :
    (p s : Key)
    → let e = up_to (next_prefix p) in
    (bounds_pass (included (p ++ s)) e ≡ true) × (bounds_pass (excluded (p ++ s)) e ≡ true)
unfolding bounds_pass
up_to_passes p s = go (next_prefix p) (λ q. next_prefix_above p s q)
  where
    go :
        (o : Option Key)
        → ((q : Key) → o ≡ some q → cmp_key (p ++ s) q ≡ Less)
        → (bounds_pass (included (p ++ s)) (up_to o) ≡ true) × (bounds_pass (excluded (p ++ s)) (up_to o) ≡ true)
    go none f = (refl, refl)
    go (some q) f = (rw (f q refl), rw (f q refl))

bare_passes : (p : Key) → bounds_pass (included p) (up_to (next_prefix p)) ≡ true
bare_passes p = rw append-nil at (up_to_passes p []).0

joined_passes :
    (b : ℕ) (p : Key) (s e : Bound)
    → bounds_pass (join_start (b ∷ p) s) (join_end (b ∷ p) e) ≡ (bounds_pass s e && not (leaves_none_bounds (b ∷ p) s e))
unfolding bounds_pass join_start join_end leaves_none_bounds cmp_key
joined_passes b p unbounded unbounded = bare_passes (b ∷ p)
joined_passes b p unbounded (included []) = rw (bare (b ∷ p) [])
joined_passes b p unbounded (included (c ∷ e)) = rw (bare (b ∷ p) (c ∷ e))
joined_passes b p unbounded (excluded []) = rw (bare (b ∷ p) [])
joined_passes b p unbounded (excluded (c ∷ e)) = rw (bare (b ∷ p) (c ∷ e))
joined_passes b p (included s) unbounded = (up_to_passes (b ∷ p) s).0
joined_passes b p (included s) (included e) = rw (same_front (b ∷ p) s e, and-true)
joined_passes b p (included s) (excluded e) = rw (same_front (b ∷ p) s e, and-true)
joined_passes b p (excluded s) unbounded = (up_to_passes (b ∷ p) s).1
joined_passes b p (excluded s) (included e) = rw (same_front (b ∷ p) s e, and-true)
joined_passes b p (excluded s) (excluded e) = rw (same_front (b ∷ p) s e, and-true)

pub joined_passes_as_given : JoinedPassesAsGiven
unfolding from_prefix_and_subrange leaves_none_bounds
joined_passes_as_given [] r = rw (start_none r.start, end_none r.end, and-true)
joined_passes_as_given (b ∷ p) r = joined_passes b p r.start r.end

pub from_prefix_passes : FromPrefixPasses
unfolding from_prefix bounds_pass
from_prefix_passes [] = refl
from_prefix_passes (b ∷ p) = bare_passes (b ∷ p)
