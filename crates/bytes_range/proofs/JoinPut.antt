-- The next prefix is put as the key that it is.
-- Assumes nothing.
use Prim.Native.Nat.{ℕ, suc, ◌+◌, ◌-◌, ◌<◌, ◌≤◌}
use native.Mathlib.Omega.{arith}
use mathlib.Core.Path.{◌≡◌, sym, ◌∙◌, ap}
use mathlib.Core.List.{List, [], ◌∷◌, ◌++◌}
use lib.ListN.{length, get_or, take}
use lib.Seq.{length-take-le}
use Rattle.base.specs.Splice.{splice, splice_none, spliced_length}
use Rattle.key.specs.Order.{Key}
use Rattle.comparable_range.specs.Range.{Bound, unbounded}
use Rattle.format.specs.Key.{write_key}
use Rattle.format.specs.Range.{write_bound}
use Rattle.bytes_range.specs.Prefix.{kept_of, join_end}
use Rattle.bytes_range.proofs.Joins.{written_ex, end_next, kept_le, kept_last}

pub room_for : (b : Bound) (k : Key) (at n : ℕ) → write_key k ≡ write_bound b → at + length (write_bound b) ≤ n → at + length (write_key k) ≤ n
room_for b k at n e h = rw e h

pub place_past : (b : Bound) (k : Key) (at : ℕ) {r : ℕ} → r ≡ at + length (write_key k) → write_key k ≡ write_bound b → r ≡ at + length (write_bound b)
place_past b k at h e = h ∙ rw e

pub bound_put : (b : Bound) (k : Key) (d : List ℕ) (at : ℕ) {f : List ℕ} → f ≡ splice d at (write_key k) → write_key k ≡ write_bound b → f ≡ splice d at (write_bound b)
bound_put b k d at h e = h ∙ ap (splice d at) e

-- ---- put_next
module _ (p : Key) {n : ℕ} (q : n ≡ kept_of p (length p)) (z : n ≡ 0 → ⊥) where
  pub last_in_lem : n - 1 < length p
  last_in_lem = omega (arith, q, z, kept_le p (length p))

  pub last_part : n - 1 ≤ length p
  last_part = omega (arith, last_in_lem)

  pub front_length : n - 1 ≡ length (take (n - 1) p)
  front_length = sym (length-take-le (n - 1) p last_part)

  pub not_ff : get_or p (n - 1) 0 ≡ 255 → ⊥
  not_ff e = kept_last p (length p) (n - 1) (let m : suc (n - 1) ≡ n = omega (arith, z) in m ∙ q) e

  pub next_written : {b : ℕ} → b ≡ get_or p (n - 1) 0 + 1 → write_key (take (n - 1) p ++ (b ∷ [])) ≡ write_bound (join_end p unbounded)
  next_written e = rw e (sym (written_ex _ _ (end_next p q z)))

  pub next_within : length p ≤ 1024 → length (take (n - 1) p) + 1 ≤ 1024
  next_within l = rw (length-take-le (n - 1) p (omega (arith, last_in_lem))) (omega (arith, last_in_lem))

pub ruleset next_exits = (last_in_lem, last_part, front_length, not_ff, next_written, next_within, room_for, place_past, bound_put, spliced_length)
