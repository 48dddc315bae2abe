-- The loop of `partition_point` in partitioned_keyspace.rs, which halves the places that are left at each turn.
use Rattle.std.specs.Prelude.{ℕ, zero, suc, ◌+◌, ◌-◌, ◌/◌, Bool, List, [], ◌∷◌, length, get_or, leb, ltb}
use Rattle.std.proofs.Math.Option.{Option, none, some}
use Rattle.base.specs.Pick.{pick}
use Rattle.key.specs.Order.{Key}

abbrev pub middle : ℕ → ℕ → ℕ
middle low high = low + (high - low) / 2

-- the loop, for so many turns at most: none where they do not suffice
unfoldable pub halving : (Key → Bool) → List Key → ℕ → ℕ → ℕ → ℕ → Option ℕ
halving pred ks zero low high point = pick (leb low high) none (some point)
halving pred ks (suc turns) low high point =
    pick (leb low high)
    (pick (pred (get_or ks (middle low high) []))
    (halving pred ks turns (middle low high + 1) high (middle low high + 1))
    (pick (ltb low (middle low high)) (halving pred ks turns low (middle low high - 1) point) (some point)))
    (some point)

-- over all the places, if there is one
abbrev pub by_halving : (Key → Bool) → List Key → ℕ → Option ℕ
by_halving pred [] turns = some 0
by_halving pred (k ∷ ks) turns = halving pred (k ∷ ks) turns 0 (length ks) 0
