-- Ranges from anchors, as `select_boundaries` has them. Document 01, "Plan".
use Rattle.std.specs.Prelude.{ℕ, ◌+◌, ◌-◌, ◌/◌, max, Bool, ◌&&◌, ◌||◌, List, [], ◌∷◌, leb, ltb, eqb}
use Rattle.base.specs.Pick.{pick}
use Rattle.base.specs.Sort.{sort}
use Rattle.key.specs.Order.{Key, key_at_most, key_below}
use Rattle.comparable_range.specs.Range.{Bound, unbounded, included, excluded, Range}
use Rattle.records.specs.Values.{Anchor, Anchors, Plan}
use Rattle.manifest.specs.Checks.{total}

-- "Target = max(total div parts, least range bytes)."
unfoldable pub target : ℕ → ℕ → ℕ → ℕ
target parts least bytes = max (bytes / parts) least

-- "One unbounded range results if parts ≤ 1, target = 0 or target ≥ total."
unfoldable pub unsplit : ℕ → ℕ → ℕ → Bool
unsplit parts goal bytes = leb parts 1 || eqb goal 0 || leb bytes goal

-- "Anchors are sorted by key; equal keys keep their given order."
unfoldable pub prepared : Anchors → Anchors
prepared = sort key_at_most (λ a. a.key)

-- The keys at which ranges begin, at most `left` more. One does once the bytes before it reach the threshold, if its key is
-- above the last one; the threshold then grows by the target.
unfoldable pub boundaries_from : ℕ → ℕ → ℕ → ℕ → Key → Anchors → List Key
boundaries_from goal left threshold reached last [] = []
boundaries_from goal left threshold reached last (a ∷ as') =
    pick (ltb 0 left && leb threshold reached && key_below last a.key)
    (a.key ∷ boundaries_from goal (left - 1) (threshold + goal) (reached + a.bytes) a.key as')
    (boundaries_from goal left threshold (reached + a.bytes) last as')

-- of anchors in order, whose first key is the smallest
unfoldable pub boundaries : ℕ → ℕ → Anchors → List Key
boundaries parts goal [] = []
boundaries parts goal (a ∷ as') = boundaries_from goal (parts - 1) goal 0 a.key (a ∷ as')

unfoldable pub chosen : ℕ → ℕ → Anchors → List Key
chosen parts least as' =
    let goal = target parts least (total as') in
    pick (unsplit parts goal (total as')) [] (boundaries parts goal (prepared as'))

-- from a start to the first key, from each key to the next, and from the last one on
unfoldable pub ranges_from : Bound → List Key → Plan
ranges_from start [] = record { start = start; end = unbounded } ∷ []
ranges_from start (k ∷ ks) = record { start = start; end = excluded k } ∷ ranges_from (included k) ks

unfoldable pub select_boundaries : ℕ → ℕ → Anchors → Plan
select_boundaries parts least as' = ranges_from unbounded (chosen parts least as')
