-- The interval that holds no key.
-- Assumes nothing.
use mathlib.Core.Path.{◌≡◌, refl, sym, ◌∙◌}
use mathlib.Core.Bool.{true≢false}
use mathlib.Core.List.{[], ◌∷◌}
use Rattle.key.specs.Order.{cmp_key}
use Rattle.comparable_range.specs.Range.{Bound, unbounded, included, excluded, Range, cmp_bound, bounds_pass, start_holds, end_holds, holds, start_side, end_side, overlap, intersect_sides}
use Rattle.comparable_range.specs.Laws.{keyless_bounds}
use Rattle.comparable_range.proofs.Keyless.{included_start_is_held, keyless_pass_and_hold_none}
use Rattle.incremental_progress.specs.Intervals.{part_before, part_from, subtract_from}
use Rattle.subtract_from.specs.SubtractLaws.{IsInterval, keyless_interval, HoldsNoKey, OneIntervalHoldsNoKey, KeylessIntervalHoldsNoKey, since_empty_key, KeylessIntervalWritesTheEmptyKey}

-- ---- there is one only
abbrev range : Bound → Bound → Range
range s e = record { start = s; end = e }

only_one : (s e : Bound) → IsInterval (range s e) → HoldsNoKey (range s e) → range s e ≡ keyless_interval
unfolding holds start_holds end_holds cmp_key
only_one unbounded unbounded i h = absurd (true≢false (h.none []))
only_one unbounded (included k) i h = absurd (true≢false (sym i.half_open_lem))
only_one unbounded (excluded []) i h = refl
only_one unbounded (excluded (x ∷ k)) i h = absurd (true≢false (h.none []))
only_one (included k) e i h = absurd (true≢false (sym (included_start_is_held (range (included k) e) k refl i.passes) ∙ h.none k))
only_one (excluded k) e i h = absurd (true≢false (sym i.half_open_lem))

pub one_interval_holds_no_key : OneIntervalHoldsNoKey
one_interval_holds_no_key d i h = only_one d.start d.end i h

pub keyless_interval_holds_no_key : KeylessIntervalHoldsNoKey
unfolding bounds_pass keyless_bounds cmp_key
keyless_interval_holds_no_key =
    (record { passes = refl; half_open_lem = refl }, record { none = (keyless_pass_and_hold_none keyless_interval refl).1 })

-- ---- less it
abbrev from_empty : Range
from_empty = record { start = included []; end = unbounded }

greater_start : (b : Bound) → (overlap (range b unbounded) from_empty).start ≡ since_empty_key b
unfolding start_side cmp_bound cmp_key
greater_start unbounded = refl
greater_start (included []) = refl
greater_start (included (x ∷ k)) = refl
greater_start (excluded []) = refl
greater_start (excluded (x ∷ k)) = refl

lesser_end : (b : Bound) → (overlap (range unbounded b) from_empty).end ≡ b
unfolding end_side cmp_bound
lesser_end unbounded = refl
lesser_end (included k) = refl
lesser_end (excluded k) = refl

pub keyless_interval_writes_the_empty_key : KeylessIntervalWritesTheEmptyKey
unfolding subtract_from part_before part_from intersect_sides
keyless_interval_writes_the_empty_key r h =
    let s = greater_start r.start in
    let e = lesser_end r.end in
    rw (s, e, h) (rw (s, e))
