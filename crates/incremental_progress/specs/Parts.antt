-- What of each part of a job is durable, and the views that publish it, after `from_compaction`.
use Rattle.std.specs.Prelude.{ℕ, ◌+◌, ◌≡◌, Bool, true, false, ◌&&◌}
use Rattle.std.proofs.Math.Option.{Option, none, some}
use mathlib.Core.List.{List, [], ◌∷◌, ◌++◌, flat_map}
use Rattle.base.specs.Pick.{pick}
use Rattle.key.specs.Order.{Key, cmp_key, is_equal}
use Rattle.comparable_range.specs.Range.{Bound, unbounded, included, excluded, Range, holds}
use Rattle.records.specs.Values.{Table, View, Part}
use Rattle.manifest.specs.Ranges.{own}
use Rattle.incremental_progress.specs.Intervals.{Interval, listed, bit}
use Rattle.incremental_progress.specs.Ids.{publishing_id}

-- A planned range, which starts included or unbounded and ends excluded or unbounded, as an interval.
abbrev pub key_of : Bound → Option Key
key_of unbounded = none
key_of (included k) = some k
key_of (excluded k) = some k

abbrev pub from_planned_range : Range → Interval
from_planned_range r = record { start = key_of r.start; end = key_of r.end }

abbrev pub planned_interval : Part → Interval
planned_interval p = from_planned_range p.planned

-- ---- durable intervals
-- the last key of the last output
unfoldable pub last_written : List Table → Option Key
last_written [] = none
last_written (t ∷ []) = t.last
last_written (t ∷ u ∷ ts) = last_written (u ∷ ts)

-- the optional key is this one
unfoldable pub is_key : Option Key → Key → Bool
is_key none b = false
is_key (some a) b = is_equal (cmp_key a b)

-- from a start up to, without, the last written key; nothing if none is written or the last written is the start
unfoldable pub up_to_key : Option Key → Option Key → Option Interval
up_to_key s none = none
up_to_key s (some b) = pick (is_key s b) none (some (record { start = s; end = some b }))

unfoldable pub durable : Part → Option Interval
durable p = pick p.completed (some (planned_interval p)) (up_to_key (planned_interval p).start (last_written p.outputs))

unfoldable pub intervals : List Part → List Interval
intervals ps = flat_map (λ p. listed (durable p)) ps

-- ---- the views that publish it
-- a view of a whole table
abbrev pub identity : Table → View
identity t = record { id = publishing_id t.id; table = t; visible = none }

-- the key at which outputs are cut: none of a completed part's
unfoldable pub open_key : Part → Option Key
open_key p = pick p.completed none (last_written p.outputs)

-- ---- how many of the listed outputs of a kind hold a key, by their own ranges
unfoldable pub listings : (Table → Bool) → Key → List Table → ℕ
listings q x [] = 0
listings q x (t ∷ ts) = bit (q t && holds (own t) x) + listings q x ts

unfoldable pub listed_in : (Table → Bool) → Key → List Part → ℕ
listed_in q x [] = 0
listed_in q x (p ∷ ps) = listings q x p.outputs + listed_in q x ps

-- ---- later records
-- the same planned range, outputs that begin with the earlier ones, and completed if it was
pub record LaterPart (p q : Part) : Type 0 where
  pub planned : p.planned ≡ q.planned
  pub more : List Table
  pub begins : q.outputs ≡ p.outputs ++ more
  pub keeps : p.completed ≡ true → q.completed ≡ true

pub data LaterParts : List Part → List Part → Type 0 where
  same_end : LaterParts [] []
  part_by_part : {p q : Part} {ps qs : List Part} → LaterPart p q → LaterParts ps qs → LaterParts (p ∷ ps) (q ∷ qs)
