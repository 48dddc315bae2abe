-- What the code's answers say of the slices that it was lent, and when a prefix and a suffix join to a key.
use Rattle.std.specs.Prelude.{ℕ, ◌+◌, ◌≡◌, Bool, true, false, ◌&&◌, List, [], ◌∷◌, length, eqb, leb}
use Rattle.std.proofs.Math.Option.{Option, none, some}
use Rattle.key.specs.Order.{Key}
use Rattle.comparable_range.specs.Range.{Bound, unbounded, included, excluded, Range, bound_of, range_of, non_empty}
use Rattle.comparable_range.specs.declared.Kind.{Kind}
use Rattle.comparable_range.specs.declared.Kind.TheVariants.{Unbounded, Included, Excluded}
use Rattle.format.specs.Range.{write_bound, write_range}
use Rattle.base.specs.Outcome.{Outcome, check, written_to}
use Rattle.bytes_range.specs.Prefix.{kept_of, join_start, join_end, from_prefix_and_subrange}

-- every byte is FF
unfoldable pub all_ff : List ℕ → Bool
all_ff [] = true
all_ff (b ∷ l) = eqb b 255 && all_ff l

-- how many bytes of a prefix are kept for an unbounded end; an end with a key is not made of them
unfoldable pub kept_for : Kind → Key → ℕ
kept_for Unbounded p = kept_of p (length p)
kept_for Included p = 0
kept_for Excluded p = 0

-- a bound's key follows the prefix within 1,024 bytes
unfoldable pub joins_within : Key → Bound → Bool
joins_within p unbounded = true
joins_within p (included k) = leb (length p + length k) 1024
joins_within p (excluded k) = leb (length p + length k) 1024

-- the same of a bound by its kind and key
abbrev pub Joins : Key → Kind → Key → Type 0
Joins p kind k = joins_within p (bound_of kind k) ≡ true

abbrev pub range_joins : Key → Range → Bool
range_joins p r = joins_within p r.start && joins_within p r.end

-- ---- a prefix and a subrange as they are written: its start, its end, and the range
abbrev pub start_bytes : Key → Kind → Key → List ℕ
start_bytes p kind k = write_bound (join_start p (bound_of kind k))

abbrev pub end_bytes : Key → Kind → Key → List ℕ
end_bytes p kind k = write_bound (join_end p (bound_of kind k))

abbrev pub range_bytes : Key → Kind → Key → Kind → Key → List ℕ
range_bytes p ks s ke e = write_range (from_prefix_and_subrange p (range_of ks s ke e))

-- a range is a point, which is its start's key, or none
abbrev pub point_if : Bool → Key → Option Key
point_if true k = some k
point_if false k = none

-- ---- a prefix and a subrange, written into a buffer of `room` bytes
-- Stop 3 if they join to over 1,024 bytes; stop 4 if the given or the joined range fails `non_empty`.
unfoldable pub joined_to : ℕ → Key → Range → Outcome (List ℕ)
joined_to room p r =
    check 3 (range_joins p r)
    (check 4 (non_empty r && non_empty (from_prefix_and_subrange p r))
    (written_to room (write_range (from_prefix_and_subrange p r))))
