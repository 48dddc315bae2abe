-- The promises on equal ranges, shared prefixes and views that are whole. Their proofs are in proofs/KeyLaws.antt.
use Rattle.std.specs.Prelude.{◌≡◌, ℕ, ◌≤◌, true, length, take}
use Rattle.std.proofs.Math.Option.{none}
use Rattle.key.specs.Order.{Key, key_at_most}
use Rattle.comparable_range.specs.Range.{Range}
use Rattle.records.specs.Values.{View}
use Rattle.manifest.specs.Ranges.{own, effective}
use Rattle.visible_size.specs.Steps.{common_prefix_len, same_range}
use Rattle.visible_size.specs.Sizes.{visible_fraction}
use Rattle.visible_size.specs.declared.VisibleFraction.TheVariants.{Whole}

-- ---- ranges that are the same
abbrev pub SameRangeIsEquality : Type 0
SameRangeIsEquality = (r q : Range) → same_range r q ≡ true → r ≡ q

abbrev pub SameAsItself : Type 0
SameAsItself = (r : Range) → same_range r r ≡ true

-- ---- the bytes that are skipped
abbrev pub CommonPrefixIsShared : Type 0
CommonPrefixIsShared = (a b : Key) → take (common_prefix_len a b) a ≡ take (common_prefix_len a b) b

abbrev pub CommonPrefixIsLongest : Type 0
CommonPrefixIsLongest =
    (a b : Key) (n : ℕ) → n ≤ length a → n ≤ length b → take n a ≡ take n b → n ≤ common_prefix_len a b

-- every key from the first to the last begins with what these two share: the skipped bytes of every effective key are the same
abbrev pub KeysBetweenShareThePrefix : Type 0
KeysBetweenShareThePrefix =
    (first last k : Key)
    → key_at_most first k ≡ true
    → key_at_most k last ≡ true
    → take (common_prefix_len first last) k ≡ take (common_prefix_len first last) first

-- ---- views that are whole
abbrev pub WithoutLastKeyIsWhole : Type 0
WithoutLastKeyIsWhole = (v : View) → v.table.last ≡ none → visible_fraction v ≡ Whole

abbrev pub WithoutVisibleRangeIsWhole : Type 0
WithoutVisibleRangeIsWhole = (v : View) → v.visible ≡ none → visible_fraction v ≡ Whole

abbrev pub OwnRangeIsWhole : Type 0
OwnRangeIsWhole = (v : View) → effective v ≡ own v.table → visible_fraction v ≡ Whole
