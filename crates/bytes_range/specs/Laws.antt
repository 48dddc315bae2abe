-- The promises on ranges from prefixes, and on points. Their proofs are in proofs/.
use Rattle.std.specs.Prelude.{◌≤◌, ◌≡◌, Bool, true, false, not, ◌&&◌, [], ◌∷◌, ◌++◌, length, drop, eqb}
use Rattle.std.proofs.Math.Option.{some}
use Rattle.base.specs.Bytes.{Bytes}
use Rattle.key.specs.Order.{Key, cmp_key, is_equal}
use Rattle.std.specs.declared.cmp.Ordering.TheVariants.{Less}
use Rattle.comparable_range.specs.Range.{Bound, unbounded, included, excluded, Range, non_empty, holds}
use Rattle.bytes_range.specs.Prefix.{next_prefix, from_prefix, from_prefix_and_subrange, as_point}

-- ---- the next prefix
-- the next prefix is above every key that begins with the prefix
abbrev pub NextPrefixAbove : Type 0
NextPrefixAbove = (p s q : Key) → next_prefix p ≡ some q → cmp_key (p ++ s) q ≡ Less

-- it is no longer than the prefix
abbrev pub NextPrefixIsNoLonger : Type 0
NextPrefixIsNoLonger = (p q : Key) → next_prefix p ≡ some q → length q ≤ length p

-- it is made of bytes if the prefix is
abbrev pub NextPrefixIsBytes : Type 0
NextPrefixIsBytes = (p q : Key) → Bytes p → next_prefix p ≡ some q → Bytes q

-- ---- the keys held
-- the second key begins with the first
unfoldable pub begins_with : Key → Key → Bool
begins_with [] x = true
begins_with (b ∷ p) [] = false
begins_with (b ∷ p) (y ∷ x) = eqb b y && begins_with p x

-- a prefix's range holds exactly the byte keys that begin with it
abbrev pub FromPrefixHoldsWhatBeginsWithIt : Type 0
FromPrefixHoldsWhatBeginsWithIt = (p x : Key) → Bytes x → holds (from_prefix p) x ≡ begins_with p x

-- a prefix and a subrange hold exactly the byte keys that are the prefix and then a key of the subrange
abbrev pub SubrangeHoldsPrefixThenKey : Type 0
SubrangeHoldsPrefixThenKey =
    (p : Key) (r : Range) (x : Key)
    → Bytes x
    → holds (from_prefix_and_subrange p r) x ≡ (begins_with p x && holds r (drop (length p) x))

-- with the unbounded subrange it is the prefix's range
abbrev pub WholeSubrangeIsFromPrefix : Type 0
WholeSubrangeIsFromPrefix =
    (p : Key)
    → from_prefix_and_subrange p (record { start = unbounded; end = unbounded }) ≡ from_prefix p

-- ---- the test
-- A prefix that is not empty, and the subrange from unbounded to before the empty key. That passes the test, though it
-- holds no key; joined, it goes from the prefix to before the prefix, and fails.
unfoldable pub leaves_none_bounds : Key → Bound → Bound → Bool
leaves_none_bounds [] s e = false
leaves_none_bounds (b ∷ p) unbounded unbounded = false
leaves_none_bounds (b ∷ p) unbounded (included j) = false
leaves_none_bounds (b ∷ p) unbounded (excluded []) = true
leaves_none_bounds (b ∷ p) unbounded (excluded (c ∷ j)) = false
leaves_none_bounds (b ∷ p) (included k) e = false
leaves_none_bounds (b ∷ p) (excluded k) e = false

abbrev pub leaves_none : Key → Range → Bool
leaves_none p r = leaves_none_bounds p r.start r.end

-- a prefix and a subrange pass the test exactly if the subrange does, but for that one case
abbrev pub JoinedPassesAsGiven : Type 0
JoinedPassesAsGiven = (p : Key) (r : Range) → non_empty (from_prefix_and_subrange p r) ≡ (non_empty r && not (leaves_none p r))

-- a prefix's range passes the test
abbrev pub FromPrefixPasses : Type 0
FromPrefixPasses = (p : Key) → non_empty (from_prefix p) ≡ true

-- ---- points
-- a point holds its key and no other
abbrev pub PointHoldsItsKeyAlone : Type 0
PointHoldsItsKeyAlone = (r : Range) (k : Key) → as_point r ≡ some k → (x : Key) → holds r x ≡ is_equal (cmp_key x k)
