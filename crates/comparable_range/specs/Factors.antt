-- The rules on bounds as the code factors them: by kinds, and by the order of the keys.
use Rattle.std.specs.Prelude.{Bool, true, false}
use Rattle.base.specs.Pick.{pick}
use Rattle.key.specs.Order.{Key, cmp_key}
use Rattle.std.specs.declared.cmp.Ordering.{Ordering}
use Rattle.std.specs.declared.cmp.Ordering.TheVariants.{Less, Equal, Greater}
use Rattle.comparable_range.specs.declared.Kind.{Kind}
use Rattle.comparable_range.specs.declared.Kind.TheVariants.{Unbounded, Included, Excluded}

-- whether a kind has a key
abbrev pub is_keyed : Kind → Bool
is_keyed Unbounded = false
is_keyed Included = true
is_keyed Excluded = true

-- the order of two bounds by their kinds alone
abbrev pub tie : Bool → Kind → Kind → Ordering
tie start Unbounded Unbounded = Equal
tie start Unbounded Included = pick start Less Greater
tie start Unbounded Excluded = pick start Less Greater
tie start Included Unbounded = pick start Greater Less
tie start Included Included = Equal
tie start Included Excluded = pick start Less Greater
tie start Excluded Unbounded = pick start Greater Less
tie start Excluded Included = pick start Greater Less
tie start Excluded Excluded = Equal

-- the order of two bounds' keys, where both have one
unfoldable pub key_order : Kind → Key → Kind → Key → Ordering
key_order ka a kb b = pick (is_keyed ka) (pick (is_keyed kb) (cmp_key a b) Equal) Equal

-- the test of a range at the order of its keys
abbrev pub passes : Kind → Kind → Ordering → Bool
passes ka kb Less = true
passes ka kb Greater = false
passes Unbounded kb Equal = true
passes Included Unbounded Equal = true
passes Included Included Equal = true
passes Included Excluded Equal = false
passes Excluded Unbounded Equal = true
passes Excluded Included Equal = false
passes Excluded Excluded Equal = false
