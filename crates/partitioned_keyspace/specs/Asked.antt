-- What a lookup in an index is given, its checks in their order. Document 01, "Stops".
use Rattle.std.specs.Prelude.{ℕ, true, List}
use Rattle.base.specs.Outcome.{Outcome, answer, and_then}
use Rattle.key.specs.Order.{Key}
use Rattle.comparable_range.specs.Range.{Range, non_empty}
use Rattle.format.specs.Range.{read_range}
use Rattle.format.specs.Whole.{whole, key_given}
use Rattle.records.specs.Layouts.{index}
use Rattle.manifest.specs.Checks.{Checks, checked, joined, index_checks}
use Rattle.partitioned_keyspace.specs.Partitions.{first_keys}

-- of an asked range, check 4 alone
unfoldable pub asked_checks : Range → Checks
asked_checks r = record { ranges = non_empty r; tables = true; order = true; sizes = true }

-- the first keys of an index, and the key that is asked for
pub record KeyAsked : Type 0 where
  pub partitions : List Key
  pub key : Key

unfoldable pub index_and_key : List ℕ → List ℕ → Outcome KeyAsked
index_and_key l k =
    and_then (whole index.read l) (λ x. and_then (key_given k) (λ key. checked (index_checks x) (answer (record { partitions = first_keys x; key = key }))))

-- the same with an asked range: check 4 covers it before check 6 covers the index
pub record RangeAsked : Type 0 where
  pub partitions : List Key
  pub range : Range

unfoldable pub index_and_range : List ℕ → List ℕ → Outcome RangeAsked
index_and_range l q =
    and_then (whole index.read l) (λ x. and_then (whole read_range q) (λ r. checked (joined (index_checks x) (asked_checks r)) (answer (record { partitions = first_keys x; range = r }))))
