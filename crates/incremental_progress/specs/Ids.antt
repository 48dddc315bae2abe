-- The two kinds of id. Each is compared with its own kind alone; one is made of the other in one place.
use Rattle.std.specs.Prelude.{ℕ, Bool, List, take}
use Rattle.key.specs.Order.{cmp_key, is_equal}
use Rattle.records.specs.declared.ids.TableId.{TableId}
use Rattle.records.specs.declared.ids.ViewId.{ViewId}

abbrev pub same_table_id : TableId → TableId → Bool
same_table_id a b = is_equal (cmp_key a.0 b.0)

abbrev pub same_view_id : ViewId → ViewId → Bool
same_view_id a b = is_equal (cmp_key a.0 b.0)

-- the id of the view that publishes a table has the bits of the table's id
abbrev pub publishing_id : TableId → ViewId
publishing_id id = record { 0 = id.0 }

-- "Both are 128 bits: 48 of time, 80 random": in bytes
abbrev pub time_length : ℕ
time_length = 6

abbrev pub random_length : ℕ
random_length = 10

abbrev pub time_of : ViewId → List ℕ
time_of id = take time_length id.0

-- the id of a view that a commit writes: one that is kept, or one of which the time is known and the 80 random bits are drawn
pub data NewId : Type 0 where
  kept : ViewId → NewId
  drawn : List ℕ → NewId
