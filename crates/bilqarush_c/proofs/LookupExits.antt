-- The exits of the lookups for C: what the call without C answers decides what is told of it.
-- Assumes nothing.
use Prim.Native.Nat.{ℕ}
use mathlib.Core.Path.{◌≡◌}
use mathlib.Core.Bool.{Bool}
use mathlib.Core.Option.{Option}
use mathlib.Core.List.{List}
use Rattle.base.specs.Outcome.{Outcome}
use Rattle.partitioned_keyspace.specs.Partitions.{Places}
use Rattle.partitioned_keyspace.specs.Calls.{partition_point_outcome}
use Rattle.partitioned_keyspace.specs.declared.Test.{Test}
use Rattle.told.specs.Told.{Held, SlotTold, OptionTold}
use Rattle.told.specs.Lookups.{test_given, CoveredTold}
use Rattle.bilqarush_c.proofs.TellExits.{slot_told}

-- ---- a count by a test that is given as a flag
pub count_told :
    (index key : List ℕ) {t : Test} (flag : Bool) {o : Outcome ℕ} {s : Held ℕ} {r : ℕ}
    → t ≡ test_given flag
    → o ≡ partition_point_outcome index t key
    → SlotTold o s r
    → SlotTold (partition_point_outcome index (test_given flag) key) s r
count_told index key flag q e t = rw (← q) (slot_told e t)

-- ---- two slots
pub option_told :
    {A : Type 0} {o p : Outcome (Option A)} {there : Held Bool} {value : Held A} {r : ℕ}
    → o ≡ p
    → OptionTold o there value r
    → OptionTold p there value r
option_told e t = rw (← e) t

pub covered_told :
    {o p : Outcome Places} {start end : Held ℕ} {r : ℕ} → o ≡ p → CoveredTold o start end r → CoveredTold p start end r
covered_told e t = rw (← e) t

pub ruleset lookup_exits = (option_told, covered_told)
