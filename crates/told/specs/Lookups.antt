-- How a lookup for C is given a test, and tells places, which take two slots. A stop leaves both as they were.
use Rattle.std.specs.Prelude.{ℕ, ◌≡◌, Bool, true, false}
use Rattle.base.specs.Outcome.{Outcome, stop, answer}
use Rattle.partitioned_keyspace.specs.Partitions.{Places}
use Rattle.partitioned_keyspace.specs.declared.Test.{Test}
use Rattle.partitioned_keyspace.specs.declared.Test.TheVariants.{Below, AtOrBelow}
use Rattle.bilqarush.specs.Answers.{stop_of}
use Rattle.told.specs.Told.{Held, slot}

-- a test of `partition_point`, as it is given
abbrev pub test_given : Bool → Test
test_given true = AtOrBelow
test_given false = Below

-- ---- places from one up to, without, another
abbrev pub start_of : Outcome Places → Outcome ℕ
start_of (stop n) = stop n
start_of (answer p) = answer p.start

abbrev pub end_of : Outcome Places → Outcome ℕ
end_of (stop n) = stop n
end_of (answer p) = answer p.end

pub record CoveredTold (o : Outcome Places) (start end : Held ℕ) (r : ℕ) : Type 0 where
  pub returns : r ≡ stop_of o
  pub from : start.after ≡ slot start.before (start_of o)
  pub to : end.after ≡ slot end.before (end_of o)
