-- What a record adds to the counts: one to the records, and one to those that agree if it does. No count grows past the greatest.
use Rattle.std.specs.Prelude.{ℕ, ◌+◌, Bool, true, false, List, min, get_or, set, nat_lt}
use Rattle.replay.specs.declared.tally.Tally.{Tally}

abbrev pub one_if : Bool → ℕ
one_if true = 1
one_if false = 0

abbrev pub no_records : Tally
no_records = record { records = 0; agreed = 0 }

abbrev pub counted : Tally → Bool → Tally
counted t agreed = record { records = min (t.records + 1) 18446744073709551615; agreed = min (t.agreed + one_if agreed) 18446744073709551615 }

-- the tally at a place, with one record more
abbrev pub counted_at : List Tally → ℕ → Bool → List Tally
counted_at ts i agreed = set ts i (counted (get_or ts i no_records) agreed)

-- where a call is counted: at its number, and at 0 if it has no tally of its own
abbrev pub own_or_first : Bool → ℕ → ℕ
own_or_first true call = call
own_or_first false call = 0

abbrev pub call_place : ℕ → ℕ → ℕ
call_place calls call = own_or_first (nat_lt call calls) call

-- where a stop is counted: at its number, and at 17 from there on
abbrev pub stop_place : ℕ → ℕ
stop_place stop = min stop 17
