-- How a call for C tells its outcome: it returns the number of the stop, or 0, and writes a number that it answers into a
-- slot of the caller's, which a stop leaves as it was.
use Rattle.std.specs.Prelude.{ℕ, Bool, true, false, List, ◌≡◌, length}
use Rattle.std.proofs.Math.Option.{Option, none, some}
use Rattle.std.specs.Borrow.{MutBor}
use denote.Triple.Both.{Both}
use Rattle.base.specs.Outcome.{Outcome, stop, answer, lent}
use Rattle.base.specs.declared.Written.{Written}
use Rattle.base.specs.declared.Written.TheVariants.{Wrote, Stop}
use Rattle.bilqarush.specs.Answers.{stop_of}

-- what a buffer or a slot holds before the call, and after it
pub record Held (A : Type 0) : Type 0 where
  pub before : A
  pub after : A

abbrev pub from_to : {A : Type 0} → A → A → Held A
from_to a b = record { before = a; after = b }

abbrev pub held : {A : Type 0} → Both (MutBor A) (MutBor A) → Held A
held x = from_to x.entry.now x.exit.now

-- what a slot holds afterwards
abbrev pub slot : {A : Type 0} → A → Outcome A → A
slot before (stop n) = before
slot before (answer a) = a

-- how many bytes an answer is
abbrev pub sized : Outcome (List ℕ) → Outcome ℕ
sized (stop n) = stop n
sized (answer b) = answer (length b)

-- the same of the enum
abbrev pub counted : Written → Outcome ℕ
counted (Wrote n) = answer n
counted (Stop n) = stop n

-- a call that answers one value: what it returns, and the slot
pub record SlotTold {A : Type 0} (o : Outcome A) (s : Held A) (r : ℕ) : Type 0 where
  pub returns : r ≡ stop_of o
  pub answered : s.after ≡ slot s.before o

-- a call that writes: what it returns, the buffer and the slot
pub record Told (o : Outcome (List ℕ)) (out : Held (List ℕ)) (written : Held ℕ) (r : ℕ) : Type 0 where
  pub returns : r ≡ stop_of o
  pub buffer : out.after ≡ lent out.before o
  pub count : written.after ≡ slot written.before (sized o)

-- ---- an answer that there may be or not takes two slots
-- the first says whether there is one
abbrev pub is_there : {A : Type 0} → Outcome (Option A) → Outcome Bool
is_there (stop n) = stop n
is_there (answer none) = answer false
is_there (answer (some a)) = answer true

-- the second holds it, and is left as it was where there is none
abbrev pub slot_if_there : {A : Type 0} → A → Outcome (Option A) → A
slot_if_there before (stop n) = before
slot_if_there before (answer none) = before
slot_if_there before (answer (some a)) = a

pub record OptionTold {A : Type 0} (o : Outcome (Option A)) (there : Held Bool) (value : Held A) (r : ℕ) : Type 0 where
  pub returns : r ≡ stop_of o
  pub flag : there.after ≡ slot there.before (is_there o)
  pub answered : value.after ≡ slot_if_there value.before o
