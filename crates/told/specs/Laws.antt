-- Demand 1, as the calls for C keep it: every buffer and every slot lent to a call holds, after a refusal, what it held before,
-- and after success differs only where the answer stands. Of answers with places, specs/Laws.antt of `told_bytes` says the first.
-- Their proofs are in proofs/Laws.antt.
use Rattle.std.specs.Prelude.{ℕ, ◌≡◌, Bool, true, false, List, ◌++◌, length, drop}
use Rattle.std.proofs.Math.Option.{none, some}
use Rattle.base.specs.Outcome.{stop, answer}
use Rattle.partitioned_keyspace.specs.Partitions.{Places}
use Rattle.told.specs.Told.{Held, SlotTold, Told, OptionTold}
use Rattle.told.specs.Lookups.{CoveredTold}

-- as it was
abbrev pub Kept : {A : Type 0} → Held A → Type 0
Kept s = s.after ≡ s.before

-- ---- after a refusal
abbrev pub RefusalKeepsTheSlot : Type 1
RefusalKeepsTheSlot = (A : Type 0) (n : ℕ) (s : Held A) (r : ℕ) → SlotTold (stop n) s r → (r ≡ n) × Kept s

abbrev pub RefusalKeepsBothSlots : Type 1
RefusalKeepsBothSlots =
    (A : Type 0) (n : ℕ) (there : Held Bool) (value : Held A) (r : ℕ)
    → OptionTold (stop n) there value r
    → (r ≡ n) × (Kept there × Kept value)

abbrev pub RefusalKeepsPlaces : Type 0
RefusalKeepsPlaces = (n : ℕ) (start end : Held ℕ) (r : ℕ) → CoveredTold (stop n) start end r → (r ≡ n) × (Kept start × Kept end)

abbrev pub RefusalKeepsTheBuffer : Type 0
RefusalKeepsTheBuffer =
    (n : ℕ) (out : Held (List ℕ)) (written : Held ℕ) (r : ℕ)
    → Told (stop n) out written r
    → (r ≡ n) × (Kept out × Kept written)

-- ---- after success
abbrev pub AnswerStandsInTheSlot : Type 1
AnswerStandsInTheSlot = (A : Type 0) (a : A) (s : Held A) (r : ℕ) → SlotTold (answer a) s r → (r ≡ 0) × (s.after ≡ a)

abbrev pub AnswerStandsInBothSlots : Type 1
AnswerStandsInBothSlots =
    (A : Type 0) (a : A) (there : Held Bool) (value : Held A) (r : ℕ)
    → OptionTold (answer (some a)) there value r
    → (r ≡ 0) × ((there.after ≡ true) × (value.after ≡ a))

-- the value's slot is left where there is none
abbrev pub MissingAnswerIsSaid : Type 1
MissingAnswerIsSaid =
    (A : Type 0) (there : Held Bool) (value : Held A) (r : ℕ)
    → OptionTold (answer none) there value r
    → (r ≡ 0) × ((there.after ≡ false) × Kept value)

abbrev pub PlacesStandInBothSlots : Type 0
PlacesStandInBothSlots =
    (p : Places) (start end : Held ℕ) (r : ℕ)
    → CoveredTold (answer p) start end r
    → (r ≡ 0) × ((start.after ≡ p.start) × (end.after ≡ p.end))

-- no byte behind the answer changes
abbrev pub AnswerStandsAtTheFront : Type 0
AnswerStandsAtTheFront =
    (b : List ℕ) (out : Held (List ℕ)) (written : Held ℕ) (r : ℕ)
    → Told (answer b) out written r
    → (r ≡ 0) × ((out.after ≡ b ++ drop (length b) out.before) × (written.after ≡ length b))
