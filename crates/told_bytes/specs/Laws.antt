-- Demand 1, as the calls for C keep it that answer with places of their own choosing: after a refusal the buffer and the slot
-- hold what they held before. Their proofs are in proofs/Laws.antt.
use Rattle.std.specs.Prelude.{ℕ, ◌≡◌, List}
use Rattle.base.specs.Outcome.{stop}
use Rattle.bilqarush.specs.ImageCalls.{compacted_effective_range_outcome}
use Rattle.told.specs.Told.{Held}
use Rattle.told.specs.Laws.{Kept}
use Rattle.told_bytes.specs.Layouts.{JointTold, ViewRangeTold}

-- of a range whose bounds stand in the slices that were lent
abbrev pub RefusedRangeKeepsTheBuffer : Type 0
RefusedRangeKeepsTheBuffer =
    (a b : List ℕ) (n : ℕ) (out : Held (List ℕ)) (written : Held ℕ) (r : ℕ)
    → JointTold a b (stop n) out written r
    → (r ≡ n) × (Kept out × Kept written)

abbrev pub RefusedViewKeepsTheBuffer : Type 0
RefusedViewKeepsTheBuffer =
    (image : List ℕ) (run view n : ℕ) (out : Held (List ℕ)) (written : Held ℕ) (r : ℕ)
    → compacted_effective_range_outcome image run view ≡ stop n
    → ViewRangeTold image run view out written r
    → (r ≡ n) × (Kept out × Kept written)
