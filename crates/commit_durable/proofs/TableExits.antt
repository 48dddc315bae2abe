-- The exits of `part_at` and `gap_at`.
-- Assumes nothing.
use Prim.Native.Nat.{ℕ, ◌<◌}
use native.Mathlib.Omega.{arith}
use native.Mathlib.Numerals.{add-one}
use mathlib.Core.Path.{◌≡◌}
use mathlib.Core.Bool.{false}
use mathlib.Core.List.{List, []}
use lib.ListN.{length, get_or}
use lib.Seq.{drop-cons}
use Rattle.base.specs.Rows.{row_at, hold_at}
use Rattle.format.specs.declared.span.RangeSpan.{RangeSpan}
use Rattle.records.specs.Values.{Part}
use Rattle.incremental_progress.specs.Gaps.{void}
use Rattle.commit_rows.specs.Numbers.{gap_of, part_of}
use Rattle.commit_rows.specs.declared.parts.PartSpan.{PartSpan}
use Rattle.commit_durable.specs.Tables.{job_of, job_gaps, PartHeld, PartIs, PartsHold, PartFound, GapHeld, GapIs, GapsHold, GapFound}

-- ---- part_at
abbrev nothing : Part
nothing = record { planned = void; completed = false; outputs = [] }

module _ {s : List ℕ} {n : ℕ} {t : List ℕ} (p : PartsHold s n t) {k : ℕ} (h : k < n) where
  pub part_found : {r : PartSpan} → r ≡ part_of (row_at 10 k t) → PartFound s k r
  part_found {r} e =
      let l : k < length (job_of s).parts = omega (arith, p.count) in
      let d = drop-cons (job_of s).parts k nothing l in
      let x : PartHeld s (get_or (job_of s).parts k nothing) r = rw (← e) at (hold_at 10 (PartIs s) p.rows l d) in
      record { part = get_or (job_of s).parts k nothing; is = rw (add-one k) d; held = x }

-- ---- gap_at
module _ {s : List ℕ} {m : ℕ} {t : List ℕ} (p : GapsHold s m t) {g : ℕ} (h : g < m) where
  pub gap_found : {r : RangeSpan} → r ≡ gap_of (row_at 6 g t) → GapFound s g r
  gap_found {r} e =
      let l : g < length (job_gaps s) = omega (arith, p.count) in
      let d = drop-cons (job_gaps s) g void l in
      let x : GapHeld s (get_or (job_gaps s) g void) r = rw (← e) at (hold_at 6 (GapIs s) p.rows l d) in
      record { is = rw (x.is, add-one g) d; start = x.start; end = x.end }
