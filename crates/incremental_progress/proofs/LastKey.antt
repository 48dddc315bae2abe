-- The last written key of an unfinished part lies in no durable interval.
-- Assumes nothing.
use Prim.Native.Nat.{ℕ, zero, suc}
use native.Mathlib.Omega.{arith}
use mathlib.Core.Path.{◌≡◌, refl, sym, ◌∙◌}
use mathlib.Core.Bool.{Bool, true, false, true≢false}
use mathlib.Core.Option.{some}
use mathlib.Core.List.{List, [], ◌∷◌, flat_map}
use Rattle.base.specs.Pick.{pick, and_second}
use Rattle.key.specs.Order.{Key}
use Rattle.comparable_range.specs.Cut.{Cut, before, after, ◌≼◌}
use Rattle.comparable_range.proofs.Cut.{≼_trans, ≺-≼, ≼-not-≺, before-≺-after}
use Rattle.comparable_range.proofs.Keyless.{not_held}
use Rattle.records.specs.Values.{Table, Image, Part, Job}
use Rattle.manifest.specs.Checks.{image_checks, job_checks}
use Rattle.incremental_progress.specs.Intervals.{listed, to_range, any_holds}
use Rattle.incremental_progress.specs.Parts.{planned_interval, last_written, durable, intervals}
use Rattle.incremental_progress.specs.Laws.{JobPasses}
use Rattle.incremental_progress.specs.DemandLaws.{part_at}
use Rattle.incremental_progress.specs.Corollaries.{Unfinished, LastWrittenKeyIsOutside}
use Rattle.incremental_progress.proofs.Checks.{job_parts}
use Rattle.incremental_progress.proofs.Job.{Planned, no_parts, with_part, Ascending, written, none_some, Status, finished, nothing, ongoing, status, durable_in_plan, intervals_from, any_append}
use Rattle.incremental_progress.proofs.Outcomes.{same_answer}
use Rattle.incremental_progress.proofs.Outcomes.{Passes, accepted_commit}

-- ---- the last written key of an unfinished part
-- it lies in the part's planned range
key_in_plan : {e c : Cut} {b : Key} (ts : List Table) → Ascending e c ts → last_written ts ≡ some b → (c ≼ before b) × (after b ≼ e)
unfolding last_written
key_in_plan [] a i = absurd (none_some i)
key_in_plan {b = b} (t ∷ ts) a i =
    let w = written ts a in
    let x : w.key ≡ b = cc w.is in
    (rw (← x) w.from, rw (← x) w.to)

-- not in the part's own interval
not_its_own : {b : Key} (p : Part) → Status p → p.completed ≡ false → last_written p.outputs ≡ some b → any_holds (listed (durable p)) b ≡ false
unfolding any_holds
not_its_own p (nothing d e f) c i = rw e
not_its_own p (finished d e f) c i = absurd (true≢false (sym d ∙ c))
not_its_own {b} p (ongoing k d j e f m n l) c i =
    let x : k ≡ b = cc in
    let h = not_held (to_range (record { start = (planned_interval p).start; end = some b })) b (λ s t. ≼-not-≺ t (before-≺-after b)) in
    rw (e, x, h)

false_both : (a b : Bool) → a ≡ false → b ≡ false → pick a true b ≡ false
false_both a b e f = rw (e, f)

not_true : (a : Bool) → (a ≡ true → ⊥) → a ≡ false
not_true true f = absurd (f refl)
not_true false f = refl

-- nor in another part's
outside_all : {c : Cut} {b : Key} {ps : List Part} → Planned c ps → (n : ℕ) (p : Part) → part_at n ps ≡ some p → p.completed ≡ false → last_written p.outputs ≡ some b
    → (any_holds (intervals ps) b ≡ false) × (c ≼ before b)
unfolding intervals flat_map
outside_all no_parts n p e d i = absurd (let z : ◌≡◌ {A = ℕ} 0 1 = cc in omega arith)
outside_all {b = b} (with_part {p = u} {ps = us} l r a rest) zero p e d i =
    let x : u ≡ p = cc in
    let k = key_in_plan {b = b} u.outputs a (rw x i) in
    let own = not_its_own {b = b} u (status u a) (rw x d) (rw x i) in
    let others = not_true (any_holds (intervals us) b) (λ h. ≼-not-≺ (≼_trans k.1 (intervals_from b rest h)) (before-≺-after b)) in
    (rw any_append (false_both _ _ own others), ≼_trans l k.0)
outside_all {b = b} (with_part {p = u} {ps = us} l r a rest) (suc n) p e d i =
    let h = outside_all {b = b} rest n p e d i in
    let own = not_true (any_holds (listed (durable u)) b) (λ k. ≼-not-≺ (≼_trans (durable_in_plan u b (status u a) k).1 h.1) (before-≺-after b)) in
    (rw any_append (false_both _ _ own h.0), ≼_trans l (≼_trans (≺-≼ r) h.1))

-- the checks on the job alone
job_passes : {i : Image} {j : Job} → Passes i j → JobPasses j
job_passes {i} {j} p =
    record {
      ranges = and_second (image_checks i).ranges (job_checks j).ranges p.first.ranges;
      tables = and_second (image_checks i).tables (job_checks j).tables p.first.tables;
      planned = p.planned;
      outputs = p.outputs;
    }

pub written_outside : {j : Job} {b : Key} → JobPasses j → Unfinished j b → any_holds (intervals j.parts) b ≡ false
written_outside {j} p u = (outside_all (job_parts j p) u.place u.part u.there u.incomplete u.ends).0

pub unfinished_outside : {i : Image} {j : Job} {b : Key} → Passes i j → Unfinished j b → any_holds (intervals j.parts) b ≡ false
unfinished_outside p u = written_outside (job_passes p) u

pub last_written_key_is_outside : LastWrittenKeyIsOutside
last_written_key_is_outside given record' ids room new progress b e r u =
    let a = accepted_commit given record' ids room new e in
    let x : a.progress ≡ progress = same_answer a.progress_is r in
    unfinished_outside (rw x at a.made.passes) u
