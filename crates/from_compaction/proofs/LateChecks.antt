-- The checks 10 and 11 of a job whose destination is a source, by the number that the code finds.
-- Assumes nothing.
use Prim.Native.Nat.{ℕ, ◌≤◌, ◌<◌}
use native.Mathlib.Omega.{arith}
use mathlib.Core.Path.{◌≡◌, refl}
use mathlib.Core.Bool.{Bool, true, false}
use Rattle.base.specs.Pick.{pick}
use Rattle.base.specs.Outcome.{Outcome, answer, check}
use Rattle.base.specs.Outcome as outcome
use Rattle.comparable_range.specs.Cut.{below}
use Rattle.records.specs.Values.{Job, Plan}
use Rattle.manifest.specs.Checks.{all}
use Rattle.incremental_progress.specs.Checks.{destination_is_source, planned_from, planned_in_order, outputs_inside, outputs_in_order}
use Rattle.commit_durable.specs.Faults.{parts_fault}
use Rattle.from_compaction.specs.ProgressCalls.{from_compaction, progressed}

-- 10 and 11, as two tests
two_stop : {A : Type 0} (o : Outcome A) (a b : Bool) → pick a (pick b 12 11) 10 < 12 → check 10 a (check 11 b o) ≡ outcome.stop (pick a (pick b 12 11) 10)
two_stop o true true h = absurd (omega arith)
two_stop o true false h = refl
two_stop o false b h = refl

two_pass : {A : Type 0} (o : Outcome A) (a b : Bool) → 12 ≤ pick a (pick b 12 11) 10 → check 10 a (check 11 b o) ≡ o
two_pass o true true h = refl
two_pass o true false h = absurd (omega arith)
two_pass o false b h = absurd (omega arith)

pub late_stops : (j : Job) → destination_is_source j ≡ true → parts_fault j.parts < 12 → progressed j ≡ outcome.stop (parts_fault j.parts)
unfolding progressed parts_fault planned_in_order outputs_in_order
late_stops j e h = rw e (two_stop (answer (from_compaction j)) (planned_from below j.parts) (all outputs_inside j.parts) h)

pub late_passes : (j : Job) → destination_is_source j ≡ true → 12 ≤ parts_fault j.parts → progressed j ≡ answer (from_compaction j)
unfolding progressed parts_fault planned_in_order outputs_in_order
late_passes j e h = rw e (two_pass (answer (from_compaction j)) (planned_from below j.parts) (all outputs_inside j.parts) h)

-- an answer says that both passed
pub record Late (j : Job) (p : Plan) : Type 0 where
  pub planned : planned_in_order j ≡ true
  pub outputs : outputs_in_order j ≡ true
  pub are : p ≡ from_compaction j

pub late_passed : (j : Job) (p : Plan) → destination_is_source j ≡ true → progressed j ≡ answer p → Late j p
unfolding parts_fault planned_in_order outputs_in_order
late_passed j p s e = go (planned_from below j.parts) (all outputs_inside j.parts) refl refl
  where
    no_stop : {k : ℕ} → progressed j ≡ outcome.stop k → Late j p
    no_stop f = absurd (let z : ◌≡◌ {A = ℕ} 0 1 = cc in omega arith)

    go : (a b : Bool) → planned_from below j.parts ≡ a → all outputs_inside j.parts ≡ b → Late j p
    go true true x y = record { planned = x; outputs = y; are = cc (late_passes j s (rw (x, y) (omega arith))) }
    go true false x y = no_stop (late_stops j s (rw (x, y) (omega arith)))
    go false b x y = no_stop (late_stops j s (rw x (omega arith)))
