-- The exits of the functions that plan one run and count it.
-- Assumes nothing.
use Prim.Native.Nat.{ℕ, ◌+◌, ◌-◌, ◌*◌, ◌≤◌}
use native.Mathlib.Omega.{arith}
use mathlib.Core.Path.{◌≡◌, sym, ap, ◌∙◌}
use mathlib.Core.Bool.{Bool, true, false, ◌&&◌}
use mathlib.Core.List.{List, map, flat_map}
use lib.Dec.{leb, eqb}
use lib.ListN.{drop}
use mir.Val.{Fits}
use mir.Syntax.{w64}
use borrow.Author.Tests.{eq-eqb, ne_eqb}
use Rattle.base.specs.Splice.{splice}
use Rattle.records.specs.Spans.{ids_in}
use Rattle.manifest.specs.Checks.{has}
use Rattle.commit_index.specs.declared.runs.IndexedRun.{IndexedRun}
use Rattle.incremental_progress.specs.Gaps.{gap_entries, run_gaps}
use Rattle.incremental_progress.specs.Plans.{run_draws}
use Rattle.commit_rows.specs.Numbers.{run_numbers}
use Rattle.commit_rows.specs.declared.runs.RunKind.{RunKind}
use Rattle.commit_rows.specs.declared.runs.RunKind.TheVariants.{Other, Source, Destination}
use Rattle.commit_durable.specs.Tables.{job_of, job_gaps}
use Rattle.commit_entries.specs.Planned.{PlannedMore}
use Rattle.commit_entries.specs.declared.Plan.{Plan}
use Rattle.commit_entries.proofs.Planning.{planned_none}
use Rattle.commit_plan.specs.Views.{gap_bucket}
use Rattle.commit_plan.specs.Runs.{views_at}
use Rattle.commit_plan.specs.Plans.{HeadHeld, run_buckets, RunPlannedMore, size_by, SizeReady, CountReady, RunCounted}
use Rattle.commit_plan.specs.declared.plan.PlanHead.{PlanHead}
use Rattle.commit_plan.specs.declared.plan.ImagePlan.{ImagePlan}
use Rattle.commit_plan.specs.declared.plan.RunPlanned.{RunPlanned}
use Rattle.commit_plan.specs.declared.plan.RunSize.{RunSize}

-- ---- plan_one
module _ {s : List ℕ} {h : PlanHead} (p : HeadHeld s h) (given ids : List ℕ) (x : IndexedRun) (o : Plan) (d : List ℕ) where
  module _ {q : Plan} {t : List ℕ}
      (w : PlannedMore given s ids (flat_map (gap_entries (job_gaps s)) (views_at given x.first x.views)) (map gap_bucket (run_gaps (job_gaps s) (views_at given x.first x.views))) o d q t) where
    pub one_destination : x.id ≡ h.destination → RunPlannedMore given s ids x o d (record { kind = Destination; plan = q }) t
    unfolding run_draws run_buckets
    one_destination e = let z : eqb x.id (job_of s).destination ≡ true = eq-eqb x.id (job_of s).destination (e ∙ p.destination) in record { kind = rw z; more = rw z w }

  module _ (e : x.id ≡ h.destination → ⊥) {b : Bool} (f : b ≡ has x.id (ids_in h.sources (drop h.from s))) where
    no_destination : eqb x.id (job_of s).destination ≡ false
    no_destination = ne_eqb x.id (job_of s).destination (λ q. e (q ∙ sym p.destination))

    by_sources : {c : Bool} → b ≡ c → has x.id (job_of s).sources ≡ c
    by_sources q = rw (← p.sources, ← f) q

    pub one_other : b ≡ false → RunPlannedMore given s ids x o d (record { kind = Other; plan = o }) d
    unfolding run_draws run_buckets
    one_other q = record { kind = rw (no_destination, by_sources q); more = rw (no_destination, by_sources q) (planned_none given s ids o d) }

    pub one_source :
        {q : Plan} {t : List ℕ}
        → b ≡ true
        → PlannedMore given s ids (flat_map (gap_entries (job_gaps s)) (views_at given x.first x.views)) (map gap_bucket (run_gaps (job_gaps s) (views_at given x.first x.views))) o d q t
        → RunPlannedMore given s ids x o d (record { kind = Source; plan = q }) t
    unfolding run_draws run_buckets
    one_source q w = record { kind = rw (no_destination, by_sources q); more = rw (no_destination, by_sources q) w }

pub ruleset one_exits = (one_destination, one_other, one_source)

-- ---- run_size
module _ {x : IndexedRun} {p q o : Plan} (y : SizeReady x p q o) where
  pub size_rows_fit : Fits w64 (q.rows - p.rows + o.rows)
  size_rows_fit = omega (arith, y.few, y.few_outputs)

  pub size_bytes_fit : Fits w64 (q.bytes - p.bytes + o.bytes)
  size_bytes_fit = omega (arith, y.few, y.short, y.few_outputs, y.short_outputs)

module _ (k : RunKind) (x : IndexedRun) (p q o : Plan) where
  pub other_size : k ≡ Other → record { views = x.views; bytes = x.past - x.first } ≡ size_by k x p q o
  other_size e = rw e

  pub source_size : k ≡ Source → record { views = q.rows - p.rows; bytes = q.bytes - p.bytes } ≡ size_by k x p q o
  source_size e = rw e

  pub destination_size : k ≡ Destination → record { views = q.rows - p.rows + o.rows; bytes = q.bytes - p.bytes + o.bytes } ≡ size_by k x p q o
  destination_size e = rw e

pub ruleset size_exits = (size_rows_fit, size_bytes_fit, other_size, source_size, destination_size)

-- ---- count_run
module _ (b : Bool) (n : ℕ) where
  pub both_fit : {c : Bool} → b ≡ true → c ≡ leb n 1024 → c ≡ (b && leb n 1024)
  both_fit e f = f ∙ rw e

  pub none_fits : b ≡ false → b ≡ (b && leb n 1024)
  none_fits e = rw e

-- how large a run can become
pub size_small : (k : RunKind) (x : IndexedRun) (p q o : Plan) → SizeReady x p q o → x.past ≤ 262144 → (size_by k x p q o).bytes ≤ 2251799813685248
size_small Other x p q o y h = omega (arith, y.place)
size_small Source x p q o y h = omega (arith, y.few, y.short)
size_small Destination x p q o y h = omega (arith, y.few, y.short, y.few_outputs, y.short_outputs)

module _ {x : IndexedRun} {a : ImagePlan} {one : RunPlanned} {o : Plan} (y : CountReady x a one o) where
  pub count_head_fits : Fits w64 (a.bytes + 6)
  count_head_fits = omega (arith, y.bytes)

  module _ {z : RunSize} (e : z ≡ size_by one.kind x a.plan one.plan o) where
    pub count_fits : Fits w64 (a.bytes + 6 + z.bytes)
    count_fits =
        let w : z.bytes ≡ (size_by one.kind x a.plan one.plan o).bytes = ap (λ (i : RunSize). i.bytes) e in
        omega (arith, y.bytes, w, size_small one.kind x a.plan one.plan o y.size y.small)

    pub counted :
        (k : ℕ) (d : List ℕ) {t : List ℕ} {b : Bool}
        → b ≡ (a.fits && leb z.views 1024)
        → t ≡ splice d (k * 6) (run_numbers (record { id = x.id; views = x.views; first = x.first; past = x.past; kind = one.kind; rows = one.plan.rows - a.plan.rows }))
        → RunCounted k x one a o d (record { plan = one.plan; outputs = a.outputs; bytes = a.bytes + 6 + z.bytes; fits = b }) t
    counted k d f g = record { is = rw (f, e); put = g }

pub ruleset count_exits = (both_fit, none_fits, count_head_fits, count_fits, counted)
