-- The exits of the stages.
-- Assumes nothing.
use Prim.Native.Nat.{ℕ, ◌≤◌}
use native.Mathlib.Omega.{arith}
use mathlib.Core.Path.{◌≡◌, sym, ap, ◌∙◌}
use mathlib.Core.Bool.{Bool, true, false, not}
use mathlib.Core.List.{List, []}
use Rattle.std.proofs.lemmas.Bool.{not-true, not-false}
use Rattle.std.proofs.lemmas.List.{length-replicate}
use lib.ListN.{length, replicate}
use Rattle.base.specs.Outcome.{stop, check, lent, reported}
use Rattle.base.specs.declared.Written.{Written}
use Rattle.base.specs.declared.Written.TheVariants.{Stop}
use Rattle.commit_durable.specs.Tables.{job_of, job_gaps}
use Rattle.commit_durable.specs.Answers.{GapsMade}
use Rattle.commit_index.specs.Index.{image_of}
use Rattle.commit_gaps.proofs.InOrder.{gaps_ordered}
use Rattle.commit_covered.specs.Covered.{covered_by}
use Rattle.commit_covered.specs.Kept.{Room}
use Rattle.commit_covered.specs.Runs.{CoverReady}
use Rattle.commit_covered.proofs.Sizes.{few_outputs}
use Rattle.commit_entries.proofs.Planning.{planned_begin}
use Rattle.commit_entries.specs.declared.Plan.{Plan}
use Rattle.commit_outputs.specs.Outputs.{PlannedOutputs}
use Rattle.commit_plan.specs.Plans.{HeadHeld, GapsReady, OutputsPlanned}
use Rattle.commit.specs.Stages.{planned_outcome, covered_outcome, Read, StageHeld, RowsEnough, rows_at_most}
use Rattle.commit.specs.declared.stages.StageHead.{StageHead}
use Rattle.commit.proofs.FewRows.{rows_least}
use Rattle.commit.proofs.MostRows.{rows_at_most_lem, outputs_at_most}

-- ---- cover_image
module _ {given record' index parts : List ℕ} {h : StageHead} (s : StageHeld given record' index parts h) where
  pub stage_head : (m : ℕ) (p : Plan) → HeadHeld record' (record { destination = h.destination; sources = h.sources; from = h.from; gaps = m; runs = h.runs; outputs = p })
  stage_head m p = record { destination = s.destination; sources = s.sources; sources_within = s.sources_within }

  module _ (r : Read given record') {d t : List ℕ} {m : ℕ} (g : GapsMade record' d t m) where
    pub stage_cover : CoverReady given record' index t (record { destination = h.destination; parts = h.parts; gaps = m; runs = h.runs })
    stage_cover =
        record {
          runs = s.runs_are;
          tables = r.passed.tables;
          order = r.passed.order;
          gaps = g.hold;
          ordered = gaps_ordered record' r.job;
          destination = s.destination;
        }

    pub stage_gaps : (p : Plan) → GapsReady record' t (record { destination = h.destination; sources = h.sources; from = h.from; gaps = m; runs = h.runs; outputs = p })
    stage_gaps p = record { small = r.small_job; hold = g.hold; ordered = gaps_ordered record' r.job }

pub stage_outputs : (given : List ℕ) {record' ids d t : List ℕ} {p : Plan} → PlannedOutputs record' ids d p t → OutputsPlanned given record' ids t p
stage_outputs given {record'} {ids} {d} o = record { planned = (o.planned given).more [] [] (planned_begin given record' ids d); ready = o.ready }

pub stage_long : {given record' ids d t before : List ℕ} {p : Plan} → RowsEnough given record' before → length d ≡ length before → PlannedOutputs record' ids d p t → RowsEnough given record' t
stage_long h e o = record { enough = λ l. rw ((o.planned []).same, e) (h.enough l) }

module _ (given record' ids out : List ℕ) {b : Bool} (e : b ≡ covered_by (job_gaps record') (image_of given) (job_of record')) where
  yes : not b ≡ false → covered_outcome given record' ids (length out) ≡ planned_outcome given record' ids (length out)
  yes h = ap (λ (t : Bool). check 12 t (planned_outcome given record' ids (length out))) (sym e ∙ not-false b h)

  no : not b ≡ true → covered_outcome given record' ids (length out) ≡ stop 12
  no h = ap (λ (t : Bool). check 12 t (planned_outcome given record' ids (length out))) (sym e ∙ not-true b h)

  pub covered_report : {r : Written} → not b ≡ false → r ≡ reported (planned_outcome given record' ids (length out)) → r ≡ reported (covered_outcome given record' ids (length out))
  covered_report h q = q ∙ sym (ap reported (yes h))

  pub covered_written : {o : List ℕ} → not b ≡ false → o ≡ lent out (planned_outcome given record' ids (length out)) → o ≡ lent out (covered_outcome given record' ids (length out))
  covered_written h q = q ∙ sym (ap (lent out) (yes h))

  pub uncovered : not b ≡ true → Stop 12 ≡ reported (covered_outcome given record' ids (length out))
  uncovered h = sym (ap reported (no h))

  pub uncovered_kept : not b ≡ true → out ≡ lent out (covered_outcome given record' ids (length out))
  uncovered_kept h = sym (ap (lent out) (no h))

pub ruleset cover_exits = (stage_head, stage_cover, stage_gaps, stage_outputs, stage_long, covered_report, covered_written, uncovered, uncovered_kept)

-- ---- the tables of rows
-- two numbers for each output, eleven for each row
-- two numbers for each output, eleven for each row
pub few_room : (given : List ℕ) {record' : List ℕ} {n : ℕ} → n ≡ rows_at_most (image_of given) (job_of record') → n ≤ 64 → Room record' (replicate 704 0)
few_room given {record'} e h = record { enough = rw length-replicate (omega (arith, e, outputs_at_most (image_of given) (job_of record'))) }

pub few_enough : {given record' : List ℕ} {n : ℕ} → n ≡ rows_at_most (image_of given) (job_of record') → n ≤ 64 → RowsEnough given record' (replicate 704 0)
few_enough {given} {record'} e h = record { enough = λ _. rw length-replicate (omega (arith, e, rows_at_most_lem (image_of given) (job_of record'))) }

pub many_room : {record' : List ℕ} → length record' ≤ 65536 → Room record' (replicate 12012 0)
many_room {record'} h = record { enough = rw length-replicate (omega (arith, few_outputs record')) }

pub many_enough : {given record' : List ℕ} → Read given record' → RowsEnough given record' (replicate 12012 0)
many_enough r = record { enough = λ s. rw length-replicate (omega (arith, s, rows_least r.passed.bytes r.job_bytes r.destination r.sources)) }

pub ruleset table_exits = (few_room, few_enough, many_room, many_enough)
