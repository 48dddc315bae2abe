-- The exits of `plan_subcompaction_ranges`.
-- Assumes nothing.
use Prim.Native.Nat.{ℕ, ◌<◌, ◌≤◌}
use mathlib.Core.Path.{◌≡◌, sym, ap, ◌∙◌}
use mathlib.Core.List.{List}
use lib.ListN.{length}
use borrow.Author.Tests.{le-leb, lt-leb}
use Rattle.base.specs.Outcome.{answer, stop, and_then, reported, lent}
use Rattle.base.specs.declared.Written.TheVariants.{Stop as WrittenStop}
use Rattle.format.specs.Whole.{whole}
use Rattle.records.specs.Form.{read_many}
use Rattle.records.specs.Found.{values_of}
use Rattle.records.specs.Layouts.{image, index}
use Rattle.manifest.specs.Checks.{image_checks}
use Rattle.manifest.specs.Faults.{fault_of}
use Rattle.manifest.specs.Spans.{judged_whole, JudgedWhole}
use Rattle.manifest.specs.declared.images.Judged.{Judged}
use Rattle.manifest.specs.declared.images.Judged.TheVariants.{At as JudgedAt, Stop as JudgedStop}
use Rattle.manifest.proofs.Given.{numbered, stopped_is, whole_read}
use Rattle.subcompaction.specs.PlanCalls.{views, ranges_planned, plan_subcompaction_ranges_outcome}
use Rattle.plan_subcompaction_ranges.specs.Walks.{ImageJudged}
use Rattle.plan_subcompaction_ranges.proofs.PlannerExits.{given, plan_after, written}

-- ---- plan_subcompaction_ranges
module _ (parts : ℕ) (s m d : List ℕ) where
  many_parts : 64 < parts → plan_subcompaction_ranges_outcome parts s m (length d) ≡ stop 3
  unfolding plan_subcompaction_ranges_outcome
  many_parts h = rw (lt-leb parts 64 h)

  pub many_parts_told : 64 < parts → WrittenStop 3 ≡ reported (plan_subcompaction_ranges_outcome parts s m (length d))
  many_parts_told h = sym (ap reported (many_parts h))

  pub many_parts_kept : 64 < parts → d ≡ lent d (plan_subcompaction_ranges_outcome parts s m (length d))
  many_parts_kept h = sym (ap (lent d) (many_parts h))

  module _ (hp : parts ≤ 64) {w : Judged} (x : JudgedWhole s image_checks (whole image.read s) w) where
    no_image : {k : ℕ} → w ≡ JudgedStop k → plan_subcompaction_ranges_outcome parts s m (length d) ≡ stop k
    unfolding plan_subcompaction_ranges_outcome ranges_planned
    no_image {k} q =
        let e : whole image.read s ≡ stop k = stopped_is image_checks (whole image.read s) k (sym (ap judged_whole q) ∙ x.meaning) in
        rw (le-leb parts 64 hp, e)

    pub no_image_told : {k : ℕ} → w ≡ JudgedStop k → WrittenStop k ≡ reported (plan_subcompaction_ranges_outcome parts s m (length d))
    no_image_told q = sym (ap reported (no_image q))

    pub no_image_kept : {k : ℕ} → w ≡ JudgedStop k → d ≡ lent d (plan_subcompaction_ranges_outcome parts s m (length d))
    no_image_kept q = sym (ap (lent d) (no_image q))

    module _ {next fault : ℕ} (q : w ≡ JudgedAt next fault) (h : 65536 < length m) where
      long_indexes : plan_subcompaction_ranges_outcome parts s m (length d) ≡ stop 3
      unfolding plan_subcompaction_ranges_outcome ranges_planned whole
      long_indexes =
          let i = numbered image_checks (whole image.read s) fault (sym (ap judged_whole q) ∙ x.meaning) in
          rw (le-leb parts 64 hp) (ap (λ o. written (length d) (and_then o (λ i. and_then (whole (read_many index.read (length (views i))) m) (plan_after parts i)))) i.is ∙ rw (lt-leb (length m) 65536 h))

      pub long_indexes_told : WrittenStop 3 ≡ reported (plan_subcompaction_ranges_outcome parts s m (length d))
      long_indexes_told = sym (ap reported long_indexes)

      pub long_indexes_kept : d ≡ lent d (plan_subcompaction_ranges_outcome parts s m (length d))
      long_indexes_kept = sym (ap (lent d) long_indexes)

pub image_judged : {s : List ℕ} {w : Judged} {next fault : ℕ} → JudgedWhole s image_checks (whole image.read s) w → w ≡ JudgedAt next fault → ImageJudged s fault
image_judged {s} {w} {next} {fault} x q =
    let i = numbered image_checks (whole image.read s) fault (sym (ap judged_whole q) ∙ x.meaning) in
    let r = (whole_read image.read s i.value i.is).all in
    let z : given s ≡ i.value = ap values_of r in
    record { given = i.is ∙ ap answer (sym z); there = rw r tt; fault_is = i.fault_is ∙ ap (λ j. fault_of (image_checks j)) (sym z) }

pub ruleset call_exits = (many_parts_told, many_parts_kept, no_image_told, no_image_kept, long_indexes_told, long_indexes_kept, image_judged)
