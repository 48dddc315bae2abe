-- What `select_boundaries` and `plan_subcompaction_ranges` answer on any bytes: a plan that reads back, with all its laws.
-- Assumes nothing.
use Prim.Native.Nat.{ℕ, ◌≤◌}
use native.Mathlib.Omega.{arith}
use mathlib.Core.Path.{◌≡◌, ap, ◌∙◌}
use mathlib.Core.Bool.{true}
use mathlib.Core.List.{List, [], ◌∷◌}
use lib.ListN.{length}
use lib.Dec.{leb}
use borrow.Author.Tests.{leb-true}
use Rattle.base.specs.Lists.{All, All-append}
use Rattle.base.specs.Outcome.{Outcome, answer, written_to}
use Rattle.format.specs.Whole.{whole}
use Rattle.format.specs.Laws.{KeyWithin}
use Rattle.records.specs.Form.{read_many}
use Rattle.records.specs.Values.{View, Index, Anchors, Plan}
use Rattle.records.specs.Layouts.{image, index, anchors, plan}
use Rattle.records.proofs.RecordLayouts.{plan_layout}
use Rattle.manifest.specs.Ranges.{effective}
use Rattle.manifest.specs.Checks.{Checks, checked, joined, image_checks, anchors_checks}
use Rattle.manifest.proofs.Given.{whole_read}
use Rattle.incremental_progress.proofs.Outcomes.{answered, tested}
use Rattle.subcompaction.specs.Anchors.{sample_anchors}
use Rattle.subcompaction.specs.Boundaries.{chosen, select_boundaries}
use Rattle.subcompaction.specs.PlanCalls.{anchors_given, select_boundaries_outcome, views, sampled, largest_size, plan_subcompaction_ranges, sampled_checks, ranges_planned, plan_subcompaction_ranges_outcome}
use Rattle.subcompaction.specs.PlanLaws.{PlanAnswered, EachPlanAnswered}
use Rattle.subcompaction.proofs.Samples.{sampled_of}
use Rattle.subcompaction.proofs.Boundaries.{chosen_of}
use Rattle.subcompaction.proofs.Ranges.{planned_ranges_hold_each_key_once, one_to_parts_result, ranges_meet_at_boundaries, planned_ranges_may_be_parts}
use Rattle.subcompaction.proofs.KeysRead.{many_read, anchors_read, index_read, reads_back, plan_within}

-- ---- outcomes
-- checks that passed: 6 among them
pub passed_order : {A : Type 0} (c : Checks) (o : Outcome A) (a : A) → checked c o ≡ answer a → (c.order ≡ true) × (o ≡ answer a)
passed_order c o a e =
    let p = tested 4 c.ranges _ a e in
    let q = tested 5 c.tables _ a p.1 in
    let r = tested 6 c.order _ a q.1 in
    (r.0, (tested 7 c.sizes o a r.1).1)

-- the answer is what was to be written
pub wrote_all : (room : ℕ) (l b : List ℕ) → written_to room l ≡ answer b → b ≡ l
wrote_all room l b e = let t = tested 16 (leb (length l) room) (answer l) b e in cc t.1

-- ---- a plan of anchors with keys within the ceilings
module _ (parts least : ℕ) (a : Anchors) (few : parts ≤ 64) (keys : All (λ x. KeyWithin x.key) a) where
  plan_is_within : plan.Within (select_boundaries parts least a)
  unfolding select_boundaries
  plan_is_within =
      plan_within (chosen parts least a) (omega (arith, (one_to_parts_result parts least a).1)) (chosen_of parts least a KeyWithin keys)

  plan_answered : (b : List ℕ) → b ≡ plan.write (select_boundaries parts least a) → PlanAnswered parts b
  plan_answered b e =
      record {
        ranges = select_boundaries parts least a;
        is = e;
        reads_back = rw e (reads_back plan_layout (select_boundaries parts least a) plan_is_within);
        once = planned_ranges_hold_each_key_once parts least a;
        some = (one_to_parts_result parts least a).0;
        most = (one_to_parts_result parts least a).1;
        from_the_least = (ranges_meet_at_boundaries parts least a).0;
        meeting = (ranges_meet_at_boundaries parts least a).1;
        parts_of_a_job = planned_ranges_may_be_parts parts least a;
      }

-- ---- select_boundaries
given_keys : (l : List ℕ) (a : Anchors) → anchors_given l ≡ answer a → All (λ x. KeyWithin x.key) a
unfolding anchors_given
given_keys l a e =
    let w = answered (whole anchors.read l) _ a e in
    let x : a ≡ w.value = cc (passed_order (anchors_checks w.value) (answer w.value) a w.second).1 in
    rw x (anchors_read l w.value [] (whole_read anchors.read l w.value w.first).all)

of_anchors : (parts least : ℕ) (l : List ℕ) (room : ℕ) (b : List ℕ) → select_boundaries_outcome parts least l room ≡ answer b → PlanAnswered parts b
unfolding select_boundaries_outcome
of_anchors parts least l room b e =
    let t = tested 3 (leb parts 64) _ b e in
    let w = answered (anchors_given l) _ b t.1 in
    plan_answered parts least w.value (leb-true parts 64 t.0) (given_keys l w.value w.first) b
    (wrote_all room (plan.write (select_boundaries parts least w.value)) b w.second)

-- ---- plan_subcompaction_ranges
sampled_keys : (vs : List View) (xs : List Index) → All (λ x. All (λ b. KeyWithin b.first) x) xs → All (λ a. KeyWithin a.key) (sampled vs xs)
unfolding sampled
sampled_keys [] xs h = tt
sampled_keys (v ∷ vs) [] h = tt
sampled_keys (v ∷ vs) (x ∷ xs) h =
    let end = v.table.filter_offset in
    All-append (λ a. KeyWithin a.key) (sample_anchors 128 end x (effective v)) (sampled vs xs)
    (sampled_of KeyWithin 128 end x (effective v) h.0) (sampled_keys vs xs h.1)

-- a plan of anchors sampled from what was read
record Planned (parts : ℕ) (p : Plan) : Type 0 where
  least : ℕ
  from : Anchors
  keys : All (λ x. KeyWithin x.key) from
  is : p ≡ select_boundaries parts least from

planned_from_lem : (parts : ℕ) (l m : List ℕ) (p : Plan) → ranges_planned parts l m ≡ answer p → Planned parts p
unfolding ranges_planned plan_subcompaction_ranges
planned_from_lem parts l m p e =
    let i = answered (whole image.read l) _ p e in
    let vs = views i.value in
    let x = answered (whole (read_many index.read (length vs)) m) _ p i.second in
    let xs = x.value in
    let c = passed_order (joined (image_checks i.value) (sampled_checks vs xs)) _ p x.second in
    let t = tested 15 (leb (length (sampled vs xs)) 4096) _ p c.1 in
    let all_of = (whole_read (read_many index.read (length vs)) m xs x.first).all in
    record {
      least = largest_size vs;
      from = sampled vs xs;
      keys = sampled_keys vs xs (many_read (λ y. All (λ b. KeyWithin b.first) y) index.read index_read (length vs) m xs [] all_of);
      is = cc t.1;
    }

of_image : (parts : ℕ) (l m : List ℕ) (room : ℕ) (b : List ℕ) → plan_subcompaction_ranges_outcome parts l m room ≡ answer b → PlanAnswered parts b
unfolding plan_subcompaction_ranges_outcome
of_image parts l m room b e =
    let t = tested 3 (leb parts 64) _ b e in
    let w = answered (ranges_planned parts l m) _ b t.1 in
    let p = planned_from_lem parts l m w.value w.first in
    plan_answered parts p.least p.from (leb-true parts 64 t.0) p.keys b
    (wrote_all room (plan.write w.value) b w.second ∙ ap plan.write p.is)

pub each_plan_answered : EachPlanAnswered
each_plan_answered = record { select_boundaries_lem = of_anchors; plan_subcompaction_ranges_lem = of_image }
