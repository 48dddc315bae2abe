-- The exits of `stop_after` and `plan_sampled`: the outcome, step by step as the code goes.
-- Assumes nothing.
use Prim.Native.Nat.{ℕ, ◌+◌, ◌/◌, ◌^◌, ◌<◌, ◌≤◌, min}
use native.Mathlib.Omega.{arith}
use native.Mathlib.Nat.{min-eq_left}
use mathlib.Core.Path.{◌≡◌, refl, sym, ap, ap₂, ◌∙◌}
use mathlib.Core.Bool.{Bool, true, false, ◌&&◌, and-true, and_assoc}
use mathlib.Core.List.{List, [], ◌∷◌, ◌++◌, flat_map}
use lib.ListN.{length, drop_of_length-le}
use lib.Seq.{drop-cons, take_all}
use lib.Dec.{T, leb, ltb}
use borrow.Author.Tests.{le-leb, lt-leb, lt-ltb, le-ltb, ltb-true, ltb-false}
use Rattle.base.specs.Pick.{pick, and_first, and_second}
use Rattle.base.specs.Outcome.{Outcome, answer, stop, and_then, check, written_to, reported, lent}
use Rattle.base.specs.declared.Written.{Written}
use Rattle.base.specs.declared.Written.TheVariants.{Stop as WrittenStop}
use Rattle.format.specs.Got as reader
use Rattle.format.specs.Whole.{whole, ended}
use Rattle.records.specs.Form.{read_many}
use Rattle.records.specs.Found.{is_got, values_of}
use Rattle.records.specs.Values.{View, Image, Index, Plan}
use Rattle.records.specs.Layouts.{image, index, plan}
use Rattle.manifest.specs.Checks.{Checks, checked, joined, all, size_passes, total, image_checks, index_checks}
use Rattle.manifest.specs.Faults.{fault_of, least, ordered}
use Rattle.manifest.specs.Spans.{size_fits}
use Rattle.manifest.proofs.Steps.{least_joined, fault_stops, fault_passes}
use Rattle.key_rows.specs.Rows.{Rows}
use Rattle.subcompaction.specs.Boundaries.{select_boundaries}
use Rattle.subcompaction.specs.PlanCalls.{views, sampled, largest_size, plan_subcompaction_ranges, sampled_checks, ranges_planned, plan_subcompaction_ranges_outcome}
use Rattle.subcompaction.specs.Tables.{anchors_in}
use Rattle.plan_subcompaction_ranges.specs.Walks.{indexes_read, indexes_of, largest_passing, Sampled, SampledAll, ImageJudged, RowsEnough, total_fits, first_fault, stop_after}
use Rattle.plan_subcompaction_ranges.specs.declared.SoFar.{SoFar}
use Rattle.plan_subcompaction_ranges.specs.declared.Walked.{Walked}
use Rattle.plan_subcompaction_ranges.specs.declared.Walked.TheVariants.{All, Stop}
use Rattle.plan_subcompaction_ranges.proofs.ViewsSampled.{least_tests, below_limit, min_least}

-- ---- raw sizes that all pass check 7
all_append : {A : Type 0} (p : A → Bool) (s t : List A) → all p (s ++ t) ≡ (all p s && all p t)
unfolding all
all_append p [] t = refl
all_append p (a ∷ s) t = rw (all_append p s t) (sym (and_assoc (p a) (all p s) (all p t)))

both_true : (a b : Bool) → a ≡ true → b ≡ true → (a && b) ≡ true
both_true a b e f = rw (e, f)

all_views : (p : View → Bool) (i : Image) → all (λ r. all p r.views) i ≡ true → all p (views i) ≡ true
unfolding all flat_map
all_views p [] e = refl
all_views p (r ∷ i) e =
    all_append p r.views (views i)
    ∙ both_true (all p r.views) (all p (views i)) (and_first (all p r.views) _ e) (all_views p i (and_second (all p r.views) _ e))

largest_is : (vs : List View) → all (λ v. size_passes v.table) vs ≡ true → largest_passing vs ≡ largest_size vs
unfolding all largest_passing largest_size size_passes size_fits
largest_is [] e = refl
largest_is (v ∷ vs) e =
    rw (and_first (leb (v.table.index_offset + v.table.index_len) (2 ^ 53)) _ e, largest_is vs (and_second (leb (v.table.index_offset + v.table.index_len) (2 ^ 53)) _ e))

-- ---- the checks of both inputs
sizes_pass : (c : Checks) → 8 ≤ fault_of c → c.sizes ≡ true
unfolding fault_of
sizes_pass c h = go c.ranges c.tables c.order c.sizes h
  where
    go : (r t o s : Bool) → 8 ≤ pick r (pick t (pick o (pick s 8 7) 6) 5) 4 → s ≡ true
    go r t o true h = refl
    go true true true false h = absurd (omega arith)
    go true true false false h = absurd (omega arith)
    go true false o false h = absurd (omega arith)
    go false t o false h = absurd (omega arith)

sampled_fault :
    (vs : List View) (xs : List Index)
    → least (fault_of (ordered (all (λ x. (index_checks x).order) xs))) (fault_of (total_fits (total (sampled vs xs)))) ≡ fault_of (sampled_checks vs xs)
unfolding total_fits sampled_checks
sampled_fault vs xs =
    let a = all (λ x. (index_checks x).order) xs in
    let b = ltb (total (sampled vs xs)) (2 ^ 63) in
    let one : Checks = record { ranges = true; tables = true; order = true; sizes = b } in
    least_joined (ordered a) one ∙ ap (λ o. fault_of (record { ranges = true; tables = true; order = o; sizes = b })) (and-true a)

same_total : (t : ℕ) → total_fits (least t (2 ^ 63)) ≡ total_fits t
unfolding total_fits
same_total t = ap (λ b. record { ranges = true; tables = true; order = true; sizes = b }) (least_tests (2 ^ 63) t)

-- ---- stop_after
module _ (fault : ℕ) (w : SoFar) (len : ℕ) where
  pub left_over : w.at < len → 1 ≡ stop_after fault w len
  unfolding stop_after
  left_over h = rw (lt-ltb w.at len h)

  module _ {a b c : ℕ} (h : len ≤ w.at) (ha : a ≡ fault_of (total_fits w.kept.total)) (hb : b ≡ min fault w.fault) (hc : c ≡ min b a) where
    first_is : c ≡ first_fault fault w
    unfolding first_fault
    first_is =
        let x : c ≡ min fault (min w.fault (fault_of (total_fits w.kept.total))) = omega arith in
        x ∙ min_least fault _ ∙ ap (least fault) (min_least w.fault _)

    pub first_fails : c < 8 → c ≡ stop_after fault w len
    unfolding stop_after
    first_fails l = let e = first_is in rw (le-ltb w.at len h, lt-ltb (first_fault fault w) 8 (omega (arith, e))) e

    pub too_many_rows : 8 ≤ c → 4096 < w.kept.rows → 15 ≡ stop_after fault w len
    unfolding stop_after
    too_many_rows l k = let e = first_is in rw (le-ltb w.at len h, le-ltb (first_fault fault w) 8 (omega (arith, e)), lt-ltb 4096 w.kept.rows k)

    pub none_stops : 8 ≤ c → w.kept.rows ≤ 4096 → 8 ≡ stop_after fault w len
    unfolding stop_after
    none_stops l k = let e = first_is in rw (le-ltb w.at len h, le-ltb (first_fault fault w) 8 (omega (arith, e)), le-ltb 4096 w.kept.rows k)

pub ruleset stop_exits = (left_over, first_fails, too_many_rows, none_stops)

-- ---- the outcome, after the settings and the image
abbrev pub given : List ℕ → Image
given s = values_of (image.read s)

abbrev pub plan_after : ℕ → Image → List Index → Outcome Plan
plan_after parts i xs =
    checked (joined (image_checks i) (sampled_checks (views i) xs))
    (check 15 (leb (length (sampled (views i) xs)) 4096) (answer (plan_subcompaction_ranges parts (views i) xs)))

abbrev pub written : ℕ → Outcome Plan → Outcome (List ℕ)
written room o = and_then o (λ p. written_to room (plan.write p))

-- nothing stops after the walk
record Passed (m : List ℕ) (fault : ℕ) (w : SoFar) : Type 0 where
  at_end : length m ≤ w.at
  checks : 8 ≤ first_fault fault w
  few : w.kept.rows ≤ 4096

passed_all : (m : List ℕ) (fault : ℕ) (w : SoFar) {k : ℕ} → k ≡ stop_after fault w (length m) → k ≡ 8 → Passed m fault w
unfolding stop_after
passed_all m fault w {k} e h = go (ltb w.at (length m)) (ltb (first_fault fault w) 8) (ltb 4096 w.kept.rows) refl refl refl (sym h ∙ e)
  where
    go :
        (a b c : Bool)
        → ltb w.at (length m) ≡ a
        → ltb (first_fault fault w) 8 ≡ b
        → ltb 4096 w.kept.rows ≡ c
        → 8 ≡ pick a 1 (pick b (first_fault fault w) (pick c 15 8))
        → Passed m fault w
    go true b c p q r z = absurd (omega arith)
    go false true c p q r z = absurd (omega (arith, ltb-true (first_fault fault w) 8 q))
    go false false true p q r z = absurd (omega arith)
    go false false false p q r z =
        record { at_end = ltb-false w.at (length m) p; checks = ltb-false (first_fault fault w) 8 q; few = ltb-false 4096 w.kept.rows r }

abbrev indexes : List ℕ → List ℕ → List Index
indexes s m = indexes_of m (views (given s))

abbrev both : List ℕ → List ℕ → Checks
both s m = joined (image_checks (given s)) (sampled_checks (views (given s)) (indexes s m))

-- what was found of all views, whatever the call is asked
module _ {fault : ℕ} (s m : List ℕ) (hi : ImageJudged s fault) {keys₀ keys bytes : List ℕ} {z : Walked} (x : SampledAll m keys₀ keys bytes (views (given s)) z) {w : SoFar} (q : z ≡ All w) where
  found : Sampled m keys bytes (views (given s)) w
  found = rw q at x.is

  fault_is : first_fault fault w ≡ fault_of (both s m)
  unfolding first_fault
  fault_is =
      let t = ap fault_of (ap total_fits found.sum ∙ same_total (total (sampled (views (given s)) (indexes s m)))) in
      let u = ap₂ least found.order t ∙ sampled_fault (views (given s)) (indexes s m) in
      ap₂ least hi.fault_is u ∙ least_joined (image_checks (given s)) (sampled_checks (views (given s)) (indexes s m))

  module _ (l : 8 ≤ first_fault fault w) where
    passed : 8 ≤ fault_of (both s m)
    passed = let e = fault_is in omega (arith, e)

    both_sizes : ((image_checks (given s)).sizes && (sampled_checks (views (given s)) (indexes s m)).sizes) ≡ true
    both_sizes = sizes_pass (both s m) passed

    total_fits_lem : total (sampled (views (given s)) (indexes s m)) < 2 ^ 63
    unfolding sampled_checks
    total_fits_lem = ltb-true _ (2 ^ 63) (and_second (image_checks (given s)).sizes _ both_sizes)

    largest_size_lem : w.largest ≡ largest_size (views (given s))
    unfolding image_checks
    largest_size_lem = found.largest ∙ largest_is (views (given s)) (all_views (λ v. size_passes v.table) (given s) (and_first (image_checks (given s)).sizes _ both_sizes))

    total_is : w.kept.total ≡ total (sampled (views (given s)) (indexes s m))
    total_is = found.sum ∙ below_limit (2 ^ 63) (total (sampled (views (given s)) (indexes s m))) total_fits_lem

  module _ {k : ℕ} (e : k ≡ stop_after fault w (length m)) (h : k ≡ 8) where
    now : Passed m fault w
    now = passed_all m fault w e h

    pub rows_most : w.kept.rows ≤ 4096
    rows_most = now.few

    module _ (en : RowsEnough m keys₀) where
      rows_inside : w.kept.rows ≤ length keys
      rows_inside = omega (arith, x.rows, en.room w.kept.rows rows_most (omega (arith, found.few, found.read.inside)))

      pub rows_there : Rows m keys w.kept.rows
      rows_there = rw (min-eq_left rows_inside) at found.held.there

      pub bytes_inside : w.kept.rows ≤ length bytes
      bytes_inside = omega (arith, rows_inside, found.held.wide)

      anchors_are : anchors_in m keys bytes w.kept.rows ≡ sampled (views (given s)) (indexes s m)
      anchors_are =
          (rw (min-eq_left rows_inside) at found.held.rows)
          ∙ take_all (length keys) (sampled (views (given s)) (indexes s m)) (omega (arith, rows_inside, found.held.count))

      pub total_of_rows : w.kept.total ≡ total (anchors_in m keys bytes w.kept.rows)
      total_of_rows = total_is now.checks ∙ ap total (sym anchors_are)

      pub rows_total_fits : w.kept.total < 2 ^ 63
      rows_total_fits = omega (arith, total_is now.checks, total_fits_lem now.checks)

module _ (parts : ℕ) {fault : ℕ} (s m d : List ℕ) (hp : parts ≤ 64) (hi : ImageJudged s fault) (hm : length m ≤ 65536) where
  image_opened : ranges_planned parts s m ≡ and_then (whole (read_many index.read (length (views (given s)))) m) (plan_after parts (given s))
  unfolding ranges_planned
  image_opened = ap (λ o. and_then o (λ i. and_then (whole (read_many index.read (length (views i))) m) (plan_after parts i))) hi.given

  indexes_opened : whole (read_many index.read (length (views (given s)))) m ≡ ended (indexes_read m (views (given s)))
  unfolding whole
  indexes_opened = rw (le-leb (length m) 65536 hm)

  outcome_is : {o : Outcome (List Index)} → ended (indexes_read m (views (given s))) ≡ o → plan_subcompaction_ranges_outcome parts s m (length d) ≡ written (length d) (and_then o (plan_after parts (given s)))
  unfolding plan_subcompaction_ranges_outcome
  outcome_is {o} e =
      rw (le-leb parts 64 hp) (ap (written (length d)) (image_opened ∙ ap (λ o. and_then o (plan_after parts (given s))) (indexes_opened ∙ e)))

  module _ {keys₀ keys bytes : List ℕ} {z : Walked} (x : SampledAll m keys₀ keys bytes (views (given s)) z) where
    not_read : {k : ℕ} → z ≡ Stop k → plan_subcompaction_ranges_outcome parts s m (length d) ≡ stop k
    not_read {k} q =
        let e : indexes_read m (views (given s)) ≡ reader.stop k = rw q at x.is in
        outcome_is (ap ended e)

    pub not_read_told : {k : ℕ} → z ≡ Stop k → WrittenStop k ≡ reported (plan_subcompaction_ranges_outcome parts s m (length d))
    not_read_told q = sym (ap reported (not_read q))

    pub not_read_kept : {k : ℕ} → z ≡ Stop k → d ≡ lent d (plan_subcompaction_ranges_outcome parts s m (length d))
    not_read_kept q = sym (ap (lent d) (not_read q))

    module _ {w : SoFar} (q : z ≡ All w) where
      bytes_remain : w.at < length m → plan_subcompaction_ranges_outcome parts s m (length d) ≡ stop 1
      bytes_remain h = outcome_is {o = stop 1} (ap ended (found s m hi x q).read.is ∙ rw (drop-cons m w.at 0 h))

      all_read : length m ≤ w.at → plan_subcompaction_ranges_outcome parts s m (length d) ≡ written (length d) (plan_after parts (given s) (indexes s m))
      all_read h = outcome_is {o = answer (indexes s m)} (ap ended (found s m hi x q).read.is ∙ rw (drop_of_length-le m {i = w.at} h))

      refused : length m ≤ w.at → first_fault fault w < 8 → plan_subcompaction_ranges_outcome parts s m (length d) ≡ stop (first_fault fault w)
      refused h l =
          let e = fault_is s m hi x q in
          all_read h ∙ (ap (written (length d)) (fault_stops (both s m) _ (omega (arith, e))) ∙ ap stop (sym e))

      module _ (h : length m ≤ w.at) (l : 8 ≤ first_fault fault w) where
        rest_is : plan_subcompaction_ranges_outcome parts s m (length d) ≡ written (length d) (check 15 (leb (length (sampled (views (given s)) (indexes s m))) 4096) (answer (plan_subcompaction_ranges parts (views (given s)) (indexes s m))))
        rest_is = all_read h ∙ ap (written (length d)) (fault_passes (both s m) _ (passed s m hi x q l))

        too_many : 4096 < w.kept.rows → plan_subcompaction_ranges_outcome parts s m (length d) ≡ stop 15
        too_many k = rest_is ∙ rw (lt-leb (length (sampled (views (given s)) (indexes s m))) 4096 (omega (arith, (found s m hi x q).held.count)))

      module _ {k : ℕ} (e : k ≡ stop_after fault w (length m)) where
        stopped : (k ≡ 8 → ⊥) → plan_subcompaction_ranges_outcome parts s m (length d) ≡ stop k
        unfolding stop_after
        stopped h = go (ltb w.at (length m)) (ltb (first_fault fault w) 8) (ltb 4096 w.kept.rows) refl refl refl e
          where
            go :
                (a b c : Bool)
                → ltb w.at (length m) ≡ a
                → ltb (first_fault fault w) 8 ≡ b
                → ltb 4096 w.kept.rows ≡ c
                → k ≡ pick a 1 (pick b (first_fault fault w) (pick c 15 8))
                → plan_subcompaction_ranges_outcome parts s m (length d) ≡ stop k
            go true b c f g r y = bytes_remain (ltb-true w.at (length m) f) ∙ ap stop (sym y)
            go false true c f g r y = refused (ltb-false w.at (length m) f) (ltb-true (first_fault fault w) 8 g) ∙ ap stop (sym y)
            go false false true f g r y =
                too_many (ltb-false w.at (length m) f) (ltb-false (first_fault fault w) 8 g) (ltb-true 4096 w.kept.rows r) ∙ ap stop (sym y)
            go false false false f g r y = absurd (h y)

        pub stopped_told : (k ≡ 8 → ⊥) → WrittenStop k ≡ reported (plan_subcompaction_ranges_outcome parts s m (length d))
        stopped_told h = sym (ap reported (stopped h))

        pub stopped_kept : (k ≡ 8 → ⊥) → d ≡ lent d (plan_subcompaction_ranges_outcome parts s m (length d))
        stopped_kept h = sym (ap (lent d) (stopped h))

        module _ (h : k ≡ 8) (en : RowsEnough m keys₀) where
          plan_is : plan_subcompaction_ranges_outcome parts s m (length d) ≡ written_to (length d) (plan.write (select_boundaries parts w.largest (anchors_in m keys bytes w.kept.rows)))
          unfolding plan_subcompaction_ranges
          plan_is =
              rest_is (now s m hi x q e h).at_end (now s m hi x q e h).checks
              ∙ ((rw (le-leb (length (sampled (views (given s)) (indexes s m))) 4096 (omega (arith, (now s m hi x q e h).few, (found s m hi x q).held.count))))
              ∙ ap₂ (λ n a. written_to (length d) (plan.write (select_boundaries parts n a))) (sym (largest_size_lem s m hi x q (now s m hi x q e h).checks)) (sym (anchors_are s m hi x q e h en)))

          pub planned_told :
              {r : Written}
              → r ≡ reported (written_to (length d) (plan.write (select_boundaries parts w.largest (anchors_in m keys bytes w.kept.rows))))
              → r ≡ reported (plan_subcompaction_ranges_outcome parts s m (length d))
          planned_told e = e ∙ sym (ap reported plan_is)

          pub planned_written :
              {f : List ℕ}
              → f ≡ lent d (written_to (length d) (plan.write (select_boundaries parts w.largest (anchors_in m keys bytes w.kept.rows))))
              → f ≡ lent d (plan_subcompaction_ranges_outcome parts s m (length d))
          planned_written e = e ∙ sym (ap (lent d) plan_is)

-- a block takes at least 10 bytes
pub rows_enough : (m keys : List ℕ) {n : ℕ} → min 4096 (length m / 10) ≤ n → length keys ≡ n → RowsEnough m keys
rows_enough m keys h e = record { room = λ k a b. omega arith }

pub image_there : {s : List ℕ} {fault : ℕ} → ImageJudged s fault → T (is_got (image.read s))
image_there h = h.there

pub ruleset plan_exits = (image_there, not_read_told, not_read_kept, stopped_told, stopped_kept)

pub ruleset planned_exits = (planned_told, planned_written)
