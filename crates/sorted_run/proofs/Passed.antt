-- What is given to a lookup passed its checks: an outcome that is an answer went past each of them.
-- Assumes nothing.
use Prim.Native.Nat.{ℕ}
use native.Mathlib.Omega.{arith}
use mathlib.Core.Path.{◌≡◌, refl}
use mathlib.Core.Bool.{Bool, true, false}
use mathlib.Core.Option.{Option, none, some}
use mathlib.Core.List.{List}
use Rattle.base.specs.Outcome.{Outcome, answer, stop, and_then}
use Rattle.comparable_range.specs.Range.{Range, non_empty}
use Rattle.format.specs.Whole.{whole}
use Rattle.format.specs.Range.{read_range}
use Rattle.format.specs.declared.span.RangeSpan.{RangeSpan}
use Rattle.records.specs.Found.{values_of}
use Rattle.records.specs.Layouts.{image}
use Rattle.records.specs.Values.{View, Run, Image}
use Rattle.records.specs.declared.there.RunSpan.{RunSpan}
use Rattle.manifest.specs.Checks.{Checks, all, table_passes, checked, joined, image_checks}
use Rattle.partitioned_keyspace.specs.Asked.{asked_checks}
use Rattle.db_state.specs.Places.{at, placed}
use Rattle.db_state.specs.LookupCalls.{RangeAsked, checked_asked, image_and_range, views_at}
use Rattle.sst_view.specs.Asked.{asked, AskedFound}
use Rattle.sst_view.specs.Runs.{RunCalled, views_of}
use Rattle.sst_view.specs.declared.asked.Asked.{Asked}
use Rattle.sst_view.specs.declared.asked.Asked.TheVariants.{Range as AskedRange}
use Rattle.sst_view.specs.declared.places.RunPlaced.{RunPlaced}
use Rattle.sst_view.specs.declared.places.RunPlaced.TheVariants.{At as RunAt}
use Rattle.sst_view.proofs.AskedExits.{given, range_given_lem}
use Rattle.sst_view.proofs.PlaceExits.{run_called, run_called_inside}
use Rattle.db_state.proofs.RunLookups.{at_passes}
use Rattle.sorted_run.specs.Found.{Sought}

-- ---- checks 4 and 5
record Passed (a : RangeAsked) : Type 0 where
  tables : (image_checks a.image).tables ≡ true
  range : non_empty a.range ≡ true

no_answer : {A X : Type 0} {k : ℕ} {a : A} → ◌≡◌ {A = Outcome A} (stop k) (answer a) → X
no_answer e = absurd (let z : ◌≡◌ {A = ℕ} 0 1 = cc in omega arith)

abbrev checks : Bool → Bool → Bool → Bool → Checks
checks a b c d = record { ranges = a; tables = b; order = c; sizes = d }

passed_checks :
    (i : Image) (r : Range) (x : RangeAsked) (a b c d t : Bool)
    → (image_checks i).tables ≡ b
    → non_empty r ≡ t
    → checked (joined (checks a b c d) (checks t true true true)) (answer (record { image = i; range = r })) ≡ answer x
    → Passed x
passed_checks i r x false b c d true p q e = no_answer e
passed_checks i r x false b c d false p q e = no_answer e
passed_checks i r x true b c d false p q e = no_answer e
passed_checks i r x true false c d true p q e = no_answer e
passed_checks i r x true true false d true p q e = no_answer e
passed_checks i r x true true true false true p q e = no_answer e
passed_checks i r x true true true true true p q e =
    let z : ◌≡◌ {A = RangeAsked} (record { image = i; range = r }) x = cc in
    rw (← z) (record { tables = p; range = q })

passed : (o : Outcome Image) (p : Outcome Range) (x : RangeAsked) → and_then o (λ i. and_then p (λ r. checked_asked i r)) ≡ answer x → Passed x
unfolding asked_checks
passed (stop k) p x e = no_answer e
passed (answer i) (stop k) x e = no_answer e
passed (answer i) (answer r) x e =
    passed_checks i r x (image_checks i).ranges (image_checks i).tables (image_checks i).order (image_checks i).sizes (non_empty r) refl refl e

passed_given : (l q : List ℕ) (x : RangeAsked) → image_and_range l q ≡ answer x → Passed x
unfolding image_and_range
passed_given l q x e = passed (whole image.read l) (whole read_range q) x e

-- ---- the views of a run
run_passes : (i : Image) (run : ℕ) (vs : List View) → (image_checks i).tables ≡ true → views_at i run ≡ answer vs → all table_passes vs ≡ true
unfolding image_checks
run_passes i run vs h e = go (at i run) refl e
  where
    go : (o : Option Run) → at i run ≡ o → and_then (placed o) (λ r. answer r.views) ≡ answer vs → all table_passes vs ≡ true
    go none f e = no_answer e
    go (some r) f e =
        let z : r.views ≡ vs = cc in
        rw (← z) (at_passes (λ (r : Run). all table_passes r.views) i run r h f)

-- ---- what the calls go on with
module _ {l q : List ℕ} (run : ℕ) {w : Asked} (x : AskedFound l q (image_and_range l q) w) {r : RangeSpan} (e : w ≡ AskedRange r) {z : RunPlaced} (y : RunCalled l (views_at (values_of (image.read l)) run) z) {s : RunSpan} (f : z ≡ RunAt s) where
  pub sought : Sought l s q r
  sought =
      let p = passed_given l q (asked l q r) (given x e) in
      record {
        run = run_called_inside y f;
        tables = run_passes (values_of (image.read l)) run (views_of l s) p.tables (run_called y f);
        range = range_given_lem x e;
        passes = p.range;
      }
