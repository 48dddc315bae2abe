-- An image that was accepted passed check 7, so every table that is called by place does.
-- Assumes nothing.
use Prim.Native.Nat.{ℕ}
use native.Mathlib.Omega.{arith}
use mathlib.Core.Path.{◌≡◌, refl, sym, ap, ◌∙◌}
use mathlib.Core.Bool.{Bool, true, false}
use mathlib.Core.Option.{Option, none, some}
use mathlib.Core.List.{List}
use Rattle.base.specs.Outcome.{Outcome, answer, stop, and_then, check}
use Rattle.format.specs.Whole.{whole}
use Rattle.records.specs.Layouts.{image}
use Rattle.records.specs.Values.{View, Run, Image}
use Rattle.manifest.specs.Checks.{all, size_passes, checked, image_checks, image_given}
use Rattle.db_state.specs.Places.{at, placed, view_given}
use Rattle.db_state.specs.LookupCalls.{views_at}
use Rattle.db_state.proofs.RunLookups.{at_passes}
use Rattle.sst_view.proofs.PlaceExits.{view_by_run}

no_answer : {A X : Type 0} {k : ℕ} {a : A} → ◌≡◌ {A = Outcome A} (stop k) (answer a) → X
no_answer e = absurd (let z : ◌≡◌ {A = ℕ} 0 1 = cc in omega arith)

-- ---- an answer went through each step before it
pub record Came {A B : Type 0} (o : Outcome A) (f : A → Outcome B) (b : B) : Type 0 where
  pub value : A
  pub first : o ≡ answer value
  pub second : f value ≡ answer b

pub came : {A B : Type 0} (o : Outcome A) (f : A → Outcome B) (b : B) → and_then o f ≡ answer b → Came o f b
came (stop k) f b e = no_answer e
came (answer a) f b e = record { value = a; first = refl; second = e }

pub is_there_lem : {A : Type 0} {a : A} (o : Option A) → placed o ≡ answer a → o ≡ some a
is_there_lem none e = no_answer e
is_there_lem {a = a} (some b) e = let z : b ≡ a = cc in ap some z

one_check : {A : Type 0} (n : ℕ) (t : Bool) (o : Outcome A) (a : A) → check n t o ≡ answer a → (t ≡ true) × (o ≡ answer a)
one_check n true o a e = (refl, e)
one_check n false o a e = no_answer e

-- ---- check 7
record ImagePassed (l : List ℕ) (i : Image) : Type 0 where
  read : whole image.read l ≡ answer i
  sizes : (image_checks i).sizes ≡ true

passed : (l : List ℕ) (i : Image) → image_given l ≡ answer i → ImagePassed l i
unfolding image_given
passed l i e =
    let c = came (whole image.read l) (λ j. checked (image_checks j) (answer j)) i e in
    let d = image_checks c.value in
    let f = one_check 4 d.ranges _ i c.second in
    let g = one_check 5 d.tables _ i f.1 in
    let h = one_check 6 d.order _ i g.1 in
    let k = one_check 7 d.sizes _ i h.1 in
    let z : c.value ≡ i = cc k.1 in
    record { read = c.first ∙ ap answer z; sizes = ap (λ j. (image_checks j).sizes) (sym z) ∙ k.0 }

pub was_read : (l : List ℕ) (i : Image) → image_given l ≡ answer i → whole image.read l ≡ answer i
was_read l i e = (passed l i e).read

pub image_sized : (l : List ℕ) (i : Image) → image_given l ≡ answer i → (image_checks i).sizes ≡ true
image_sized l i e = (passed l i e).sizes

-- the views of the run at a place
pub run_sized : (i : Image) (run : ℕ) (vs : List View) → (image_checks i).sizes ≡ true → views_at i run ≡ answer vs → all (λ v. size_passes v.table) vs ≡ true
unfolding image_checks
run_sized i run vs h e =
    let c = came (placed (at i run)) _ vs e in
    let z : c.value.views ≡ vs = cc c.second in
    rw (← z) (at_passes (λ (r : Run). all (λ v. size_passes v.table) r.views) i run c.value h (is_there_lem (at i run) c.first))

-- ---- the view at a place
-- it is one of the views of a run of an accepted image
pub record ViewCalled (l : List ℕ) (run place : ℕ) (v : View) : Type 0 where
  pub image : Image
  pub views : List View
  pub given : image_given l ≡ answer image
  pub there : views_at image run ≡ answer views
  pub is : at views place ≡ some v

pub view_called : (l : List ℕ) (run place : ℕ) (v : View) → view_given l run place ≡ answer v → ViewCalled l run place v
unfolding view_given
view_called l run place v e =
    let c = came (image_given l) _ v e in
    let d = came (views_at c.value run) _ v (sym (view_by_run c.value run place) ∙ c.second) in
    record { image = c.value; views = d.value; given = c.first; there = d.first; is = is_there_lem (at d.value place) d.second }

pub view_sized : (l : List ℕ) (run place : ℕ) (v : View) → view_given l run place ≡ answer v → size_passes v.table ≡ true
view_sized l run place v e =
    let c = view_called l run place v e in
    at_passes (λ (v : View). size_passes v.table) c.views place v (run_sized c.image run c.views (image_sized l c.image c.given) c.there) c.is
