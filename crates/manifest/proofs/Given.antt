-- An image that was read whole: refused by the first check that fails, or accepted with its value.
-- Assumes nothing.
use Prim.Native.Nat.{ℕ, ◌≤◌, ◌<◌}
use native.Mathlib.Omega.{arith}
use mathlib.Core.Path.{◌≡◌, refl, sym, ap, ◌∙◌}
use mathlib.Core.Bool.{Bool, true, false}
use mathlib.Core.List.{List, [], ◌∷◌}
use lib.ListN.{length}
use lib.Dec.{T, leb}
use borrow.Author.Tests.{leb-true}
use Rattle.base.specs.Outcome.{Outcome, answer, check}
use Rattle.base.specs.Outcome as outcome
use Rattle.format.specs.Got.{Got, got, stop}
use Rattle.format.specs.Whole.{whole, ended}
use Rattle.records.specs.Values.{Image}
use Rattle.records.specs.Layouts.{image}
use Rattle.records.specs.Found.{is_got}
use Rattle.manifest.specs.Checks.{Checks, checked, image_checks, image_given}
use Rattle.manifest.specs.Faults.{fault_of}
use Rattle.manifest.specs.Spans.{outcome_fault, judged_whole, JudgedWhole}
use Rattle.manifest.specs.declared.images.Judged.{Judged}
use Rattle.manifest.specs.declared.images.Judged.TheVariants.{At, Stop}
use Rattle.manifest.proofs.Steps.{fault_stops, fault_passes}

-- ---- a buffer that was read whole
pub record Whole {A : Type 0} (read : List ℕ → Got A) (s : List ℕ) (a : A) : Type 0 where
  pub small : length s ≤ 65536
  pub all : read s ≡ got a []

ended_answer : {A : Type 0} (g : Got A) (a : A) → ended g ≡ answer a → g ≡ got a []
ended_answer (got b []) a e = let z : b ≡ a = cc in ap (λ x. got x []) z
ended_answer (got b (x ∷ r)) a e = absurd (let z : ◌≡◌ {A = ℕ} 0 1 = cc in omega arith)
ended_answer (stop k) a e = absurd (let z : ◌≡◌ {A = ℕ} 0 1 = cc in omega arith)

whole_tested : {A : Type 0} (t : Bool) (o : Outcome A) (a : A) → check 3 t o ≡ answer a → (t ≡ true) × (o ≡ answer a)
whole_tested true o a e = (refl, e)
whole_tested false o a e = absurd (let z : ◌≡◌ {A = ℕ} 0 1 = cc in omega arith)

pub whole_read : {A : Type 0} (read : List ℕ → Got A) (s : List ℕ) (a : A) → whole read s ≡ answer a → Whole read s a
unfolding whole
whole_read read s a e =
    let h = whole_tested (leb (length s) 65536) (ended (read s)) a e in
    record { small = leb-true (length s) 65536 h.0; all = ended_answer (read s) a h.1 }

-- ---- what an answer with a number says
pub record Numbered {A : Type 0} (checks : A → Checks) (o : Outcome A) (fault : ℕ) : Type 0 where
  pub value : A
  pub is : o ≡ answer value
  pub fault_is : fault ≡ fault_of (checks value)

pub numbered : {A : Type 0} (checks : A → Checks) (o : Outcome A) (fault : ℕ) → answer fault ≡ outcome_fault checks o → Numbered checks o fault
numbered checks (answer a) fault e = record { value = a; is = refl; fault_is = cc }
numbered checks (outcome.stop k) fault e = absurd (let z : ◌≡◌ {A = ℕ} 0 1 = cc in omega arith)

pub stopped_is : {A : Type 0} (checks : A → Checks) (o : Outcome A) (k : ℕ) → outcome.stop k ≡ outcome_fault checks o → o ≡ outcome.stop k
stopped_is checks (answer a) k e = absurd (let z : ◌≡◌ {A = ℕ} 0 1 = cc in omega arith)
stopped_is checks (outcome.stop j) k e = let z : j ≡ k = cc in ap outcome.stop z

-- ---- images
pub record Accepted (s : List ℕ) : Type 0 where
  pub value : Image
  pub small : length s ≤ 65536
  pub read : image.read s ≡ got value []
  pub given : image_given s ≡ answer value

module _ {s : List ℕ} {w : Judged} (x : JudgedWhole s image_checks (whole image.read s) w) where
  pub not_read : {k : ℕ} → w ≡ Stop k → image_given s ≡ outcome.stop k
  unfolding image_given
  not_read {k} q =
      let e : whole image.read s ≡ outcome.stop k = stopped_is image_checks (whole image.read s) k (sym (ap judged_whole q) ∙ x.meaning) in
      rw e

  module _ {next fault : ℕ} (q : w ≡ At next fault) where
    here : Numbered image_checks (whole image.read s) fault
    here = numbered image_checks (whole image.read s) fault (sym (ap judged_whole q) ∙ x.meaning)

    given_is : image_given s ≡ checked (image_checks here.value) (answer here.value)
    unfolding image_given
    given_is = ap (λ o. outcome.and_then o (λ i. checked (image_checks i) (answer i))) here.is

    pub refused : fault < 8 → image_given s ≡ outcome.stop fault
    refused h =
        let e = here.fault_is in
        given_is ∙ fault_stops (image_checks here.value) (answer here.value) (omega (arith, e)) ∙ ap outcome.stop (sym e)

    pub accepted : 8 ≤ fault → Accepted s
    accepted h =
        let e = here.fault_is in
        let r = whole_read image.read s here.value here.is in
        record {
          value = here.value;
          small = r.small;
          read = r.all;
          given = given_is ∙ fault_passes (image_checks here.value) (answer here.value) (omega (arith, e));
        }

    pub image_there : 8 ≤ fault → T (is_got (image.read s))
    image_there h = rw (accepted h).read tt
