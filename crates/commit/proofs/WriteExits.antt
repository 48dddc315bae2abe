-- The exits of `write_image` and `finish`.
-- Assumes nothing.
use Prim.Native.Nat.{ℕ, ◌+◌, ◌≤◌, ◌<◌}
use native.Mathlib.Omega.{arith}
use mathlib.Core.Path.{◌≡◌, refl, sym, ap, subst, ◌∙◌}
use mathlib.Core.Bool.{Bool, true, false, not, ◌&&◌}
use mathlib.Core.List.{List, ◌++◌}
use Rattle.std.proofs.lemmas.Bool.{not-true}
use lib.ListN.{length, drop}
use lib.Dec.{T, leb}
use borrow.Author.Tests.{le-leb, lt-leb}
use Rattle.base.specs.Splice.{splice}
use Rattle.base.specs.Outcome.{stop, answer, check, and_then, lent, written_to, reported}
use Rattle.base.proofs.Outcome.{stops_16, keeps, wrote, stands}
use Rattle.base.specs.declared.Written.TheVariants.{Wrote, Stop}
use Rattle.format.specs.Got.{Got, got, is_got}
use Rattle.format.specs.Got.{stop as stopped}
use Rattle.records.specs.Values.{Image}
use Rattle.records.specs.Layouts.{image, run}
use Rattle.records.specs.There.{RunsThere}
use Rattle.records.proofs.Forms.{read_many_length}
use Rattle.incremental_progress.specs.Commit.{drawn_image}
use Rattle.commit_index.specs.Index.{image_of}
use Rattle.commit_plan.specs.declared.plan.ImagePlan.{ImagePlan}
use Rattle.commit_write.specs.Runs.{planned_image, Writable}
use Rattle.commit_write.specs.declared.runs.Counts.{Counts}
use Rattle.commit.specs.Stages.{drawn_outcome, planned_outcome, Ready, Settled, OrderLong}
use Rattle.commit.proofs.PlanDrawn.{new, not_drawn, new_drawn, new_length, new_fits}
use Rattle.commit.proofs.PlanRows.{Accepted, counts_of}
use Rattle.commit.proofs.PlanWritten.{planned_is_new, new_writable}

-- ---- finish
module _ {given record' ids runs rows : List ℕ} {a : ImagePlan} (r : Ready given record' ids runs rows a) (out : List ℕ) where
  module _ (e : not a.plan.enough ≡ true) where
    used : planned_outcome given record' ids (length out) ≡ stop 14
    unfolding drawn_outcome drawn_image
    used = rw (not_drawn r.planned (not-true a.plan.enough e))

    pub finish_used : Stop 14 ≡ reported (planned_outcome given record' ids (length out))
    finish_used = sym (ap reported used)

    pub finish_used_kept : out ≡ lent out (planned_outcome given record' ids (length out))
    finish_used_kept = sym (ap (lent out) used)

  module _ (e : a.plan.enough ≡ true) where
    opened : planned_outcome given record' ids (length out) ≡ and_then (check 15 (a.fits && leb a.bytes 65536) (answer (new r.planned))) (λ i. written_to (length out) (image.write i))
    unfolding drawn_outcome drawn_image
    opened = rw (new_drawn r.planned e, new_fits r.planned e r.bytes r.job_bytes)

    large : (a.fits && leb a.bytes 65536) ≡ false → planned_outcome given record' ids (length out) ≡ stop 15
    large h = opened ∙ rw h

    pub finish_many : a.fits ≡ false → Stop 15 ≡ reported (planned_outcome given record' ids (length out))
    finish_many h = sym (ap reported (large (rw h)))

    pub finish_many_kept : a.fits ≡ false → out ≡ lent out (planned_outcome given record' ids (length out))
    finish_many_kept h = sym (ap (lent out) (large (rw h)))

    too_long : a.fits ≡ true → 65536 < a.bytes → (a.fits && leb a.bytes 65536) ≡ false
    too_long h k = rw (h, lt-leb a.bytes 65536 k)

    pub finish_long : a.fits ≡ true → 65536 < a.bytes → Stop 15 ≡ reported (planned_outcome given record' ids (length out))
    finish_long h k = sym (ap reported (large (too_long h k)))

    pub finish_long_kept : a.fits ≡ true → 65536 < a.bytes → out ≡ lent out (planned_outcome given record' ids (length out))
    finish_long_kept h k = sym (ap (lent out) (large (too_long h k)))

pub few_places : {a : ImagePlan} {order : List ℕ} → a.plan.rows ≤ 64 → 64 ≤ length order → OrderLong a order
few_places h l = record { enough = λ n _ k. omega arith }

pub many_places : {a : ImagePlan} {order : List ℕ} → 1024 ≤ length order → OrderLong a order
many_places l = record { enough = λ n k _. omega arith }

pub ruleset finish_exits = (few_places, many_places, finish_used, finish_used_kept, finish_many, finish_many_kept, finish_long, finish_long_kept)

-- ---- write_image
within : (b : Bool) (n : ℕ) → b ≡ true → n ≤ 65536 → (b && leb n 65536) ≡ true
within b n e h = rw (e, le-leb n 65536 h)

module _ {given record' ids runs rows : List ℕ} {a : ImagePlan} (s : Settled given record' ids runs rows a) where
  abbrev accepted : Accepted given record' ids rows runs a
  accepted =
      record {
        bytes = s.ready.bytes;
        job_bytes = s.ready.job_bytes;
        planned = s.ready.planned;
        enough = s.enough;
        room = s.ready.room s.short;
        fits = s.fits;
      }

  pub write_there : T (is_got (image.read given))
  write_there = s.ready.there

  many : {n : ℕ} → RunsThere given (image.read given) n → n ≡ length (image_of given)
  many {n} f = go (image.read given) refl write_there
    where
      go : (g : Got Image) → image.read given ≡ g → T (is_got g) → n ≡ length (image_of given)
      go (got rs l) e t = rw e (sym (read_many_length run.read n (drop 1 given) rs l (sym f.meaning ∙ e)))
      go (stopped k) e t = absurd t

  outcome_is : (out : List ℕ) → planned_outcome given record' ids (length out) ≡ written_to (length out) (image.write (new s.ready.planned))
  outcome_is out =
      let z : (a.fits && leb a.bytes 65536) ≡ true = within a.fits a.bytes s.fits s.short in
      opened s.ready out s.enough ∙ ap (λ (b : Bool). and_then (check 15 b (answer (new s.ready.planned))) (λ i. written_to (length out) (image.write i))) z

  long : a.bytes ≡ length (image.write (new s.ready.planned))
  long = new_length s.ready.planned s.enough s.ready.bytes s.ready.job_bytes

  module _ {n : ℕ} (f : RunsThere given (image.read given) n) where
    counts_are : record { runs = n; outputs = a.outputs } ≡ counts_of given a
    counts_are = ap (λ m. record { runs = m; outputs = a.outputs }) (many f)

    pub write_writable : (order out : List ℕ) → OrderLong a order → a.bytes ≤ length out → Writable given record' ids runs rows order (record { runs = n; outputs = a.outputs }) out
    write_writable order out h k = subst (λ (c : Counts). Writable given record' ids runs rows order c out) (sym counts_are) (new_writable accepted order out h k)

    pub write_stands : (out : List ℕ) {o : List ℕ} → a.bytes ≤ length out → o ≡ splice out 0 (planned_image given record' ids runs rows (record { runs = n; outputs = a.outputs })) → o ≡ lent out (planned_outcome given record' ids (length out))
    write_stands out {o} h e =
        let b = image.write (new s.ready.planned) in
        let w : planned_image given record' ids runs rows (record { runs = n; outputs = a.outputs }) ≡ b = ap (planned_image given record' ids runs rows) counts_are ∙ planned_is_new accepted in
        let z : 0 + length b ≡ length b = omega arith in
        let q : o ≡ b ++ drop (length b) out = e ∙ ap (splice out 0) w ∙ ap (λ m. b ++ drop m out) z in
        stands out b long h q ∙ sym (ap (lent out) (outcome_is out))

  module _ (out : List ℕ) where
    pub write_short : length out < a.bytes → Stop 16 ≡ reported (planned_outcome given record' ids (length out))
    write_short h = stops_16 out (image.write (new s.ready.planned)) long h ∙ sym (ap reported (outcome_is out))

    pub write_short_kept : length out < a.bytes → out ≡ lent out (planned_outcome given record' ids (length out))
    write_short_kept h = keeps out (image.write (new s.ready.planned)) long h ∙ sym (ap (lent out) (outcome_is out))

    pub write_wrote : a.bytes ≤ length out → Wrote a.bytes ≡ reported (planned_outcome given record' ids (length out))
    write_wrote h = wrote out (image.write (new s.ready.planned)) long h ∙ sym (ap reported (outcome_is out))

pub ruleset write_exits = (write_there, write_writable, write_stands, write_short, write_short_kept, write_wrote)
