-- A part is its head and its outputs, a job its head and its parts; and the exits of `part_at`, `sources_at` and `job_head`.
-- Assumes nothing.
use Prim.Native.Nat.{ℕ, zero, suc, ◌+◌, ◌*◌, ◌-◌, ◌/◌, ◌%◌, ◌<◌, ◌≤◌}
use native.Mathlib.Omega.{arith}
use mathlib.Core.Path.{◌≡◌, refl, ◌∙◌}
use mathlib.Core.Bool.{Bool, true, false}
use mathlib.Core.List.{List}
use lib.ListN.{length, drop, length-drop}
use lib.Seq.{drop-drop}
use lib.Dec.{leb, eqb}
use borrow.Author.Tests.{le-leb, lt-leb, leb-true, leb-false}
use Rattle.format.specs.Got.{Got, got, stop, and_then}
use Rattle.format.specs.Number.{read_number}
use Rattle.format.specs.Range.{read_range, RangeFound}
use Rattle.format.specs.declared.range.BoundSpan.{BoundSpan}
use Rattle.format.specs.declared.range.RangeRead.{RangeRead}
use Rattle.format.specs.declared.range.RangeRead.TheVariants.{At as RangeAt, Stop as RangeStop}
use Rattle.records.specs.Form.{number, read_many}
use Rattle.records.specs.Values.{Part, Job}
use Rattle.records.specs.Layouts.{up_to, outputs_of, table, part_of, part, job}
use Rattle.records.specs.Spans.{CountFound, part_head, PartFound, sources, ids_in, SourcesFound, job_head, JobFound}
use Rattle.records.specs.declared.runs.CountRead.{CountRead}
use Rattle.records.specs.declared.runs.CountRead.TheVariants.{At as CountAt, Stop as CountStop}
use Rattle.records.specs.declared.parts.PartRead.TheVariants.{At as PartAt, Stop as PartStop}
use Rattle.records.specs.declared.parts.SourcesRead.{SourcesRead}
use Rattle.records.specs.declared.parts.SourcesRead.TheVariants.{At as SourcesAt, Stop as SourcesStop}
use Rattle.records.specs.declared.parts.JobRead.TheVariants.{At, Stop}
use Rattle.records.proofs.FieldExits.{number_short, number_is}
use Rattle.records.proofs.HeadExits.{counted_is}

-- three readers one after another, the first two or the last two taken together
then_then : {A B C : Type 0} (g : Got A) (f : A → List ℕ → Got B) (h : B → List ℕ → Got C) → and_then (and_then g f) h ≡ and_then g (λ a r. and_then (f a r) h)
then_then (got a r) f h = refl
then_then (stop k) f h = refl

-- ---- a part's head, and its outputs
pub part_is : (l : List ℕ) → part.read l ≡ and_then (part_head.read l) (λ h r. and_then (read_many table.read h.1.1 r) (λ ts q. got (part_of (h.0, (h.1, ts))) q))
unfolding part
part_is l = simp then_then

-- ---- a job's head, and its parts
abbrev pub job_of : ℕ → List ℕ → List Part → Job
job_of d ss ps = record { destination = d; sources = ss; parts = ps }

pub job_is : (l : List ℕ) → job.read l ≡ and_then (job_head.read l) (λ h r. and_then (read_many part.read h.1.1 r) (λ ps q. got (job_of h.0 h.1.0 ps) q))
unfolding job
job_is l = simp then_then

-- ---- part_at
module _ (s : List ℕ) (at : ℕ) {r : RangeRead} (f : RangeFound s (read_range (drop at s)) r) where
  pub no_planned : {k : ℕ} → r ≡ RangeStop k → PartFound s (part_head.read (drop at s)) (PartStop k)
  no_planned q = record { meaning = rw (← f.meaning, q); inside = tt }

  module _ {a b : BoundSpan} {p : ℕ} (q : r ≡ RangeAt a b p) where
    pub word_place : p ≤ length s
    word_place = (rw q at f.inside).1.1

    pub no_word : length s - p < 2 → PartFound s (part_head.read (drop at s)) (PartStop 1)
    no_word l = record { meaning = rw (← f.meaning, q, number_short 2 (drop p s) (rw length-drop l)); inside = tt }

    module _ {w : ℕ} (e : read_number 2 (drop p s) ≡ got w (drop (p + 2) s)) where
      pub many_outputs : 1024 < w % 32768 → PartFound s (part_head.read (drop at s)) (PartStop 3)
      unfolding outputs_of
      many_outputs l = record { meaning = rw (← f.meaning, q, e, lt-leb (w % 32768) 1024 l); inside = tt }

      pub part_read_lem : 2 ≤ length s - p → w % 32768 ≤ 1024 → PartFound s (part_head.read (drop at s)) (PartAt a b (eqb (w / 32768) 1) (w % 32768) (p + 2))
      unfolding outputs_of
      part_read_lem h l =
          let i = rw q at f.inside in
          record { meaning = rw (← f.meaning, q, e, le-leb (w % 32768) 1024 l); inside = (i.0, (i.1.0, omega arith)) }

pub ruleset part_exits = (no_planned, word_place, no_word, many_outputs, part_read_lem)

-- ---- a job's sources
cut_ids :
    (b : Bool) (n : ℕ) (l : List ℕ)
    → leb 4 (length l) ≡ b
    → length l < 4 * suc n
    → (length (drop 4 l) < 4 * n → read_many (read_number 4) n (drop 4 l) ≡ stop 1)
    → read_many (read_number 4) (suc n) l ≡ stop 1
unfolding read_many
cut_ids true n l q h rest =
    let k = leb-true 4 (length l) q in
    rw (number_is l 0 4 k, rest (rw length-drop (omega arith)))
cut_ids false n l q h rest = rw (number_short 4 l (leb-false 4 (length l) q))

ids_short : (n : ℕ) (l : List ℕ) → length l < 4 * n → read_many (read_number 4) n l ≡ stop 1
ids_short zero l h = absurd (omega arith)
ids_short (suc n) l h = cut_ids (leb 4 (length l)) n l refl h (ids_short n (drop 4 l))

ids_are : (n : ℕ) (l : List ℕ) → 4 * n ≤ length l → read_many (read_number 4) n l ≡ got (ids_in n l) (drop (4 * n) l)
unfolding read_many ids_in
ids_are zero l h = refl
ids_are (suc n) l h =
    let z : 4 * suc n ≡ 4 + 4 * n = omega arith in
    rw (number_is l 0 4 (omega arith), ids_are n (drop 4 l) (rw length-drop (omega arith)), drop-drop, z)

-- the ids in n times 4 bytes are what a reader of n ids finds there
pub ids_at : (s : List ℕ) (from n : ℕ) → from + 4 * n ≤ length s → read_many (read_number 4) n (drop from s) ≡ got (ids_in n (drop from s)) (drop (from + 4 * n) s)
ids_at s from n h = ids_are n (drop from s) (rw length-drop (omega arith)) ∙ rw drop-drop

-- ---- sources_at
module _ (s : List ℕ) (at : ℕ) {r : CountRead} (f : CountFound s ((up_to 1 64).read (drop at s)) r) where
  opened : sources.read (drop at s) ≡ and_then ((up_to 1 64).read (drop at s)) (read_many (read_number 4))
  opened = counted_is (up_to 1 64) (number 4) (drop at s)

  pub no_sources : {k : ℕ} → r ≡ CountStop k → SourcesFound s (sources.read (drop at s)) (SourcesStop k)
  no_sources q = record { meaning = rw (opened, ← f.meaning, q); inside = tt }

  module _ {n from : ℕ} (q : r ≡ CountAt n from) where
    pub ids_place : from ≤ length s
    ids_place = rw q at f.inside

    pub sources_short : (length s - from) / 4 < n → SourcesFound s (sources.read (drop at s)) (SourcesStop 1)
    sources_short l =
        record { meaning = rw (opened, ← f.meaning, q, ids_short n (drop from s) (rw length-drop (omega arith))); inside = tt }

    pub sources_read_lem : n ≤ (length s - from) / 4 → SourcesFound s (sources.read (drop at s)) (SourcesAt n from (from + 4 * n))
    sources_read_lem l =
        let h : from + 4 * n ≤ length s = omega (arith, ids_place) in
        record { meaning = rw (opened, ← f.meaning, q, ids_at s from n h); inside = (refl, h) }

pub ruleset sources_exits = (no_sources, ids_place, sources_short, sources_read_lem)

-- ---- job_head
pub no_destination : (s : List ℕ) → length s < 4 → JobFound s (job_head.read s) (Stop 1)
no_destination s h = record { meaning = rw (number_short 4 s h); inside = tt }

module _ (s : List ℕ) {d : ℕ} (e : read_number 4 (drop 0 s) ≡ got d (drop (0 + 4) s)) {r : SourcesRead} (f : SourcesFound s (sources.read (drop 4 s)) r) where
  pub bad_sources : {k : ℕ} → r ≡ SourcesStop k → JobFound s (job_head.read s) (Stop k)
  bad_sources q = record { meaning = rw (e, ← f.meaning, q); inside = tt }

  module _ {n from past : ℕ} (q : r ≡ SourcesAt n from past) {w : CountRead} (g : CountFound s ((up_to 1 64).read (drop past s)) w) where
    pub no_parts : {k : ℕ} → w ≡ CountStop k → JobFound s (job_head.read s) (Stop k)
    no_parts u = record { meaning = rw (e, ← f.meaning, q, ← g.meaning, u); inside = tt }

    pub job_read : {m next : ℕ} → w ≡ CountAt m next → JobFound s (job_head.read s) (At d n from m next)
    job_read u =
        let i = rw q at f.inside in
        record { meaning = rw (e, ← f.meaning, q, ← g.meaning, u); inside = (rw i.0 i.1, rw u at g.inside) }

pub parts_place : (s : List ℕ) {g : Got (List ℕ)} {r : SourcesRead} {n from past : ℕ} → SourcesFound s g r → r ≡ SourcesAt n from past → past ≤ length s
parts_place s f q = (rw q at f.inside).1

pub ruleset job_exits = (no_destination, bad_sources, no_parts, job_read, parts_place)
