-- A buffer that is read whole, whatever reads it: its length before its fields, and no byte left after the last.
-- Assumes nothing.
use Prim.Native.Nat.{ℕ, ◌≤◌, ◌<◌}
use mathlib.Core.Path.{◌≡◌, refl, sym, ap, ◌∙◌}
use mathlib.Core.List.{List}
use lib.ListN.{length, drop, drop_of_length-le}
use lib.Seq.{drop-cons}
use borrow.Author.Tests.{le-leb, lt-leb, lt-ltb, le-ltb, ltb-true, ltb-false, leb-true, leb-false, not-true, not-false}
use lib.Dec.{ltb, leb}
use mathlib.Core.Bool.{Bool, true, false, not}
use Rattle.base.specs.Pick.{pick}
use Rattle.base.specs.Outcome.{answer}
use Rattle.format.specs.Got.{Got, got, stop}
use Rattle.format.specs.Whole.{whole, ended}
use Rattle.manifest.specs.Checks.{Checks}
use Rattle.manifest.specs.Spans.{faults, JudgedInside, JudgedFound, outcome_fault, JudgedWhole, ended_by}
use Rattle.manifest.specs.declared.images.Judged.{Judged}
use Rattle.manifest.specs.declared.images.Judged.TheVariants.{At, Stop}
use Rattle.manifest.proofs.ImageExits.{Judge, judge, judge_stop}

-- ---- ended
module _ (n : ℕ) {r : Judged} where
  pub ended_stop : {k : ℕ} → r ≡ Stop k → Stop k ≡ ended_by n r
  ended_stop q = rw q

  pub ended_left : {next fault : ℕ} {b : Bool} → r ≡ At next fault → b ≡ leb n next → not b ≡ true → Stop 1 ≡ ended_by n r
  ended_left {next} {b = b} q e f = rw (q, lt-ltb next n (leb-false n next (sym e ∙ not-true b f)))

  pub ended_all : {next fault : ℕ} {b : Bool} → r ≡ At next fault → b ≡ leb n next → not b ≡ false → At next fault ≡ ended_by n r
  ended_all {next} {b = b} q e f = rw (q, le-ltb next n (leb-true n next (sym e ∙ not-false b f)))

pub next_inside : (s : List ℕ) (r : Judged) {next fault : ℕ} → r ≡ At next fault → JudgedInside s r → next ≤ length s
next_inside s r q h = rw q at h

pub ruleset ended_exits = (ended_stop, ended_left, ended_all, next_inside)

-- ---- the whole of a buffer
module _ {A : Type 0} (checks : A → Checks) (read : List ℕ → Got A) (s : List ℕ) where
  pub whole_large : 65536 < length s → JudgedWhole s checks (whole read s) (Stop 3)
  unfolding whole
  whole_large h = record { meaning = rw (lt-leb (length s) 65536 h); inside = tt }

  module _ (l : length s ≤ 65536) where
    opened : whole read s ≡ ended (read s)
    unfolding whole
    opened = rw (le-leb (length s) 65536 l)

    stops : (k : ℕ) → stop k ≡ faults checks (read s) → JudgedWhole s checks (whole read s) (Stop k)
    stops k e = let z : read s ≡ stop k = judge_stop checks (read s) k e in record { meaning = rw (opened, z); inside = tt }

    module _ (next fault : ℕ) (e : got fault (drop next s) ≡ faults checks (read s)) where
      found : Judge checks s (read s) next fault
      found = judge checks s (read s) next fault e

      left_over : next < length s → JudgedWhole s checks (whole read s) (Stop 1)
      left_over h = record { meaning = rw (opened, found.is, drop-cons s next 0); inside = tt }

      all_of_it : length s ≤ next → next ≤ length s → JudgedWhole s checks (whole read s) (At next fault)
      all_of_it h w =
          let e : whole read s ≡ answer found.value = opened ∙ ap ended found.is ∙ rw (drop_of_length-le s {i = next} h) in
          record { meaning = ap answer found.fault_is ∙ sym (ap (outcome_fault checks) e); inside = w }

      by_rest : (t : Bool) → ltb next (length s) ≡ t → next ≤ length s → JudgedWhole s checks (whole read s) (pick t (Stop 1) (At next fault))
      by_rest true q w = left_over (ltb-true next (length s) q)
      by_rest false q w = all_of_it (ltb-false next (length s) q) w

    by_cases : (w : Judged) → JudgedFound s (faults checks (read s)) w → JudgedWhole s checks (whole read s) (ended_by (length s) w)
    by_cases (Stop k) x = stops k x.meaning
    by_cases (At next fault) x = by_rest next fault x.meaning (ltb next (length s)) refl x.inside

    pub whole_ended : {w z : Judged} → JudgedFound s (faults checks (read s)) w → z ≡ ended_by (length s) w → JudgedWhole s checks (whole read s) z
    whole_ended {w} x e = rw e (by_cases w x)

pub ruleset whole_exits = (whole_large, whole_ended)
