-- A later record's intervals: each starts as the earlier one does and ends no sooner.
-- Assumes nothing.
use mathlib.Core.Path.{◌≡◌, refl, sym, ◌∙◌}
use mathlib.Core.Bool.{true≢false}
use mathlib.Core.Option.{some}
use mathlib.Core.List.{List, [], ◌∷◌, ◌++◌, map, flat_map, append-nil}
use Rattle.key.specs.Order.{Key}
use Rattle.comparable_range.specs.Cut.{Cut, before, ◌≼◌, ◌≺◌}
use Rattle.comparable_range.proofs.Cut.{≼_trans, ≼_refl, ≺-≼, ≼-not-≺, ≺-≼-trans, before-≺-after}
use Rattle.records.specs.Values.{Table, Part}
use Rattle.incremental_progress.specs.Intervals.{listed}
use Rattle.incremental_progress.specs.Parts.{planned_interval, last_written, durable, intervals, LaterPart, LaterParts, same_end, part_by_part}
use Rattle.base.specs.Lists.{All, All-left, map_append}
use Rattle.incremental_progress.proofs.Span.{Span}
use Rattle.incremental_progress.proofs.Cutting.{Grown, done, begun, grown}
use Rattle.incremental_progress.proofs.Subtraction.{span_of}
use Rattle.incremental_progress.proofs.Job.{from_cut, to_cut, Ascending, Planned, with_part, Lies, Written, written, Status, finished, nothing, ongoing, status, none_some}

grown_sooner : {c d : Cut} {es ls : List Span} → c ≼ d → Grown d es ls → Grown c es ls
grown_sooner h done = done
grown_sooner h (begun p q g) = begun (≼_trans h p) q g
grown_sooner h (grown p q r g) = grown (≼_trans h p) q r g

-- the last written key only grows
last_lies : (c : Cut) (k : Key) {b : Key} (ts : List Table) → All (Lies c k) ts → last_written ts ≡ some b → before b ≼ before k
unfolding last_written
last_lies c k [] a e = absurd (none_some e)
last_lies c k {b} (t ∷ []) a e =
    let i = a.0.is in
    let g : a.0.key ≡ b = cc in
    rw (← g) a.0.ends
last_lies c k (t ∷ u ∷ ts) a e = last_lies c k (u ∷ ts) a.1 e

written_more : {e c : Cut} {b : Key} (ts us : List Table) → last_written ts ≡ some b → Ascending e c (ts ++ us) → Written e c (ts ++ us)
unfolding last_written
written_more [] us i a = absurd (none_some i)
written_more (t ∷ ts) us i a = written (ts ++ us) a

module _ {p q : Part} (l : LaterPart p q) where
  -- p's last written key is at or before any that q's outputs lie before
  further : (b k : Key) → last_written p.outputs ≡ some b → All (Lies (from_cut (planned_interval q)) k) (p.outputs ++ l.more) → before b ≼ before k
  further b k e a = last_lies (from_cut (planned_interval q)) k p.outputs (All-left (Lies (from_cut (planned_interval q)) k) p.outputs l.more a) e

  part_grown : {c : Cut} {es ls : List Span} → c ≼ from_cut (planned_interval q) → from_cut (planned_interval q) ≺ to_cut (planned_interval q) → Ascending (to_cut (planned_interval q)) (from_cut (planned_interval q)) q.outputs → Status p → Status q
      → Grown (to_cut (planned_interval q)) es ls → Grown c (map span_of (listed (durable p)) ++ es) (map span_of (listed (durable q)) ++ ls)
  part_grown h r a (nothing d e f) (nothing d' e' f') g = rw (e, e') (grown_sooner (≼_trans h (≺-≼ r)) g)
  part_grown h r a (nothing d e f) (finished d' e' f') g = rw (e, e') (begun h (≺-≼ r) g)
  part_grown h r a (nothing d e f) (ongoing b d' k' e' f' m' n' l') g = rw (e, e') (begun h (≺-≼ m') (grown_sooner (≺-≼ (≺-≼-trans (before-≺-after b) n')) g))
  part_grown h r a (finished d e f) (nothing d' e' f') g = absurd (true≢false (sym (l.keeps d) ∙ d'))
  part_grown h r a (finished d e f) (finished d' e' f') g = rw (e, e', l.planned) (grown h (≺-≼ r) (≼_refl _) g)
  part_grown h r a (finished d e f) (ongoing b d' k' e' f' m' n' l') g = absurd (true≢false (sym (l.keeps d) ∙ d'))
  part_grown h r a (ongoing b d k e f m n j) (nothing d' e' f') g =
      let w = written_more p.outputs l.more k (rw l.begins at a) in
      ≼-not-≺ (≼_trans (further b w.key k w.all) (f' w.key (rw l.begins w.is))) (rw l.planned at m)
  part_grown h r a (ongoing b d k e f m n j) (finished d' e' f') g = rw (e, e', l.planned) (grown h (≺-≼ (rw l.planned at m)) (≺-≼ (≺-≼-trans (before-≺-after b) (rw l.planned at n))) g)
  part_grown h r a (ongoing b d k e f m n j) (ongoing b' d' k' e' f' m' n' j') g =
      rw (e, e', l.planned)
      (grown h (≺-≼ (rw l.planned at m)) (further b b' k (rw l.begins at j')) (grown_sooner (≺-≼ (≺-≼-trans (before-≺-after b') n')) g))

intervals_parts : (p : Part) (ps : List Part) → map span_of (intervals (p ∷ ps)) ≡ map span_of (listed (durable p)) ++ map span_of (intervals ps)
unfolding intervals flat_map
intervals_parts p ps = map_append span_of (listed (durable p)) (intervals ps)

-- A later record's intervals are the earlier one's, grown.
pub intervals_grown : {c : Cut} {ps qs : List Part} → Planned c ps → Planned c qs → LaterParts ps qs
    → Grown c (map span_of (intervals ps)) (map span_of (intervals qs))
unfolding intervals flat_map
intervals_grown a b same_end = done
intervals_grown (with_part h r a n) (with_part h' r' a' n') (part_by_part {p} {q} {ps} {qs} l ls) =
    rw (intervals_parts p ps, intervals_parts q qs)
    (part_grown l h' r' a' (status p a) (status q a') (intervals_grown (rw l.planned at n) n' ls))

-- a record is a later one of itself
pub later_self : (ps : List Part) → LaterParts ps ps
later_self [] = same_end
later_self (p ∷ ps) = part_by_part (record { planned = refl; more = []; begins = sym (append-nil p.outputs); keeps = λ d. d }) (later_self ps)

pub intervals_self : {c : Cut} {ps : List Part} → Planned c ps → Grown c (map span_of (intervals ps)) (map span_of (intervals ps))
intervals_self {ps} a = intervals_grown a a (later_self ps)
