-- The exits of the calls for C: what the call without C answers decides what is returned, the slot and the buffer.
-- Assumes nothing.
use Prim.Native.Nat.{ℕ}
use mathlib.Core.Path.{◌≡◌, refl, sym, ap, ◌∙◌}
use mathlib.Core.List.{List}
use mathlib.Core.Option.{Option}
use lib.ListN.{length}
use Rattle.base.specs.Outcome.{Outcome, stop, answer, lent, reported}
use Rattle.base.specs.declared.Written.{Written}
use Rattle.format.specs.Joint.{Joint}
use Rattle.bilqarush.specs.Calls.{as_point_outcome, intersect_outcome, intersect_start_key_outcome, intersect_end_key_outcome}
use Rattle.format.specs.Span.{joint_of, JoinedInside, JointFound, start_key_of, end_key_of}
use Rattle.bilqarush.specs.Answers.{stop_of, point_at}
use Rattle.bilqarush.specs.ImageCalls.{checked_answer, compacted_effective_range_outcome, ViewRangeFound}
use Rattle.bilqarush.specs.declared.Point.{Point}
use Rattle.format.specs.declared.span.Joined.{Joined}
use Rattle.bilqarush.specs.declared.images.Checked.{Checked}
use Rattle.bilqarush.specs.declared.images.Checked.TheVariants.{Accepted, Stop}
use Rattle.bilqarush.specs.declared.images.ViewRange.{ViewRange}
use Rattle.told.specs.Told.{Held, from_to, slot, sized, counted, SlotTold, Told}
use Rattle.told_bytes.specs.Layouts.{point_to, joined_to, view_range_to, key_to, JointTold, ViewRangeTold}

-- ---- one slot
pub slot_told : {A : Type 0} {o p : Outcome A} {s : Held A} {r : ℕ} → o ≡ p → SlotTold o s r → SlotTold p s r
slot_told e t = rw (← e) t

-- ---- bytes
counted_reported : (o : Outcome (List ℕ)) → counted (reported o) ≡ sized o
counted_reported (stop n) = refl
counted_reported (answer b) = refl

stop_sized : (o : Outcome (List ℕ)) → stop_of (sized o) ≡ stop_of o
stop_sized (stop n) = refl
stop_sized (answer b) = refl

module _ {d e : List ℕ} {w : Written} {before after r : ℕ} (t : SlotTold (counted w) (from_to before after) r) where
  pub told : {o : Outcome (List ℕ)} → w ≡ reported o → e ≡ lent d o → Told o (from_to d e) (from_to before after) r
  told {o} x y =
      record {
        returns = t.returns ∙ ap (λ v. stop_of (counted v)) x ∙ ap stop_of (counted_reported o) ∙ stop_sized o;
        buffer = y;
        count = t.answered ∙ ap (λ v. slot before (counted v)) x ∙ ap (slot before) (counted_reported o);
      }

  pub point_told :
      (range : List ℕ) {p : Point}
      → p ≡ point_at (as_point_outcome range)
      → w ≡ reported (point_to (length d) p)
      → e ≡ lent d (point_to (length d) p)
      → Told (point_to (length d) (point_at (as_point_outcome range))) (from_to d e) (from_to before after) r
  point_told range f x y = told (x ∙ ap (λ q. reported (point_to (length d) q)) f) (y ∙ ap (λ q. lent d (point_to (length d) q)) f)

  module _ {a b : List ℕ} {j : Joined} (f : JointFound a b (intersect_outcome a b) j) where
    pub start_told :
        w ≡ reported (key_to (length d) (start_key_of (joint_of a b j)))
        → e ≡ lent d (key_to (length d) (start_key_of (joint_of a b j)))
        → Told (key_to (length d) (intersect_start_key_outcome a b)) (from_to d e) (from_to before after) r
    unfolding intersect_start_key_outcome
    start_told x y = rw (← f.meaning) (told x y)

    pub end_told :
        w ≡ reported (key_to (length d) (end_key_of (joint_of a b j)))
        → e ≡ lent d (key_to (length d) (end_key_of (joint_of a b j)))
        → Told (key_to (length d) (intersect_end_key_outcome a b)) (from_to d e) (from_to before after) r
    unfolding intersect_end_key_outcome
    end_told x y = rw (← f.meaning) (told x y)

  pub joint_told :
      {a b : List ℕ} {g : Outcome (Option Joint)} {j : Joined}
      → JointFound a b g j
      → w ≡ reported (joined_to (length d) j)
      → e ≡ lent d (joined_to (length d) j)
      → JointTold a b g (from_to d e) (from_to before after) r
  joint_told {a} {b} {g} {j} f x y = record { joined = j; found = f; told = told x y }

  pub view_range_told :
      {image : List ℕ} {run view : ℕ} {v : ViewRange}
      → ViewRangeFound image (compacted_effective_range_outcome image run view) v
      → w ≡ reported (view_range_to (length d) v)
      → e ≡ lent d (view_range_to (length d) v)
      → ViewRangeTold image run view (from_to d e) (from_to before after) r
  view_range_told {v = v} f x y = record { range = v; found = f; told = told x y }

-- where the range that `intersect` answered stands
pub joint_places : {a b : List ℕ} {g : Outcome (Option Joint)} {j : Joined} → JointFound a b g j → JoinedInside a b j
joint_places f = f.inside

-- ---- check_image
module _ {x : Checked} {o : Outcome Unit} (e : checked_answer x ≡ o) where
  pub image_refused : {n : ℕ} → x ≡ Stop n → n ≡ stop_of o
  image_refused q = sym (ap (λ y. stop_of (checked_answer y)) q) ∙ ap stop_of e

  pub image_accepted : x ≡ Accepted → 0 ≡ stop_of o
  image_accepted q = sym (ap (λ y. stop_of (checked_answer y)) q) ∙ ap stop_of e

pub ruleset image_exits = (image_refused, image_accepted)
