-- The exits of the readers of ranges.
-- Assumes nothing.
use Prim.Native.Nat.{ℕ, ◌+◌, ◌≤◌, ◌<◌}
use native.Mathlib.Numerals.{add-one}
use mathlib.Core.Path.{◌≡◌, sym, ◌∙◌, ap}
use mathlib.Core.List.{List, [], ◌∷◌}
use mathlib.Core.Bool.{Bool, true, false}
use lib.Dec.{T, eqb, eqb→eq}
use Rattle.base.specs.Table.{NoneOf, ruled}
use lib.ListN.{length, get_or, drop, drop_of_length-le}
use lib.Seq.{drop-cons}
use borrow.Author.Tests.{le-leb}
use Rattle.comparable_range.specs.declared.Kind.{Kind}
use Rattle.format.specs.Range.{head_of, read_bound, BoundFound, headed, read_range, RangeFound, RangeWhole}
use Rattle.format.specs.Whole.{whole}
use Rattle.format.specs.declared.range.Head.{Head}
use Rattle.format.specs.declared.range.Head.TheVariants.{Kinds, Stop as HeadStop}
use Rattle.format.specs.declared.range.BoundSpan.{BoundSpan}
use Rattle.format.specs.declared.range.BoundRead.{BoundRead}
use Rattle.format.specs.declared.range.BoundRead.TheVariants.{At as BoundAt, Stop as BoundStop}
use Rattle.format.specs.declared.range.RangeRead.{RangeRead}
use Rattle.format.specs.declared.range.RangeRead.TheVariants.{At, Stop}

-- ---- a head byte that is none of the nine valid ones
abbrev stopped : Head → Bool
stopped (Kinds a b) = false
stopped (HeadStop n) = eqb n 2

stopped_is : (h : Head) → T (stopped h) → HeadStop 2 ≡ h
stopped_is (Kinds a b) w = absurd w
stopped_is (HeadStop n) w = ap HeadStop (sym (eqb→eq n 2 w))

abbrev valid : List ℕ
valid = 160 ∷ 144 ∷ 128 ∷ 96 ∷ 80 ∷ 64 ∷ 32 ∷ 16 ∷ 0 ∷ []

pub other_head : (b : ℕ) → b < 256 → NoneOf b valid → HeadStop 2 ≡ head_of b
unfolding head_of
other_head b h r = stopped_is (head_of b) (ruled (λ b. stopped (head_of b)) valid 256 tt b h r)

-- ---- ranges
module _ (s : List ℕ) (at : ℕ) where
  pub past_range : length s ≤ at → RangeFound s (read_range (drop at s)) (Stop 1)
  unfolding read_range
  past_range h = record { meaning = rw (drop_of_length-le s); inside = tt }

  module _ {g : Head} (l : at < length s) (e : g ≡ head_of (get_or s at 0)) where
    opened : read_range (drop at s) ≡ headed g (drop (at + 1) s)
    unfolding read_range
    opened = rw (drop-cons s at 0, ← e, add-one)

    pub bad_head : {n : ℕ} → g ≡ HeadStop n → RangeFound s (read_range (drop at s)) (Stop n)
    bad_head q = record { meaning = sym (opened ∙ rw q); inside = tt }

    module _ {ka kb : Kind} (q : g ≡ Kinds ka kb) {r : BoundRead} (f : BoundFound s (read_bound ka (drop (at + 1) s)) r) where
      pub bad_start : {n : ℕ} → r ≡ BoundStop n → RangeFound s (read_range (drop at s)) (Stop n)
      bad_start w = record { meaning = sym (opened ∙ rw (q, ← f.meaning, w)); inside = tt }

      module _ {b : BoundSpan} {p : ℕ} (w : r ≡ BoundAt b p) where
        pub end_place_lem : p ≤ length s
        end_place_lem = (rw w at f.inside).1

        module _ {r' : BoundRead} (f' : BoundFound s (read_bound kb (drop p s)) r') where
          pub bad_end : {n : ℕ} → r' ≡ BoundStop n → RangeFound s (read_range (drop at s)) (Stop n)
          bad_end w' = record { meaning = sym (opened ∙ rw (q, ← f.meaning, w, ← f'.meaning, w')); inside = tt }

          pub both_read : {c : BoundSpan} {z : ℕ} → r' ≡ BoundAt c z → RangeFound s (read_range (drop at s)) (At b c z)
          both_read w' =
              let x = rw w at f.inside in
              let y = rw w' at f'.inside in
              record {
                meaning = sym (opened ∙ rw (q, ← f.meaning, w, ← f'.meaning, w'));
                inside = (x.0, (y.0, y.1));
              }

pub ruleset range_exits = (past_range, bad_head, bad_start, end_place_lem, bad_end, both_read)

-- ---- a whole buffer
pub bytes_left :
    (s : List ℕ) {r : RangeRead} {b c : BoundSpan} {z : ℕ}
    → length s ≤ 65536
    → RangeFound s (read_range (drop 0 s)) r
    → r ≡ At b c z
    → z < length s
    → RangeWhole s (Stop 1)
unfolding whole
bytes_left s {r} {b} {c} {z} l f w h = record { meaning = rw (le-leb (length s) 65536 l, ← f.meaning, w, drop-cons s z 0); inside = tt }
