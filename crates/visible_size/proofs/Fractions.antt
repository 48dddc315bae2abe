-- The fraction of two lengths: the greater of a length and epsilon is above zero, and what is clamped lies between the ends.
-- Assumes nothing.
use Rattle.std.proofs.Common.{◌≡◌, Bool, true, false, cond, T, refl, ◌∙◌}
use lib.Ieee.{Float, binary64, of_bits, div, lt, eq, le}
use lib.Ieee.Positive.{positive}
use lib.Ieee.Positive as values
use Rattle.std.specs.Float.{float_clamp}
use Rattle.base.specs.Pick.{pick}
use Rattle.visible_size.specs.Steps.{zero64, one64, epsilon, min_visible_fraction, maximum, clamp, lengths_fraction}
use Rattle.visible_size.specs.Numbers.{InPart, FractionFound}
use Rattle.visible_size.specs.declared.VisibleFraction.TheVariants.{Whole, Part}
use Rattle.visible_size.proofs.Floats.{plain, number, le_same, lt_le, not_below_lem, plain_number, number_below, quotient_number}

-- ---- `maximum` and `clamp`
pub first_greater : (x y : Float) → lt y x ≡ true → x ≡ maximum x y
first_greater x y h = rw h

pub second_kept : (x y : Float) → lt y x ≡ false → y ≡ maximum x y
second_kept x y h = rw h

pub ruleset greater = (first_greater, second_kept)

-- std's word for the same
std_clamp : (x low high : Float) → float_clamp x low high ≡ clamp x low high
std_clamp x low high = go (lt x low) (lt high x)
  where
    go : (t u : Bool) → cond t low (cond u high x) ≡ pick t low (pick u high x)
    go true u = refl
    go false true = refl
    go false false = refl

-- ---- what is clamped
pub record Between (low x high : Float) : Type 0 where
  pub least : T (le low x)
  pub most : T (le x high)

module _ (x low high : Float) (n : T (number x)) (p : T (plain low)) (q : T (plain high)) (h : T (le low high)) where
  chosen : (b c : Bool) → lt x low ≡ b → lt high x ≡ c → Between low (pick b low (pick c high x)) high
  chosen true c e k = record { least = le_same low p; most = h }
  chosen false true e k = record { least = h; most = le_same high q }
  chosen false false e k =
      record {
        least = not_below_lem x low n (plain_number low p) e;
        most = not_below_lem high x (plain_number high q) n k;
      }

  pub clamp_between : Between low (clamp x low high) high
  clamp_between = chosen (lt x low) (lt high x) refl refl

-- ---- the divisor
module _ (x : Float) (h : T (le x one64)) where
  above : (b : Bool) → lt epsilon x ≡ b → T (positive (pick b x epsilon))
  unfolding of_bits
  above true e = values.between epsilon x one64 tt tt (lt_le epsilon x e) h
  above false e = tt

  pub divisor_positive : T (positive (maximum x epsilon))
  divisor_positive = above (lt epsilon x) refl

-- ---- the fraction
pub share_between : (v p : Float) → T (le v one64) → T (le p one64) → Between min_visible_fraction (clamp (div binary64 v (maximum p epsilon)) min_visible_fraction one64) one64
unfolding of_bits le
share_between v p h k =
    clamp_between (div binary64 v (maximum p epsilon)) min_visible_fraction one64
    (quotient_number v (maximum p epsilon) (number_below v one64 h) (divisor_positive p k))
    tt
    tt
    tt

either_within : (b : Bool) (f : Float) → Between min_visible_fraction f one64 → InPart (pick b Whole (Part f))
either_within true f h = tt
either_within false f h = (h.least, h.most)

pub lengths_within : (v p : Float) → T (le v one64) → T (le p one64) → InPart (lengths_fraction v p)
unfolding lengths_fraction
lengths_within v p h k =
    either_within (eq v zero64) (clamp (div binary64 v (maximum p epsilon)) min_visible_fraction one64) (share_between v p h k)

-- ---- `lengths_fraction`
pub nothing_shown : (v p : Float) → eq v zero64 ≡ true → FractionFound (lengths_fraction v p) Whole
unfolding lengths_fraction
nothing_shown v p e = record { meaning = rw e; within = tt }

pub shown : (v p : Float) {d r : Float} → T (le v one64) → T (le p one64) → eq v zero64 ≡ false → d ≡ maximum p epsilon → r ≡ float_clamp (div binary64 v d) min_visible_fraction one64 → FractionFound (lengths_fraction v p) (Part r)
unfolding lengths_fraction
shown v p {d} h k e q z =
    let b = share_between v p h k in
    let c = z ∙ std_clamp (div binary64 v d) min_visible_fraction one64 in
    record { meaning = rw (e, c, q); within = rw (c, q) (b.least, b.most) }

pub ruleset shares = (nothing_shown, shown)
